use Rattle.std.proofs.Common.{ℕ, List, Ok, refl, sym, subst}
use Rattle.sessions.specs.Readings.{ReadsText}
use Rattle.sessions.proofs.readings.keep_in.Goals as goal

pub put-requires : goal.put-requires
put-requires c = subst (λ (text : List ℕ). ReadsText text (Ok c.args.statement)) (sym (c.if-is_of.ensures refl)) c.requires
