use Rattle.std.proofs.Common.{ℕ, List, Ok, sym, subst}
use Rattle.sessions.specs.Readings.{ReadsText}
use Rattle.sessions.proofs.kept_text.KeptText.new.Goals as goal

pub invariant_of-result : goal.invariant_of-result
invariant_of-result c = subst (λ (text : List ℕ). ReadsText text (Ok c.args.statement)) (sym c.in_ok-text.ensures) c.requires
