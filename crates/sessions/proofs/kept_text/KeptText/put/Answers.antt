use Rattle.std.proofs.Common.{ℕ, List, Ok, sym, subst}
use Rattle.sessions.specs.Readings.{ReadsText}
use Rattle.sessions.proofs.kept_text.KeptText.put.Goals as goal

pub invariant_of-self : goal.invariant_of-self
invariant_of-self c = subst (λ (text : List ℕ). ReadsText text (Ok c.args.statement)) (sym c.self.view_is) c.requires
