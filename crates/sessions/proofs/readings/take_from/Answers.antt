use Rattle.std.proofs.Common.{ℕ, List, Ok, IfSome, refl, subst}
use Rattle.sessions.specs.Readings.{ReadsText}
use Rattle.sessions.proofs.readings.take_from.Goals as goal

pub returns-in-Some : goal.returns-in-Some
returns-in-Some c = subst (λ (text : List ℕ). IfSome c.take.result (λ s. ReadsText text (Ok s))) (c.if-is_of.ensures refl) c.take.ensures.reads
