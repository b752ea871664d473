use Rattle.std.proofs.Common.{◌++◌, List, length}
use Rattle.std.specs.Global.{Vec}
use Rattle.std.specs.Prelude.{ℕ}
use Rattle.cli.specs.SeveralTalks.{AreCrowdedSaid, protocols_of}
use Rattle.cli.proofs.several_talks.SeveralTalksSpeaker.crowded_refusals.Given as goal

-- what is said at the places that are left, behind what was put, is what is said at all
abbrev pub invariant-loop-rest : goal.invariant-loop-rest
invariant-loop-rest g l = (more : List (Vec ℕ)) → AreCrowdedSaid (protocols_of l.rest) more → AreCrowdedSaid (protocols_of l.self.places.items) (l.all.items ++ more)

abbrev pub decreases-loop-rest : goal.decreases-loop-rest
decreases-loop-rest g l = length l.rest
