use Rattle.std.proofs.Common.{length, map}
use Rattle.syntax_places.specs.SyntaxPlaces.{IsCompletedBy}
use Rattle.syntax_places.proofs.beginnings.goes_on.Given as goal

-- one of those that are left completes the text where one of all does
abbrev pub invariant-loop-left : goal.invariant-loop-left
invariant-loop-left l = record {
  all : IsCompletedBy l.text l.opened (map (λ c. (c.0.now, c.1.now)) l.left) → IsCompletedBy l.text l.opened (map (λ c. (c.0.now, c.1.now)) l.completions);
  left : IsCompletedBy l.text l.opened (map (λ c. (c.0.now, c.1.now)) l.completions) → IsCompletedBy l.text l.opened (map (λ c. (c.0.now, c.1.now)) l.left);
}

abbrev pub decreases-loop-left : goal.decreases-loop-left
decreases-loop-left l = length l.left
