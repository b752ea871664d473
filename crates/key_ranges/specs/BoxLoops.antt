-- The boxes of conditions that are joined one after the other.
use Rattle.std.specs.Prelude.{ℕ, Bool, true, false, List, [], ◌∷◌}
use Rattle.std.specs.Borrow.{Bor}
use Rattle.sql_types.specs.Row.{Row}
use Rattle.sql_ast.specs.Layout.{Layout}
use Rattle.expressions.specs.Meaning.{UserNames}
use Rattle.expressions.specs.Infallible.{has_no_arithmetic}
use Rattle.expressions.specs.Types.{TypedTerm}
use Rattle.key_ranges.specs.Boxes.{Box, boxes_of, both_boxes, either_boxes}

-- these boxes, and those of each of the conditions
abbrev pub boxes_or_each : Layout → ℕ → UserNames → List (List ℕ) → List (Bor Row) → List Box → List (Bor TypedTerm) → List Box
boxes_or_each layout table users roles front boxes [] = boxes
boxes_or_each layout table users roles front boxes (c ∷ cs) = boxes_or_each layout table users roles front (either_boxes boxes (boxes_of layout table users roles front c.now.term)) cs

-- these boxes of a condition, which cannot fail if it is infallible, with those of each condition up to the first that may fail
abbrev pub boxes_and_each : Layout → ℕ → UserNames → List (List ℕ) → List (Bor Row) → Bool → List Box → List (Bor TypedTerm) → List Box
boxes_and_each layout table users roles front infallible boxes [] = boxes
boxes_and_each layout table users roles front false boxes (c ∷ cs) = boxes
boxes_and_each layout table users roles front true boxes (c ∷ cs) =
    boxes_and_each layout table users roles front (has_no_arithmetic c.now.term) (both_boxes boxes (boxes_of layout table users roles front c.now.term)) cs

-- the same of conditions that are not lent
abbrev pub boxes_and_conditions : Layout → ℕ → UserNames → List (List ℕ) → List (Bor Row) → Bool → List Box → List TypedTerm → List Box
boxes_and_conditions layout table users roles front infallible boxes [] = boxes
boxes_and_conditions layout table users roles front false boxes (c ∷ cs) = boxes
boxes_and_conditions layout table users roles front true boxes (c ∷ cs) =
    boxes_and_conditions layout table users roles front (has_no_arithmetic c.term) (both_boxes boxes (boxes_of layout table users roles front c.term)) cs
