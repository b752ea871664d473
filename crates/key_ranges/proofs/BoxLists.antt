-- Lists of bounds and of boxes.
use Rattle.std.proofs.Common.{◌≡◌, ◌∙◌, ◌<◌, ◌+◌, ℕ, suc, List, ◌∷◌, ◌++◌, drop, length, get_or, sym, ap, append_assoc, add-one, drop-cons}
use Rattle.std.proofs.lemmas.List.{map-append}
use Rattle.key_ranges.specs.declared.boxes.ColumnBound.{ColumnBound}
use Rattle.key_ranges.specs.BoxCode.{bound_of, box_of}
use Rattle.key_ranges.specs.Boxes.{Box, beside, all_beside}

-- the bounds of two boxes
pub both_bounds : (xs ys : List ColumnBound) → box_of (xs ++ ys) ≡ box_of xs ++ box_of ys
both_bounds xs ys = map-append bound_of xs ys

pub boxes_behind : (boxes more rest : List Box) → (boxes ++ more) ++ rest ≡ boxes ++ (more ++ rest)
boxes_behind boxes more rest = append_assoc boxes more rest

-- one more box beside each of the second
pub next_one : (first second : List Box) (i : ℕ) (one : Box) → i < length first → one ≡ get_or first i one → (was new : List Box)
    → all_beside first second ≡ was ++ all_beside (drop i first) second → new ≡ was ++ beside one second → all_beside first second ≡ new ++ all_beside (drop (i + 1) first) second
next_one first second i one within is was new invariant pushed =
    invariant ∙ ap (λ l. was ++ all_beside l second) (drop-cons first i one within ∙ ap (λ h. h ∷ drop (suc i) first) (sym is) ∙ ap (λ n. one ∷ drop n first) (sym (add-one i)))
    ∙ sym (append_assoc was (beside one second) (all_beside (drop (i + 1) first) second))
    ∙ ap (λ b. b ++ all_beside (drop (i + 1) first) second) (sym pushed)
