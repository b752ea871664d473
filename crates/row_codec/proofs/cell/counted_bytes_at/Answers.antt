use Rattle.std.proofs.Common.{◌≡◌, ◌++◌, List, ℕ, length, take, drop, ap, ◌∙◌}
use Rattle.std.proofs.Math.Seq.{take-append_seam, drop-append_seam}
use Rattle.row_codec.proofs.cell.counted_bytes_at.Goals as goal

same_parts : (n : ℕ) (front back after counted rest : List ℕ) → n ≡ length counted → after ≡ counted ++ rest → front ≡ take n after → back ≡ drop n after
    → (front ≡ counted) × (back ≡ rest)
same_parts n front back after counted rest long spelled first second = (
  first ∙ ap (λ (zs : List ℕ). take n zs) spelled ∙ ap (λ (m : ℕ). take m (counted ++ rest)) long ∙ take-append_seam counted rest,
  second ∙ ap (λ (zs : List ℕ). drop n zs) spelled ∙ ap (λ (m : ℕ). drop m (counted ++ rest)) long ∙ drop-append_seam counted rest,
)

pub returns-clause-only : goal.returns-clause-only
returns-clause-only c counted rest short spelled =
    let ahead = c.in_ok-length.ensures.only (length counted) (counted ++ rest) short spelled in
    same_parts _ c.split_at.result.0.now c.split_at.result.1.now _ counted rest ahead.0 ahead.1 c.split_at.ensures.front c.split_at.ensures.back
