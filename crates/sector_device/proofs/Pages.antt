-- A page and its sectors.
use Rattle.std.proofs.Common.{⊎_elim, ◌≡◌, ◌<◌, ◌+◌, ◌*◌, ℕ, zero, suc, List, ◌++◌, length, take, drop, ap, sym, ◌∙◌, arith, refl}
use Rattle.std.proofs.lemmas.List.{drop-drop, take_all}
use Rattle.std.proofs.Math.Seq.{take-add}
use Rattle.std.specs.Prelude.{Result, Ok, Err, OnOk}
use Rattle.std.specs.List.{flat_map, range_with_len}
use Rattle.sector_device.specs.Timeline.{LeavesOnly, weakened}
use Rattle.sector_device.specs.Device.{Image, DeviceState, timeline}
use Rattle.sector_device.specs.Page.{page_at, IsPart, IsAlone, IsOutside, AgreesOutside, MayHoldParts, WritesPage}

-- sectors that are the parts of some bytes are, joined, the front of them
joined_parts : (image : Image) (n first : ℕ) (xs : List ℕ) → ((k : ℕ) → k < n → image (first + k) ≡ take 512 (drop (512 * k) xs))
    → flat_map image (range_with_len first n) ≡ take (512 * n) xs
joined_parts image zero first xs parts = refl
joined_parts image (suc n) first xs parts =
    let at_first : first ≡ first + 0 = omega arith in
    let here : image first ≡ take 512 xs = ap (λ (s : ℕ). image s) at_first ∙ parts 0 (omega arith) in
    let rest : flat_map image (range_with_len (first + 1) n) ≡ take (512 * n) (drop 512 xs)
    = joined_parts image n (first + 1) (drop 512 xs) (λ k lt.
    let next : first + 1 + k ≡ first + suc k = omega arith in
    let further : 512 + 512 * k ≡ 512 * suc k = omega arith in
    ap (λ (s : ℕ). image s) next ∙ parts (suc k) (omega (arith, lt))
    ∙ ap (λ (i : ℕ). take 512 (drop i xs)) (sym further) ∙ ap (λ (l : List ℕ). take 512 l) (sym (drop-drop (512 * k) 512 xs))) in
    let whole : 512 + 512 * n ≡ 512 * suc n = omega arith in
    ap (λ (l : List ℕ). l ++ flat_map image (range_with_len (first + 1) n)) here ∙ ap (λ (l : List ℕ). take 512 xs ++ l) rest
    ∙ sym (take-add 512 (512 * n) xs) ∙ ap (λ (i : ℕ). take i xs) whole

-- eight sectors that are the parts of a page's bytes are the page
pub page_from_parts : (image : Image) (first : ℕ) (xs : List ℕ) → length xs ≡ 4096 → ((k : ℕ) → k < 8 → image (first + k) ≡ take 512 (drop (512 * k) xs))
    → page_at image first ≡ xs
page_from_parts image first xs long parts = joined_parts image 8 first xs parts ∙ take_all 4096 xs (omega (arith, long))

-- a sector outside a page holds no part of it
not_part : (first : ℕ) (bytes : List ℕ) (s : ℕ) (content : List ℕ) → IsOutside first 8 s → IsPart first bytes s content → ⊥
not_part first bytes s content outside part = ⊎_elim (λ below. omega (arith, below, part.place)) (λ above. omega (arith, above, part.place, part.within)) outside

-- a write of a page leaves every sector outside alone
pub alone_outside : (first : ℕ) (bytes : List ℕ) (old new : DeviceState) → WritesPage first bytes old new → (s : ℕ) → IsOutside first 8 s → IsAlone old new s
alone_outside first bytes old new writes s outside = record {
  content = ⊎_elim (λ same. same) (λ part. absurd (not_part first bytes s (new.content s) outside part)) (writes.content s);
  left = λ c now. ⊎_elim (λ before. before) (λ part. absurd (not_part first bytes s c outside part)) (writes.left s c now);
}

-- and so does a stop at any moment
pub leaves_outside : (first : ℕ) (bytes : List ℕ) (old new : DeviceState) → WritesPage first bytes old new → LeavesOnly (AgreesOutside first 8 old) (timeline old) (timeline new)
leaves_outside first bytes old new writes = weakened (MayHoldParts first bytes old) (AgreesOutside first 8 old) (timeline old) (timeline new)
    (λ image may s inside outside. ⊎_elim (λ before. before) (λ part. absurd (not_part first bytes s (image s) outside part)) (may s inside)) writes.any_moment

-- what holds on a success holds with less
pub on_ok : {T E : Type 0} (r : Result T E) (P Q : Type 0) → (P → Q) → OnOk r P → OnOk r Q
on_ok (Ok x) P Q less holds = less holds
on_ok (Err fault) P Q less holds = holds
