-- How many changes there are, and whether the pages have room for them.
use Rattle.std.proofs.Common.{◌≡◌, ◌<◌, ◌≤◌, ◌+◌, ◌*◌, ℕ, zero, suc, List, [], ◌∷◌, length, take, get_or, refl, ap, ◌∙◌, subst, arith}
use Rattle.std.proofs.Math.Seq.{take-length}
use Rattle.std.proofs.lemmas.List.{length-append}
use Rattle.store.specs.Records.{Changes}
use Rattle.store.specs.Batch.{all_changes}
use Rattle.kv_store.specs.Batches.{most_taken}
use Rattle.journal_store.specs.Room.{changes_in, AreEnough}

counted_suc : (lists : List Changes) (i : ℕ) (list : Changes) → i < length lists → list ≡ get_or lists i list → changes_in (take (suc i) lists) ≡ changes_in (take i lists) + length list
counted_suc [] i list lt is = absurd (omega (arith, lt))
counted_suc (l ∷ ls) zero list lt is = let same : length list ≡ length l = ap (λ (xs : Changes). length xs) is in omega (arith, same)
counted_suc (l ∷ ls) (suc i) list lt is = let more = counted_suc ls i list (omega (arith, lt)) is in omega (arith, more)

-- one list more
pub counted_more : (lists : List Changes) (i : ℕ) (list : Changes) → i < length lists → list ≡ get_or lists i list → changes_in (take (i + 1) lists) ≡ changes_in (take i lists) + length list
counted_more lists i list lt is =
    let next : suc i ≡ i + 1 = omega arith in
    subst (λ (n : ℕ). changes_in (take n lists) ≡ changes_in (take i lists) + length list) next (counted_suc lists i list lt is)

-- all of them
pub counted_all : (lists : List Changes) → changes_in (take (length lists) lists) ≡ changes_in lists
counted_all lists = ap changes_in (take-length lists)

-- the changes of pieces
pub pieces_counted : (pieces : List Changes) → length (all_changes pieces) ≡ changes_in pieces
pieces_counted [] = refl
pieces_counted (p ∷ ps) = length-append p (all_changes ps) ∙ ap (λ (n : ℕ). length p + n) (pieces_counted ps)

-- fewer changes have room where more have
mul_le : (a b k : ℕ) → a ≤ b → a * k ≤ b * k
mul_le a b k le = grind arith

pub enough_for : (pages free most changes left : ℕ) → AreEnough pages free most → left + changes ≡ most → AreEnough pages free changes
enough_for pages free most changes left are is = record {
  levels = are.levels;
  highest = are.highest;
  enough = omega (arith, are.enough, mul_le changes most (most_taken are.levels) (omega (arith, is)));
}
