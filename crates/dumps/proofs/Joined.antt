-- Bytes that are written one after the other.
use Rattle.std.proofs.Common.{◌≡◌, ℕ, ◌+◌, ◌*◌, ◌/◌, List, ◌++◌, length, Result, Ok, Err, OnOk, ap, ◌∙◌}
use Rattle.std.proofs.lemmas.List.{append_assoc}
use Rattle.dumps.specs.Form.{in_pages}
use Rattle.dumps.proofs.Blocks.{in_pages_long}

pub two_pushed : (a b c x y z : List ℕ) → x ≡ a → y ≡ x ++ b → z ≡ y ++ c → z ≡ a ++ (b ++ c)
two_pushed a b c x y z first second third =
    third ∙ ap (λ (l : List ℕ). l ++ c) (second ∙ ap (λ (l : List ℕ). l ++ b) first) ∙ append_assoc a b c

pub three_pushed : (a b c d x y z w : List ℕ) → x ≡ a → y ≡ x ++ b → z ≡ y ++ c → w ≡ z ++ d → w ≡ a ++ (b ++ (c ++ d))
three_pushed a b c d x y z w first second third fourth =
    fourth ∙ ap (λ (l : List ℕ). l ++ d) (two_pushed a b c x y z first second third) ∙ append_assoc a (b ++ c) d ∙ ap (λ (l : List ℕ). a ++ l) (append_assoc b c d)

-- what is filled up has whole pages
pub long_when_filled : {E : Type 0} (result : Result (Unit {0}) E) (new old : List ℕ) → OnOk result (new ≡ in_pages old) → OnOk result (length new ≡ 4096 * ((length old + 4095) / 4096))
long_when_filled (Ok x) new old is = ap length is ∙ in_pages_long old
long_when_filled (Err e) new old is = tt
