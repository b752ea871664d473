-- Names in records, and what is read back from bytes.
use Rattle.std.proofs.Common.{◌≡◌, ◌≢◌, ◌<◌, ◌^◌, ℕ, nat_eq, Bool, true, false, List, [], ◌∷◌, ◌++◌, flat_map, length, refl, ap, sym, ◌∙◌, append_assoc, arith}
use Rattle.std.proofs.lemmas.List.{append_cancel_left}
use Rattle.std.proofs.lemmas.List.Elements.{recursion_from_All}
use Rattle.byteorder.specs.Endian.{big_bytes, big_number}
use Rattle.byteorder.specs.Numbers.{big_number-reads_back}
use Rattle.sql_types.specs.Name.{IsUtf8Name}
use Rattle.sql_types.specs.Domain.{HasNoZero}
use Rattle.abstract_database.specs.Lists.{TheName}
use Rattle.abstract_database.specs.Whole.{Each}
use Rattle.stored_database.specs.RecordFormat.{ended, bit}
use Rattle.stored_database.proofs.Lists.{SameFront, same_cons, first_of_each, rest_of_each}

pub no_zero_of : (name : TheName) → IsUtf8Name name → HasNoZero name
no_zero_of name is = recursion_from_All (λ b. b ≢ 0) name is.name.no_zero

-- a name before a zero byte
pub same_ended : (a b r s : List ℕ) → HasNoZero a → HasNoZero b → ended a ++ r ≡ ended b ++ s → SameFront a b r s
same_ended [] [] r s p q h = record { item = refl; rest = cc }
same_ended [] (b ∷ bs) r s p q h = absurd (q.0 (sym zero_is)) where
  zero_is : 0 ≡ b
  zero_is = cc
same_ended (a ∷ more) [] r s p q h = absurd (p.0 is_zero) where
  is_zero : a ≡ 0
  is_zero = cc
same_ended (a ∷ more) (b ∷ bs) r s p q h =
    let heads : a ≡ b = cc in
    let tails : ended more ++ r ≡ ended bs ++ s = cc in
    let later = same_ended more bs r s p.1 q.1 tails in
    record { item = same_cons heads later.item; rest = later.rest }

-- the last name
pub same_last : (a b : TheName) → HasNoZero a → HasNoZero b → ended a ≡ ended b → a ≡ b
same_last a b p q h = (same_ended a b [] [] p q (ap (λ (zs : List ℕ). zs ++ []) h)).item

-- as many names
pub same_names : (xs ys : List TheName) (r s : List ℕ) → Each IsUtf8Name xs → Each IsUtf8Name ys → length xs ≡ length ys
    → flat_map ended xs ++ r ≡ flat_map ended ys ++ s → SameFront xs ys r s
same_names [] [] r s p q n h = record { item = refl; rest = h }
same_names [] (y ∷ ys) r s p q n h = absurd (omega (arith, n))
same_names (x ∷ xs) [] r s p q n h = absurd (omega (arith, n))
same_names (x ∷ xs) (y ∷ ys) r s p q n h =
    let front = sym (append_assoc (ended x) (flat_map ended xs) r) ∙ h ∙ append_assoc (ended y) (flat_map ended ys) s in
    let parts = same_ended x y (flat_map ended xs ++ r) (flat_map ended ys ++ s)
    (no_zero_of x (first_of_each IsUtf8Name x xs p)) (no_zero_of y (first_of_each IsUtf8Name y ys q)) front in
    let later = same_names xs ys r s (rest_of_each IsUtf8Name x xs p) (rest_of_each IsUtf8Name y ys q) (omega (arith, n)) parts.rest in
    record { item = same_cons parts.item later.item; rest = later.rest }

bit_read : (b : Bool) → nat_eq (bit b) 1 ≡ b
bit_read true = refl
bit_read false = refl

pub same_bit : (a b : Bool) → bit a ≡ bit b → a ≡ b
same_bit a b h = sym (bit_read a) ∙ ap (λ (n : ℕ). nat_eq n 1) h ∙ bit_read b

-- a number of n bytes
pub same_number : (n a b : ℕ) (r s : List ℕ) → a < 256 ^ n → b < 256 ^ n → big_bytes n a ++ r ≡ big_bytes n b ++ s → SameFront a b r s
same_number n a b r s small_a small_b h = record { item = is; rest = append_cancel_left (big_bytes n a) r s (h ∙ ap (λ (i : ℕ). big_bytes n i ++ s) (sym is)) } where
  is : a ≡ b
  is = sym (big_number-reads_back n a r small_a) ∙ ap (λ (zs : List ℕ). big_number n zs) h ∙ big_number-reads_back n b s small_b
