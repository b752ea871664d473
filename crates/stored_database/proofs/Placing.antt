-- Keys that get a place.
use Rattle.std.proofs.Common.{◌≡◌, ◌≢◌, ℕ, zero, suc, Bool, true, false, ◌&&◌, nat_eq, if◌then◌else◌, List, [], ◌∷◌, ◌++◌, take, drop, Option, None, refl, ap, sym, ◌∙◌, inl, inr, arith}
use Rattle.std.specs.declared.cmp.Ordering.{Ordering}
use Rattle.std.specs.declared.cmp.Ordering.TheVariants.{Less, Equal, Greater}
use Rattle.std.specs.Ordering.{nat_cmp, ordering_then}
use Rattle.std.specs.Cmp.{nat_cmp_is}
use Rattle.std.proofs.lemmas.Bool.{cases_eq}
use Rattle.std.proofs.lemmas.Cmp.{ranked}
use Rattle.sql_ast.specs.declared.privilege.Descriptor.{Descriptor}
use Rattle.store.specs.Records.{Record, Records, IsBefore, IsOrdered, has_prefix, key_cmp}
use Rattle.store.specs.Store.{Contents}
use Rattle.abstract_database.specs.Database.{Database, action_number, grantor_name, grantee_name}
use Rattle.stored_database.specs.RecordFormat.{ended, bit, place_byte, descriptor_prefix, descriptor_record}
use Rattle.stored_database.specs.Records.{StandsFor}
use Rattle.stored_database.specs.BothRecordFormats.{first_descriptor, with_place, placed, with_places, in_record_format_2, Stands}

-- ---- keys with a byte more at one index

abbrev with_zero : ℕ → List ℕ → List ℕ
with_zero n key = take n key ++ 0 ∷ drop n key

before_some : (xs ys : List ℕ) → key_cmp [] (xs ++ 0 ∷ ys) ≡ Less
before_some [] ys = refl
before_some (x ∷ xs) ys = refl

after_none : (xs ys : List ℕ) → key_cmp (xs ++ 0 ∷ ys) [] ≡ Greater
after_none [] ys = refl
after_none (x ∷ xs) ys = refl

zero_first : (y : ℕ) (later : Ordering) → later ≡ Less → ordering_then (nat_cmp 0 y) later ≡ Less
zero_first y later is = elim (cases_eq y 0) [
  | inl same ↦ rw (sym (nat_cmp_is 0 y Equal (sym same))) is
  | inr other ↦ rw (sym (nat_cmp_is 0 y Less (omega (arith, other)))) refl
]

zero_last : (x : ℕ) (later : Ordering) → later ≡ Greater → ordering_then (nat_cmp x 0) later ≡ Greater
zero_last x later is = elim (cases_eq x 0) [
  | inl same ↦ rw (sym (nat_cmp_is x 0 Equal same)) is
  | inr other ↦ rw (sym (nat_cmp_is x 0 Greater (omega (arith, other)))) refl
]

same_order : (n : ℕ) (a b : List ℕ) → key_cmp (with_zero n a) (with_zero n b) ≡ key_cmp a b
same_order zero a b = refl
same_order (suc n) [] [] = refl
same_order (suc n) [] (y ∷ b) = zero_first y (key_cmp [] (with_zero n b)) (before_some (take n b) (drop n b))
same_order (suc n) (x ∷ a) [] = zero_last x (key_cmp (with_zero n a) []) (after_none (take n a) (drop n a))
same_order (suc n) (x ∷ a) (y ∷ b) = ap (λ (o : Ordering). ordering_then (nat_cmp x y) o) (same_order n a b)

-- ---- the order of records

-- what differs decides
decided : (o r s : Ordering) → o ≢ Equal → ordering_then o r ≡ ordering_then o s
decided Less r s h = refl
decided Equal r s h = absurd (h refl)
decided Greater r s h = refl

-- a key of a descriptor and one of no descriptor
differ : (x y : ℕ) (a b : List ℕ) → has_prefix (4 ∷ []) (x ∷ a) ≡ true → has_prefix (4 ∷ []) (y ∷ b) ≡ false → nat_cmp x y ≢ Equal
differ x y a b p q same = both (ap (λ (n : ℕ). nat_eq 4 n && true) (ranked x y Equal (sym same))) p q where
  both : {u v : Bool} → u ≡ v → u ≡ true → v ≡ false → ⊥
  both r s t = cc

placed_first : (a b : List ℕ) → has_prefix (4 ∷ []) a ≡ true → has_prefix (4 ∷ []) b ≡ false → key_cmp (with_place a) b ≡ key_cmp a b
placed_first [] b p q = cc
placed_first (x ∷ a) [] p q = refl
placed_first (x ∷ a) (y ∷ b) p q = decided (nat_cmp x y) (key_cmp (with_zero 5 a) b) (key_cmp a b) (differ x y a b p q)

placed_last : (a b : List ℕ) → has_prefix (4 ∷ []) a ≡ true → has_prefix (4 ∷ []) b ≡ false → key_cmp b (with_place a) ≡ key_cmp b a
placed_last [] b p q = cc
placed_last (x ∷ a) [] p q = refl
placed_last (x ∷ a) (y ∷ b) p q = decided (nat_cmp y x) (key_cmp b (with_zero 5 a)) (key_cmp b a) (λ same. differ x y a b p q (sym (nat_cmp_is x y Equal (sym (ranked y x Equal (sym same))))))

-- a record with its place, by whether it is one of a descriptor
abbrev placed_by : Bool → Record → Record
placed_by is e = if is then (with_place e.0, e.1) else e

pub same_placed_order : (e f : Record) → key_cmp (placed e).0 (placed f).0 ≡ key_cmp e.0 f.0
same_placed_order e f = go (has_prefix (4 ∷ []) e.0) (has_prefix (4 ∷ []) f.0) refl refl where
  go : (p q : Bool) → has_prefix (4 ∷ []) e.0 ≡ p → has_prefix (4 ∷ []) f.0 ≡ q → key_cmp (placed_by p e).0 (placed_by q f).0 ≡ key_cmp e.0 f.0
  go true true g h = same_order 6 e.0 f.0
  go true false g h = placed_first e.0 f.0 g h
  go false true g h = placed_last f.0 e.0 h g
  go false false g h = refl

placed_before : (e : Record) (es : Records) → IsBefore e.0 es → IsBefore (placed e).0 (with_places es)
placed_before e [] h = tt
placed_before e (f ∷ es) h = (same_placed_order e f ∙ h.0, placed_before e es h.1)

pub ordered_places : (es : Records) → IsOrdered es → IsOrdered (with_places es)
ordered_places [] h = tt
ordered_places (e ∷ es) h = (placed_before e es h.0, ordered_places es h.1)

-- ---- privilege descriptors

pub descriptor_placed : (id : ℕ) (d : Descriptor) → d.column ≡ None → placed (first_descriptor id d) ≡ descriptor_record id d
descriptor_placed id d whole =
    ap (λ (column : Option ℕ). (descriptor_prefix id ++ action_number d.action ∷ place_byte column ∷ (ended (grantor_name d.grantor) ++ ended (grantee_name d.grantee)), bit d.grantable ∷ [])) (sym whole)

pub others_stay : (e : Record) → has_prefix (4 ∷ []) e.0 ≡ false → placed e ≡ e
others_stay e h = ap (λ (b : Bool). placed_by b e) h

-- a key with its place tells the key
unplaced : (key : List ℕ) (a b c d e f : ℕ) (rest : List ℕ) → with_place key ≡ a ∷ b ∷ c ∷ d ∷ e ∷ f ∷ 0 ∷ rest → key ≡ a ∷ b ∷ c ∷ d ∷ e ∷ f ∷ rest
unplaced [] a b c d e f rest h = cc
unplaced (x1 ∷ []) a b c d e f rest h = cc
unplaced (x1 ∷ x2 ∷ []) a b c d e f rest h = cc
unplaced (x1 ∷ x2 ∷ x3 ∷ []) a b c d e f rest h = cc
unplaced (x1 ∷ x2 ∷ x3 ∷ x4 ∷ []) a b c d e f rest h = cc
unplaced (x1 ∷ x2 ∷ x3 ∷ x4 ∷ x5 ∷ []) a b c d e f rest h = cc
unplaced (x1 ∷ x2 ∷ x3 ∷ x4 ∷ x5 ∷ x6 ∷ key) a b c d e f rest h = cc

-- a record is told by its key and its value
told : (e f : Record) → e.0 ≡ f.0 → e.1 ≡ f.1 → e ≡ f
told e f p q = pair p q where
  pair : {a b c d : List ℕ} → a ≡ b → c ≡ d → ◌≡◌ {A = Record} (a, c) (b, d)
  pair p q = cc

clash : {b : Bool} → b ≡ true → b ≡ false → ⊥
clash p q = cc

pub descriptor_alone : (id : ℕ) (d : Descriptor) (e : Record) → d.column ≡ None → placed e ≡ descriptor_record id d → e ≡ first_descriptor id d
descriptor_alone id d e whole is = go (has_prefix (4 ∷ []) e.0) refl (is ∙ sym (descriptor_placed id d whole)) where
  go : (b : Bool) → has_prefix (4 ∷ []) e.0 ≡ b → placed_by b e ≡ placed (first_descriptor id d) → e ≡ first_descriptor id d
  go true h same =
      told e (first_descriptor id d) (unplaced e.0 _ _ _ _ _ _ (ended (grantor_name d.grantor) ++ ended (grantee_name d.grantee)) (ap (λ (r : Record). r.0) same)) (ap (λ (r : Record). r.1) same)
  go false h same = absurd (clash (ap (λ (r : Record). has_prefix (4 ∷ []) r.0) same) h)

-- ---- contents

pub stand_for_one : ((records : Records) (a b : Database) → StandsFor records a → StandsFor records b → a ≡ b) → (contents : Contents) (a b : Database) → Stands contents a → Stands contents b → a ≡ b
stand_for_one one contents a b p q = one (in_record_format_2 contents.record_format contents.records) a b p q
