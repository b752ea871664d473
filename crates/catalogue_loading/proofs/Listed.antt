-- Items that are read one after the other.
use Rattle.std.proofs.Common.{◌≡◌, ◌<◌, ℕ, List, [], ◌∷◌, ◌++◌, flat_map, length, refl, ap, sym, ◌∙◌, append_assoc, length-append, arith, Err}
use Rattle.std.proofs.lemmas.Grind.{flat_map-append}
use Rattle.std.proofs.lemmas.List.{append-nil}
use Rattle.store.specs.declared.fault.Fault.{Fault}
use Rattle.store.specs.declared.fault.Fault.TheVariants.{Memory, Device, Damaged}
use Rattle.abstract_database.specs.Whole.{Each}
use Rattle.stored_database.proofs.Lists.{first_of_each, rest_of_each}
use Rattle.catalogue_loading.specs.Decoding.{IsFront, IsOnlyFront, DecodesFront}
use Rattle.catalogue_loading.specs.RecordParts.{AreParts}
use Rattle.catalogue_loading.proofs.Loading.{each_none, each_append}

module _ {X : Type 0} (IsValid : X → Type 0) (spell : X → List ℕ) where
  -- the items go on after those so far, and what is left is their bytes and the tail
  pub record GoesOn (items xs : List X) (rest tail : List ℕ) : Type 0 where
    pub more : List X
    pub all : xs ≡ items ++ more
    pub left : rest ≡ flat_map spell more ++ tail
    pub valid : Each IsValid more

  -- items so far, of so many
  pub record AreReadSoFar (count : ℕ) (bytes : List ℕ) (items : List X) (rest : List ℕ) : Type 0 where
    pub spelled : bytes ≡ flat_map spell items ++ rest
    pub valid : Each IsValid items
    pub only : (xs : List X) (tail : List ℕ) → IsFront (AreParts IsValid count) (flat_map spell) bytes xs tail → GoesOn items xs rest tail

  pub none_read : (count : ℕ) (bytes : List ℕ) (items : List X) → items ≡ [] → AreReadSoFar count bytes items bytes
  none_read count bytes [] is = record {
    spelled = refl;
    valid = each_none IsValid;
    only = λ xs tail front. record { more = xs; all = refl; left = front.spelled; valid = front.valid.valid };
  }
  none_read count bytes (x ∷ items) is = cc

  -- one item more
  goes_on : (items xs : List X) (x : X) (rest after tail : List ℕ) (count : ℕ) → length items < count → length xs ≡ count
      → IsOnlyFront IsValid spell rest x after → (more : List X) → xs ≡ items ++ more → rest ≡ flat_map spell more ++ tail → Each IsValid more → GoesOn (items ++ x ∷ []) xs after tail
  goes_on items xs x rest after tail count few counted only [] all left valid =
      absurd (omega (arith, few, counted, ap length (all ∙ append-nil items)))
  goes_on items xs x rest after tail count few counted only (y ∷ ys) all left valid =
      let same = only y (flat_map spell ys ++ tail) (record { valid = first_of_each IsValid y ys valid; spelled = left ∙ append_assoc (spell y) (flat_map spell ys) tail }) in
      record {
        more = ys;
        all = all ∙ ap (λ (z : X). items ++ z ∷ ys) (sym same.0) ∙ sym (append_assoc items (x ∷ []) ys);
        left = same.1;
        valid = rest_of_each IsValid y ys valid;
      }

  pub one_read : (count : ℕ) (bytes : List ℕ) (items : List X) (x : X) (rest after : List ℕ) → length items < count → AreReadSoFar count bytes items rest
      → IsFront IsValid spell rest x after → IsOnlyFront IsValid spell rest x after → AreReadSoFar count bytes (items ++ x ∷ []) after
  one_read count bytes items x rest after few so_far front only = record {
    spelled =
        so_far.spelled
        ∙ ap (λ (zs : List ℕ). flat_map spell items ++ zs) front.spelled
        ∙ sym (append_assoc (flat_map spell items) (spell x) after)
        ∙ ap (λ (zs : List ℕ). zs ++ after) (ap (λ (zs : List ℕ). flat_map spell items ++ zs) (sym (append-nil (spell x))) ∙ sym (flat_map-append spell items (x ∷ [])));
    valid = each_append IsValid items x so_far.valid front.valid;
    only = λ xs tail whole. let so = so_far.only xs tail whole in goes_on items xs x rest after tail count few whole.valid.counted only so.more so.all so.left so.valid;
  }

  -- so many items, and no others
  pub all_read : (count : ℕ) (bytes : List ℕ) (items : List X) (rest : List ℕ) → length items ≡ count → AreReadSoFar count bytes items rest
      → IsFront (AreParts IsValid count) (flat_map spell) bytes items rest × IsOnlyFront (AreParts IsValid count) (flat_map spell) bytes items rest
  all_read count bytes items rest counted so_far = (
    record { valid = record { valid = so_far.valid; counted = counted }; spelled = so_far.spelled },
    λ xs tail whole. let so = so_far.only xs tail whole in ends xs tail whole.valid.counted so.more so.all so.left,
  ) where
    ends : (xs : List X) (tail : List ℕ) → length xs ≡ count → (more : List X) → xs ≡ items ++ more → rest ≡ flat_map spell more ++ tail → (items ≡ xs) × (rest ≡ tail)
    ends xs tail all_counted [] all left = (sym (append-nil items) ∙ sym all, left)
    ends xs tail all_counted (y ∷ ys) all left =
        absurd (omega (arith, counted, all_counted, ap length all, length-append items (y ∷ ys)))

  -- where no item is read, there are not so many
  pub none_more : (count : ℕ) (bytes : List ℕ) (items : List X) (rest : List ℕ) (fault : Fault) → length items < count → AreReadSoFar count bytes items rest
      → DecodesFront IsValid spell rest (Err fault) → DecodesFront (AreParts IsValid count) (flat_map spell) bytes (Err fault)
  none_more count bytes items rest Memory few so_far none = tt
  none_more count bytes items rest Device few so_far none = none
  none_more count bytes items rest Damaged few so_far none = λ xs tail whole. let so = so_far.only xs tail whole in missed xs tail whole.valid.counted so.more so.all so.left so.valid where
    missed : (xs : List X) (tail : List ℕ) → length xs ≡ count → (more : List X) → xs ≡ items ++ more → rest ≡ flat_map spell more ++ tail → Each IsValid more → ⊥
    missed xs tail all_counted [] all left valid = omega (arith, few, all_counted, ap length (all ∙ append-nil items))
    missed xs tail all_counted (y ∷ ys) all left valid =
        none y (flat_map spell ys ++ tail) (record { valid = first_of_each IsValid y ys valid; spelled = left ∙ append_assoc (spell y) (flat_map spell ys) tail })
