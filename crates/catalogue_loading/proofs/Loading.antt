-- Items that are loaded one after the other.
use Rattle.std.proofs.Common.{◌≡◌, ℕ, List, [], ◌∷◌, ◌++◌, map, ap, sym, ◌∙◌, subst, inl, inr, append_assoc, Ok, Err, Option, Some}
use Rattle.std.proofs.lemmas.List.{append-nil, map-append}
use Rattle.store.specs.declared.fault.Fault.{Fault}
use Rattle.store.specs.declared.fault.Fault.TheVariants.{Memory, Device, Damaged}
use Rattle.store.specs.Records.{Record, Records, entries_where, has_prefix}
use Rattle.store.specs.Walks.{Walk, left, walk_between}
use Rattle.store.proofs.Walking.{span_of_prefix}
use Rattle.abstract_database.specs.Whole.{Each}
use Rattle.stored_database.proofs.Lists.{first_of_each, rest_of_each}
use Rattle.catalogue_loading.specs.Decoding.{IsSpelled}
use Rattle.catalogue_loading.specs.Walks.{IsStuck, IsNext, MovesOn, AreHeld, LoadsItems}

-- ---- items

pub each_none : {X : Type 0} (P : X → Type 0) → Each P []
each_none P x among = absurd among

pub each_append : {X : Type 0} (P : X → Type 0) (xs : List X) (x : X) → Each P xs → P x → Each P (xs ++ x ∷ [])
each_append P [] x all is y (inl same) = subst P same is
each_append P [] x all is y (inr none) = absurd none
each_append P (z ∷ xs) x all is y (inl same) = all y (inl same)
each_append P (z ∷ xs) x all is y (inr later) = each_append P xs x (rest_of_each P z xs all) is y later

-- the items so far are those of the first records, and the others are left to the walk
pub record AreLoaded {X : Type 0} (IsValid : X → Type 0) (spell : X → Record) (records : Records) (prefix : List ℕ) (items : List X) (walk : Walk) : Type 0 where
  pub held : entries_where (has_prefix prefix) records ≡ map spell items ++ left walk records
  pub valid : Each IsValid items

none_loaded : {X : Type 0} (IsValid : X → Type 0) (spell : X → Record) (records : Records) (prefix : List ℕ) → AreLoaded IsValid spell records prefix [] (walk_between prefix prefix)
none_loaded IsValid spell records prefix = record { held = sym (span_of_prefix prefix records); valid = each_none IsValid }

pub nothing_loaded : {X : Type 0} (IsValid : X → Type 0) (spell : X → Record) (records : Records) (prefix : List ℕ) (items : List X) (walk : Walk)
    → items ≡ [] → walk ≡ walk_between prefix prefix → AreLoaded IsValid spell records prefix items walk
nothing_loaded {X} IsValid spell records prefix items walk none start =
    subst (λ (w : Walk). AreLoaded IsValid spell records prefix items w) (sym start)
    (subst (λ (xs : List X). AreLoaded IsValid spell records prefix xs (walk_between prefix prefix)) (sym none) (none_loaded IsValid spell records prefix))

pub one_more : {X : Type 0} (IsValid : X → Type 0) (spell : X → Record) (records : Records) (prefix : List ℕ) (items : List X) (x : X) (old new : Walk)
    → AreLoaded IsValid spell records prefix items old → IsNext IsValid spell x old new records → AreLoaded IsValid spell records prefix (items ++ x ∷ []) new
one_more IsValid spell records prefix items x old new so_far next = record {
  held =
      so_far.held
      ∙ ap (λ (zs : Records). map spell items ++ zs) next.spelled
      ∙ sym (append_assoc (map spell items) (spell x ∷ []) (left new records))
      ∙ ap (λ (zs : Records). zs ++ left new records) (sym (map-append spell items (x ∷ [])));
  valid = each_append IsValid items x so_far.valid next.valid;
}

-- a step to an item
pub found_next : {X : Type 0} (IsValid : X → Type 0) (spell : X → Record) (found : Option X) (x : X) (old new : Walk) (records : Records)
    → found ≡ Some x → MovesOn IsValid spell (Ok found) old new records → IsNext IsValid spell x old new records
found_next {X} IsValid spell found x old new records is moved = subst (λ (o : Option X). MovesOn IsValid spell (Ok o) old new records) is moved

pub all_loaded : {X : Type 0} (IsValid : X → Type 0) (spell : X → Record) (records : Records) (prefix : List ℕ) (items : List X) (walk : Walk)
    → AreLoaded IsValid spell records prefix items walk → left walk records ≡ [] → AreHeld IsValid spell records prefix items
all_loaded IsValid spell records prefix items walk so_far none = record {
  held = so_far.held ∙ ap (λ (zs : Records). map spell items ++ zs) none ∙ append-nil (map spell items);
  valid = so_far.valid;
}

-- a record among those of some items is that of one of them
pub one_of : {X : Type 0} (IsValid : X → Type 0) (spell : X → Record) (xs : List X) (front rest : Records) (e : Record)
    → Each IsValid xs → map spell xs ≡ front ++ e ∷ rest → (x : X) × IsSpelled IsValid spell e x
one_of IsValid spell [] [] rest e all h = cc
one_of IsValid spell [] (f ∷ front) rest e all h = cc
one_of IsValid spell (x ∷ xs) [] rest e all h = let same : spell x ≡ e = cc in (x, record { valid = first_of_each IsValid x xs all; spelled = same })
one_of IsValid spell (x ∷ xs) (f ∷ front) rest e all h = let later : map spell xs ≡ front ++ e ∷ rest = cc in one_of IsValid spell xs front rest e (rest_of_each IsValid x xs all) later

-- no items have these records, one of which spells none
pub none_held : {X : Type 0} (IsValid : X → Type 0) (spell : X → Record) (records : Records) (prefix : List ℕ) (items : List X) (walk : Walk)
    → AreLoaded IsValid spell records prefix items walk → IsStuck IsValid spell walk records → (all : List X) → AreHeld IsValid spell records prefix all → ⊥
none_held IsValid spell records prefix items walk so_far stuck all held =
    let found = one_of IsValid spell all (map spell items) stuck.1 stuck.0 held.valid
    (sym held.held ∙ so_far.held ∙ ap (λ (zs : Records). map spell items ++ zs) stuck.2) in
    stuck.3 found.0 found.1

-- the fault of a step is the fault of the whole
pub fault_loads : {X : Type 0} (IsValid : X → Type 0) (spell : X → Record) (records : Records) (prefix : List ℕ) (items : List X) (old new : Walk) (fault : Fault)
    → AreLoaded IsValid spell records prefix items old → MovesOn IsValid spell (Err fault) old new records → LoadsItems IsValid spell records prefix (Err fault)
fault_loads IsValid spell records prefix items old new Memory so_far moved = tt
fault_loads IsValid spell records prefix items old new Device so_far moved = tt
fault_loads IsValid spell records prefix items old new Damaged so_far moved = none_held IsValid spell records prefix items old so_far moved

pub memory_loads : {X : Type 0} (IsValid : X → Type 0) (spell : X → Record) (records : Records) (prefix : List ℕ) (fault : Fault) → fault ≡ Memory
    → LoadsItems IsValid spell records prefix (Err fault)
memory_loads IsValid spell records prefix Memory is = tt
memory_loads IsValid spell records prefix Device is = tt
memory_loads IsValid spell records prefix Damaged is = cc
