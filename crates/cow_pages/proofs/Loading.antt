-- What opening finds, and what it refuses.
use Rattle.std.proofs.Common.{◌≡◌, ◌<◌, ◌≤◌, ◌+◌, ◌*◌, ◌/◌, ◌⊎◌, ℕ, List, Bool, true, false, if◌then◌else◌, Option, Some, None, Result, Ok, Err, IfErr, get_or, refl, sym, ap, subst, ◌∙◌, arith, inl, inr}
use Rattle.std.specs.Prelude.{IsErrOf}
use Rattle.std.proofs.lemmas.List.{get_or_default}
use Rattle.sector_device.specs.Device.{DeviceState, Image, HasFailed, IsSynced}
use Rattle.page_roots.specs.Root.{RootFields, home}
use Rattle.page_roots.specs.Sector.{root_at}
use Rattle.page_roots.specs.Chosen.{IsChosen, IsOlder}
use Rattle.page_roots.specs.Reach.{IsSound, InReach}
use Rattle.page_roots.specs.MapPage.{entries_in}
use Rattle.page_roots.proofs.Choosing.{chosen_where}
use Rattle.cow_pages.specs.Image.{is_size, first_fault, fault_of_image, fault_of_root, bytes_of_page}
use Rattle.cow_pages.specs.Held.{AreSpelled, IsSettled, IsFixedPage}
use Rattle.cow_pages.specs.Opening.{IsRootFound, IsNamedFor, IsOfReading, NamesFault}
use Rattle.cow_pages.specs.declared.open.OpenFault.{OpenFault}
use Rattle.cow_pages.specs.declared.open.OpenFault.TheVariants.{WrongSize, NotADatabase, NewerFormat, Damaged, Device, Memory}
use Rattle.cow_pages.proofs.Bytes.{same_page}

pub named_for : (fault : OpenFault) (first : Option OpenFault) → (fault ≡ Memory → ⊥) → first ≡ Some fault → IsNamedFor fault first
named_for WrongSize first other is = is
named_for NotADatabase first other is = is
named_for (NewerFormat format) first other is = is
named_for Damaged first other is = is
named_for Device first other is = tt
named_for Memory first other is = absurd (other refl)

-- the same, where the first fault is that of a part
pub named_same : (fault : OpenFault) (first part : Option OpenFault) → first ≡ part → IsNamedFor fault part → IsNamedFor fault first
named_same fault first part same named = subst (λ (x : Option OpenFault). IsNamedFor fault x) (sym same) named

-- past the root sectors the device may fail, and memory may be refused
pub named_after : (fault : OpenFault) (first : Option OpenFault) → (fault ≡ Device) ⊎ (fault ≡ Memory) → (first ≡ None) ⊎ (first ≡ Some Damaged) → IsNamedFor fault first
named_after fault first (inl device) after = rw device tt
named_after fault first (inr memory) after = rw memory after

-- what a `?` gives back
pub given_back : {T : Type 0} (r : Result T OpenFault) (fault : OpenFault) (first : Option OpenFault) → (x : OpenFault) × (r ≡ Err x) × (x ≡ fault) → IsNamedFor fault first
    → NamesFault r first
given_back r fault first p named = rw (p.1, p.2) named

-- where a device failure is given back, it was one
pub device_given : {T : Type 0} (r : Result T OpenFault) (fault : OpenFault) → (x : OpenFault) × (r ≡ Err x) × (x ≡ fault) → IsErrOf r Device → fault ≡ Device
device_given {T} r fault p is =
    let e = sym p.1 ∙ is in
    let f : p.0 ≡ Device = cc in
    sym p.2 ∙ f

-- memory that was refused is no failure of the device
pub memory_given : {T : Type 0} {P : Type 0} (r : Result T OpenFault) → (x : OpenFault) × (r ≡ Err x) × (x ≡ Memory) → IsErrOf r Device → P
memory_given r p is = let e : Memory ≡ Device = device_given r Memory p is in absurd cc

-- nor is damage, nor a success
pub damage_given : {T P : Type 0} (r : Result T OpenFault) → r ≡ Err Damaged → IsErrOf r Device → P
damage_given r damaged is = let e : Damaged ≡ Device = device_given r Damaged (Damaged, damaged, refl) is in absurd cc

pub none_given : {T P : Type 0} (x : T) → IsErrOf (Ok x) Device → P
none_given x is = let e : Ok x ≡ Err Device = is in absurd cc

-- a read is refused because the device failed, or for memory
pub device_read : (fault : OpenFault) (old new : DeviceState) → fault ≡ Device → HasFailed old new → IsOfReading fault old new
device_read fault old new is failed = rw is failed

pub memory_read : (fault : OpenFault) (old new : DeviceState) → fault ≡ Memory → IsOfReading fault old new
memory_read fault old new is = rw is tt

pub read_named : (fault : OpenFault) (old new : DeviceState) → IsOfReading fault old new → (fault ≡ Device) ⊎ (fault ≡ Memory)
read_named WrongSize old new is = absurd is
read_named NotADatabase old new is = absurd is
read_named (NewerFormat format) old new is = absurd is
read_named Damaged old new is = absurd is
read_named Device old new is = inl refl
read_named Memory old new is = inr refl

pub read_failed : (fault : OpenFault) (old new : DeviceState) → fault ≡ Device → IsOfReading fault old new → HasFailed old new
read_failed fault old new is read = subst (λ (f : OpenFault). IsOfReading f old new) is read

-- a fault that is given back is such a one
pub fault_given : {T : Type 0} (r : Result T OpenFault) (P : OpenFault → Type 0) (x : OpenFault) → r ≡ Err x → P x → IfErr r P
fault_given r P x err is = rw err is

pub named_device : (fault : OpenFault) (first : Option OpenFault) → fault ≡ Device → IsNamedFor fault first
named_device fault first device = rw device tt

-- past the size
pub first_of_image : (sectors pages : ℕ) (image : Image) → is_size sectors ≡ true → sectors ≡ 8 * pages → first_fault sectors image ≡ fault_of_image pages image
first_of_image sectors pages image size is =
    let count : sectors / 8 ≡ pages = omega (arith, is) in
    past (is_size sectors) (fault_of_image (sectors / 8) image) size ∙ ap (λ (n : ℕ). fault_of_image n image) count
  where
    past : (test : Bool) (x : Option OpenFault) → test ≡ true → (if test then x else Some WrongSize) ≡ x
    past true x is = refl
    past false x is = absurd cc

-- past the root sectors
pub first_of_root : (pages : ℕ) (image : Image) (even odd : List ℕ) (root : RootFields) → image 0 ≡ even → image 1 ≡ odd → IsRootFound pages even odd root
    → fault_of_image pages image ≡ fault_of_root root.pages image (Some root)
first_of_root pages image even odd root even_is odd_is found = rw (even_is, odd_is, found.marked, found.chosen, found.pages_is) refl

-- a page of a sound reach is a page of the device
pub reach_inside : (pages : ℕ) (maps entries : List ℕ) → IsSound pages maps entries → (page : ℕ) → InReach maps entries page → (1 ≤ page) × (page < pages)
reach_inside pages maps entries sound page (inl at) =
    let is : get_or maps at.0 0 ≡ page = get_or_default maps at.0 0 page at.1 ∙ at.2 in
    let inside = sound.maps_inside at.0 at.1 in
    (omega (arith, inside.0, is), omega (arith, inside.1, is))
reach_inside pages maps entries sound page (inr at) = (at.2, omega (arith, sound.entries_inside at.0, at.1))

-- the entries are spelled by other sectors of the same content
pub spelled_same : (a b : Image) (maps entries : List ℕ) → ((s : ℕ) → a s ≡ b s) → AreSpelled (bytes_of_page b) maps entries → AreSpelled (bytes_of_page a) maps entries
spelled_same a b maps entries same spelled = record {
  each = λ j lt. ap (λ (bytes : List ℕ). entries_in bytes) (same_page a b (get_or maps j 0) (λ k below. same (8 * get_or maps j 0 + k))) ∙ spelled.each j lt;
  enough = spelled.enough;
  beyond = spelled.beyond;
}

-- a synced device whose root sectors hold a root with a sound map holds that root's array
pub settled_found : (d : DeviceState) (pages : ℕ) (root : RootFields) (entries : List ℕ) → d.sectors ≡ 8 * pages → 1 ≤ pages → IsSynced d
    → IsRootFound pages (d.content 0) (d.content 1) root → AreSpelled (bytes_of_page d.content) root.maps entries → IsSound root.pages root.maps entries → IsSettled d root entries
settled_found d pages root entries sectors some synced found spelled sound =
    let chosen : IsChosen d.content root = (chosen_where d.content root).0 found.chosen in
    let low : home root.number < 2 = omega arith in
    let low_next : home (root.number + 1) < 2 = omega arith in
    let fixed : (page : ℕ) → InReach root.maps entries page → IsFixedPage d page = λ page reach k lt.
    let inside = reach_inside root.pages root.maps entries sound page reach in
    synced (8 * page + k) (omega (arith, inside.1, lt, sectors, found.pages_is)) in
    record {
      durable = record {
        sectors = omega (arith, sectors, found.pages_is);
        room = omega (arith, some, found.pages_is);
        here = chosen.here;
        here_fixed = synced (home root.number) (omega (arith, low, some, sectors));
        held = record { spelled = spelled; sound = sound; fixed = fixed };
      };
      other = λ c now.
          let is : c ≡ d.content (home (root.number + 1)) = synced (home (root.number + 1)) (omega (arith, low_next, some, sectors)) c now in
          subst (λ (bytes : List ℕ). IsOlder (root_at (home (root.number + 1)) bytes) root.number) (sym is) chosen.other;
    }
