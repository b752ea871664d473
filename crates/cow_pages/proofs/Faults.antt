-- An image has no fault exactly where it means an array.
use Rattle.std.proofs.Common.{◌≡◌, ◌⊎◌, ◌<◌, ◌≤◌, ◌/◌, ◌&&◌, ◌||◌, ◌*◌, ℕ, zero, suc, Bool, true, false, if◌then◌else◌, leb, eqb, List, [], ◌∷◌, length, take, drop, get_or, Option, Some, None, IsSome, refl, sym, ap, subst, ◌∙◌, arith, inl, inr}
use Rattle.std.specs.Str.{bytes_eq}
use Rattle.std.proofs.lemmas.Bool.{cases_lt, cases_eq, eqb-true, eq-eqb, leb-true, false≢true}
use Rattle.std.proofs.lemmas.List.{length-append, get_or_past}
use Rattle.std.proofs.lemmas.Slice.Eq.{bytes_eq-Decides}
use Rattle.sector_device.specs.Device.{Image}
use Rattle.page_roots.specs.declared.format.Format.{Format}
use Rattle.page_roots.specs.Root.{RootFields, home, magic, root_bytes}
use Rattle.page_roots.specs.Sector.{root_at, begins_with_magic, zeros, fields_in, may_stand, maps_named}
use Rattle.page_roots.specs.Numbers.{numbers_in}
use Rattle.page_roots.specs.MapPage.{entries_in, map_of}
use Rattle.page_roots.specs.Chosen.{IsChosen, chosen}
use Rattle.page_roots.specs.Reach.{IsSound, is_sound}
use Rattle.page_roots.specs.declared.sector.RootSector.TheVariants.{Found}
use Rattle.page_roots.proofs.Choosing.{chosen_where}
use Rattle.page_roots.proofs.Reading.{both, past_tests}
use Rattle.page_roots.proofs.Reaching.{same_test}
use Rattle.pages.specs.State.{Array}
use Rattle.cow_pages.specs.Image.{bytes_of_page, map_in, page_of, array_of, Means, is_size, fault_of_root, fault_of_image, first_fault}
use Rattle.cow_pages.specs.declared.open.OpenFault.{OpenFault}
use Rattle.cow_pages.specs.declared.open.OpenFault.TheVariants.{WrongSize, NotADatabase, Damaged}

-- ---- sound reaches

-- what cannot fail, of two numbers, holds
surely_less : (a b : ℕ) → ((a < b → ⊥) → ⊥) → a < b
surely_less a b never = elim (cases_lt a b) [
  | inl lt ↦ lt
  | inr past ↦ absurd (never (λ lt. omega arith))
]

surely_same : (a b : ℕ) → ((a ≡ b → ⊥) → ⊥) → a ≡ b
surely_same a b never = elim (cases_eq a b) [
  | inl same ↦ same
  | inr apart ↦ absurd (never apart)
]

-- a reach that passes the test cannot fail to be sound
surely_sound : (pages : ℕ) (maps entries : List ℕ) → is_sound pages maps entries ≡ true → (IsSound pages maps entries → ⊥) → ⊥
surely_sound pages maps entries is unsound =
    let refused : false ≡ is_sound pages maps entries = same_test pages maps entries false (λ no. absurd cc) (λ sound. absurd (unsound sound)) in
    let clash : false ≡ true = refused ∙ is in
    absurd cc

-- so it is sound, and a sound one passes the test
pub tested_sound : (pages : ℕ) (maps entries : List ℕ) → is_sound pages maps entries ≡ true → IsSound pages maps entries
tested_sound pages maps entries is = record {
  first_in_use = surely_less 0 (get_or entries 0 0) (λ no. surely_sound pages maps entries is (λ sound. no sound.first_in_use));
  maps_inside = λ j lt. (
    surely_less 0 (get_or maps j 0) (λ no. surely_sound pages maps entries is (λ sound. no (sound.maps_inside j lt).0)),
    surely_less (get_or maps j 0) pages (λ no. surely_sound pages maps entries is (λ sound. no (sound.maps_inside j lt).1)),
  );
  entries_inside = λ l. surely_less (get_or entries l 0) pages (λ no. surely_sound pages maps entries is (λ sound. no (sound.entries_inside l)));
  maps_differ = λ j k j_lt k_lt same. surely_same j k (λ no. surely_sound pages maps entries is (λ sound. no (sound.maps_differ j k j_lt k_lt same)));
  entries_differ = λ l k some same. surely_same l k (λ no. surely_sound pages maps entries is (λ sound. no (sound.entries_differ l k some same)));
  apart = λ j l lt some same. surely_sound pages maps entries is (λ sound. sound.apart j l lt some same);
}

pub sound_tested : (pages : ℕ) (maps entries : List ℕ) → IsSound pages maps entries → is_sound pages maps entries ≡ true
sound_tested pages maps entries sound = sym (same_test pages maps entries true (λ yes. sound) (λ is. refl))

-- ---- root sectors

-- the bytes that hold a root are the spelling of the root that they name, and it may stand there
spelled_there : (sector : ℕ) (bytes : List ℕ) (root : RootFields) → root_at sector bytes ≡ Found root
    → (may_stand sector bytes ≡ true) × (bytes ≡ root_bytes (fields_in bytes)) × (fields_in bytes ≡ root)
unfolding root_at
spelled_there sector bytes root found =
    let past = past_tests (bytes_eq bytes zeros) (may_stand sector bytes && bytes_eq bytes (root_bytes (fields_in bytes))) (fields_in bytes) root found in
    let tests = both (may_stand sector bytes) (bytes_eq bytes (root_bytes (fields_in bytes))) past.0 in
    (tests.0, (bytes_eq-Decides bytes (root_bytes (fields_in bytes))).0 tests.1, past.1)

-- they begin with the magic
front_marked : (root : RootFields) → take 8 (root_bytes root) ≡ magic
unfolding root_bytes
front_marked root = refl

pub root_marked : (sector : ℕ) (bytes : List ℕ) (root : RootFields) → root_at sector bytes ≡ Found root → begins_with_magic bytes ≡ true
root_marked sector bytes root found =
    let spelled = spelled_there sector bytes root found in
    (bytes_eq-Decides (take 8 bytes) magic).1 (ap (λ (bs : List ℕ). take 8 bs) spelled.1 ∙ front_marked (fields_in bytes))

-- and the number of the root is at least 1
pub root_numbered : (sector : ℕ) (bytes : List ℕ) (root : RootFields) → root_at sector bytes ≡ Found root → 1 ≤ root.number
unfolding fields_in
root_numbered sector bytes root found =
    let spelled = spelled_there sector bytes root found in
    let count : ℕ = maps_named bytes in
    let number : ℕ = (fields_in bytes).number in
    let some = both (leb 1 count) (leb count 64 && (leb 1 number && eqb (home number) sector)) spelled.0 in
    let most = both (leb count 64) (leb 1 number && eqb (home number) sector) some.1 in
    let last = both (leb 1 number) (eqb (home number) sector) most.1 in
    let is : number ≡ root.number = ap (λ (r : RootFields). r.number) spelled.2 in
    omega (arith, leb-true 1 number last.0, is)

either_true : (a b : Bool) → (a ≡ true) ⊎ (b ≡ true) → (a || b) ≡ true
either_true a b (inl left) = rw left refl
either_true true b (inr right) = refl
either_true false b (inr right) = right

-- one of the two root sectors of an image with a root begins with the magic
pub one_marked : (image : Image) (root : RootFields) → IsChosen image root → (begins_with_magic (image 0) || begins_with_magic (image 1)) ≡ true
one_marked image root is =
    let marked = root_marked (home root.number) (image (home root.number)) root is.here in
    either_true (begins_with_magic (image 0)) (begins_with_magic (image 1)) (elim (cases_eq (home root.number) 0) [
      | inl even ↦ inl (ap (λ (s : ℕ). begins_with_magic (image s)) (sym even) ∙ marked)
      | inr odd ↦ let at : home root.number ≡ 1 = omega arith in inr (ap (λ (s : ℕ). begins_with_magic (image s)) (sym at) ∙ marked)
    ])

-- ---- faults

-- no fault stands past a test and in what follows it
past_test : (test : Bool) (rest : Option OpenFault) (fault : OpenFault) → (if test then rest else Some fault) ≡ None → (test ≡ true) × (rest ≡ None)
past_test true rest fault is = (refl, is)
past_test false rest fault is = absurd cc

-- an image whose chosen root has no fault means the array of that root
found_means : (pages : ℕ) (image : Image) (found : Option RootFields) → chosen (root_at 0 (image 0)) (root_at 1 (image 1)) ≡ found → fault_of_root pages image found ≡ None
    → (format : Format) × (number : ℕ) × (array : Array) × Means pages format number array image
found_means pages image None is none = absurd cc
found_means pages image (Some root) is none =
    let size = past_test (eqb root.pages pages) (if is_sound pages root.maps (map_in image root.maps) then None else Some Damaged) WrongSize none in
    let sound = past_test (is_sound pages root.maps (map_in image root.maps)) None Damaged size.1 in (
      root.format,
      root.number,
      array_of image (map_in image root.maps),
      record {
        root = root;
        chosen = (chosen_where image root).0 is;
        format_is = refl;
        number_is = refl;
        pages_is = eqb-true root.pages pages size.0;
        sound = tested_sound pages root.maps (map_in image root.maps) sound.0;
        array_is = λ l. refl;
      },
    )

-- what an image without a fault is
pub faultless_size : (sectors : ℕ) (image : Image) → first_fault sectors image ≡ None → is_size sectors ≡ true
faultless_size sectors image none = (past_test (is_size sectors) (fault_of_image (sectors / 8) image) WrongSize none).0

pub faultless_means : (sectors : ℕ) (image : Image) → first_fault sectors image ≡ None → (format : Format) × (number : ℕ) × (array : Array) × Means (sectors / 8) format number array image
faultless_means sectors image none =
    let found : Option RootFields = chosen (root_at 0 (image 0)) (root_at 1 (image 1)) in
    let past = past_test (is_size sectors) (fault_of_image (sectors / 8) image) WrongSize none in
    let marked = past_test (begins_with_magic (image 0) || begins_with_magic (image 1)) (fault_of_root (sectors / 8) image found) NotADatabase past.1 in
    found_means (sectors / 8) image found refl marked.1

-- an image that means an array has no fault
pub means_faultless : (sectors : ℕ) (format : Format) (number : ℕ) (array : Array) (image : Image) → is_size sectors ≡ true → Means (sectors / 8) format number array image → first_fault sectors image ≡ None
means_faultless sectors format number array image size means =
    let root = means.root in
    let found = (chosen_where image root).1 means.chosen in
    rw (size, one_marked image root means.chosen, found, eq-eqb root.pages (sectors / 8) means.pages_is, sound_tested (sectors / 8) root.maps (map_in image root.maps) means.sound) refl

-- an array is meant under a number of at least 1
pub means_numbered : (pages : ℕ) (format : Format) (number : ℕ) (array : Array) (image : Image) → Means pages format number array image → 1 ≤ number
means_numbered pages format number array image means =
    let first = root_numbered (home means.root.number) (image (home means.root.number)) means.root means.chosen.here in
    omega (arith, first, means.number_is)

-- ---- how many pages

numbers_few : (count : ℕ) (bytes : List ℕ) → length (numbers_in count bytes) ≤ count
unfolding numbers_in
numbers_few zero bytes = omega arith
numbers_few (suc count) [] = omega arith
numbers_few (suc count) (byte ∷ bytes) = omega (arith, numbers_few count (drop 4 (byte ∷ bytes)))

-- a root that is found has 64 map pages at most
maps_few : (sector : ℕ) (bytes : List ℕ) (root : RootFields) → root_at sector bytes ≡ Found root → length root.maps ≤ 64
unfolding root_at fields_in
maps_few sector bytes root found =
    let count : ℕ = maps_named bytes in
    let number : ℕ = (fields_in bytes).number in
    let past = past_tests (bytes_eq bytes zeros) (may_stand sector bytes && bytes_eq bytes (root_bytes (fields_in bytes))) (fields_in bytes) root found in
    let tests = both (may_stand sector bytes) (bytes_eq bytes (root_bytes (fields_in bytes))) past.0 in
    let some = both (leb 1 count) (leb count 64 && (leb 1 number && eqb (home number) sector)) tests.0 in
    let most = both (leb count 64) (leb 1 number && eqb (home number) sector) some.1 in
    subst (λ (r : RootFields). length r.maps ≤ 64) past.1 (omega (arith, numbers_few count (drop 28 bytes), leb-true count 64 most.0))

map_few : (page : ℕ → List ℕ) (maps : List ℕ) → length (map_of page maps) ≤ 1024 * length maps
map_few page [] = omega arith
map_few page (m ∷ maps) =
    omega (arith, length-append (entries_in (page m)) (map_of page maps), numbers_few 1024 (page m), map_few page maps)

-- a page in use of an array that is meant has a number of 16 bits
pub means_few : (image : Image) (pages : ℕ) (format : Format) (number : ℕ) (array : Array) (l : ℕ) → Means pages format number array image → IsSome (array l) → l < 65536
means_few image pages format number array l means some =
    let maps = means.root.maps in
    let entries = map_in image maps in
    let there : IsSome (page_of image (get_or entries l 0)) = subst (λ (p : Option (List ℕ)). IsSome p) (sym (means.array_is l)) some in
    let few = maps_few (home means.root.number) (image (home means.root.number)) means.root means.chosen.here in
    elim (cases_lt l (length entries)) [
      | inl lt ↦ omega (arith, lt, few, map_few (bytes_of_page image) maps)
      | inr past ↦ absurd (false≢true (subst (λ (p : ℕ). IsSome (page_of image p)) (get_or_past entries l 0 past) there))
    ]
