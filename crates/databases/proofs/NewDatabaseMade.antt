-- A stop while a new database is made.
use Rattle.std.proofs.Common.{◌≡◌, ◌∙◌, ◌≤◌, ◌/◌, ℕ, inl, inr, ⊎_elim, Option, Some, None, Err, refl, sym, ap, subst}
use Rattle.sector_device.specs.Device.{DeviceState, Image, HasFailed, IsLeft}
use Rattle.store.specs.Store.{Contents}
use Rattle.cow_pages.specs.declared.open.OpenFault.{OpenFault}
use Rattle.cow_pages.specs.declared.open.OpenFault.TheVariants.{WrongSize, NotADatabase, NewerFormat, Damaged, Device, Memory}
use Rattle.cow_pages.specs.Image.{first_fault}
use Rattle.cow_pages.specs.Held.{KeepsContent}
use Rattle.journal_store.specs.DeviceImages.{IsReadAs, HasContents}
use Rattle.journal_store.specs.DeviceOpening.{IsNamedFor}
use Rattle.abstract_database.specs.Database.{Database}
use Rattle.server.specs.Standing.{Stands}
use Rattle.databases.specs.declared.fault.DatabaseFault.TheVariants.{Pages}
use Rattle.databases.specs.Lives.{IsFoundLeft, standing_over, LeavesFound}
use Rattle.databases.specs.OnDevice.{records_on}
use Rattle.databases.specs.NewDatabase.{IsNone, IsNoneOr, Makes, IsLeftOf, IsRefusedAsNone}

pub images_left : (db : Database) (stop : ℕ) (old new next : DeviceState) → Makes db old new → new.sectors ≡ old.sectors → old.moment ≤ stop → stop ≤ new.moment → IsLeftOf new stop next
    → (image : Image) → IsLeft next image → IsNoneOr db next.sectors image
images_left db stop old new next makes same from to is image left =
    subst (λ (n : ℕ). IsNoneOr db n image) (sym (is.sectors ∙ same)) (makes.each image (is.left image left old.moment new.moment from to))

-- what is read of an image in which a database stands means it
means_new : ((image : Image) (pages others : ℕ) (contents other : Contents) → HasContents pages contents image → HasContents others other image → contents ≡ other)
    → (db : Database) (pages : ℕ) (image : Image) (contents : Contents) → HasContents pages contents image → Stands contents db → (x : Option Contents) → IsReadAs pages image x
    → IsFoundLeft (standing_over db) x
means_new one db pages image contents has stands None reads = absurd (reads contents has)
means_new one db pages image contents has stands (Some read) reads =
    (db, (contents, ap (λ (c : Contents). Some c) (one image pages pages read contents reads has), stands), inl refl)

pub found_left : ((image : Image) (pages others : ℕ) (contents other : Contents) → HasContents pages contents image → HasContents others other image → contents ≡ other)
    → (db : Database) (stop : ℕ) (old new next : DeviceState) → Makes db old new → new.sectors ≡ old.sectors → old.moment ≤ stop → stop ≤ new.moment → IsLeftOf new stop next
    → ((image : Image) → IsLeft next image → IsNone next.sectors image → ⊥) → LeavesFound (standing_over db) (records_on next)
found_left one db stop old new next makes same from to is some = λ x left.
    ⊎_elim
    (λ none. absurd (some left.0 left.1 none))
    (λ made. means_new one db (next.sectors / 8) left.0 made.0 made.1 made.2 x left.2)
    (images_left db stop old new next makes same from to is left.0 left.1)

-- ---- a device with no database

other_fault : (P : Type 0) (found : Option OpenFault) (fault : OpenFault) → found ≡ Some NotADatabase → found ≡ Some fault → (fault ≡ NotADatabase → ⊥) → P
other_fault P found fault none is other = absurd (other (let same : Some fault ≡ Some NotADatabase = sym is ∙ none in cc))

pub no_fault_is_none : (found : Option OpenFault) → found ≡ None → found ≡ Some NotADatabase → ⊥
no_fault_is_none found is none = let bad : None ≡ Some NotADatabase = sym is ∙ none in cc

pub refused_as_none : (fault : OpenFault) (d e : DeviceState) → IsNone d.sectors d.content → IsNamedFor fault d → (fault ≡ Device → HasFailed d e) → KeepsContent d e
    → IsRefusedAsNone (Err (Pages fault)) d e
refused_as_none WrongSize d e none named failed keeps = other_fault _ (first_fault d.sectors d.content) WrongSize none named (λ is. let bad : WrongSize ≡ NotADatabase = is in cc)
refused_as_none NotADatabase d e none named failed keeps = (inl refl, keeps)
refused_as_none (NewerFormat format) d e none named failed keeps =
    other_fault _ (first_fault d.sectors d.content) (NewerFormat format) none named (λ is. let bad : NewerFormat format ≡ NotADatabase = is in cc)
refused_as_none Damaged d e none named failed keeps =
    ⊎_elim
    (λ is. other_fault _ (first_fault d.sectors d.content) Damaged none is (λ same. let bad : Damaged ≡ NotADatabase = same in cc))
    (λ sound. absurd (no_fault_is_none (first_fault d.sectors d.content) sound.0 none))
    named
refused_as_none Device d e none named failed keeps = (inr (refl, failed refl), keeps)
refused_as_none Memory d e none named failed keeps =
    ⊎_elim
    (λ sound. absurd (no_fault_is_none (first_fault d.sectors d.content) sound none))
    (λ is. other_fault _ (first_fault d.sectors d.content) Damaged none is (λ same. let bad : Damaged ≡ NotADatabase = same in cc))
    named
