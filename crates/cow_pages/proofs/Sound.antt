-- Sound reaches.
use Rattle.std.proofs.Common.{◌≡◌, ◌⊎◌, ℕ, Bool, List, true, false, Some, None, get_or, refl, sym, ◌∙◌, inl, inr, arith}
use Rattle.std.proofs.lemmas.Bool.{eq-eqb}
use Rattle.sector_device.specs.Device.{Image}
use Rattle.page_roots.specs.Root.{RootFields}
use Rattle.page_roots.specs.Reach.{IsSound, is_sound}
use Rattle.cow_pages.specs.Image.{map_in, fault_of_root}
use Rattle.cow_pages.specs.declared.open.OpenFault.TheVariants.{Damaged}

-- only the entries count
pub sound_same : (pages : ℕ) (maps entries others : List ℕ) → ((l : ℕ) → get_or others l 0 ≡ get_or entries l 0) → IsSound pages maps entries → IsSound pages maps others
sound_same pages maps entries others same sound = record {
  first_in_use = omega (arith, sound.first_in_use, same 0);
  maps_inside = sound.maps_inside;
  entries_inside = λ l. omega (arith, sound.entries_inside l, same l);
  maps_differ = sound.maps_differ;
  entries_differ = λ l k some equal. sound.entries_differ l k (omega (arith, some, same l)) (sym (same l) ∙ equal ∙ same k);
  apart = λ j l lt some equal. sound.apart j l lt (omega (arith, some, same l)) (equal ∙ same l);
}

-- a root of the right size is refused where its reach is not sound, and nowhere else
pub fault_unsound : (image : Image) (root : RootFields) → is_sound root.pages root.maps (map_in image root.maps) ≡ false
    → fault_of_root root.pages image (Some root) ≡ Some Damaged
fault_unsound image root unsound = rw (eq-eqb root.pages root.pages refl, unsound) refl

pub none_sound : (image : Image) (root : RootFields) → is_sound root.pages root.maps (map_in image root.maps) ≡ true
    → fault_of_root root.pages image (Some root) ≡ None
none_sound image root sound = rw (eq-eqb root.pages root.pages refl, sound) refl

pub sound_or_damaged : (image : Image) (root : RootFields) → (fault_of_root root.pages image (Some root) ≡ None) ⊎ (fault_of_root root.pages image (Some root) ≡ Some Damaged)
sound_or_damaged image root = by (is_sound root.pages root.maps (map_in image root.maps)) refl
  where
    by : (sound : Bool) → is_sound root.pages root.maps (map_in image root.maps) ≡ sound
        → (fault_of_root root.pages image (Some root) ≡ None) ⊎ (fault_of_root root.pages image (Some root) ≡ Some Damaged)
    by true is = inl (none_sound image root is)
    by false is = inr (fault_unsound image root is)
