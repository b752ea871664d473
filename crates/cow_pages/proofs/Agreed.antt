-- Images that agree on all that an array is read from mean the same array.
use Rattle.std.proofs.Common.{◌≡◌, ◌<◌, ◌+◌, ℕ, suc, List, [], ◌∷◌, ◌++◌, length, get_or, refl, sym, ap, subst, ◌∙◌, arith, inl, inr}
use Rattle.std.proofs.lemmas.List.{get_or_default}
use Rattle.sector_device.specs.Device.{Image}
use Rattle.page_roots.specs.declared.format.Format.{Format}
use Rattle.page_roots.specs.Root.{RootFields, home}
use Rattle.page_roots.specs.Sector.{root_at}
use Rattle.page_roots.specs.Chosen.{IsOlder, IsChosen}
use Rattle.page_roots.specs.MapPage.{entries_in}
use Rattle.page_roots.specs.Reach.{IsSound}
use Rattle.page_roots.proofs.Choosing.{chosen_once}
use Rattle.pages.specs.State.{Array}
use Rattle.cow_pages.specs.Image.{bytes_of_page, map_in, array_of, Means}
use Rattle.cow_pages.specs.Agreeing.{AgreesOn}
use Rattle.cow_pages.proofs.Meaning.{homes, same_array}

-- the map of the same map pages
same_map : (image other : Image) (maps : List ℕ) → ((j : ℕ) → j < length maps → bytes_of_page other (get_or maps j 0) ≡ bytes_of_page image (get_or maps j 0))
    → map_in other maps ≡ map_in image maps
same_map image other [] same = refl
same_map image other (m ∷ maps) same =
    ap (λ (bytes : List ℕ). entries_in bytes ++ map_in other maps) (same 0 (omega arith))
    ∙ ap (λ (rest : List ℕ). entries_in (bytes_of_page image m) ++ rest) (same_map image other maps (λ j lt. same (suc j) (omega (arith, lt))))

module _ (root : RootFields) (image other : Image) (agrees : AgreesOn root image other) where
  -- the root is chosen in the other one too
  agreed_chosen : IsChosen image root → IsChosen other root
  agreed_chosen is = record {
    here = ap (λ (bytes : List ℕ). root_at (home root.number) bytes) (agrees.roots (home root.number) (homes root.number).0) ∙ is.here;
    other = subst (λ (bytes : List ℕ). IsOlder (root_at (home (root.number + 1)) bytes) root.number) (sym (agrees.roots (home (root.number + 1)) (homes root.number).1)) is.other;
  }

  -- and has the same map there
  agreed_map : map_in other root.maps ≡ map_in image root.maps
  agreed_map = same_map image other root.maps (λ j lt. agrees.reach (get_or root.maps j 0) (inl (j, lt, get_or_default root.maps j (get_or root.maps j 0) 0 lt)))

  -- which names the same pages
  agreed_array : (l : ℕ) → array_of other (map_in other root.maps) l ≡ array_of image (map_in image root.maps) l
  agreed_array l =
      ap (λ (entries : List ℕ). array_of other entries l) agreed_map
      ∙ same_array other image (map_in image root.maps) (λ k some. agrees.reach (get_or (map_in image root.maps) k 0) (inr (k, refl, some))) l

pub agreed_means : (image other : Image) (root : RootFields) (pages : ℕ) (format : Format) (number : ℕ) (array : Array) → IsChosen image root → AgreesOn root image other
    → Means pages format number array image → Means pages format number array other
agreed_means image other root pages format number array is agrees means =
    let same : root ≡ means.root = chosen_once image root means.root is means.chosen in
    let here : AgreesOn means.root image other = subst (λ (r : RootFields). AgreesOn r image other) same agrees in
    record {
      root = means.root;
      chosen = agreed_chosen means.root image other here means.chosen;
      format_is = means.format_is;
      number_is = means.number_is;
      pages_is = means.pages_is;
      sound = subst (λ (entries : List ℕ). IsSound pages means.root.maps entries) (sym (agreed_map means.root image other here)) means.sound;
      array_is = λ l. agreed_array means.root image other here l ∙ means.array_is l;
    }
