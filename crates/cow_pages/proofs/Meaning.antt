-- What the images that a device may leave mean.
use Rattle.std.proofs.Common.{◌≡◌, ◌≢◌, ◌<◌, ◌+◌, ◌*◌, ◌⊎◌, ℕ, zero, suc, List, Some, get_or, refl, sym, ap, subst, ◌∙◌, arith, inl, inr}
use Rattle.std.proofs.lemmas.List.{get_or_default}
use Rattle.sector_device.specs.Device.{DeviceState, Image, IsLeft}
use Rattle.page_roots.specs.declared.format.Format.{Format}
use Rattle.page_roots.specs.Root.{RootFields, home}
use Rattle.page_roots.specs.Sector.{root_at}
use Rattle.page_roots.specs.Chosen.{IsOlder}
use Rattle.page_roots.specs.MapPage.{entries_in}
use Rattle.page_roots.specs.Reach.{IsSound, InReach}
use Rattle.page_roots.specs.declared.sector.RootSector.{RootSector}
use Rattle.page_roots.specs.declared.sector.RootSector.TheVariants.{Found}
use Rattle.page_roots.proofs.Choosing.{chosen_once}
use Rattle.pages.specs.State.{Array}
use Rattle.cow_pages.specs.Image.{bytes_of_page, map_in, page_of, array_of, Means}
use Rattle.cow_pages.specs.Held.{AreSpelled, IsHeld, IsDurable, IsSettled, IsRecoverable}
use Rattle.cow_pages.proofs.Bytes.{same_page}
use Rattle.cow_pages.proofs.Parts.{spelled_map}
use Rattle.cow_pages.proofs.Sound.{sound_same}
use Rattle.cow_pages.proofs.Loading.{reach_inside}

-- the two root sectors are two, and the first two
pub homes : (n : ℕ) → (home n < 2) × (home (n + 1) < 2) × (home n ≢ home (n + 1)) × (home (n + 1 + 1) ≡ home n)
homes n = (omega arith, omega arith, omega arith, omega arith)

-- an image holds, in the sectors of a root's reach, what a stop may leave there
abbrev pub IsLeftIn : DeviceState → List ℕ → List ℕ → Image → Type 0
IsLeftIn d maps entries image = (page : ℕ) → InReach maps entries page → (k : ℕ) → k < 8 → d.left (8 * page + k) (image (8 * page + k))

pub left_in : (d : DeviceState) (pages : ℕ) (maps entries : List ℕ) (image : Image) → d.sectors ≡ 8 * pages → IsSound pages maps entries → IsLeft d image → IsLeftIn d maps entries image
left_in d pages maps entries image sectors sound left page reach k lt =
    let inside = reach_inside pages maps entries sound page reach in
    left (8 * page + k) (omega (arith, inside.1, lt, sectors))

-- the page of an entry, in images that agree on it
pub same_entry : (a b : Image) (page : ℕ) → (0 < page → bytes_of_page a page ≡ bytes_of_page b page) → page_of a page ≡ page_of b page
same_entry a b zero same = refl
same_entry a b (suc page) same = ap (λ (bytes : List ℕ). Some bytes) (same (omega arith))

-- the array of entries, in images that agree on the pages that they name
pub same_array : (a b : Image) (entries : List ℕ) → ((l : ℕ) → 0 < get_or entries l 0 → bytes_of_page a (get_or entries l 0) ≡ bytes_of_page b (get_or entries l 0))
    → (l : ℕ) → array_of a entries l ≡ array_of b entries l
same_array a b entries same l = same_entry a b (get_or entries l 0) (same l)

module _ (d : DeviceState) (image : Image) where
  -- the reach of a root that is held is in the image as it is on the device
  pub held_bytes : (pages : ℕ) (maps entries : List ℕ) → IsHeld d pages maps entries → IsLeftIn d maps entries image → (page : ℕ) → InReach maps entries page → bytes_of_page image page ≡ bytes_of_page d.content page
  held_bytes pages maps entries held left page reach = same_page image d.content page (λ k lt. held.fixed page reach k lt (image (8 * page + k)) (left page reach k lt))

  held_spelled : (pages : ℕ) (maps entries : List ℕ) → IsHeld d pages maps entries → IsLeftIn d maps entries image → AreSpelled (bytes_of_page image) maps entries
  held_spelled pages maps entries held left = record {
    each = λ j lt. ap (λ (bytes : List ℕ). entries_in bytes) (held_bytes pages maps entries held left (get_or maps j 0) (inl (j, lt, get_or_default maps j (get_or maps j 0) 0 lt))) ∙ held.spelled.each j lt;
    enough = held.spelled.enough;
    beyond = held.spelled.beyond;
  }

  held_array : (pages : ℕ) (maps entries : List ℕ) → IsHeld d pages maps entries → IsLeftIn d maps entries image → (l : ℕ) → array_of image (map_in image maps) l ≡ array_of d.content entries l
  held_array pages maps entries held left l =
      ap (λ (p : ℕ). page_of image p) (spelled_map (bytes_of_page image) maps entries (held_spelled pages maps entries held left) l)
      ∙ same_entry image d.content (get_or entries l 0) (λ some. held_bytes pages maps entries held left (get_or entries l 0) (inr (l, refl, some)))

  held_sound : (pages : ℕ) (maps entries : List ℕ) → IsHeld d pages maps entries → IsLeftIn d maps entries image → IsSound pages maps (map_in image maps)
  held_sound pages maps entries held left =
      sound_same pages maps entries (map_in image maps) (spelled_map (bytes_of_page image) maps entries (held_spelled pages maps entries held left)) held.sound

  -- the durable root is the chosen one where the other root sector was left older
  pub durable_means : (root : RootFields) (entries : List ℕ) → IsDurable d root entries → d.left (home root.number) (image (home root.number)) → IsLeftIn d root.maps entries image
      → IsOlder (root_at (home (root.number + 1)) (image (home (root.number + 1)))) root.number → Means root.pages root.format root.number (array_of d.content entries) image
  durable_means root entries durable here left older = record {
    root = root;
    chosen = record {
      here = ap (λ (bytes : List ℕ). root_at (home root.number) bytes) (durable.here_fixed (image (home root.number)) here) ∙ durable.here;
      other = older;
    };
    format_is = refl;
    number_is = refl;
    pages_is = refl;
    sound = held_sound root.pages root.maps entries durable.held left;
    array_is = held_array root.pages root.maps entries durable.held left;
  }

  -- where the next root was left, it is the chosen one
  pub next_means : (root : RootFields) (entries : List ℕ) (next : RootFields) (next_entries : List ℕ) → IsDurable d root entries → next.number ≡ root.number + 1
      → IsHeld d next.pages next.maps next_entries → d.left (home root.number) (image (home root.number)) → IsLeftIn d next.maps next_entries image
      → root_at (home (root.number + 1)) (image (home (root.number + 1))) ≡ Found next → Means next.pages next.format next.number (array_of d.content next_entries) image
  next_means root entries next next_entries durable number_is held here left found = record {
    root = next;
    chosen = record {
      here = ap (λ (n : ℕ). root_at (home n) (image (home n))) number_is ∙ found;
      other =
          let there : home (next.number + 1) ≡ home root.number = ap (λ (n : ℕ). home (n + 1)) number_is ∙ (homes root.number).3 in
          let is : root_at (home (next.number + 1)) (image (home (next.number + 1))) ≡ Found root =
          ap (λ (s : ℕ). root_at s (image s)) there ∙ ap (λ (bytes : List ℕ). root_at (home root.number) bytes) (durable.here_fixed (image (home root.number)) here) ∙ durable.here in
          subst (λ (r : RootSector). IsOlder r next.number) (sym is) (omega (arith, number_is));
    };
    format_is = refl;
    number_is = refl;
    pages_is = refl;
    sound = held_sound next.pages next.maps next_entries held left;
    array_is = held_array next.pages next.maps next_entries held left;
  }

-- between two commits, each image means the durable array
pub settled_means : (d : DeviceState) (image : Image) (root : RootFields) (entries : List ℕ) → IsSettled d root entries
    → ((s : ℕ) → s < 2 → d.left s (image s)) → IsLeftIn d root.maps entries image → Means root.pages root.format root.number (array_of d.content entries) image
settled_means d image root entries settled roots left =
    durable_means d image root entries settled.durable (roots (home root.number) (homes root.number).0) left
    (settled.other (image (home (root.number + 1))) (roots (home (root.number + 1)) (homes root.number).1))

-- a root sector that a stop may leave is one of those of the device
pub roots_left : (d : DeviceState) (root : RootFields) (entries : List ℕ) (image : Image) → IsDurable d root entries → IsLeft d image → (s : ℕ) → s < 2 → d.left s (image s)
roots_left d root entries image durable left s lt = left s (omega (arith, lt, durable.sectors, durable.room))

pub settled_left : (d : DeviceState) (image : Image) (root : RootFields) (entries : List ℕ) → IsSettled d root entries → IsLeft d image → Means root.pages root.format root.number (array_of d.content entries) image
settled_left d image root entries settled left =
    settled_means d image root entries settled (roots_left d root entries image settled.durable left)
    (left_in d root.pages root.maps entries image settled.durable.sectors settled.durable.held.sound left)

-- the content itself means it, as a stop may leave it
pub content_means : (d : DeviceState) (root : RootFields) (entries : List ℕ) → IsSettled d root entries → IsLeft d d.content → Means root.pages root.format root.number (array_of d.content entries) d.content
content_means d root entries settled left = settled_left d d.content root entries settled left

-- an image means one array at most
pub one_meaning : (pages others : ℕ) (f g : Format) (m n : ℕ) (a b : Array) (image : Image) → Means pages f m a image → Means others g n b image → (f ≡ g) × (m ≡ n) × ((l : ℕ) → a l ≡ b l)
one_meaning pages others f g m n a b image first second =
    let same = chosen_once image first.root second.root first.chosen second.chosen in (
      sym first.format_is ∙ ap (λ (r : RootFields). r.format) same ∙ second.format_is,
      sym first.number_is ∙ ap (λ (r : RootFields). r.number) same ∙ second.number_is,
      λ l. sym (first.array_is l) ∙ ap (λ (r : RootFields). array_of image (map_in image r.maps) l) same ∙ second.array_is l,
    )

-- another array of the same pages
pub means_as : (pages : ℕ) (format : Format) (number : ℕ) (a b : Array) (image : Image) → ((l : ℕ) → a l ≡ b l) → Means pages format number a image → Means pages format number b image
means_as pages format number a b image same means = record {
  root = means.root;
  chosen = means.chosen;
  format_is = means.format_is;
  number_is = means.number_is;
  pages_is = means.pages_is;
  sound = means.sound;
  array_is = λ l. means.array_is l ∙ same l;
}

-- between two commits there is no next root to be left
pub settled_recoverable : (d : DeviceState) (root : RootFields) (entries : List ℕ) → IsSettled d root entries → IsRecoverable d root entries
settled_recoverable d root entries settled = record {
  durable = settled.durable;
  other = λ c now. inl (settled.other c now);
}

-- around the root's write, each image means the durable array or the next one
pub recoverable_left : (d : DeviceState) (image : Image) (root : RootFields) (entries : List ℕ) → IsRecoverable d root entries → IsLeft d image
    → Means root.pages root.format root.number (array_of d.content entries) image ⊎ ((format : Format) × (next : Array) × Means root.pages format (root.number + 1) next image)
recoverable_left d image root entries recoverable left =
    let durable = recoverable.durable in
    let roots = roots_left d root entries image durable left in
    elim (recoverable.other (image (home (root.number + 1))) (roots (home (root.number + 1)) (homes root.number).1)) [
      | inl older ↦ inl (durable_means d image root entries durable (roots (home root.number) (homes root.number).0) (left_in d root.pages root.maps entries image durable.sectors durable.held.sound left) older)
      | inr at ↦
          let next = at.0 in
          let held = at.5 in
          let means = next_means d image root entries next at.1 durable at.3 held (roots (home root.number) (homes root.number).0)
          (left_in d next.pages next.maps at.1 image (durable.sectors ∙ ap (λ (n : ℕ). 8 * n) (sym at.4)) held.sound left) at.2 in
          inr (
            next.format,
            array_of d.content at.1,
            subst (λ (n : ℕ). Means root.pages next.format n (array_of d.content at.1) image) at.3
                (subst (λ (n : ℕ). Means n next.format next.number (array_of d.content at.1) image) at.4 means),
          )
    ]
