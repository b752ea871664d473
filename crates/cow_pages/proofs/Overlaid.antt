-- What dirty pages change, and what is so once they are written.
use Rattle.std.proofs.Common.{◌≡◌, ◌<◌, ◌≤◌, ◌+◌, ◌*◌, ℕ, zero, suc, List, Bool, true, false, Option, Some, None, IsSome, is_some, get_or, refl, sym, ap, subst, ◌∙◌, arith, inl, inr}
use Rattle.std.proofs.lemmas.Bool.Decides.{eqb_tells}
use Rattle.sector_device.specs.Timeline.{LeavesOnly, IsPresent, joined, weakened}
use Rattle.sector_device.proofs.Runs.{started}
use Rattle.sector_device.specs.Device.{DeviceState, Image, KeepsHistory, timeline}
use Rattle.sector_device.specs.Page.{IsAlone, IsOutside, AgreesOutside}
use Rattle.page_roots.specs.declared.format.Format.{Format}
use Rattle.page_roots.specs.Root.{RootFields, home}
use Rattle.page_roots.specs.Reach.{InReach}
use Rattle.cow_pages.specs.Image.{bytes_of_page, page_of, array_of, Means}
use Rattle.cow_pages.specs.Held.{KeepsContent, IsSettled}
use Rattle.cow_pages.specs.Commit.{IsBeforeOrAfter, IsEither}
use Rattle.cow_pages.specs.Dirty.{DirtyBytes, overlaid_bytes, overlaid_page, overlaid_array, AreOutsideReach, IsClean, AgreesOnClean}
use Rattle.cow_pages.specs.DirtyPages.{held_in}
use Rattle.cow_pages.proofs.Meaning.{homes, settled_means, means_as}
use Rattle.cow_pages.proofs.Loading.{reach_inside}
use Rattle.cow_pages.proofs.Along.{alone_read, bytes_along, settled_along, array_along}
use Rattle.cow_pages.proofs.Writing.{other_page, root_page}

dirty_not : (bytes : Option (List ℕ)) → (IsSome bytes → ⊥) → bytes ≡ None
dirty_not None not = refl
dirty_not (Some bytes) not = absurd (not refl)

pub some_dirty : (bytes : Option (List ℕ)) (is : List ℕ) → bytes ≡ Some is → IsSome bytes
some_dirty bytes is same = subst (λ (b : Option (List ℕ)). IsSome b) (sym same) refl

pub none_dirty : (bytes : Option (List ℕ)) → bytes ≡ None → IsSome bytes → ⊥
none_dirty bytes none some =
    let e : false ≡ true = sym (ap is_some none) ∙ some in
    absurd cc

-- a dirty page has an entry
pub has_entry : (entry : Option Bool) (bytes : List ℕ) → IsSome (held_in entry bytes) → IsSome entry
has_entry (Some is) bytes dirty = refl
has_entry None bytes dirty = dirty

-- one page
pub page_unless : (dirty : DirtyBytes) (image : Image) (page : ℕ) → (0 < page → IsSome (dirty page) → ⊥) → overlaid_page dirty image page ≡ page_of image page
page_unless dirty image zero not = refl
page_unless dirty image (suc page) not =
    ap (λ (w : Option (List ℕ)). Some (overlaid_bytes w (bytes_of_page image (suc page)))) (dirty_not (dirty (suc page)) (not (omega arith)))

pub page_dirty : (dirty : DirtyBytes) (image : Image) (page : ℕ) (bytes : List ℕ) → 1 ≤ page → dirty page ≡ Some bytes → overlaid_page dirty image page ≡ Some bytes
page_dirty dirty image zero bytes some is = absurd (omega arith)
page_dirty dirty image (suc page) bytes some is = ap (λ (w : Option (List ℕ)). Some (overlaid_bytes w (bytes_of_page image (suc page)))) is

pub page_same : (old new : DirtyBytes) (image : Image) (page : ℕ) → (0 < page → new page ≡ old page) → overlaid_page new image page ≡ overlaid_page old image page
page_same old new image zero same = refl
page_same old new image (suc page) same = ap (λ (w : Option (List ℕ)). Some (overlaid_bytes w (bytes_of_page image (suc page)))) (same (omega arith))

-- no page is dirty
pub nothing_dirty : (dirty : DirtyBytes) (image : Image) (entries : List ℕ) → ((page : ℕ) → dirty page ≡ None) → (l : ℕ) → overlaid_array dirty image entries l ≡ array_of image entries l
nothing_dirty dirty image entries none l = page_unless dirty image (get_or entries l 0) (λ positive some. none_dirty (dirty (get_or entries l 0)) (none (get_or entries l 0)) some)

-- the durable array is that of the device
pub durable_overlaid : (pages : ℕ) (maps durable : List ℕ) (dirty : DirtyBytes) (image : Image) → AreOutsideReach pages maps durable dirty → (l : ℕ) → overlaid_array dirty image durable l ≡ array_of image durable l
durable_overlaid pages maps durable dirty image can l =
    page_unless dirty image (get_or durable l 0) (λ positive some. (can (get_or durable l 0) some).2 (inr (l, refl, positive)))

-- the sectors of no dirty page
pub page_clear : (dirty : DirtyBytes) (page : ℕ) → (IsSome (dirty page) → ⊥) → (k : ℕ) → k < 8 → IsClean dirty (8 * page + k)
page_clear dirty page not k lt other some =
    other_page other page k (λ same. not (subst (λ (p : ℕ). IsSome (dirty p)) (sym same) some)) lt

pub clear_none : (dirty : DirtyBytes) (old : DeviceState) → IsPresent (timeline old) → LeavesOnly (AgreesOnClean dirty old) (timeline old) (timeline old)
clear_none dirty old present = started (AgreesOnClean dirty old) (timeline old) present (λ image left s lt clear. left s lt)

-- one page more is written
module _ (dirty : DirtyBytes) (old mid new : DeviceState) (history : KeepsHistory old mid) (page : ℕ) (some : IsSome (dirty page))
    (alone : (s : ℕ) → IsClean dirty s → IsAlone old mid s) where
  agrees_more : (image : Image) → AgreesOutside (8 * page) 8 mid image → AgreesOnClean dirty old image
  agrees_more image agrees s lt clear = (alone s clear).left (image s) (agrees s (omega (arith, lt, history.sectors)) (clear page some))

  pub leaves_more : LeavesOnly (AgreesOnClean dirty old) (timeline old) (timeline mid) → LeavesOnly (AgreesOutside (8 * page) 8 mid) (timeline mid) (timeline new)
      → LeavesOnly (AgreesOnClean dirty old) (timeline old) (timeline new)
  leaves_more so_far leaves = joined _ (timeline old) (timeline mid) (timeline new) so_far (weakened _ _ (timeline mid) (timeline new) agrees_more leaves)

  pub alone_more : ((s : ℕ) → IsOutside (8 * page) 8 s → IsAlone mid new s) → (s : ℕ) → IsClean dirty s → IsAlone old new s
  alone_more here s clear =
      let one = alone s clear in
      let two = here s (clear page some) in
      record { content = two.content ∙ one.content; left = λ c now. one.left c (two.left c now) }

-- all pages are written
module _ (d e : DeviceState) (dirty : DirtyBytes) where
  module _ (root : RootFields) (durable : List ℕ) (can : AreOutsideReach root.pages root.maps durable dirty) (settled : IsSettled d root durable) where
    root_clear : (s : ℕ) → s < 2 → IsClean dirty s
    root_clear s lt page some = root_page page s (can page some).0 lt

    reach_clear : (page : ℕ) → InReach root.maps durable page → (k : ℕ) → k < 8 → IsClean dirty (8 * page + k)
    reach_clear page reach = page_clear dirty page (λ some. (can page some).2 reach)

    agrees_means : (image : Image) → AgreesOnClean dirty d image → Means root.pages root.format root.number (array_of d.content durable) image
    agrees_means image agrees =
        let inside : (s : ℕ) → s < 8 * root.pages → s < d.sectors = λ s lt. omega (arith, lt, settled.durable.sectors) in
        settled_means d image root durable settled
        (λ s lt. agrees s (inside s (omega (arith, lt, settled.durable.room))) (root_clear s lt))
        (λ page reach k lt. agrees (8 * page + k) (inside (8 * page + k) (let in_pages = reach_inside root.pages root.maps durable settled.durable.held.sound page reach in omega (arith, in_pages.1, lt)))
        (reach_clear page reach k lt))

    pub leaves_durable : LeavesOnly (AgreesOnClean dirty d) (timeline d) (timeline e) → LeavesOnly (Means root.pages root.format root.number (array_of d.content durable)) (timeline d) (timeline e)
    leaves_durable leaves = weakened _ _ (timeline d) (timeline e) agrees_means leaves

    module _ (sectors : e.sectors ≡ d.sectors) (alone : (s : ℕ) → IsClean dirty s → IsAlone d e s) where
      reach_alone : (page : ℕ) → InReach root.maps durable page → (k : ℕ) → k < 8 → IsAlone d e (8 * page + k)
      reach_alone page reach k lt = alone (8 * page + k) (reach_clear page reach k lt)

      pub settled_still : IsSettled e root durable
      settled_still = settled_along d e sectors root durable reach_alone
          (alone (home root.number) (root_clear (home root.number) (homes root.number).0))
          (alone (home (root.number + 1)) (root_clear (home (root.number + 1)) (homes root.number).1)) settled

      pub durable_still : (l : ℕ) → array_of e.content durable l ≡ array_of d.content durable l
      durable_still l = array_along d e sectors root durable reach_alone l

  module _ (alone : (s : ℕ) → IsClean dirty s → IsAlone d e s) (written : (page : ℕ) (bytes : List ℕ) → dirty page ≡ Some bytes → bytes_of_page e.content page ≡ bytes) where
    bytes_written : (page : ℕ) (bytes : Option (List ℕ)) → dirty page ≡ bytes → bytes_of_page e.content page ≡ overlaid_bytes bytes (bytes_of_page d.content page)
    bytes_written page None is = bytes_along d e page (λ k lt. alone (8 * page + k) (page_clear dirty page (none_dirty (dirty page) is) k lt))
    bytes_written page (Some bytes) is = written page bytes is

    page_written : (page : ℕ) → page_of e.content page ≡ overlaid_page dirty d.content page
    page_written zero = refl
    page_written (suc page) = ap (λ (b : List ℕ). Some b) (bytes_written (suc page) (dirty (suc page)) refl)

    -- the array that the device has now
    pub array_written : (entries : List ℕ) (l : ℕ) → array_of e.content entries l ≡ overlaid_array dirty d.content entries l
    array_written entries l = page_written (get_or entries l 0)

-- calls that wrote nothing
pub overlaid_read : (dirty : DirtyBytes) (d e : DeviceState) → KeepsContent d e → (entries : List ℕ) (l : ℕ) → overlaid_array dirty e.content entries l ≡ overlaid_array dirty d.content entries l
overlaid_read dirty d e reads entries l = page (get_or entries l 0)
  where
    page : (p : ℕ) → overlaid_page dirty e.content p ≡ overlaid_page dirty d.content p
    page zero = refl
    page (suc p) = ap (λ (b : List ℕ). Some (overlaid_bytes (dirty (suc p)) b)) (bytes_along d e (suc p) (λ k lt. alone_read d e reads (8 * suc p + k)))

-- a page that was written now
pub written_now : (dirty : DirtyBytes) (new : DeviceState) (page : ℕ) (bytes : List ℕ) → dirty page ≡ Some bytes → bytes_of_page new.content page ≡ bytes
    → (other : ℕ) (others : List ℕ) → dirty other ≡ Some others → other ≡ page → bytes_of_page new.content other ≡ others
written_now dirty new page bytes waits done other others also same =
    let bytes_same : Some bytes ≡ Some others = sym waits ∙ ap dirty (sym same) ∙ also in
    let equal : bytes ≡ others = cc in
    ap (λ (p : ℕ). bytes_of_page new.content p) same ∙ done ∙ equal

-- a page that was written stays so when another one is, and when it is written again
pub written_more : (dirty : DirtyBytes) (mid new : DeviceState) (page : ℕ) (bytes : List ℕ) → dirty page ≡ Some bytes → bytes_of_page new.content page ≡ bytes
    → ((s : ℕ) → IsOutside (8 * page) 8 s → IsAlone mid new s) → (other : ℕ) (others : List ℕ) → dirty other ≡ Some others → bytes_of_page mid.content other ≡ others
    → bytes_of_page new.content other ≡ others
written_more dirty mid new page bytes waits done alone other others also was = elim (eqb_tells other page) [
  | inl same ↦ written_now dirty new page bytes waits done other others also same.1
  | inr apart ↦ bytes_along mid new other (λ k lt. alone (8 * other + k) (other_page page other k apart.1 lt)) ∙ was
]

-- then the next root is written
module _ (d mid : DeviceState) (dirty : DirtyBytes) (root : RootFields) (durable : List ℕ) (can : AreOutsideReach root.pages root.maps durable dirty) (settled : IsSettled d root durable)
    (sectors : mid.sectors ≡ d.sectors) (alone : (s : ℕ) → IsClean dirty s → IsAlone d mid s)
    (written : (page : ℕ) (bytes : List ℕ) → dirty page ≡ Some bytes → bytes_of_page mid.content page ≡ bytes) (working : List ℕ) (next : Format) where
  either_before : (image : Image) → IsBeforeOrAfter mid root next durable working image → IsEither root.pages root.format root.number next (array_of d.content durable) (overlaid_array dirty d.content working) image
  either_before image means = elim means [
    | inl was ↦ inl (means_as root.pages root.format root.number (array_of mid.content durable) (array_of d.content durable) image (durable_still d mid dirty root durable can settled sectors alone) was)
    | inr is ↦ inr (means_as root.pages next (root.number + 1) (array_of mid.content working) (overlaid_array dirty d.content working) image (array_written d mid dirty alone written working) is)
  ]

  pub leaves_both : (e : DeviceState) → LeavesOnly (AgreesOnClean dirty d) (timeline d) (timeline mid) → LeavesOnly (IsBeforeOrAfter mid root next durable working) (timeline mid) (timeline e)
      → LeavesOnly (IsEither root.pages root.format root.number next (array_of d.content durable) (overlaid_array dirty d.content working)) (timeline d) (timeline e)
  leaves_both e first second = joined _ (timeline d) (timeline mid) (timeline e)
      (weakened _ _ (timeline d) (timeline mid) (λ image means. inl means) (leaves_durable d mid dirty root durable can settled first))
      (weakened _ _ (timeline mid) (timeline e) either_before second)

-- a logical page that has a physical page is in use
pub page_used : (dirty : DirtyBytes) (image : Image) (page : ℕ) → (page ≡ 0 → ⊥) → IsSome (overlaid_page dirty image page)
page_used dirty image zero some = absurd (some refl)
page_used dirty image (suc page) some = refl
