-- Sectors beside the pages are written: the pages stay as they are.
use Rattle.std.proofs.Common.{◌≡◌, ◌<◌, ◌≤◌, ◌+◌, ◌*◌, ℕ, zero, suc, List, Some, length, get_or, ap, subst, sym, refl, inl, ⊎_elim, arith}
use Rattle.sector_device.specs.Timeline.{LeavesOnly, weakened}
use Rattle.sector_device.specs.Device.{DeviceState, Image, IsBehindRoots, timeline}
use Rattle.sector_device.specs.Page.{IsAlone}
use Rattle.sector_device.specs.Sectors.{IsSectorOf, MayHoldSectors, WritesSectors}
use Rattle.page_cache.specs.declared.cache.PageCache.{PageCache}
use Rattle.page_roots.specs.Root.{RootFields, home}
use Rattle.cow_pages.specs.Image.{bytes_of_page, array_of, Means}
use Rattle.cow_pages.specs.Held.{IsSettled}
use Rattle.cow_pages.specs.Cached.{AgreesWith}
use Rattle.cow_pages.specs.Dirty.{DirtyBytes, overlaid_bytes, overlaid_page, overlaid_array}
use Rattle.cow_pages.proofs.Along.{bytes_along, settled_along, array_along}
use Rattle.cow_pages.proofs.Cached.{kept_agrees}
use Rattle.cow_pages.proofs.Loading.{reach_inside}
use Rattle.cow_pages.proofs.Meaning.{homes, settled_means}

module _ (d e : DeviceState) (first : ℕ) (sectors : List (List ℕ)) (behind : (i : ℕ) → i < length sectors → IsBehindRoots (first + i)) (writes : WritesSectors first sectors d e) (same : e.sectors ≡ d.sectors) where
  not_written : (s : ℕ) (c : List ℕ) → (IsBehindRoots s → ⊥) → IsSectorOf first sectors s c → ⊥
  not_written s c apart part = apart (let P : ℕ → Type 0 = IsBehindRoots in subst P (sym part.place) (behind part.index part.within))

  -- any other sector is left alone
  alone : (s : ℕ) → (IsBehindRoots s → ⊥) → IsAlone d e s
  alone s apart = record {
    content = ⊎_elim (λ was. was) (λ part. absurd (not_written s (e.content s) apart part)) (writes.content s);
    left = λ c left. ⊎_elim (λ was. was) (λ part. absurd (not_written s c apart part)) (writes.left s c left);
  }

  root_alone : (s : ℕ) → s < 2 → IsAlone d e s
  root_alone s lt = alone s (λ is. omega (arith, is.0))

  page_alone : (page k : ℕ) → 1 ≤ page → IsAlone d e (8 * page + k)
  page_alone page k some = alone (8 * page + k) (λ is. omega (arith, is.1))

  same_bytes : (page : ℕ) → 1 ≤ page → bytes_of_page e.content page ≡ bytes_of_page d.content page
  same_bytes page some = bytes_along d e page (λ k lt. page_alone page k some)

  -- what is in memory is what is there still
  pub agrees_beside : (cache : PageCache) → AgreesWith cache d.content → AgreesWith cache e.content
  agrees_beside cache agrees = kept_agrees cache d.content e.content agrees (λ page some. inl (same_bytes page some))

  pub working_beside : (dirty : DirtyBytes) (entries : List ℕ) (l : ℕ) → overlaid_array dirty e.content entries l ≡ overlaid_array dirty d.content entries l
  working_beside dirty entries l = page (get_or entries l 0)
    where
      page : (p : ℕ) → overlaid_page dirty e.content p ≡ overlaid_page dirty d.content p
      page zero = refl
      page (suc p) = ap (λ (b : List ℕ). Some (overlaid_bytes (dirty (suc p)) b)) (same_bytes (suc p) (omega arith))

  -- the durable array
  module _ (root : RootFields) (entries : List ℕ) (settled : IsSettled d root entries) where
    pub settled_beside : IsSettled e root entries
    settled_beside = settled_along d e same root entries
        (λ page reach k lt. page_alone page k (reach_inside root.pages root.maps entries settled.durable.held.sound page reach).0)
        (root_alone (home root.number) (homes root.number).0) (root_alone (home (root.number + 1)) (homes root.number).1) settled

    pub array_beside : (l : ℕ) → array_of e.content entries l ≡ array_of d.content entries l
    array_beside l = array_along d e same root entries (λ page reach k lt. page_alone page k (reach_inside root.pages root.maps entries settled.durable.held.sound page reach).0) l

    may_mean : (image : Image) → MayHoldSectors first sectors d image → Means root.pages root.format root.number (array_of d.content entries) image
    may_mean image may =
        let left : (s : ℕ) → s < 8 * root.pages → (IsBehindRoots s → ⊥) → d.left s (image s)
        = λ s lt apart. ⊎_elim (λ was. was) (λ part. absurd (not_written s (image s) apart part)) (may s (omega (arith, lt, settled.durable.sectors))) in
        settled_means d image root entries settled
        (λ s lt. left s (omega (arith, lt, settled.durable.room)) (λ is. omega (arith, lt, is.0)))
        (λ page reach k lt.
        let inside = reach_inside root.pages root.maps entries settled.durable.held.sound page reach in
        left (8 * page + k) (omega (arith, inside.1, lt)) (λ is. omega (arith, inside.0, is.1)))

    pub leaves_beside : LeavesOnly (Means root.pages root.format root.number (array_of d.content entries)) (timeline d) (timeline e)
    leaves_beside = weakened (MayHoldSectors first sectors d) _ (timeline d) (timeline e) may_mean writes.any_moment
