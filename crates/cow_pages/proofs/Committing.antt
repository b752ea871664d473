-- The map pages of the next root, once they are written.
use Rattle.std.proofs.Common.{◌≡◌, ◌≢◌, ◌<◌, ◌+◌, ◌*◌, ℕ, List, length, get_or, sym, ap, subst, ◌∙◌, arith, inl, inr}
use Rattle.sector_device.specs.Timeline.{LeavesOnly, IsPresent, joined, weakened}
use Rattle.sector_device.proofs.Runs.{started}
use Rattle.sector_device.specs.Device.{DeviceState, Image, KeepsHistory, timeline}
use Rattle.sector_device.specs.Page.{IsAlone, IsOutside, AgreesOutside}
use Rattle.page_roots.specs.Root.{RootFields, home}
use Rattle.page_roots.specs.MapPage.{entries_in}
use Rattle.page_roots.specs.Reach.{InReach, IsSound}
use Rattle.cow_pages.specs.declared.page_map.PageMap.{PageMap}
use Rattle.cow_pages.specs.Image.{bytes_of_page, array_of, Means}
use Rattle.cow_pages.specs.Held.{part_of, IsSettled}
use Rattle.cow_pages.specs.Commit.{IsApart, AgreesApart, IsBeforeOrAfter, CanSwitch, CanCommit}
use Rattle.cow_pages.proofs.Meaning.{homes, same_array, settled_means, means_as}
use Rattle.cow_pages.proofs.Loading.{reach_inside}
use Rattle.cow_pages.proofs.Along.{bytes_along, settled_along, array_along}
use Rattle.cow_pages.proofs.Writing.{other_page, root_page}
use Rattle.cow_pages.proofs.Switched.{next_sound}

-- one page more is written
module _ (pages : List ℕ) (old mid new : DeviceState) (history : KeepsHistory old mid) (j : ℕ) (some : 0 < get_or pages j 0)
    (alone : (s : ℕ) → IsApart pages s → IsAlone old mid s) where
  agrees_more : (image : Image) → AgreesOutside (8 * get_or pages j 0) 8 mid image → AgreesApart pages old image
  agrees_more image agrees s lt apart = (alone s apart).left (image s) (agrees s (omega (arith, lt, history.sectors)) (apart j some))

  pub leaves_more : LeavesOnly (AgreesApart pages old) (timeline old) (timeline mid) → LeavesOnly (AgreesOutside (8 * get_or pages j 0) 8 mid) (timeline mid) (timeline new)
      → LeavesOnly (AgreesApart pages old) (timeline old) (timeline new)
  leaves_more so_far leaves = joined _ (timeline old) (timeline mid) (timeline new) so_far (weakened _ _ (timeline mid) (timeline new) agrees_more leaves)

  pub alone_more : ((s : ℕ) → IsOutside (8 * get_or pages j 0) 8 s → IsAlone mid new s) → (s : ℕ) → IsApart pages s → IsAlone old new s
  alone_more here s apart =
      let one = alone s apart in
      let two = here s (apart j some) in
      record { content = two.content ∙ one.content; left = λ c now. one.left c (two.left c now) }

pub apart_none : (pages : List ℕ) (old : DeviceState) → IsPresent (timeline old) → LeavesOnly (AgreesApart pages old) (timeline old) (timeline old)
apart_none pages old present = started (AgreesApart pages old) (timeline old) present (λ image left s lt apart. left s lt)

module _ (d : DeviceState) (map : PageMap) (next : RootFields) (can : CanCommit d map next) where
  -- the pages that stay apart from the reserved ones
  page_apart : (page : ℕ) → ((j : ℕ) → 0 < get_or map.reserved j 0 → page ≢ get_or map.reserved j 0) → (k : ℕ) → k < 8 → IsApart map.reserved (8 * page + k)
  page_apart page differs k lt j some = other_page (get_or map.reserved j 0) page k (differs j some) lt

  root_apart : (s : ℕ) → s < 2 → IsApart map.reserved s
  root_apart s lt j some = root_page (get_or map.reserved j 0) s some lt

  reach_apart : (page : ℕ) → InReach map.root.maps map.durable.items page → (k : ℕ) → k < 8 → IsApart map.reserved (8 * page + k)
  reach_apart page reach = page_apart page (λ j some same. map.consistent.reserved_apart j some (subst (λ (p : ℕ). InReach map.root.maps map.durable.items p) same reach))

  entry_apart : (l : ℕ) → (k : ℕ) → k < 8 → IsApart map.reserved (8 * get_or map.working.items l 0 + k)
  entry_apart l = page_apart (get_or map.working.items l 0) (λ j some same. map.consistent.reserved_unnamed j l some same)

  agrees_means : (image : Image) → AgreesApart map.reserved d image → Means map.root.pages map.root.format map.root.number (array_of d.content map.durable.items) image
  agrees_means image agrees =
      let settled = can.settled in
      let inside : (s : ℕ) → s < 8 * map.root.pages → s < d.sectors = λ s lt. omega (arith, lt, settled.durable.sectors) in
      settled_means d image map.root map.durable.items settled
      (λ s lt. agrees s (inside s (omega (arith, lt, settled.durable.room))) (root_apart s lt))
      (λ page reach k lt. agrees (8 * page + k) (inside (8 * page + k) (let in_pages = reach_inside map.root.pages map.root.maps map.durable.items settled.durable.held.sound page reach in omega (arith, in_pages.1, lt)))
      (reach_apart page reach k lt))

  pub leaves_before : (mid : DeviceState) → LeavesOnly (AgreesApart map.reserved d) (timeline d) (timeline mid)
      → LeavesOnly (IsBeforeOrAfter d map.root next.format map.durable.items map.working.items) (timeline d) (timeline mid)
  leaves_before mid leaves = weakened _ _ (timeline d) (timeline mid) (λ image agrees. inl (agrees_means image agrees)) leaves

  module _ (mid : DeviceState) (history : KeepsHistory d mid) (alone : (s : ℕ) → IsApart map.reserved s → IsAlone d mid s) where
    pub working_same : (l : ℕ) → array_of mid.content map.working.items l ≡ array_of d.content map.working.items l
    working_same l = same_array mid.content d.content map.working.items (λ k some. bytes_along d mid (get_or map.working.items k 0) (λ i lt. alone (8 * get_or map.working.items k 0 + i) (entry_apart k i lt))) l

    pub durable_same : (l : ℕ) → array_of mid.content map.durable.items l ≡ array_of d.content map.durable.items l
    durable_same l = array_along d mid history.sectors map.root map.durable.items (λ page reach k lt. alone (8 * page + k) (reach_apart page reach k lt)) l

    pub settled_mid : IsSettled mid map.root map.durable.items
    settled_mid = settled_along d mid history.sectors map.root map.durable.items (λ page reach k lt. alone (8 * page + k) (reach_apart page reach k lt))
        (alone (home map.root.number) (root_apart (home map.root.number) (homes map.root.number).0))
        (alone (home (map.root.number + 1)) (root_apart (home (map.root.number + 1)) (homes map.root.number).1)) can.settled

    module _ (written : (j : ℕ) → 0 < get_or map.reserved j 0 → entries_in (bytes_of_page mid.content (get_or map.reserved j 0)) ≡ part_of map.working.items j) where
      page_spelled : (j : ℕ) → j < length next.maps → entries_in (bytes_of_page mid.content (get_or next.maps j 0)) ≡ part_of map.working.items j
      page_spelled j lt = elim (can.next_is.maps.each j lt) [
        | inl new ↦ ap (λ (p : ℕ). entries_in (bytes_of_page mid.content p)) new.1 ∙ written j new.0
        | inr preserved ↦ ap (λ (p : ℕ). entries_in (bytes_of_page mid.content p)) preserved.2 ∙ settled_mid.durable.held.spelled.each j preserved.1 ∙ sym (can.next_is.stays j lt preserved.0)
      ]

      pub can_switch : CanSwitch mid map.root map.durable.items next map.working.items
      can_switch = record {
        faithful = history.faithful can.faithful;
        settled = settled_mid;
        number_is = can.next_is.number_is;
        pages_is = can.next_is.pages_is;
        spelled = record {
          each = page_spelled;
          enough = omega (arith, can.next_is.most, map.consistent.working_count);
          beyond = can.next_is.beyond;
        };
        sound = subst (λ (n : ℕ). IsSound n next.maps map.working.items) (sym can.next_is.pages_is) (next_sound map.root.pages map.root.maps map.durable.items map.reserved map.working.items map.allocator map.consistent next.maps can.next_is.maps can.next_is.used);
      }

      before_mid : (image : Image) → IsBeforeOrAfter mid map.root next.format map.durable.items map.working.items image → IsBeforeOrAfter d map.root next.format map.durable.items map.working.items image
      before_mid image is = elim is [
        | inl old ↦ inl (means_as map.root.pages map.root.format map.root.number (array_of mid.content map.durable.items) (array_of d.content map.durable.items) image durable_same old)
        | inr new ↦ inr (means_as map.root.pages next.format (map.root.number + 1) (array_of mid.content map.working.items) (array_of d.content map.working.items) image working_same new)
      ]

      pub leaves_across : (new : DeviceState) → LeavesOnly (AgreesApart map.reserved d) (timeline d) (timeline mid) → LeavesOnly (IsBeforeOrAfter mid map.root next.format map.durable.items map.working.items) (timeline mid) (timeline new)
          → LeavesOnly (IsBeforeOrAfter d map.root next.format map.durable.items map.working.items) (timeline d) (timeline new)
      leaves_across new first second = joined _ (timeline d) (timeline mid) (timeline new) (leaves_before mid first) (weakened _ _ (timeline mid) (timeline new) before_mid second)
