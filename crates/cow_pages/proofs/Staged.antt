-- A commit's way over the device, one call at a time.
use Rattle.std.proofs.Common.{◌≡◌, ◌≢◌, ◌<◌, ◌≤◌, ◌+◌, ◌*◌, ◌⊎◌, ℕ, List, get_or, refl, sym, ap, subst, ◌∙◌, arith, inl, inr}
use Rattle.sector_device.specs.Timeline.{LeavesOnly, IsPresent}
use Rattle.sector_device.proofs.Runs.{started, goes_on}
use Rattle.sector_device.specs.Device.{DeviceState, Image, IsLeft, KeepsHistory, OnlyReads, Writes, IsSynced, timeline}
use Rattle.sector_device.specs.Page.{IsAlone}
use Rattle.page_roots.specs.Root.{RootFields, home}
use Rattle.page_roots.specs.Sector.{root_at}
use Rattle.page_roots.specs.Chosen.{IsOlder}
use Rattle.page_roots.specs.declared.sector.RootSector.{RootSector}
use Rattle.page_roots.specs.declared.sector.RootSector.TheVariants.{Found}
use Rattle.cow_pages.specs.Image.{array_of, Means}
use Rattle.cow_pages.specs.Held.{IsHeld, IsDurable, IsSettled, IsRecoverable}
use Rattle.cow_pages.specs.Commit.{IsBeforeOrAfter, CanSwitch}
use Rattle.cow_pages.proofs.Meaning.{homes, means_as, settled_left, durable_means, next_means, left_in, roots_left, same_array}
use Rattle.cow_pages.proofs.Loading.{reach_inside, spelled_same}
use Rattle.cow_pages.proofs.Bytes.{same_page}
use Rattle.cow_pages.proofs.Along.{held_along, durable_along, settled_along, array_along}

alone_reads : (d e : DeviceState) → OnlyReads d e → (s : ℕ) → IsAlone d e s
alone_reads d e only_reads s = record { content = only_reads.content s; left = only_reads.left s }

alone_writes : (x : ℕ) (bytes : List ℕ) (d e : DeviceState) → Writes x bytes d e → (s : ℕ) → s ≢ x → IsAlone d e s
alone_writes x bytes d e writes s other = record { content = writes.others s other; left = λ c now. writes.others_left s c other now }

module _ (first : DeviceState) (root : RootFields) (durable : List ℕ) (next : RootFields) (working : List ℕ) (can : CanSwitch first root durable next working) where
  abbrev P : Image → Type 0
  P = IsBeforeOrAfter first root next.format durable working

  -- what both arrays read is as it was
  abbrev Same : DeviceState → Type 0
  Same d = (s : ℕ) → 2 ≤ s → d.content s ≡ first.content s

  -- before the root's sector is written
  pub record Staged (d : DeviceState) : Type 0 where
    pub faithful : d.faithful
    pub leaves : LeavesOnly P (timeline first) (timeline d)
    pub settled : IsSettled d root durable
    pub same : (s : ℕ) → d.content s ≡ first.content s
    pub sectors : d.sectors ≡ first.sectors

  staged_left : (d : DeviceState) → IsSettled d root durable → ((l : ℕ) → array_of d.content durable l ≡ array_of first.content durable l) → (image : Image) → IsLeft d image → P image
  staged_left d settled same image left = inl (means_as root.pages root.format root.number (array_of d.content durable) (array_of first.content durable) image same (settled_left d image root durable settled left))

  pub begun : IsPresent (timeline first) → Staged first
  begun only_now = record {
    faithful = can.faithful;
    leaves = started P (timeline first) only_now (staged_left first can.settled (λ l. refl));
    settled = can.settled;
    same = λ s. refl;
    sectors = refl;
  }

  pub synced_first : (e : DeviceState) → IsPresent (timeline first) → KeepsHistory first e → OnlyReads first e → Staged e
  synced_first e only_now history only_reads =
      let alone = alone_reads first e only_reads in
      let settled : IsSettled e root durable = settled_along first e history.sectors root durable (λ page reach k lt. alone (8 * page + k)) (alone (home root.number)) (alone (home (root.number + 1))) can.settled in
      record {
        faithful = history.faithful can.faithful;
        leaves = goes_on P (timeline first) (timeline first) (timeline e) (begun only_now).leaves only_reads.time
            (staged_left e settled (array_along first e history.sectors root durable (λ page reach k lt. alone (8 * page + k))));
        settled = settled;
        same = only_reads.content;
        sectors = history.sectors;
      }

  -- after the sync the next map and all that it names can be left in one way only
  pub next_held : (d : DeviceState) → Staged d → IsSynced d → IsHeld d next.pages next.maps working
  next_held d staged synced = record {
    spelled = spelled_same d.content first.content next.maps working staged.same can.spelled;
    sound = can.sound;
    fixed = λ page reach k lt.
        let inside = reach_inside next.pages next.maps working can.sound page reach in
        synced (8 * page + k) (omega (arith, inside.1, lt, can.pages_is, staged.settled.durable.sectors));
  }

  -- while the root's sector is written
  pub record Crossing (d : DeviceState) : Type 0 where
    pub faithful : d.faithful
    pub leaves : LeavesOnly P (timeline first) (timeline d)
    pub durable_is : IsDurable d root durable
    pub held : IsHeld d next.pages next.maps working
    pub other : (c : List ℕ) → d.left (home (root.number + 1)) c → IsOlder (root_at (home (root.number + 1)) c) root.number ⊎ (root_at (home (root.number + 1)) c ≡ Found next)
    pub same : Same d
    pub sectors : d.sectors ≡ first.sectors

  -- both arrays lie after the root sectors
  pub after_roots : (d : DeviceState) (entries : List ℕ) → Same d → ((l : ℕ) → 0 < get_or entries l 0 → 1 ≤ get_or entries l 0) → (l : ℕ) → array_of d.content entries l ≡ array_of first.content entries l
  after_roots d entries same some l = same_array d.content first.content entries
      (λ k positive. same_page d.content first.content (get_or entries k 0) (λ i lt. same (8 * get_or entries k 0 + i) (omega (arith, positive)))) l

  crossing_left : (d : DeviceState) → IsDurable d root durable → IsHeld d next.pages next.maps working
      → ((c : List ℕ) → d.left (home (root.number + 1)) c → IsOlder (root_at (home (root.number + 1)) c) root.number ⊎ (root_at (home (root.number + 1)) c ≡ Found next))
      → Same d → (image : Image) → IsLeft d image → P image
  crossing_left d durable_is held other same image left =
      let roots = roots_left d root durable image durable_is left in
      let here = roots (home root.number) (homes root.number).0 in
      elim (other (image (home (root.number + 1))) (roots (home (root.number + 1)) (homes root.number).1)) [
        | inl older ↦ inl (means_as root.pages root.format root.number (array_of d.content durable) (array_of first.content durable) image (after_roots d durable same (λ l some. some))
            (durable_means d image root durable durable_is here (left_in d root.pages root.maps durable image durable_is.sectors durable_is.held.sound left) older))
        | inr found ↦
            let means = next_means d image root durable next working durable_is can.number_is held here
            (left_in d next.pages next.maps working image (durable_is.sectors ∙ ap (λ (n : ℕ). 8 * n) (sym can.pages_is)) held.sound left) found in
            inr (means_as root.pages next.format (root.number + 1) (array_of d.content working) (array_of first.content working) image (after_roots d working same (λ l some. some))
            (subst (λ (n : ℕ). Means root.pages next.format n (array_of d.content working) image) can.number_is
            (subst (λ (n : ℕ). Means n next.format next.number (array_of d.content working) image) can.pages_is means)))
      ]

  pub root_written : (bytes : List ℕ) (d e : DeviceState) → root_at (home next.number) bytes ≡ Found next → Staged d → IsHeld d next.pages next.maps working → KeepsHistory d e → Writes (home next.number) bytes d e → Crossing e
  root_written bytes d e found staged held history writes =
      let there : home next.number ≡ home (root.number + 1) = ap (λ (n : ℕ). home n) can.number_is in
      let alone : (s : ℕ) → s ≢ home (root.number + 1) → IsAlone d e s = λ s other. alone_writes (home next.number) bytes d e writes s (λ is. other (is ∙ there)) in
      let low = (homes root.number).1 in
      let high : (s : ℕ) → 2 ≤ s → s ≢ home (root.number + 1) = λ s two. omega (arith, low, two) in
      let durable_is : IsDurable e root durable = durable_along d e history.sectors root durable
      (λ page reach k lt. alone (8 * page + k) (high (8 * page + k) (let inside = reach_inside root.pages root.maps durable staged.settled.durable.held.sound page reach in omega (arith, inside.0))))
      (alone (home root.number) (homes root.number).2) staged.settled.durable in
      let held_on : IsHeld e next.pages next.maps working = held_along d e next.pages next.maps working
      (λ page reach k lt. alone (8 * page + k) (high (8 * page + k) (let inside = reach_inside next.pages next.maps working held.sound page reach in omega (arith, inside.0)))) held in
      let other : (c : List ℕ) → e.left (home (root.number + 1)) c → IsOlder (root_at (home (root.number + 1)) c) root.number ⊎ (root_at (home (root.number + 1)) c ≡ Found next) = λ c now.
      elim (writes.left c (subst (λ (s : ℕ). e.left s c) (sym there) now)) [
        | inl was ↦ inl (staged.settled.other c (subst (λ (s : ℕ). d.left s c) there was))
        | inr is ↦ inr (ap (λ (b : List ℕ). root_at (home (root.number + 1)) b) is ∙ ap (λ (s : ℕ). root_at s bytes) (sym there) ∙ found)
      ] in
      let same : Same e = λ s two. (alone s (high s two)).content ∙ staged.same s in
      record {
        faithful = history.faithful staged.faithful;
        leaves = goes_on P (timeline first) (timeline d) (timeline e) staged.leaves writes.time (crossing_left e durable_is held_on other same);
        durable_is = durable_is;
        held = held_on;
        other = other;
        same = same;
        sectors = history.sectors ∙ staged.sectors;
      }

  pub read_across : (d e : DeviceState) → Crossing d → KeepsHistory d e → OnlyReads d e → Crossing e
  read_across d e crossing history only_reads =
      let alone = alone_reads d e only_reads in
      let durable_is : IsDurable e root durable = durable_along d e history.sectors root durable (λ page reach k lt. alone (8 * page + k)) (alone (home root.number)) crossing.durable_is in
      let held : IsHeld e next.pages next.maps working = held_along d e next.pages next.maps working (λ page reach k lt. alone (8 * page + k)) crossing.held in
      let other : (c : List ℕ) → e.left (home (root.number + 1)) c → IsOlder (root_at (home (root.number + 1)) c) root.number ⊎ (root_at (home (root.number + 1)) c ≡ Found next) =
      λ c now. crossing.other c (only_reads.left (home (root.number + 1)) c now) in
      let same : Same e = λ s two. only_reads.content s ∙ crossing.same s two in
      record {
        faithful = history.faithful crossing.faithful;
        leaves = goes_on P (timeline first) (timeline d) (timeline e) crossing.leaves only_reads.time (crossing_left e durable_is held other same);
        durable_is = durable_is;
        held = held;
        other = other;
        same = same;
        sectors = history.sectors ∙ crossing.sectors;
      }

  -- at each of these moments the other root sector is left with no more than the next root, whose reach is held
  pub crossing_recoverable : (d : DeviceState) → Crossing d → IsRecoverable d root durable
  crossing_recoverable d crossing = record {
    durable = crossing.durable_is;
    other = λ c now. elim (crossing.other c now) [
      | inl older ↦ inl older
      | inr found ↦ inr (next, working, found, can.number_is, can.pages_is, crossing.held)
    ];
  }

  -- after the second sync the next root is the durable one
  pub switched : (d : DeviceState) → Crossing d → IsSynced d → root_at (home next.number) (d.content (home next.number)) ≡ Found next → IsSettled d next working
  switched d crossing synced found =
      let was = crossing.durable_is in
      record {
        durable = record {
          sectors = was.sectors ∙ ap (λ (n : ℕ). 8 * n) (sym can.pages_is);
          room = omega (arith, was.room, can.pages_is);
          here = found;
          here_fixed = synced (home next.number) (omega (arith, (homes next.number).0, was.sectors, was.room));
          held = crossing.held;
        };
        other = λ c now.
            let there : home (next.number + 1) ≡ home root.number = ap (λ (n : ℕ). home (n + 1)) can.number_is ∙ (homes root.number).3 in
            let is : root_at (home (next.number + 1)) c ≡ Found root = ap (λ (s : ℕ). root_at s c) there
            ∙ ap (λ (b : List ℕ). root_at (home root.number) b) (was.here_fixed c (subst (λ (s : ℕ). d.left s c) there now)) ∙ was.here in
            subst (λ (r : RootSector). IsOlder r next.number) (sym is) (omega (arith, can.number_is));
      }
