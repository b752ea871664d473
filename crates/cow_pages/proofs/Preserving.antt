-- What no call but a commit changes.
use Rattle.std.proofs.Common.{Result, Err, ◌≡◌, ◌⊎◌, ◌<◌, ◌≤◌, ◌+◌, ◌*◌, ℕ, List, true, false, refl, inl, inr, ap, sym, subst, ◌∙◌}
use Rattle.sector_device.specs.Timeline.{LeavesOnly, IsPresent}
use Rattle.sector_device.specs.Device.{KeepsHistory, HasFailed, timeline, history_none}
use Rattle.sector_device.specs.Page.{IsAlone}
use Rattle.sector_device.specs.declared.device.Device.{Ghosts}
use Rattle.page_roots.specs.declared.format.Format.{Format}
use Rattle.page_roots.specs.Root.{RootFields}
use Rattle.page_roots.specs.Reach.{InReach, IsPage}
use Rattle.cow_pages.specs.declared.cow.CowPages.{CowPages}
use Rattle.pages.specs.declared.array.PageFault.{PageFault}
use Rattle.pages.specs.declared.array.PageFault.TheVariants.{Full, Memory, Device, Malformed}
use Rattle.cow_pages.specs.Image.{array_of, Means}
use Rattle.cow_pages.specs.Held.{KeepsContent, IsSettled}
use Rattle.cow_pages.specs.Dirty.{IsClean, AgreesOnClean}
use Rattle.cow_pages.specs.DirtyPages.{dirty_bytes}
use Rattle.cow_pages.specs.Cow.{IsOpen, KeepsRoot, LeavesDurable, StaysDurable, IsRefused, IsFaulted, HasNoRoom, durable_array}
use Rattle.cow_pages.specs.declared.page_map.CommitFault.{CommitFault}
use Rattle.cow_pages.specs.declared.page_map.CommitFault.TheVariants.{Number, NoFirstPage, Full as NoRoom, Device as CommitFailed}
use Rattle.cow_pages.specs.Dirty.{overlaid_page}
use Rattle.cow_pages.specs.MapCalls.{CannotPrepare}
use Rattle.cow_pages.specs.Calls.{IsBroken, Commits, CannotCommit, CannotRead, CannotWrite, CannotTake, CannotFree}
use Rattle.cow_pages.specs.Preserved.{HoldsDurable, IsPreserved, FailedWith}
use Rattle.cow_pages.specs.PreservedLaws.{same_settled, preserved_joined}
use Rattle.cow_pages.proofs.Answered.{not_both}
use Rattle.cow_pages.proofs.Along.{alone_read, settled_read, array_along, leaves_read, leaves_none}
use Rattle.cow_pages.proofs.Overlaid.{leaves_durable, settled_still, durable_still}

-- open pages hold their durable array
pub open_holds : {D : Type 0} {g : Ghosts D} (p : CowPages D g) → IsPresent (timeline (g.state p.device)) → IsOpen p → HoldsDurable p
open_holds {D} {g} p present is = record {
  faithful = is.faithful;
  settled = is.settled;
  now = leaves_none (g.state p.device) p.map.root p.map.durable.items present is.settled;
}

module _ {D : Type 0} {g : Ghosts D} (present : (device : D) → (g.state device).faithful → IsPresent (timeline (g.state device))) (p q : CowPages D g) where
  module _ (keeps : KeepsRoot p q) (cause : q.has_failed ≡ true → (p.has_failed ≡ true) ⊎ HasFailed (g.state p.device) (g.state q.device))
      (remains : p.has_failed ≡ true → q.has_failed ≡ true) where
    holds_after : HoldsDurable p → StaysDurable p q → HoldsDurable q
    holds_after holds stays =
        let settled = same_settled (g.state q.device) p.map.root q.map.root p.map.durable.items q.map.durable.items (sym keeps.root) (sym keeps.durable) stays.settled in
        let faithful = keeps.history.faithful holds.faithful in
        record {
          faithful = faithful;
          settled = settled;
          now = leaves_none (g.state q.device) q.map.root q.map.durable.items (present q.device faithful) settled;
        }

    preserved_by : (HoldsDurable p → LeavesDurable p q) → (HoldsDurable p → StaysDurable p q) → IsPreserved p q
    preserved_by leaves stays = record {
      preserved = keeps;
      leaves = leaves;
      stays = stays;
      holds = λ holds. holds_after holds (stays holds);
      cause = cause;
      remains = remains;
    }

    -- calls of the device that wrote nothing
    pub preserved_read : ((g.state p.device).faithful → KeepsContent (g.state p.device) (g.state q.device)) → IsPreserved p q
    preserved_read reads =
        let d = g.state p.device in
        let e = g.state q.device in
        let entries = p.map.durable.items in
        preserved_by
        (λ holds. leaves_read d e p.map.root entries (reads holds.faithful) holds.settled)
        (λ holds. record {
          settled = settled_read d e p.map.root entries keeps.history.sectors (reads holds.faithful) holds.settled;
          same = λ l. ap (λ (es : List ℕ). array_of e.content es l) keeps.durable
              ∙ array_along d e keeps.history.sectors p.map.root entries (λ page reach k lt. alone_read d e (reads holds.faithful) (8 * page + k)) l;
        })

    -- calls of the device that wrote dirty pages
    pub preserved_written : ((g.state p.device).faithful → LeavesOnly (AgreesOnClean (dirty_bytes p.dirty) (g.state p.device)) (timeline (g.state p.device)) (timeline (g.state q.device)))
        → ((g.state p.device).faithful → (s : ℕ) → IsClean (dirty_bytes p.dirty) s → IsAlone (g.state p.device) (g.state q.device) s) → IsPreserved p q
    preserved_written leaves alone =
        let d = g.state p.device in
        let e = g.state q.device in
        let entries = p.map.durable.items in
        preserved_by
        (λ holds. leaves_durable d e (dirty_bytes p.dirty) p.map.root entries p.outside holds.settled (leaves holds.faithful))
        (λ holds. record {
          settled = settled_still d e (dirty_bytes p.dirty) p.map.root entries p.outside holds.settled keeps.history.sectors (alone holds.faithful);
          same = λ l. ap (λ (es : List ℕ). array_of e.content es l) keeps.durable
              ∙ durable_still d e (dirty_bytes p.dirty) p.map.root entries p.outside holds.settled keeps.history.sectors (alone holds.faithful) l;
        })

  -- no call of the device
  module _ (device : q.device ≡ p.device) (root : q.map.root ≡ p.map.root) (durable : q.map.durable.items ≡ p.map.durable.items) (failed : q.has_failed ≡ p.has_failed) where
    keeps_still : KeepsRoot p q
    keeps_still = record {
      history = subst (λ (x : D). KeepsHistory (g.state p.device) (g.state x)) (sym device)
          (history_none _);
      root = root;
      durable = durable;
    }

    settled_still_there : IsSettled (g.state p.device) p.map.root p.map.durable.items → IsSettled (g.state q.device) p.map.root p.map.durable.items
    settled_still_there settled = subst (λ (x : D). IsSettled (g.state x) p.map.root p.map.durable.items) (sym device) settled

    pub preserved_still : IsPreserved p q
    preserved_still = preserved_by keeps_still (λ is. inl (sym failed ∙ is)) (λ is. failed ∙ is)
        (λ holds. subst (λ (x : D). LeavesOnly (Means p.map.root.pages p.map.root.format p.map.root.number (durable_array p)) (timeline (g.state p.device)) (timeline (g.state x))) (sym device) holds.now)
        (λ holds. record {
          settled = settled_still_there holds.settled;
          same = λ l. ap (λ (x : D). array_of (g.state x).content q.map.durable.items l) device ∙ ap (λ (es : List ℕ). array_of (g.state p.device).content es l) durable;
        })

    pub open_still : IsOpen p → IsOpen q
    open_still is = record {
      faithful = keeps_still.history.faithful is.faithful;
      has_not_failed = failed ∙ is.has_not_failed;
      settled = same_settled (g.state q.device) p.map.root q.map.root p.map.durable.items q.map.durable.items (sym root) (sym durable) (settled_still_there is.settled);
    }

-- where nothing was done, and where the device had failed before
pub refused_still : {D : Type 0} {g : Ghosts D} (p : CowPages D g) → p.has_failed ≡ false → IsRefused p p
refused_still p works = record { memory = record { root = refl; durable = refl; working = refl; dirty = refl }; device = refl; has_not_failed = works }

pub broken_still : {D : Type 0} {g : Ghosts D} (p : CowPages D g) → p.has_failed ≡ true → IsBroken p p
broken_still p failed = record {
  memory = record { root = refl; durable = refl; working = refl; dirty = refl };
  faulted = record { has_failed = failed; cause = inl failed };
  recoverable = λ was. not_both _ was.has_not_failed failed;
  same = λ was l. refl;
}

-- where nothing was done there is no more room than before
abbrev IsUsedUp : RootFields → List ℕ → List ℕ → Type 0
IsUsedUp root durable working = (page : ℕ) → 1 ≤ page → page < root.pages → InReach root.maps durable page ⊎ IsPage working page

pub room_after : {D : Type 0} {g : Ghosts D} (p q : CowPages D g) → IsRefused p q → HasNoRoom p → HasNoRoom q
room_after p q refused none =
    let same = refused.memory in
    subst (λ (es : List ℕ). IsUsedUp q.map.root q.map.durable.items es) (sym same.working)
    (subst (λ (es : List ℕ). IsUsedUp q.map.root es p.map.working.items) (sym same.durable)
    (subst (λ (r : RootFields). IsUsedUp r p.map.durable.items p.map.working.items) (sym same.root) none))

-- a state without a call of the device, and then calls
pub preserved_from : {D : Type 0} {g : Ghosts D} → ((device : D) → (g.state device).faithful → IsPresent (timeline (g.state device))) → (p mid q : CowPages D g) → IsPreserved mid q
    → mid.device ≡ p.device → mid.map.root ≡ p.map.root → mid.map.durable.items ≡ p.map.durable.items → mid.has_failed ≡ p.has_failed → IsPreserved p q
preserved_from {D} {g} present p mid q later device root durable failed = preserved_joined p mid q (preserved_still present p mid device root durable failed) later

pub faulted_from : {D : Type 0} {g : Ghosts D} (p mid q : CowPages D g) → IsFaulted mid q → mid.device ≡ p.device → mid.has_failed ≡ p.has_failed → IsFaulted p q
faulted_from {D} {g} p mid q faulted device failed = record {
  has_failed = faulted.has_failed;
  cause = elim faulted.cause [
    | inl was ↦ inl (sym failed ∙ was)
    | inr fails ↦ inr (subst (λ (x : D). HasFailed (g.state x) (g.state q.device)) device fails)
  ];
}

-- why each call failed
module _ {D : Type 0} {g : Ghosts D} (p q : CowPages D g) (history : KeepsHistory (g.state p.device) (g.state q.device)) where
  pub read_failed : (page : ℕ) (fault : PageFault) → CannotRead page fault p q → FailedWith p q fault
  read_failed page Full fails = absurd fails
  read_failed page Memory fails = fails
  read_failed page Device fails = (history, fails)
  read_failed page Malformed fails = tt

  pub read_faults : (page : ℕ) (fault : PageFault) → CannotRead page fault p q → (fault ≡ Malformed) ⊎ (fault ≡ Device)
  read_faults page Full fails = absurd fails
  read_faults page Memory fails = absurd fails
  read_faults page Device fails = inr refl
  read_faults page Malformed fails = inl refl

  pub write_failed : (page : ℕ) (fault : PageFault) → CannotWrite page fault p q → FailedWith p q fault
  write_failed page Full fails = room_after p q fails.refused fails.no_room
  write_failed page Memory fails = fails
  write_failed page Device fails = (history, fails)
  write_failed page Malformed fails = tt

  pub take_failed : (fault : PageFault) → CannotTake fault p q → FailedWith p q fault
  take_failed Full fails = room_after p q fails.1 fails.0
  take_failed Memory fails = fails
  take_failed Device fails = (history, fails)
  take_failed Malformed fails = tt

  pub free_failed : (page : ℕ) (fault : PageFault) → CannotFree page fault p q → FailedWith p q fault
  free_failed page Full fails = absurd fails
  free_failed page Memory fails = fails
  free_failed page Device fails = (history, record { has_failed = fails.1; cause = inl fails.0 })
  free_failed page Malformed fails = tt

-- a commit is refused for the reason of its maps
pub refused_commit : {D : Type 0} {g : Ghosts D} (p q : CowPages D g) → IsRefused p q → (fault : CommitFault) → CannotPrepare fault p.map → CannotCommit fault p q
refused_commit p q refused NoRoom fails = (fails, refused)
refused_commit p q refused Number fails = (fails, refused)
refused_commit {D} {g} p q refused NoFirstPage fails = (ap (λ (k : ℕ). overlaid_page (dirty_bytes p.dirty) (g.state p.device).content k) fails, refused)
refused_commit p q refused CommitFailed fails = absurd fails

pub commit_refused : {D : Type 0} {g : Ghosts D} (next : Format) (r : Result (Unit {0}) CommitFault) (p q : CowPages D g) (fault : CommitFault)
    → (y : CommitFault) × (r ≡ Err y) × (y ≡ fault) → IsRefused p q → CannotPrepare fault p.map → Commits next r p q
commit_refused next r p q fault back refused fails = rw (back.1, back.2) (refused_commit p q refused fault fails)
