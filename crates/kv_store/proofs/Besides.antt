-- Sectors beside the pages of a store are written: the store has what it had.
use Rattle.std.proofs.Common.{◌≡◌, ℕ, false, refl, sym, ap, subst, ◌∙◌}
use Rattle.std.proofs.Math.Path.{fun_ext}
use Rattle.sector_device.specs.Timeline.{IsPresent, weakened}
use Rattle.sector_device.specs.Device.{KeepsSize, timeline}
use Rattle.sector_device.specs.declared.device.Device.{Ghosts}
use Rattle.page_roots.specs.Formats.{record_format_of}
use Rattle.page_roots.specs.Root.{RootFields}
use Rattle.pages.specs.State.{Array}
use Rattle.cow_pages.specs.declared.cow.CowPages.{CowPages}
use Rattle.cow_pages.specs.Cow.{device_below, root_of, has_failed, durable_array, working_array, KeepsMemory, LeavesDurable, StaysDurable}
use Rattle.cow_pages.specs.Preserved.{HoldsDurable}
use Rattle.cow_pages.specs.PreservedLaws.{same_settled}
use Rattle.cow_pages.proofs.Preserving.{open_holds}
use Rattle.page_tree.specs.Forest.{Represents}
use Rattle.page_tree.specs.Walk.{records_of}
use Rattle.page_tree.specs.Kept.{KeepsPlace}
use Rattle.page_tree.specs.declared.cursor.TreeCursor.{TreeCursor}
use Rattle.page_tree.proofs.Represented.{map_of_same}
use Rattle.store.specs.Store.{Contents}
use Rattle.kv_store.specs.declared.tree_store.TreeStore.{TreeStore}
use Rattle.kv_store.specs.Contents.{HoldsContents, contents_of, is_journaled}
use Rattle.kv_store.specs.Numbered.{HasContentsUnder, LeavesBefore}
use Rattle.kv_store.specs.TreeStore.{IsSoundStore, pages_of}
use Rattle.kv_store.proofs.Committing.{records_same}

module _ {D : Type 0} {g : Ghosts D} (present : (device : D) → (g.state device).faithful → IsPresent (timeline (g.state device))) (p q : CowPages D g) (size : KeepsSize (device_below p) (device_below q)) (memory : KeepsMemory p q)
    (array : (device_below p).faithful → (l : ℕ) → working_array q l ≡ working_array p l) (leaves : HoldsDurable p → LeavesDurable p q) (stays : HoldsDurable p → StaysDurable p q) where
  module _ (contents : Contents) (holds : HoldsContents contents p) where
    durable : HoldsDurable p
    durable = open_holds p (present p.device holds.is_open.faithful) holds.is_open

    pub leaves_beside : LeavesBefore contents p q
    leaves_beside = weakened _ (HasContentsUnder (is_journaled p) (root_of p).pages (root_of p).number contents) (timeline (device_below p)) (timeline (device_below q))
        (λ image means. record { format = (root_of p).format; array = durable_array p; means = means; kind = refl; spelled = holds.spelled; represents = holds.durable }) (leaves durable)

    pub holds_beside : has_failed q ≡ false → HoldsContents contents q
    holds_beside works = record {
      is_open = record {
        faithful = size.faithful holds.is_open.faithful;
        has_not_failed = works;
        settled = same_settled (g.state q.device) p.map.root q.map.root p.map.durable.items q.map.durable.items (sym memory.root) (sym memory.durable) (stays durable).settled;
      };
      spelled = ap (λ (r : RootFields). record_format_of r.format) memory.root ∙ holds.spelled;
      durable = map_of_same (durable_array p) (durable_array q) contents.records (λ l. sym ((stays durable).same l)) holds.durable;
      same = λ l. array holds.is_open.faithful l ∙ (holds.same l ∙ sym ((stays durable).same l));
    }

  -- what a walk meets
  contents_at : HoldsDurable p → contents_of q ≡ contents_of p
  contents_at holds =
      ap (λ (r : RootFields). let c : Contents = record { record_format = record_format_of r.format; records = records_of (durable_array q) } in c) memory.root
      ∙ ap (λ (a : Array). let c : Contents = record { record_format = record_format_of (root_of p).format; records = records_of a } in c) (fun_ext (stays holds).same)

  -- a store over them
  module _ (s t : TreeStore D g) (below : pages_of s ≡ p) (above : pages_of t ≡ q) (worked : s.has_failed ≡ false) (cursor : t.cursor ≡ s.cursor) (works : t.has_failed ≡ false → has_failed q ≡ false) (sound : IsSoundStore s) where
    held : HoldsContents (contents_of p) p
    held = subst (λ (x : CowPages D g). HoldsContents (contents_of x) x) below (sound.works worked)

    pub contents_kept : contents_of (pages_of t) ≡ contents_of (pages_of s)
    contents_kept = ap (λ (x : CowPages D g). contents_of x) above ∙ contents_at (durable (contents_of p) held) ∙ ap (λ (x : CowPages D g). contents_of x) (sym below)

    pub sound_kept : IsSoundStore t
    sound_kept = record {
      faithful = subst (λ (x : CowPages D g). (device_below x).faithful) (sym above) (size.faithful held.is_open.faithful);
      represents = subst (λ (x : CowPages D g). Represents (records_of (durable_array x)) (durable_array x)) (sym above)
          (records_same (durable_array p) (durable_array q) (stays (durable (contents_of p) held)).same (subst (λ (x : CowPages D g). Represents (records_of (durable_array x)) (durable_array x)) below sound.represents));
      works = λ is. subst (λ (x : CowPages D g). HoldsContents (contents_of x) x) (sym above)
          (subst (λ (c : Contents). HoldsContents c q) (sym (contents_at (durable (contents_of p) held))) (holds_beside (contents_of p) held (works is)));
      place = subst (λ (k : TreeCursor). KeepsPlace (contents_of (pages_of t)).records k) (sym cursor)
          (subst (λ (c : Contents). KeepsPlace c.records s.cursor) (sym contents_kept) sound.place);
    }
