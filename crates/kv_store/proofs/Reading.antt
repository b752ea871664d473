-- Reads of a store in pages.
use Rattle.std.proofs.Common.{◌≡◌, ◌≢◌, ◌≤◌, ◌<◌, ◌⊎◌, inl, inr, ℕ, Bool, true, false, List, Option, Some, None, Result, Ok, Err, refl, sym, ap, ◌∙◌, subst, arith}
use Rattle.std.specs.Prelude.{IsSome, IfOk, OnErr}
use Rattle.std.proofs.Math.Path.{fun_ext}
use Rattle.std.proofs.lemmas.Bool.{false≢true}
use Rattle.sector_device.specs.Timeline.{LeavesOnly, IsPresent, read_by}
use Rattle.sector_device.proofs.Runs.{lifted, present_lifted}
use Rattle.sector_device.specs.Device.{Image, IsLeft, timeline}
use Rattle.sector_device.specs.declared.device.Device.{Ghosts}
use Rattle.page_roots.specs.Formats.{record_format_of, has_journal}
use Rattle.page_roots.specs.Root.{RootFields}
use Rattle.pages.specs.State.{Array}
use Rattle.cow_pages.specs.Image.{Means}
use Rattle.cow_pages.specs.Cow.{device_below, root_of, has_failed, durable_array, working_array, IsOpen}
use Rattle.cow_pages.specs.Preserved.{HoldsDurable, IsPreserved}
use Rattle.cow_pages.specs.PreservedLaws.{few}
use Rattle.cow_pages.specs.declared.cow.CowPages.{CowPages}
use Rattle.cow_pages.proofs.Meaning.{settled_left}
use Rattle.cow_pages.proofs.Preserving.{open_holds}
use Rattle.page_tree.specs.Forest.{Represents}
use Rattle.page_tree.specs.Walk.{records_of}
use Rattle.page_tree.proofs.Walk.{records_met}
use Rattle.pages.specs.declared.array.PageFault.{PageFault}
use Rattle.pages.specs.declared.array.PageFault.TheVariants as page
use Rattle.cow_pages.specs.Preserved.{FailedWith}
use Rattle.page_nodes.specs.Map.{value_for, first_at}
use Rattle.page_tree.specs.Search.{IsLookedUp, IsFound as IsScanned}
use Rattle.page_tree.specs.Kept.{KeepsPlace}
use Rattle.page_tree.proofs.Represented.{map_rises}
use Rattle.store.specs.Records.{Record, Records, IsFound, lookup, entry_of, entry_at, first_from}
use Rattle.store.specs.Store.{Contents, StoreState, Rose, HasDeviceCause, OnlyReads, Reads}
use Rattle.store.specs.declared.fault.StoreFault.{StoreFault}
use Rattle.store.specs.declared.fault.StoreFault.TheVariants.{Full, Memory, Device, Number}
use Rattle.store.proofs.Reading.{none_read}
use Rattle.kv_store.specs.declared.tree_store.TreeStore.{TreeStore}
use Rattle.kv_store.specs.Contents.{HasContentsWith, IsReadWith, HoldsContents, contents_of, is_journaled}
use Rattle.kv_store.specs.TreeStore.{IsSoundStore, RefusesRead, store_state}
use Rattle.kv_store.proofs.Records.{value_is, first_is}
use Rattle.kv_store.specs.ContentLaws.{same_parts, read_with}

-- the contents that pages hold are those that a walk meets
pub contents_are : {D : Type 0} {g : Ghosts D} (contents : Contents) (p : CowPages D g) → HoldsContents contents p → contents_of p ≡ contents
contents_are {D} {g} contents p holds =
    same_parts (contents_of p) contents holds.spelled
    (records_met (durable_array p) contents.records (λ l some. few p l (subst (λ (x : Option (List ℕ)). IsSome x) (sym (holds.same l)) some)) holds.durable)

-- the answers of reads
pub reads_found : (entry : Option Record) (found : Bool) (out : Record) (old new : StoreState) → OnlyReads old new → old.has_failed ≡ false → new.has_failed ≡ false
    → (old.sound → IsFound found out entry) → Reads entry (Ok found) out old new
reads_found entry found out old new only_reads worked works is = record {
  only_reads = only_reads;
  found = is;
  cause = tt;
  failed = works ∙ sym worked;
  closed = λ closes had. absurd (false≢true (sym worked ∙ had));
}

pub reads_memory : (entry : Option Record) (out : Record) (old new : StoreState) → OnlyReads old new → old.has_failed ≡ false → new.has_failed ≡ false → Reads entry (Err Memory) out old new
reads_memory entry out old new only_reads worked works = record {
  only_reads = only_reads;
  found = λ sound. tt;
  cause = tt;
  failed = works ∙ sym worked;
  closed = λ closes had. absurd (false≢true (sym worked ∙ had));
}

pub reads_device : (entry : Option Record) (out : Record) (old new : StoreState) → OnlyReads old new → old.has_failed ≡ false → new.has_failed ≡ true → HasDeviceCause old new
    → Reads entry (Err Device) out old new
reads_device entry out old new only_reads worked failed cause = record {
  only_reads = only_reads;
  found = λ sound. tt;
  cause = cause;
  failed = failed;
  closed = λ closes had. refl;
}

-- an entry was copied, or memory was refused
pub reads_copied : (entry : Option Record) (result : Result Bool StoreFault) (out given : Record) (old new : StoreState) → OnlyReads old new → old.has_failed ≡ false → new.has_failed ≡ false
    → IfOk result (λ found. (found ≡ true) × (out ≡ given)) → OnErr result (result ≡ Err Memory) → (old.sound → IsFound true given entry) → Reads entry result out old new
reads_copied entry (Ok found) out given old new only_reads worked works copied refused is =
    reads_found entry found out old new only_reads worked works
    (λ sound. subst (λ (f : Bool). IsFound f out entry) (sym copied.0) (subst (λ (r : Record). IsFound true r entry) (sym copied.1) (is sound)))
reads_copied entry (Err fault) out given old new only_reads worked works copied refused is =
    let same : fault ≡ Memory = cc in
    subst (λ (f : StoreFault). Reads entry (Err f) out old new) (sym same) (reads_memory entry out old new only_reads worked works)

-- what a look-up in the tree found, as a read of records
looked_up : (key value : List ℕ) (es : Records) (there : Option (List ℕ)) (found : Bool) → there ≡ lookup key es → IsLookedUp there found value → IsFound found (key, value) (entry_at key es)
looked_up key value es None found is looked =
    subst (λ (f : Bool). IsFound f (key, value) (entry_at key es)) (sym looked) (ap (λ (o : Option (List ℕ)). entry_of key o) (sym is))
looked_up key value es (Some there) found is looked =
    subst (λ (f : Bool). IsFound f (key, value) (entry_at key es)) (sym looked.0)
    (ap (λ (o : Option (List ℕ)). entry_of key o) (sym is) ∙ ap (λ (x : List ℕ). Some (key, x)) (sym looked.1))

pub value_found : (A : Array) (key value : List ℕ) (es : Records) (found : Bool) → Represents es A → IsLookedUp (value_for key es) found value → IsFound found (key, value) (entry_at key es)
value_found A key value es found represents looked = looked_up key value es (value_for key es) found (value_is key es (map_rises A es represents)) looked

scanned : (key value : List ℕ) (entry there : Option Record) (found : Bool) → there ≡ entry → IsScanned there found key value → IsFound found (key, value) entry
scanned key value entry None found is looked = subst (λ (f : Bool). IsFound f (key, value) entry) (sym looked) (sym is)
scanned key value entry (Some e) found is looked =
    subst (λ (f : Bool). IsFound f (key, value) entry) (sym looked.0)
    (sym is ∙ ap (λ (x : List ℕ). Some (x, e.1)) (sym looked.1) ∙ ap (λ (x : List ℕ). Some (key, x)) (sym looked.2))

pub entry_found : (from key value : List ℕ) (es : Records) (found : Bool) → IsScanned (first_at from es) found key value → IsFound found (key, value) (first_from from es)
entry_found from key value es found looked = scanned key value (first_from from es) (first_at from es) found (first_is from es) looked

pub pair_is : (a b c d : List ℕ) → a ≡ c → b ≡ d → ◌≡◌ {A = Record} (a, b) (c, d)
pair_is a b c d first second = rw (first, second) refl

-- none was found, whatever lies in `out`
pub none_found : (entry : Option Record) (found : Bool) (given out : Record) → found ≡ false → IsFound found given entry → IsFound false out entry
none_found entry found given out none is = subst (λ (f : Bool). IsFound f given entry) none is

pub some_found : (entry : Option Record) (found : Bool) (given : Record) → found ≡ true → IsFound found given entry → IsFound true given entry
some_found entry found given some is = subst (λ (f : Bool). IsFound f given entry) some is

-- the cause of a fault that is not Full
pub cause_of_read : {A B Other : Type 0} → Other → A ⊎ (Other → B) → A ⊎ B
cause_of_read other (inl first) = inl first
cause_of_read other (inr second) = inr (second other)

-- where a read of a sound tree fails, and memory was not refused over pages that work, the device has failed
pub pages_failed : {D : Type 0} {g : Ghosts D} (p q : CowPages D g) (fault : PageFault) → fault ≢ page.Full → (fault ≢ page.Malformed) × ((fault ≡ page.Memory) ⊎ FailedWith p q fault)
    → (fault ≡ page.Memory → has_failed q ≡ true) → has_failed q ≡ true
pages_failed {D} {g} p q page.Full not why memory = absurd (not refl)
pages_failed {D} {g} p q page.Memory not why memory = memory refl
pages_failed {D} {g} p q page.Device not why memory = elim why.1 [
  | inl bad ↦ absurd cc
  | inr failed ↦ failed.1.has_failed
]
pages_failed {D} {g} p q page.Malformed not why memory = absurd (why.0 refl)

module _ {D : Type 0} {g : Ghosts D} (present : (device : D) → (g.state device).faithful → IsPresent (timeline (g.state device)))
    (content_left : (device : D) (s : ℕ) → (g.state device).faithful → s < (g.state device).sectors → (g.state device).left s ((g.state device).content s)) where
  -- each image that a stop may leave of pages that hold contents has them, and so has the content
  pub held_left : (contents : Contents) (p : CowPages D g) → HoldsContents contents p → (image : Image) → IsLeft (device_below p) image → HasContentsWith (is_journaled p) (root_of p).pages contents image
  held_left contents p holds image left = record {
    format = (root_of p).format;
    number = (root_of p).number;
    array = durable_array p;
    means = settled_left (device_below p) image (root_of p) p.map.durable.items holds.is_open.settled left;
    kind = refl;
    spelled = holds.spelled;
    represents = holds.durable;
  }

  pub content_is_left : (p : CowPages D g) → IsOpen p → IsLeft (device_below p) (device_below p).content
  content_is_left p opened s inside = content_left p.device s opened.faithful inside

  -- no call at all
  pub nothing_read : (s : TreeStore D g) → OnlyReads (store_state s) (store_state s)
  nothing_read s = none_read (store_state s) (λ sound. present_lifted (IsReadWith (is_journaled s.pages.below) (root_of s.pages.below).pages) (timeline (device_below s.pages.below)) (present s.pages.below.device sound.faithful))

  -- what a read that works leaves of a sound store
  module _ (old new : TreeStore D g) (worked : old.has_failed ≡ false) (preserved : IsPreserved old.pages.below new.pages.below)
      (after : IsSoundStore old → new.has_failed ≡ false → has_failed new.pages.below ≡ false)
      (working : (device_below old.pages.below).faithful → (l : ℕ) → working_array new.pages.below l ≡ working_array old.pages.below l)
      (place : IsSoundStore old → KeepsPlace (contents_of old.pages.below).records new.cursor) where
    module _ (sound : IsSoundStore old) where
      held : HoldsContents (contents_of old.pages.below) old.pages.below
      held = sound.works worked

      durable_held : HoldsDurable old.pages.below
      durable_held = open_holds old.pages.below (present old.pages.below.device sound.faithful) held.is_open

      same_durable : durable_array new.pages.below ≡ durable_array old.pages.below
      same_durable = fun_ext (preserved.stays durable_held).same

      still : Represents (contents_of new.pages.below).records (durable_array new.pages.below)
      still = subst (λ (x : Array). Represents (records_of x) x) (sym same_durable) sound.represents

      pub still_sound : IsSoundStore new
      still_sound = record {
        faithful = preserved.preserved.history.faithful sound.faithful;
        represents = still;
        works = λ works.
            let now = preserved.holds durable_held in
            record {
              is_open = record { faithful = now.faithful; has_not_failed = after sound works; settled = now.settled };
              spelled = refl;
              durable = still;
              same = λ l. working sound.faithful l ∙ held.same l ∙ sym ((preserved.stays durable_held).same l);
            };
        place = subst (λ (x : Array). KeepsPlace (records_of x) new.cursor) (sym same_durable) (place sound);
      }

      -- the content is left, and has the contents
      was_left : (x : Option Contents) → x ≡ Some (contents_of old.pages.below) → (store_state old).time.left x
      was_left x is =
          let content = content_is_left old.pages.below held.is_open in (
            (device_below old.pages.below).content,
            content,
            subst (λ (y : Option Contents). IsReadWith (is_journaled old.pages.below) (root_of old.pages.below).pages (device_below old.pages.below).content y) (sym is)
                (held_left (contents_of old.pages.below) old.pages.below held (device_below old.pages.below).content content),
          )

      means_left : (image : Image) (x : Option Contents) → Means (root_of old.pages.below).pages (root_of old.pages.below).format (root_of old.pages.below).number (durable_array old.pages.below) image
          → IsReadWith (is_journaled old.pages.below) (root_of old.pages.below).pages image x → (store_state old).time.left x
      means_left image x means read =
          was_left x (read_with (is_journaled old.pages.below) image (root_of old.pages.below).pages (contents_of old.pages.below) x
          (record {
            format = (root_of old.pages.below).format;
            number = (root_of old.pages.below).number;
            array = durable_array old.pages.below;
            means = means;
            kind = refl;
            spelled = refl;
            represents = sound.represents;
          }) read)

      leaves_read : LeavesOnly (store_state old).time.left (store_state old).time (store_state new).time
      leaves_read =
          subst (λ (r : RootFields). LeavesOnly (store_state old).time.left (store_state old).time (read_by (IsReadWith (has_journal r.format) r.pages) (timeline (device_below new.pages.below))))
          (sym preserved.preserved.root)
          (lifted (IsReadWith (is_journaled old.pages.below) (root_of old.pages.below).pages) _ (store_state old).time.left (timeline (device_below old.pages.below)) (timeline (device_below new.pages.below)) means_left
          (preserved.leaves durable_held))

    pub only_reads : new.fulls ≡ old.fulls → old.failures ≤ new.failures → OnlyReads (store_state old) (store_state new)
    only_reads fulls failures = record {
      history = record {
        sound = still_sound;
        fulls = omega (arith, fulls);
        failures = failures;
        faults = preserved.preserved.history.failures;
      };
      unchanged = λ sound. record { map = ap records_of (same_durable sound); record_format = ap (λ (r : RootFields). record_format_of r.format) preserved.preserved.root; number = ap (λ (r : RootFields). r.number) preserved.preserved.root };
      leaves = leaves_read;
    }

    -- the device's own count rose where a call of it failed
    pub device_cause : Rose old.failures new.failures → (IsSoundStore old → has_failed new.pages.below ≡ true) → HasDeviceCause (store_state old) (store_state new)
    device_cause rose failed = record {
      counted = inr rose;
      fault = λ sound. elim (preserved.cause (failed sound)) [
        | inl was ↦ absurd (false≢true (sym (held sound).is_open.has_not_failed ∙ was))
        | inr now ↦ inr now
      ];
    }

  -- a store that has answered Device
  pub failed_before : (s : TreeStore D g) (entry : Option Record) (out : Record) → s.has_failed ≡ true → Reads entry (Err Device) out (store_state s) (store_state s)
  failed_before s entry out failed = record {
    only_reads = nothing_read s;
    found = λ sound. tt;
    cause = record { counted = inl failed; fault = λ sound. inl failed };
    failed = failed;
    closed = λ closes had. refl;
  }

  -- a fault of a read is answered
  module _ (old mid new : TreeStore D g) (worked : old.has_failed ≡ false) (preserved : IsPreserved old.pages.below new.pages.below)
      (working : (device_below old.pages.below).faithful → (l : ℕ) → working_array new.pages.below l ≡ working_array old.pages.below l)
      (place : IsSoundStore old → KeepsPlace (contents_of old.pages.below).records new.cursor)
      (same : mid.has_failed ≡ old.has_failed) (count : mid.failures ≡ old.failures) (fulls : new.fulls ≡ old.fulls) (failures : old.failures ≤ new.failures)
      (entry : Option Record) (out : Record) (fault : PageFault) (not_full : fault ≢ page.Full)
      (why : IsSoundStore old → (fault ≢ page.Malformed) × ((fault ≡ page.Memory) ⊎ FailedWith old.pages.below new.pages.below fault)) where
    pub read_refused : (answer : StoreFault) → RefusesRead fault answer mid new → Reads entry (Err answer) out (store_state old) (store_state new)
    read_refused Full is = absurd is
    read_refused Memory is =
        reads_memory entry out (store_state old) (store_state new) (only_reads old new worked preserved (λ sound works. is.1) working place fulls failures) worked (is.0 ∙ same ∙ worked)
    read_refused Device is =
        let after : IsSoundStore old → new.has_failed ≡ false → has_failed new.pages.below ≡ false = λ sound works. absurd (false≢true (sym works ∙ is.0.failed)) in
        let rose : Rose old.failures new.failures = subst (λ (n : ℕ). Rose n new.failures) count is.0.rose in
        reads_device entry out (store_state old) (store_state new) (only_reads old new worked preserved after working place fulls failures) worked is.0.failed
        (device_cause old new worked preserved after working place rose (λ sound. pages_failed old.pages.below new.pages.below fault not_full (why sound) is.1))
    read_refused Number is = absurd is
