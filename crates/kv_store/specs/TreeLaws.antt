-- Laws that the ghost members of a store in pages, with a journal or without, cite.
use Rattle.std.proofs.Common.{◌≡◌, ℕ, true, false, List, [], ◌∷◌, Option, Some, refl, sym, ◌∙◌}
use Rattle.std.specs.declared.cmp.Ordering.{Ordering}
use Rattle.std.specs.declared.cmp.Ordering.TheVariants.{Less, Equal, Greater}
use Rattle.std.specs.Ordering.{is_lt}
use Rattle.sector_device.specs.Timeline.{IsPresent}
use Rattle.sector_device.proofs.Runs.{present_lifted}
use Rattle.sector_device.specs.Device.{timeline}
use Rattle.sector_device.specs.declared.device.Device.{Ghosts}
use Rattle.cow_pages.specs.Cow.{device_below, root_of, durable_array}
use Rattle.cow_pages.proofs.Meaning.{settled_left}
use Rattle.page_nodes.specs.Map.{is_below, AllAbove, IsRising}
use Rattle.page_tree.proofs.Represented.{map_rises}
use Rattle.store.specs.Records.{Records, key_cmp, IsBefore, IsOrdered}
use Rattle.store.specs.Store.{Contents, stored}
use Rattle.kv_store.specs.declared.tree_store.TreeStore.{TreeStore}
use Rattle.kv_store.specs.Contents.{IsReadWith, contents_of, is_journaled}
use Rattle.kv_store.specs.ContentLaws.{read_with}
use Rattle.kv_store.specs.TreeStore.{IsSoundStore, pages_of, store_state}

pub below_is : (a b : List ℕ) → is_below a b ≡ is_lt (key_cmp a b)
unfolding is_below
below_is a b = refl

-- the keys after one that is greater are greater
less_of : (r : Ordering) → is_lt r ≡ true → r ≡ Less
less_of Less is = refl
less_of Equal is = absurd cc
less_of Greater is = absurd cc

pub less_is : (a b : List ℕ) → is_below a b ≡ true → key_cmp a b ≡ Less
less_is a b is = less_of (key_cmp a b) (sym (below_is a b) ∙ is)

before_is : (key : List ℕ) (es : Records) → AllAbove key es → IsBefore key es
before_is key [] all = tt
before_is key (e ∷ es) all = (less_is key e.0 all.0, before_is key es all.1)

pub ordered_is : (es : Records) → IsRising es → IsOrdered es
ordered_is [] rising = tt
ordered_is (e ∷ es) rising = (before_is e.0 es rising.0, ordered_is es rising.1)

-- the keys of a sound store's records rise
pub keys_rise : {D : Type 0} {g : Ghosts D} (s : TreeStore D g) → IsSoundStore s → IsOrdered (store_state s).map
keys_rise {D} {g} s sound = ordered_is (contents_of (pages_of s)).records (map_rises (durable_array (pages_of s)) (contents_of (pages_of s)).records sound.represents)

-- a stop now leaves what it may leave now
pub present_now : {D : Type 0} {g : Ghosts D} (s : TreeStore D g) → IsPresent (timeline (device_below (pages_of s))) → IsPresent (store_state s).time
present_now {D} {g} s present = present_lifted (IsReadWith (is_journaled (pages_of s)) (root_of (pages_of s)).pages) (timeline (device_below (pages_of s))) present

-- and of a store that works its contents alone
pub settled_now : {D : Type 0} {g : Ghosts D} (s : TreeStore D g) (x : Option Contents) → IsSoundStore s → s.has_failed ≡ false → (store_state s).time.left x → x ≡ Some (stored (store_state s))
settled_now {D} {g} s x sound worked left =
    let held = sound.works worked in
    read_with (is_journaled (pages_of s)) left.0 (root_of (pages_of s)).pages (contents_of (pages_of s)) x (record {
      format = (root_of (pages_of s)).format;
      number = (root_of (pages_of s)).number;
      array = durable_array (pages_of s);
      means = settled_left (device_below (pages_of s)) left.0 (root_of (pages_of s)) (pages_of s).map.durable.items held.is_open.settled left.1;
      kind = refl;
      spelled = refl;
      represents = held.durable;
    }) left.2
