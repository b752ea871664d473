-- Laws that the ghost members of a store in pages without a journal cite.
use Rattle.std.proofs.Common.{◌≡◌, Bool, false, Option, Some, subst}
use Rattle.sector_device.specs.Timeline.{IsPresent}
use Rattle.sector_device.specs.Device.{timeline}
use Rattle.sector_device.specs.declared.device.Device.{Ghosts}
use Rattle.cow_pages.specs.Cow.{device_below}
use Rattle.store.specs.Store.{Contents, StoreState, stored}
use Rattle.kv_store.specs.declared.page_store.PageStore.{PageStore}
use Rattle.kv_store.specs.TreeStore.{state_read, store_state as tree_state}
use Rattle.kv_store.specs.TreeLaws.{present_now as present_in_tree, settled_now as settled_in_tree}
use Rattle.kv_store.specs.PageStore.{pages_of, store_state}

-- what holds of the state of the tree holds of the store's
pub as_store : {D : Type 0} {g : Ghosts D} (P : StoreState → Type 0) (s : PageStore D g) → P (tree_state s.tree) → P (store_state s)
as_store {D} {g} P s is = subst (λ (journal : Bool). P (state_read journal s.tree)) s.plain is

-- a stop now leaves what it may leave now
pub present_now : {D : Type 0} {g : Ghosts D} (s : PageStore D g) → IsPresent (timeline (device_below (pages_of s))) → IsPresent (store_state s).time
present_now {D} {g} s present = as_store (λ state. IsPresent state.time) s (present_in_tree s.tree present)

-- and of a store that works its contents alone
pub settled_now : {D : Type 0} {g : Ghosts D} (s : PageStore D g) (x : Option Contents) → (store_state s).sound → (store_state s).has_failed ≡ false → (store_state s).time.left x → x ≡ Some (stored (store_state s))
settled_now {D} {g} s x sound worked =
    as_store (λ state. state.time.left x → x ≡ Some (stored (store_state s))) s (settled_in_tree s.tree x sound worked)
