-- Stores without a journal that stand on the same one.
use Rattle.std.proofs.Common.{◌≡◌, false, sym, ap, subst}
use mathlib.Core.Bool.{Bool-set}
use Rattle.sector_device.specs.declared.device.Device.{Ghosts}
use Rattle.kv_store.specs.declared.page_store.PageStore.{PageStore}
use Rattle.kv_store.specs.declared.tree_store.TreeStore.{TreeStore}
use Rattle.kv_store.specs.Contents.{is_journaled}
use Rattle.kv_store.specs.TreeStore.{pages_of}

-- they are the same: that there is no journal has one proof
pub same_store : {D : Type 0} {g : Ghosts D} (tree : TreeStore D g) (plain : is_journaled (pages_of tree) ≡ false) (old : PageStore D g) → tree ≡ old.tree → ◌≡◌ {A = PageStore D g} (record { tree = tree; plain = plain }) old
same_store {D} {g} tree plain old same =
    subst (λ (t : TreeStore D g). (plain : is_journaled (pages_of t) ≡ false) → ◌≡◌ {A = PageStore D g} (record { tree = t; plain = plain }) old) (sym same)
    (λ plain. ap (λ (p : is_journaled (pages_of old.tree) ≡ false). let s : PageStore D g = record { tree = old.tree; plain = p } in s) (Bool-set (is_journaled (pages_of old.tree)) false plain old.plain))
    plain
