-- What a walk of a store in pages has ahead.
use Rattle.std.specs.Prelude.{ℕ, List}
use Rattle.std.proofs.Common.{subst, sym}
use Rattle.std.proofs.Math.Path.{fun_ext}
use Rattle.sector_device.specs.declared.device.Device.{Ghosts}
use Rattle.pages.specs.State.{Array}
use Rattle.cow_pages.specs.Cow.{durable_array}
use Rattle.cow_pages.specs.Preserved.{HoldsDurable}
use Rattle.page_tree.specs.Ahead.{HasAhead}
use Rattle.page_tree.specs.Walk.{records_of}
use Rattle.page_tree.specs.declared.tree_walk.TreeWalk.{TreeWalk}
use Rattle.store.specs.Records.{Records}
use Rattle.store.specs.Steps.{AheadWithin}
use Rattle.kv_store.specs.declared.tree_store.TreeStore.{TreeStore}
use Rattle.kv_store.specs.TreeStore.{pages_of}
use Rattle.kv_store.specs.Unwritten.{WritesNothing}

-- the device holds the durable array, and these of its records are ahead of a walk
pub record AreAhead {D : Type 0} {g : Ghosts D} (s : TreeStore D g) (walk : TreeWalk) (records : Records) : Type 0 where
  pub durable : HoldsDurable (pages_of s)
  pub in_map : HasAhead (records_of (durable_array (pages_of s))) walk records

-- and these up to a stop
abbrev pub AreAheadWithin : {D : Type 0} {g : Ghosts D} → TreeStore D g → List ℕ → TreeWalk → Records → Type 0
AreAheadWithin s stop walk records = AheadWithin stop (λ all. AreAhead s walk all) records

-- what is ahead of a walk still is where nothing was written
pub ahead_later : {D : Type 0} {g : Ghosts D} (s later : TreeStore D g) (walk : TreeWalk) (records : Records) → WritesNothing (pages_of s) (pages_of later) → AreAhead s walk records → AreAhead later walk records
ahead_later {D} {g} s later walk records nothing ahead = record {
  durable = nothing.preserved.holds ahead.durable;
  in_map = subst (λ (array : Array). HasAhead (records_of array) walk records) (sym (fun_ext (nothing.preserved.stays ahead.durable).same)) ahead.in_map;
}
