-- What a view keeps, and what a read of it finds at each step.
use Rattle.std.specs.Prelude.{◌≡◌, ℕ, List, Some, None}
use Rattle.std.proofs.Common.{refl, ◌∙◌}
use Rattle.store.specs.Records.{Record, Records, first_from}
use Rattle.store.specs.Store.{StoreState, IsUnchanged}
use Rattle.transactions.specs.declared.view.View.{View}
use Rattle.transactions.specs.declared.view.Step.{Step}
use Rattle.transactions.specs.declared.view.Step.TheVariants.{Found, End, Removed}

-- it lends the same map, under the same lists
pub record KeepsLists {M : Type 0} (old new : View M) : Type 0 where
  pub same_map : new.map.ghost_name ≡ old.map.ghost_name
  pub lists : new.lists.now ≡ old.lists.now

-- a view that was not read does
pub keeps_same : {M : Type 0} (v : View M) → KeepsLists v v
keeps_same v = record { same_map = refl; lists = refl }

-- and so does one after two runs of reads
pub keeps_joined : {M : Type 0} (old mid new : View M) → KeepsLists old mid → KeepsLists mid new → KeepsLists old new
keeps_joined old mid new first second = record { same_map = second.same_map ∙ first.same_map; lists = second.lists ∙ first.lists }

-- the map below it, where it is sound, stays sound, and none of its records changes
pub record KeepsRecords (old new : StoreState) : Type 0 where
  pub sound : old.sound → new.sound
  pub unchanged : old.sound → IsUnchanged old new

-- a map that was not read is like that
pub records_same : (s : StoreState) → KeepsRecords s s
records_same s = record { sound = λ is. is; unchanged = λ is. record { map = refl; record_format = refl; number = refl } }

-- and so is one after two runs of reads
pub records_joined : (old mid new : StoreState) → KeepsRecords old mid → KeepsRecords mid new → KeepsRecords old new
records_joined old mid new first second = record {
  sound = λ is. second.sound (first.sound is);
  unchanged = λ is.
      let then = second.unchanged (first.sound is) in
      record { map = then.map ∙ (first.unchanged is).map; record_format = then.record_format ∙ (first.unchanged is).record_format; number = then.number ∙ (first.unchanged is).number };
}

-- the least entry from this key on is found, or there is none, or it is also the least one from a later key on
abbrev pub IsStep : List ℕ → Step → Record → List ℕ → Records → Type 0
IsStep from Found out later es = first_from from es ≡ Some out
IsStep from End out later es = first_from from es ≡ None
IsStep from Removed out later es = first_from later es ≡ first_from from es
