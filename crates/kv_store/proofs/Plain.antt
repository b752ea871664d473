-- What is said of the state of a tree is said of that of a store without a journal.
use Rattle.std.proofs.Common.{◌≡◌, ◌∙◌, Bool, false, Option, Result, subst}
use Rattle.sector_device.specs.declared.device.Device.{Ghosts}
use Rattle.store.specs.Records.{Record}
use Rattle.store.specs.Steps.{Goes}
use Rattle.store.specs.Store.{Contents, StoreState, Reads, Commits}
use Rattle.store.specs.declared.fault.StoreFault.{StoreFault}
use Rattle.kv_store.specs.declared.page_store.PageStore.{PageStore}
use Rattle.kv_store.specs.declared.tree_store.TreeStore.{TreeStore}
use Rattle.kv_store.specs.Contents.{is_journaled}
use Rattle.kv_store.specs.TreeStore.{pages_of, state_read, store_state}
use Rattle.kv_store.specs.Unwritten.{WritesNothing}
use Rattle.kv_store.proofs.SameKind.{same_kind}

-- where nothing is written a store without a journal has none still
pub plain_still : {D : Type 0} {g : Ghosts D} (s : PageStore D g) (t : TreeStore D g) → WritesNothing (pages_of s.tree) (pages_of t) → is_journaled (pages_of t) ≡ false
plain_still {D} {g} s t nothing = same_kind (pages_of s.tree) (pages_of t) nothing.preserved.preserved.root ∙ s.plain

module _ {D : Type 0} {g : Ghosts D} (s t : TreeStore D g) (was : is_journaled (pages_of s) ≡ false) (is : is_journaled (pages_of t) ≡ false) where
  as_stores : (P : StoreState → StoreState → Type 0) → P (store_state s) (store_state t) → P (state_read false s) (state_read false t)
  as_stores P given =
      subst (λ (journal : Bool). P (state_read journal s) (state_read false t)) was
      (subst (λ (journal : Bool). P (store_state s) (state_read journal t)) is given)

  pub plain_reads : {entry : Option Record} {result : Result Bool StoreFault} {out : Record} → Reads entry result out (store_state s) (store_state t) → Reads entry result out (state_read false s) (state_read false t)
  plain_reads {entry} {result} {out} given = as_stores (λ old new. Reads entry result out old new) given

  pub plain_goes : {T : Type 0} {answers : T → Type 0} {result : Result T StoreFault} → Goes answers result (store_state s) (store_state t) → Goes answers result (state_read false s) (state_read false t)
  plain_goes {T} {answers} {result} given = as_stores (λ old new. Goes answers result old new) given

  pub plain_commits : {result : Result (Unit {0}) StoreFault} {after : Contents} → Commits result after (store_state s) (store_state t) → Commits result after (state_read false s) (state_read false t)
  plain_commits {result} {after} given = as_stores (λ old new. Commits result after old new) given
