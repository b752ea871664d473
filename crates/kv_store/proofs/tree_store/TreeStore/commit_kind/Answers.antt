use Rattle.std.proofs.Common.{◌≡◌, false, Err, refl, sym, ◌∙◌, subst}
use Rattle.sector_device.specs.Device.{KeepsHistory}
use Rattle.sector_device.specs.declared.device.Device.{Ghosts}
use Rattle.cow_pages.specs.Cow.{device_below}
use Rattle.store.specs.declared.fault.StoreFault.{StoreFault}
use Rattle.store.specs.declared.fault.StoreFault.TheVariants.{Full, Memory, Device, Number}
use Rattle.store.specs.Store.{failed_after}
use Rattle.kv_store.specs.declared.read_only.ReadOnlyPages.{ReadOnlyPages}
use Rattle.kv_store.specs.declared.tree_store.TreeStore.{TreeStore}
use Rattle.kv_store.specs.Switching.{CannotSwitch}
use Rattle.kv_store.specs.TreeStore.{RefusesCommit}
use Rattle.kv_store.proofs.Batches.{working_holds, first_used}
use Rattle.kv_store.proofs.Switching.{switches_by}
use Rattle.kv_store.proofs.tree_store.TreeStore.commit_kind.Goals as goal

-- whether a store has failed after a fault that was counted
failed_as : {D : Type 0} {g : Ghosts D} (fault : StoreFault) (mid new : TreeStore D g) → mid.has_failed ≡ false → RefusesCommit fault mid new → new.has_failed ≡ failed_after {T = Unit {0}} (Err fault) false
failed_as Full mid new works is = is.0 ∙ works
failed_as Memory mid new works is = is ∙ works
failed_as Device mid new works is = is.failed
failed_as Number mid new works is = is ∙ works

pub returns-in-Ok : goal.returns-in-Ok
returns-in-Ok g c =
    let p = c.args.self.now.pages.below in
    record {
      history = c.in-Ok.ensures.history;
      switches = λ contents holds second.
          switches_by g.met.D.Device.only_now c.format_with-format.result c.args.journal contents p c.finish.new.pages holds (c.format_with-format.ensures.second ∙ sym second) c.format_with-format.ensures.kind _
          (c.in-Ok.ensures.finished holds.is_open (first_used contents.records p (working_holds contents p holds))) (c.in-Ok.ensures.anew refl);
      failed = c.requires.works;
    }

pub returns-in-Err : goal.returns-in-Err
returns-in-Err g c =
    let p = c.args.self.now.pages.below in
    let q = c.finish.new.pages in
    let new = c.count.new.self in
    let mid : TreeStore g.row.D.Denot g.D.Device = record c.args.self.now { pages = record { below = q } } in
    let fault = c.in-Err.fault in
    let pages = sym c.count.ensures.pages in
    record {
      history = subst (λ (x : ReadOnlyPages g.row.D.Denot g.D.Device). KeepsHistory (device_below p) (device_below x.below)) pages c.in-Err.ensures.history;
      switches = λ contents holds second.
          subst (λ (x : ReadOnlyPages g.row.D.Denot g.D.Device). CannotSwitch fault c.args.journal contents p x.below) pages
          (switches_by g.met.D.Device.only_now c.format_with-format.result c.args.journal contents p q holds (c.format_with-format.ensures.second ∙ sym second) c.format_with-format.ensures.kind (Err fault)
          (c.in-Err.ensures.finished holds.is_open (first_used contents.records p (working_holds contents p holds))) tt);
      failed = failed_as fault mid new c.requires.works c.count.ensures.counted;
    }
