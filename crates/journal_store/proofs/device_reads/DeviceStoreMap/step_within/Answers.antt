use Rattle.std.proofs.Common.{Bool, ap, sym, subst, ◌∙◌}
use Rattle.store.specs.Records.{Records}
use Rattle.store.specs.Steps.{Goes, Takes}
use Rattle.journal_store.specs.declared.places.StorePlace.{StorePlace}
use Rattle.journal_store.specs.declared.places.StorePlace.TheVariants.{InPages, UnderChanges}
use Rattle.journal_store.specs.declared.device_stores.DeviceStore.{DeviceStore}
use Rattle.journal_store.specs.declared.device_stores.DeviceStore.TheVariants.{Pages, Journaled}
use Rattle.journal_store.specs.DeviceReads.{AreAheadWithin, IsFoundAt, OnlyLooksInto, looks_none, nowhere}
use Rattle.journal_store.specs.DeviceStores.{store_state}
use Rattle.journal_store.proofs.Journaled.{goes_in_journal}
use Rattle.journal_store.proofs.DeviceReading.{goes_in_pages}
use Rattle.journal_store.proofs.Walking.{steps_within_nowhere}
use Rattle.journal_store.proofs.device_reads.DeviceStoreMap.step_within.Goals as goal

pub returns-in-InPages-clause-goes : goal.returns-in-InPages-clause-goes
returns-in-InPages-clause-goes g c =
    let x = c.args.self.now in
    let t = c.step_within.new.self in
    let later = InPages c.step_within.new.walk in
    subst (λ (place : StorePlace). Goes (λ found. (records : Records) → AreAheadWithin x c.args.stop.now place records → Takes (λ e. IsFoundAt (Pages t) later e) (λ es. AreAheadWithin (Pages t) c.args.stop.now later es) found records) c.step_within.result (store_state x) (store_state (Pages t)))
    (sym c.in-InPages.is)
    (goes_in_pages g.met.D.Device.only_now c.in-Pages.store t c.step_within.ensures.preserved x c.in-Pages.is
    (λ (y : DeviceStore g.row.D.Denot g.D.Device) (found : Bool). (records : Records) → AreAheadWithin y c.args.stop.now (InPages c.in-InPages.walk) records → Takes (λ e. IsFoundAt (Pages t) later e) (λ es. AreAheadWithin (Pages t) c.args.stop.now later es) found records)
    _ c.step_within.ensures.goes)

pub returns-in-UnderChanges-clause-preserved : goal.returns-in-UnderChanges-clause-preserved
returns-in-UnderChanges-clause-preserved g c =
    subst (λ (y : DeviceStore g.row.D.Denot g.D.Device). OnlyLooksInto y (Pages c.in-Pages.store)) (sym c.in-Pages.is) (looks_none (Pages c.in-Pages.store))

pub returns-in-UnderChanges-clause-goes : goal.returns-in-UnderChanges-clause-goes
returns-in-UnderChanges-clause-goes g c =
    let s : DeviceStore g.row.D.Denot g.D.Device = Pages c.in-Pages.store in
    steps_within_nowhere c.args.stop.now g.met.D.Device.only_now c.args.self.now s c.in-Pages.is c.args.place.now c.args.place.now c.step_nowhere.result (c.step_nowhere.ensures ∙ ap nowhere c.has_failed.ensures)
    (λ records ahead. subst (λ (place : StorePlace). AreAheadWithin s c.args.stop.now place records) c.in-UnderChanges.is ahead)

pub returns-in-InPages-place-clause-preserved : goal.returns-in-InPages-place-clause-preserved
returns-in-InPages-place-clause-preserved g c =
    subst (λ (y : DeviceStore g.row.D.Denot g.D.Device). OnlyLooksInto y (Journaled c.in-Journaled.store)) (sym c.in-Journaled.is) (looks_none (Journaled c.in-Journaled.store))

pub returns-in-InPages-place-clause-goes : goal.returns-in-InPages-place-clause-goes
returns-in-InPages-place-clause-goes g c =
    let s : DeviceStore g.row.D.Denot g.D.Device = Journaled c.in-Journaled.store in
    steps_within_nowhere c.args.stop.now g.met.D.Device.only_now c.args.self.now s c.in-Journaled.is c.args.place.now c.args.place.now c.step_nowhere-in-InPages-place.result (c.step_nowhere-in-InPages-place.ensures ∙ ap nowhere c.has_failed-in-InPages-place.ensures)
    (λ records ahead. subst (λ (place : StorePlace). AreAheadWithin s c.args.stop.now place records) c.in-InPages-place.is ahead)

pub returns-in-UnderChanges-place-clause-goes : goal.returns-in-UnderChanges-place-clause-goes
returns-in-UnderChanges-place-clause-goes g c =
    let x = c.args.self.now in
    let t = c.step_within-in-UnderChanges-place.new.self in
    let later = UnderChanges c.step_within-in-UnderChanges-place.new.place in
    subst (λ (place : StorePlace). Goes (λ found. (records : Records) → AreAheadWithin x c.args.stop.now place records → Takes (λ e. IsFoundAt (Journaled t) later e) (λ es. AreAheadWithin (Journaled t) c.args.stop.now later es) found records) c.step_within-in-UnderChanges-place.result (store_state x) (store_state (Journaled t)))
    (sym c.in-UnderChanges-place.is)
    (goes_in_journal x c.in-Journaled.store t c.in-Journaled.is
    (λ (y : DeviceStore g.row.D.Denot g.D.Device) (found : Bool). (records : Records) → AreAheadWithin y c.args.stop.now (UnderChanges c.in-UnderChanges-place.place) records → Takes (λ e. IsFoundAt (Journaled t) later e) (λ es. AreAheadWithin (Journaled t) c.args.stop.now later es) found records)
    _ c.step_within-in-UnderChanges-place.ensures.goes)
