use Rattle.std.proofs.Common.{Ok, Err}
use Rattle.page_tree.specs.declared.tree_walk.TreeWalk.{TreeWalk}
use Rattle.store.specs.Records.{entries_where, is_from}
use Rattle.kv_store.specs.PageStore.{store_state as pages_state}
use Rattle.kv_store.specs.Walks.{AreAhead as AreAheadInPages}
use Rattle.transactions.specs.declared.place.ViewPlace.{ViewPlace}
use Rattle.journal_store.specs.Reads.{IsAhead}
use Rattle.journal_store.specs.Stores.{journal_state}
use Rattle.journal_store.specs.declared.places.StorePlace.{StorePlace}
use Rattle.journal_store.specs.declared.places.StorePlace.TheVariants.{InPages, UnderChanges}
use Rattle.journal_store.specs.declared.device_stores.DeviceStore.{DeviceStore}
use Rattle.journal_store.specs.declared.device_stores.DeviceStore.TheVariants.{Pages, Journaled}
use Rattle.journal_store.specs.DeviceReads.{AreAhead}
use Rattle.journal_store.specs.DeviceStores.{store_state}
use Rattle.journal_store.proofs.Journaled.{goes_in_journal}
use Rattle.journal_store.proofs.DeviceReading.{goes_in_pages}
use Rattle.journal_store.proofs.Walking.{goes_as}
use Rattle.journal_store.proofs.device_reads.DeviceStoreMap.seek.Goals as goal

pub returns-in-Ok-clause-goes : goal.returns-in-Ok-clause-goes
returns-in-Ok-clause-goes g c =
    let s = c.in-Pages.store in
    let t = c.seek.new.self in
    let from = is_from c.args.key.now in
    goes_in_pages g.met.D.Device.only_now s t c.in-Ok.ensures.preserved c.args.self.now c.in-Pages.is
    (λ (y : DeviceStore g.row.D.Denot g.D.Device) (place : StorePlace). AreAhead (Pages t) place (entries_where from (store_state y).map)) (Ok (InPages c.in-Ok.walk))
    (goes_as (λ (walk : TreeWalk). InPages walk) (λ walk. AreAheadInPages t.tree walk (entries_where from (pages_state s).map)) (λ place. AreAhead (Pages t) place (entries_where from (pages_state s).map))
    (λ walk ahead. ahead) (pages_state s) (pages_state t) (Ok c.in-Ok.walk) c.in-Ok.ensures.goes)

pub returns-in-Err-clause-goes : goal.returns-in-Err-clause-goes
returns-in-Err-clause-goes g c =
    let s = c.in-Pages.store in
    let t = c.seek.new.self in
    let from = is_from c.args.key.now in
    goes_in_pages g.met.D.Device.only_now s t c.in-Err.ensures.preserved c.args.self.now c.in-Pages.is
    (λ (y : DeviceStore g.row.D.Denot g.D.Device) (place : StorePlace). AreAhead (Pages t) place (entries_where from (store_state y).map)) (Err c.in-Err.fault)
    (goes_as (λ (walk : TreeWalk). InPages walk) (λ walk. AreAheadInPages t.tree walk (entries_where from (pages_state s).map)) (λ place. AreAhead (Pages t) place (entries_where from (pages_state s).map))
    (λ walk ahead. ahead) (pages_state s) (pages_state t) (Err c.in-Err.fault) c.in-Err.ensures.goes)

pub returns-in-Ok-seek-clause-goes : goal.returns-in-Ok-seek-clause-goes
returns-in-Ok-seek-clause-goes g c =
    let s = c.in-Journaled.store in
    let t = c.seek-in-Journaled.new.self in
    let from = is_from c.args.key.now in
    goes_in_journal c.args.self.now s t c.in-Journaled.is
    (λ (y : DeviceStore g.row.D.Denot g.D.Device) (place : StorePlace). AreAhead (Journaled t) place (entries_where from (store_state y).map)) (Ok (UnderChanges c.in-Ok-seek.place))
    (goes_as (λ (place : ViewPlace TreeWalk). UnderChanges place) (λ place. IsAhead t place (entries_where from (journal_state s).map)) (λ place. AreAhead (Journaled t) place (entries_where from (journal_state s).map))
    (λ place ahead. ahead) (journal_state s) (journal_state t) (Ok c.in-Ok-seek.place) c.in-Ok-seek.ensures.goes)

pub returns-in-Err-seek-clause-goes : goal.returns-in-Err-seek-clause-goes
returns-in-Err-seek-clause-goes g c =
    let s = c.in-Journaled.store in
    let t = c.seek-in-Journaled.new.self in
    let from = is_from c.args.key.now in
    goes_in_journal c.args.self.now s t c.in-Journaled.is
    (λ (y : DeviceStore g.row.D.Denot g.D.Device) (place : StorePlace). AreAhead (Journaled t) place (entries_where from (store_state y).map)) (Err c.in-Err-seek.fault)
    (goes_as (λ (place : ViewPlace TreeWalk). UnderChanges place) (λ place. IsAhead t place (entries_where from (journal_state s).map)) (λ place. AreAhead (Journaled t) place (entries_where from (journal_state s).map))
    (λ place ahead. ahead) (journal_state s) (journal_state t) (Err c.in-Err-seek.fault) c.in-Err-seek.ensures.goes)
