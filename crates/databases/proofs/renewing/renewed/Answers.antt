use Rattle.std.proofs.Common.{◌≡◌, ◌∙◌, Ok, ap, sym, subst}
use Rattle.sector_device.specs.Device.{IsSynced}
use Rattle.store.specs.Steps.{Goes}
use Rattle.store.specs.Store.{HasReadCause}
use Rattle.journal_store.specs.DeviceReads.{OnlyLooksInto}
use Rattle.journal_store.specs.DeviceStores.{state_under, store_state}
use Rattle.journal_store.specs.declared.device_stores.DeviceStore.{DeviceStore}
use Rattle.server.specs.declared.server.Server.{Server}
use Rattle.server.specs.Exchanged.{over_store}
use Rattle.databases.specs.Openings.{IsOpenedOn, IsRefused, state_under as state_below}
use Rattle.databases.specs.declared.fault.DatabaseFault.TheVariants.{Records}
use Rattle.recovery.specs.declared.fault.OpeningFault.TheVariants.{Read}
use Rattle.store.specs.declared.fault.Fault.TheVariants as read
use Rattle.databases.proofs.StillOpened.{opened_still, refused_still, device_cause, works_after}
use Rattle.databases.proofs.renewing.renewed.Goals as goal

pub returns-in-Ok-clause-opens : goal.returns-in-Ok-clause-opens
returns-in-Ok-clause-opens g c = λ device is.
    let o = c.args.opened in
    let d = g.D.Device.state device in
    let first = c.exchange_store-store in
    let second = c.exchange_store-server in
    let t = c.renew.new.self in
    let looks = subst (λ (s : DeviceStore g.row.D.Denot g.D.Device). OnlyLooksInto s t) first.ensures.store c.renew.ensures.preserved in
    let goes = subst (λ (s : DeviceStore g.row.D.Denot g.D.Device). Goes (λ _. Unit {0}) (Ok tt) (store_state s) (store_state t)) first.ensures.store c.in-Ok.ensures.goes in
    let same : second.result.1 ≡ over_store t o.server = second.ensures.server ∙ ap (λ (r : Server (Unit {0}) g.row.X.Denot). over_store t r) first.ensures.server in
    subst (λ (server : Server (DeviceStore g.row.D.Denot g.D.Device) g.row.X.Denot). IsOpenedOn d (record { server = server; was_migrated = o.was_migrated })) (sym same)
    (opened_still g.met.D.Device.only_now d o is t looks (Ok tt) goes (works_after d o is t (store_state t).has_failed goes.failed))

pub returns-in-Ok-clause-works : goal.returns-in-Ok-clause-works
returns-in-Ok-clause-works g c = λ worked.
    let first = c.exchange_store-store in
    let second = c.exchange_store-server in
    let t = c.renew.new.self in
    ap (λ (server : Server (DeviceStore g.row.D.Denot g.D.Device) g.row.X.Denot). (store_state server.store).has_failed) second.ensures.server
    ∙ c.in-Ok.ensures.goes.failed ∙ ap (λ (s : DeviceStore g.row.D.Denot g.D.Device). (store_state s).has_failed) first.ensures.store ∙ worked

pub returns-in-Ok-clause-synced : goal.returns-in-Ok-clause-synced
returns-in-Ok-clause-synced g c = λ faithful.
    let first = c.exchange_store-store in
    let second = c.exchange_store-server in
    subst (λ (server : Server (DeviceStore g.row.D.Denot g.D.Device) g.row.X.Denot). IsSynced (state_below server)) (sym second.ensures.server)
    (c.in-Ok.ensures.synced (subst (λ (s : DeviceStore g.row.D.Denot g.D.Device). (state_under s).faithful) (sym first.ensures.store) faithful))

pub returns-in-Err-clause-opens : goal.returns-in-Err-clause-opens
returns-in-Err-clause-opens g c = λ device is.
    let o = c.args.opened in
    let d = g.D.Device.state device in
    let first = c.exchange_store-store in
    let t = c.renew.new.self in
    let looks = subst (λ (s : DeviceStore g.row.D.Denot g.D.Device). OnlyLooksInto s t) first.ensures.store c.renew.ensures.preserved in
    let goes = subst (λ (s : DeviceStore g.row.D.Denot g.D.Device). Goes (λ _. Unit {0}) c.renew.result (store_state s) (store_state t)) first.ensures.store c.renew.ensures.goes in
    let cause = subst (λ (s : DeviceStore g.row.D.Denot g.D.Device). HasReadCause c.in-Err.field-0 (store_state s) (store_state t)) first.ensures.store c.in-Err.ensures.goes.cause in
    subst (λ (e : g.row.D.Denot). IsRefused d (Records (Read read.Device)) (g.D.Device.state e)) (sym c.into_device.ensures)
    (refused_still g.met.D.Device.only_now d o is t looks c.renew.result goes (device_cause c.in-Err.field-0 _ _ c.in-Err.ensures.fault cause) c.contents_stand_for_one_database.ensures)
