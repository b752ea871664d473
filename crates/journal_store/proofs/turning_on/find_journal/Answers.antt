use Rattle.std.proofs.Common.{ℕ, Ok, sym, subst}
use Rattle.sector_device.specs.Device.{DeviceState}
use Rattle.journal_store.specs.Stores.{device_under, held_device}
use Rattle.journal_store.specs.declared.device_stores.DeviceStore.TheVariants.{Journaled}
use Rattle.journal_store.proofs.DeviceOpened.{journal_opened, opened_then, refused_then}
use Rattle.journal_store.specs.TurningOn.{IsOn, TurnsOn}
use Rattle.journal_store.proofs.SwitchJournaled.{was_on}
use Rattle.journal_store.proofs.Kept.{size_kept}
use Rattle.journal_store.proofs.turning_on.find_journal.Goals as goal

pub returns-in-Ok : goal.returns-in-Ok
returns-in-Ok g c device fault is cannot =
    let state = g.D.Device.state in
    let d : DeviceState = state device in
    let m : DeviceState = state c.args.device in
    let s = c.in-Ok.store in
    let opened = opened_then d m fault is cannot (Journaled s) (journal_opened m s c.in-Ok.ensures) in
    subst (λ (x : g.row.D.Denot). TurnsOn g.D.Device d (Ok c.number-number.result) (state x)) (sym c.into_device.ensures) (record {
      size = size_kept d (device_under s) opened.history;
      outcome = λ faithful. subst (λ (n : ℕ). IsOn n d (device_under s)) (sym c.number-number.ensures)
          (was_on g.met.D.Device.content_left d s opened faithful (g.met.D.Device.only_now (held_device s) (opened.history.faithful faithful)));
    })

pub returns-in-Err : goal.returns-in-Err
returns-in-Err g c device fault is cannot =
    let state = g.D.Device.state in
    let d : DeviceState = state device in
    let e : DeviceState = state c.in-Err.device in
    let refused = refused_then d (state c.args.device) fault is cannot e c.in-Err.fault c.in-Err.ensures in
    record { size = size_kept d e refused.history; outcome = λ faithful. refused }
