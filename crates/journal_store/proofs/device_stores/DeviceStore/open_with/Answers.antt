use Rattle.std.proofs.Common.{sym, ◌∙◌}
use Rattle.journal_store.proofs.DeviceOpened.{pages_opened, pages_refused, journal_then}
use Rattle.journal_store.proofs.device_stores.DeviceStore.open_with.Goals as goal

pub returns-in-Ok : goal.returns-in-Ok
returns-in-Ok g c = pages_opened (g.D.Device.state c.args.device) c.in-Ok.store c.in-Ok.ensures

pub returns-then-is_damaged : goal.returns-then-is_damaged
returns-then-is_damaged g c =
    let state = g.D.Device.state in
    journal_then (state c.args.device) (state c.in-Err.device) c.in-Err.fault (sym c.is_damaged.ensures ∙ c.if-is_damaged.true) c.in-Err.ensures c.open_journaled.result c.open_journaled.ensures

pub returns-else-is_damaged : goal.returns-else-is_damaged
returns-else-is_damaged g c =
    let state = g.D.Device.state in
    pages_refused (state c.args.device) (state c.in-Err.device) c.in-Err.fault (sym c.is_damaged.ensures ∙ c.if-is_damaged.false) c.in-Err.ensures
