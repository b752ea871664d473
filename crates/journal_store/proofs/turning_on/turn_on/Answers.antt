use Rattle.std.proofs.Common.{sym, ◌∙◌}
use Rattle.sector_device.specs.Device.{DeviceState}
use Rattle.journal_store.proofs.DeviceOpened.{pages_refused}
use Rattle.journal_store.proofs.Kept.{size_kept}
use Rattle.journal_store.proofs.turning_on.turn_on.Goals as goal

pub returns-in-Ok : goal.returns-in-Ok
returns-in-Ok g c = c.make_journal.ensures c.args.device c.in-Ok.ensures.opens

pub returns-then-is_damaged : goal.returns-then-is_damaged
returns-then-is_damaged g c =
    c.find_journal.ensures c.args.device c.in-Err.fault (sym c.is_damaged.ensures ∙ c.if-is_damaged.true) c.in-Err.ensures.opens

pub returns-else-is_damaged : goal.returns-else-is_damaged
returns-else-is_damaged g c =
    let state = g.D.Device.state in
    let d : DeviceState = state c.args.device in
    let e : DeviceState = state c.in-Err.device in
    let refused = pages_refused d e c.in-Err.fault (sym c.is_damaged.ensures ∙ c.if-is_damaged.false) c.in-Err.ensures.opens in
    record { size = size_kept d e refused.history; outcome = λ faithful. refused }
