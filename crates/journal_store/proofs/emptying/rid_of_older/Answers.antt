use Rattle.std.proofs.Common.{ℕ, refl, subst}
use Rattle.sector_device.specs.Device.{DeviceState}
use Rattle.journal_store.specs.Emptying.{EmptiesSector, IsRid}
use Rattle.journal_store.proofs.emptying.rid_of_older.Goals as goal

pub returns-in-Ok : goal.returns-in-Ok
returns-in-Ok g c =
    let d : DeviceState = g.D.Device.state c.args.device in
    let e : DeviceState = g.D.Device.state c.empty_sector_of_journal.new.device in
    record {
      history = c.in-Ok.ensures.history;
      empties = λ faithful. subst (λ (s : ℕ). EmptiesSector s d e) c.other_root_sector-sector.ensures (c.in-Ok.ensures.empties faithful);
      outcome = λ faithful. (refl, subst (λ (s : ℕ). IsRid s d e) c.other_root_sector-sector.ensures (c.in-Ok.ensures.rid faithful));
    }

pub returns-in-Err : goal.returns-in-Err
returns-in-Err g c =
    let d : DeviceState = g.D.Device.state c.args.device in
    let e : DeviceState = g.D.Device.state c.empty_sector_of_journal.new.device in
    record {
      history = c.in-Err.ensures.history;
      empties = λ faithful. subst (λ (s : ℕ). EmptiesSector s d e) c.other_root_sector-sector.ensures (c.in-Err.ensures.empties faithful);
      outcome = λ faithful. (refl, c.in-Err.ensures.cause);
    }
