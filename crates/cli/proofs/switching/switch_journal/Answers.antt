use Rattle.std.proofs.Common.{◌≡◌, ◌≢◌, ℕ, List, inl, refl}
use Rattle.sector_device.specs.declared.system_cause.SystemCause.{SystemCause}
use Rattle.systems.specs.declared.access.Access.TheVariants.{Write}
use Rattle.systems.specs.declared.fault.OpenPathFault.{OpenPathFault}
use Rattle.systems.specs.declared.fault.OpenPathFault.TheVariants as opening
use Rattle.systems.specs.Systems.{IsHeldFrom, IsUnnamed, Rose, SystemState}
use Rattle.cli.specs.Files.{StandsAt}
use Rattle.cli.proofs.Changes.{closed_again}
use Rattle.cli.proofs.Switched.{so_switched}
use Rattle.cli.proofs.switching.switch_journal.Goals as goal

-- why a file was not opened to be written
stands_to_write : {D L : Type 0} (old new : SystemState D L) (path : List ℕ) (why : OpenPathFault) → (why ≡ opening.Missing → IsUnnamed old path) → (why ≡ opening.InUse → IsHeldFrom Write old path) → why ≢ opening.PrintedTo
    → ((cause : SystemCause) → why ≡ opening.Device cause → Rose old.failures new.failures) → StandsAt Write why old path new
stands_to_write old new path opening.Missing missing in_use printed failed = missing refl
stands_to_write old new path opening.InUse missing in_use printed failed = in_use refl
stands_to_write old new path opening.PrintedTo missing in_use printed failed = printed refl
stands_to_write old new path opening.Memory missing in_use printed failed = tt
stands_to_write old new path (opening.Device cause) missing in_use printed failed = failed cause refl

pub returns-in-Err : goal.returns-in-Err
returns-in-Err g c =
    let state = g.Y.System.state in
    let refused = c.in-Err.ensures in
    inl (record {
      why = c.from.result;
      is = refl;
      unopened = record {
        why = c.in-Err.fault;
        is = c.from.ensures;
        cause = λ is. stands_to_write (state c.args.system.now) (state c.open.new.self) c.args.path.now c.in-Err.fault (refused.missing is) (refused.in_use is) (refused.printed is) refused.cause;
        same = refused.kept;
        counts = refused.counts;
      };
    })

pub returns : goal.returns
returns g c =
    let device = c.in-Ok.device in
    let left = c.switch_on_device-left.result.0 in
    so_switched g.Y.Device.Device (g.Y.System.state c.args.system.now) c.args.path.now c.args.on c.switch_on_device-left.result.1 (g.Y.System.state c.close.new.self)
    (record {
      device = device;
      left = left;
      is_faithful = λ is. g.met.Y.System.faithful_devices c.args.system.now c.args.path.now device is (inl (c.in-Ok.ensures.opened is));
      switches = c.switch_on_device-left.ensures;
      changes = λ is. closed_again g.Y.Device.Device c.args.path.now device left (g.Y.System.state c.args.system.now) (g.Y.System.state c.open.new.self) (g.Y.System.state c.close.new.self)
          (c.in-Ok.ensures.opened is) (c.in-Ok.ensures.open is) (c.in-Ok.ensures.others is) c.close.ensures.closed c.close.ensures.others is;
    })
