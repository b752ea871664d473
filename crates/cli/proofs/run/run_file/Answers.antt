use Rattle.databases.proofs.DeviceOpening.{none_open}
use Rattle.cli.proofs.Changes.{closed_again}
use Rattle.cli.proofs.run.run_file.Goals as goal

pub returns : goal.returns
returns g c =
    let at = c.in-Ok.ensures.opens in
    record {
      file = record { device = at.device; opened = c.in-Ok.opened; is_opened = at.is_opened; tells = c.tell_migration-told.ensures };
      renewed = c.in-Ok.ensures.renewed;
      left = c.run_script_on-left.result.0;
      runs = c.run_script_on-left.ensures;
      closed = λ is. c.run_script_on-left.ensures.closed (none_open _ c.in-Ok.opened (at.is_opened is));
      changes = λ is. closed_again g.Y.Device.Device c.args.path.now at.device c.run_script_on-left.result.0 (g.Y.System.state c.args.system.now) (g.Y.System.state c.open_database_in.new.system)
          (g.Y.System.state c.close.new.self) (at.named is) (at.is_open is) (at.others is) c.close.ensures.closed c.close.ensures.others is;
    }
