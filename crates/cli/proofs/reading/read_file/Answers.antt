use Rattle.std.proofs.Common.{Result, inr, subst}
use Rattle.stored_database.specs.Definitions.{Definitions}
use Rattle.databases.specs.declared.fault.DatabaseFault.{DatabaseFault}
use Rattle.cli.specs.Reading.{ReadsOn}
use Rattle.cli.proofs.Changes.{released_again}
use Rattle.cli.proofs.reading.read_file.Goals as goal

pub returns-in-Ok-read : goal.returns-in-Ok-read
returns-in-Ok-read g c =
    let state = g.Y.Device.Device.state in
    let left = c.read_definitions-left.result.0 in
    record {
      device = c.in-Ok.device;
      left = left;
      changes = λ is. released_again g.Y.Device.Device c.args.path.now c.in-Ok.device left (g.Y.System.state c.args.system.now) (g.Y.System.state c.open.new.self) (g.Y.System.state c.close.new.self)
          (c.in-Ok.ensures.opened is) (c.in-Ok.ensures.open is) (c.in-Ok.ensures.others is) c.close.ensures.released c.close.ensures.others is;
      reads = λ is. subst (λ (r : Result Definitions DatabaseFault). ReadsOn (state c.in-Ok.device) r (state left)) c.in-Ok-read.is
          (c.read_definitions-left.ensures (g.met.Y.System.faithful_devices c.args.system.now c.args.path.now c.in-Ok.device is (c.in-Ok.ensures.opened is)));
    }

pub returns-in-Err-read : goal.returns-in-Err-read
returns-in-Err-read g c =
    let state = g.Y.Device.Device.state in
    let left = c.read_definitions-left.result.0 in
    inr (record {
      why = c.in-Err-read.fault;
      is = c.from-in-Err-read.ensures;
      read = record {
        device = c.in-Ok.device;
        left = left;
        changes = λ is. released_again g.Y.Device.Device c.args.path.now c.in-Ok.device left (g.Y.System.state c.args.system.now) (g.Y.System.state c.open.new.self) (g.Y.System.state c.close.new.self)
            (c.in-Ok.ensures.opened is) (c.in-Ok.ensures.open is) (c.in-Ok.ensures.others is) c.close.ensures.released c.close.ensures.others is;
        reads = λ is. subst (λ (r : Result Definitions DatabaseFault). ReadsOn (state c.in-Ok.device) r (state left)) c.in-Err-read.is
            (c.read_definitions-left.ensures (g.met.Y.System.faithful_devices c.args.system.now c.args.path.now c.in-Ok.device is (c.in-Ok.ensures.opened is)));
      };
    })
