use Rattle.durability_laws.proofs.Doing.{uncalled}
use Rattle.durability_laws.proofs.on_device.switch_device.Goals as goal

pub returns : goal.returns
returns g c = λ faithful.
    let device = c.args.device in
    record {
      read = device;
      unwritten = uncalled (g.D.Device.state device) (g.met.D.Device.only_now device faithful);
      turns = c.turn.ensures;
    }
