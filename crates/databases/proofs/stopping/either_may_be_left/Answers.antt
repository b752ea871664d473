use Rattle.databases.proofs.Histories.{one_meaning, either_is_left}
use Rattle.databases.proofs.stopping.either_may_be_left.Goals as goal

pub returns : goal.returns
returns g c = λ w next event answer changes none.
    let d = c.args.device.now in
    either_is_left d.sectors d.calls.items d.failures g.X.EventHandler.Reads w next event answer (one_meaning c.one_database.ensures) changes none
