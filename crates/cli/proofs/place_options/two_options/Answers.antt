use Rattle.cli.proofs.PlaceCommas.{left_none, two_none}
use Rattle.cli.specs.PlaceWords.{SayNothing, SaysTwo}
use Rattle.cli.proofs.place_options.two_options.Goals as goal

pub returns-in_err-door : goal.returns-in_err-door
returns-in_err-door c =
    left_none (SayNothing (SaysTwo c.args.kind c.args.first.now c.args.second.now)) _ c.from_residual.result c.from_residual.ensures
    (two_none c.args.kind c.args.first.now c.args.second.now c.in_default.ensures c.in_default-role_and_mode.ensures c.in_err-door.ensures)
