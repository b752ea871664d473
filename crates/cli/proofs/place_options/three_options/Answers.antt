use Rattle.cli.proofs.PlaceCommas.{three_so}
use Rattle.cli.proofs.place_options.three_options.Goals as goal

pub returns : goal.returns
returns c = three_so c.args.kind c.args.first.now c.args.second.now c.args.third.now c.in_default.ensures c.in_default-mode_beside.ensures c.mode_beside-3.result c.mode_beside-3.ensures
