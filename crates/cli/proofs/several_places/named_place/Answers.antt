use Rattle.cli.proofs.SeveralWords.{named_barred, named_plain}
use Rattle.cli.proofs.several_places.named_place.Goals as goal

pub returns-in-Some : goal.returns-in-Some
returns-in-Some c = named_barred c.args.word.now c.placed.result c.in-Some.rest.now c.in-Some.ensures c.placed.ensures

pub returns-in-None : goal.returns-in-None
returns-in-None c = named_plain c.args.word.now c.placed-in-None.result c.in-None.ensures c.placed-in-None.ensures
