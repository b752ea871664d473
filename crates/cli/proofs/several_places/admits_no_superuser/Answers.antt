use Rattle.cli.proofs.SeveralWords.{barred_so}
use Rattle.cli.proofs.several_places.admits_no_superuser.Goals as goal

pub returns : goal.returns
returns c = barred_so c.args.word.now c.rest_before.result c.is_some.result c.is_some.ensures c.rest_before.ensures
