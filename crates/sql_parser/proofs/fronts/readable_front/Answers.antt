use Rattle.sql_parser.proofs.WholeFronts.{whole_front}
use Rattle.sql_parser.proofs.fronts.readable_front.Goals as goal

pub returns-in-Some-clause-front : goal.returns-in-Some-clause-front
returns-in-Some-clause-front c = whole_front c.args.text.now
