use Rattle.sql_parser.proofs.WholeFronts.{empty_front}
use Rattle.sql_parser.proofs.fronts.front_of_faulty.Goals as goal

pub returns-in-None-clause-tokens : goal.returns-in-None-clause-tokens
returns-in-None-clause-tokens c = empty_front c.new.result.items c.new.ensures.items
