use Rattle.sql_grammar.proofs.OneReading.{one_reading}
use Rattle.sql_commands.specs.Commands.{phrase_of}
use Rattle.sql_commands.proofs.Table.{all_determined}
use Rattle.sql_commands.proofs.laws.one_reading_of_a_command.Goals as goal

pub returns : goal.returns
returns c = λ source f ts. one_reading (phrase_of source f) ts (all_determined source f)
