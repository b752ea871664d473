use Rattle.sql_grammar.proofs.Leaves.{optional_word_there, optional_word_left}
use Rattle.sql_grammar.proofs.word_of.optional_word_of.Goals as goal

pub returns-in-Some : goal.returns-in-Some
returns-in-Some g c = optional_word_there c.requires c.in-Some.ensures.value

pub returns-in-None : goal.returns-in-None
returns-in-None g c = optional_word_left c.in-None.ensures.value
