use Rattle.sql_grammar.proofs.Leaves.{word_read, no_word}
use Rattle.sql_grammar.proofs.word_of.word_of.Goals as goal

pub returns-in-Some : goal.returns-in-Some
returns-in-Some g c = word_read c.requires c.in-Some.ensures.value

pub returns-in-None : goal.returns-in-None
returns-in-None g c = no_word c.in-None.ensures.value
