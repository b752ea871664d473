use Rattle.sql_grammar.proofs.Leaves.{choosing_begins}
use Rattle.sql_grammar.proofs.word_of.find_word.Goals as goal

pub loop-table-init : goal.loop-table-init
loop-table-init g c = choosing_begins _ _
