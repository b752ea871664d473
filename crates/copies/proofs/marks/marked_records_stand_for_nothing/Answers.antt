use Rattle.copies.proofs.NoDatabase.{left_stands, marked_stands}
use Rattle.copies.proofs.marks.marked_records_stand_for_nothing.Goals as goal

pub returns-clause-contents : goal.returns-clause-contents
returns-clause-contents c = marked_stands

pub returns-clause-left : goal.returns-clause-left
returns-clause-left c = left_stands
