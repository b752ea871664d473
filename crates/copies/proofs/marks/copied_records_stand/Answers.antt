use Rattle.copies.proofs.NoDatabase.{all_behind, none_outsized}
use Rattle.copies.proofs.marks.copied_records_stand.Goals as goal

pub returns-clause-all : goal.returns-clause-all
returns-clause-all c = all_behind

pub returns-clause-sizes : goal.returns-clause-sizes
returns-clause-sizes c = none_outsized c.records_have_record_sizes.ensures
