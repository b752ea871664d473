use Rattle.journal.proofs.Journals.{none_of_later}
use Rattle.journal.proofs.chain_laws.later_root_has_no_records.Goals as goal

pub returns : goal.returns
returns c region root next room es = none_of_later region root next room es
