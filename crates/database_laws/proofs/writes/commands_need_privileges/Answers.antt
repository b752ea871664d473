use Rattle.database_laws.proofs.NeedLemmas.{needed_held, had_its_needs, inserting_needs, setting_needs, updating_needs, deleting_needs, deleting_reads}
use Rattle.database_laws.proofs.writes.commands_need_privileges.Goals as goal

pub returns-clause-held : goal.returns-clause-held
returns-clause-held c = λ db users s checked is n h. needed_held db users s checked is n h

pub returns-clause-executed : goal.returns-clause-executed
returns-clause-executed c = had_its_needs

pub returns-clause-insert : goal.returns-clause-insert
returns-clause-insert c = inserting_needs

pub returns-clause-update : goal.returns-clause-update
returns-clause-update c = λ db users s e t named is name index. setting_needs db users s e t named is name index

pub returns-clause-update_reads : goal.returns-clause-update_reads
returns-clause-update_reads c = λ db users s e t named is column index. updating_needs db users s e t named is column index

pub returns-clause-delete : goal.returns-clause-delete
returns-clause-delete c = deleting_needs

pub returns-clause-delete_reads : goal.returns-clause-delete_reads
returns-clause-delete_reads c = deleting_reads
