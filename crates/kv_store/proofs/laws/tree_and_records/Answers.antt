use Rattle.kv_store.specs.TreeLaws.{ordered_is}
use Rattle.kv_store.proofs.Records.{put_is, remove_is, value_is, first_is}
use Rattle.kv_store.proofs.laws.tree_and_records.Goals as goal

pub returns-clause-put : goal.returns-clause-put
returns-clause-put c = put_is

pub returns-clause-removed : goal.returns-clause-removed
returns-clause-removed c = remove_is

pub returns-clause-found : goal.returns-clause-found
returns-clause-found c = value_is

pub returns-clause-first : goal.returns-clause-first
returns-clause-first c = first_is

pub returns-clause-ordered : goal.returns-clause-ordered
returns-clause-ordered c = ordered_is
