use Rattle.privilege_laws.proofs.TablesTold.{others_unseen}
use Rattle.privilege_laws.proofs.tables.writes_to_unreached_tables_are_out_of_sight.Goals as goal

pub returns : goal.returns
returns c = others_unseen
