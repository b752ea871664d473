use Rattle.std.proofs.Common.{subst}
use Rattle.sql_ast.specs.declared.role.Role.{Role}
use Rattle.store.specs.Records.{Changes}
use Rattle.stored_database.specs.RecordFormat.{role_record}
use Rattle.stored_database.proofs.KeyOrder.{role_order}
use Rattle.catalogue_changes.specs.Entries.{Adds}
use Rattle.catalogue_changes.proofs.ItemLemmas.{changes_of_put}
use Rattle.catalogue_changes.proofs.role_statements.push_role_put.Goals as goal

pub returns : goal.returns
returns c = λ _.
    subst (λ (cs : Changes). Adds cs c.args.out.now c.push_role_change.new.out)
    (changes_of_put (λ (r : Role). r.name) role_record role_order c.args.role.now c.args.catalogue.now.roles c.roles-in_order.ensures.order.roles _ c.role-old.ensures)
    c.in_ok-push_role_change.ensures
