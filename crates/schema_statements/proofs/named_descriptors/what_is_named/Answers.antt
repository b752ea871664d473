use Rattle.std.proofs.Common.{◌≡◌, ◌∙◌, List, [], ap, map, flat_map}
use Rattle.sql_ast.specs.declared.privilege.Descriptor.{Descriptor}
use Rattle.abstract_database.specs.Privileges.{privileges_of, with_descriptors}
use Rattle.schema_statements.specs.declared.grantors.NamedPrivilege.{NamedPrivilege}
use Rattle.schema_statements.specs.Asking.{asked_by}
use Rattle.schema_statements.specs.PrivilegeUnits.{with_each, with_grantor, by_role, leaves_out_by, descriptors_for}
use Rattle.schema_statements.proofs.Once.{granted_by_units, leaves_out_same}
use Rattle.schema_statements.proofs.named_descriptors.what_is_named.Goals as goal

pub returns : goal.returns
returns c =
    let db = asked_by c.args.requester in
    let role = c.args.requester.role.now in
    let table = c.args.requester.table.now.definition in
    let grantees = c.args.grantees.now in
    let grantable = c.args.grantable in
    let ps = c.args.privileges.now in
    let units = c.in_ok-units.units.items in
    let all = c.in_ok-all.all.items in
    let once : units ≡ with_each [] (privileges_of table.layout ps) = rw c.columns.ensures at c.in_ok-units.ensures in
    let are : map by_role all ≡ map (with_grantor db role table) units = rw c.as_slice.ensures.value at c.in_ok-all.ensures in
    let list : c.in_ok-list.list.items ≡ flat_map (descriptors_for table.name grantees grantable) all = rw (c.name.ensures, c.as_slice-2.ensures.value) at c.in_ok-list.ensures in
    record {
      descriptors =
          c.in_ok-descriptors.ensures
          ∙ ap (λ (l : List Descriptor). with_descriptors l []) list
          ∙ granted_by_units db role table all units are grantees grantable (privileges_of table.layout ps) once;
      leaves_out = c.leaves_out.ensures ∙ ap (λ (l : List NamedPrivilege). leaves_out_by l ps) c.as_slice-3.ensures.value ∙ leaves_out_same db role table all units are ps once;
    }
