use Rattle.std.proofs.Common.{◌≡◌, List, IfOk, IfErr, subst, sym, ap, ◌∙◌, rules}
use Rattle.sql_ast.specs.declared.privilege.Descriptor.{Descriptor}
use Rattle.schema_statements.specs.DescriptorChanges.{with_those, without_those}
use Rattle.schema_statements.specs.PrivilegeStatements.{Leaves, IsRefusedSo}
use Rattle.schema_statements.specs.declared.privilege_statement.PrivilegeStatement.{PrivilegeStatement}
use Rattle.schema_statements.specs.declared.privilege_statement.PrivilegeStatement.TheVariants as statement
use Rattle.schema_statements.proofs.Anew.{none_out}
use Rattle.schema_statements.proofs.alone.exchanged.Goals as goal

pub returns-in_ok-added-in-Grant-clause-left : goal.returns-in_ok-added-in-Grant-clause-left
returns-in_ok-added-in-Grant-clause-left c =
    let a = c.args.requester in
    let ds = a.table.now.descriptors in
    let added = c.in_ok-added-in-Grant.added.items in
    let warning = c.in_ok-added-in-Grant.warning in
    let all : with_those added ds ≡ with_those added (without_those c.new-removed.result.items ds) =
    ap (with_those added) (sym (none_out ds) ∙ ap (λ (l : List Descriptor). without_those l ds) (sym c.new-removed.ensures.items)) in
    let leaves : Leaves a (statement.Grant c.in-Grant.grant) warning (with_those added ds) = λ around. c.in_ok-added-in-Grant.ensures.granted around in
    subst (λ (s : PrivilegeStatement). Leaves a s warning (with_those added (without_those c.new-removed.result.items ds))) (sym c.in-Grant.is)
    (subst (λ (l : List Descriptor). Leaves a (statement.Grant c.in-Grant.grant) warning l) all leaves)

pub returns-in_err-added-in-Grant-clause-refused : goal.returns-in_err-added-in-Grant-clause-refused
returns-in_err-added-in-Grant-clause-refused c =
    let refusal = c.in_err-added-in-Grant.field-0.0 in
    let refused : IsRefusedSo c.args.requester c.args.statement refusal =
    subst (λ (s : PrivilegeStatement). IsRefusedSo c.args.requester s refusal) (sym c.in-Grant.is) c.in_err-added-in-Grant.ensures.refused in
    search rules

pub returns-in-Revoke-clause-left : goal.returns-in-Revoke-clause-left
returns-in-Revoke-clause-left c =
    let a = c.args.requester in
    subst (λ (s : PrivilegeStatement). IfOk c.revoke_privileges.result (λ r. Leaves a s r.1 (with_those r.0.added.items (without_those r.0.removed.items a.table.now.descriptors)))) (sym c.in-Revoke.is)
    c.revoke_privileges.ensures.revoked

pub returns-in-Revoke-clause-refused : goal.returns-in-Revoke-clause-refused
returns-in-Revoke-clause-refused c =
    subst (λ (s : PrivilegeStatement). IfErr c.revoke_privileges.result (IsRefusedSo c.args.requester s)) (sym c.in-Revoke.is) c.revoke_privileges.ensures.refused
