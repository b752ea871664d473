use Rattle.std.proofs.Common.{◌∙◌, ap}
use Rattle.std.specs.declared.vec.Vec.{Vec}
use Rattle.std.specs.declared.alloc.Global.{Global}
use Rattle.std.proofs.lemmas.List.{with_items_is}
use Rattle.sql_ast.specs.declared.role.Membership.{Membership}
use Rattle.abstract_database.specs.Lists.{TheName, has_name}
use Rattle.role_membership.proofs.Changes.{change_same, drop_same, same_named, without_option}
use Rattle.role_membership.proofs.revoking.take_from_members.Goals as goal
use Rattle.role_membership.proofs.revoking.take_from_members.Goals.{then-statement, else-statement}

pub returns-clause-revoked : goal.returns-clause-revoked
returns-clause-revoked c =
    let same = same_named _ _ c.args.statement.now.roles c.args.statement.now.members
    (λ (s : TheName). c.in_ok-roles.ensures.test s ∙ ap (has_name s) c.as_slice.ensures)
    (λ (s : TheName). c.in_ok-members.ensures.test s ∙ ap (has_name s) c.as_slice-2.ensures) in
    elim c.if-statement.branch [
      | then-statement w ↦
          rw w.if-statement.true (
          ap (λ (v : Vec Membership Global). v.items) w.memberships-is
          ∙ with_items_is c.args.memberships.now w.clear_options.new.memberships (w.clear_options.auto.memberships ∙ w.as_mut_slice.ensures.len)
          ∙ (rw w.as_mut_slice.ensures.value at w.clear_options.ensures)
          ∙ change_same _ _ same without_option c.args.memberships.now.items
          )
      | else-statement w ↦
          rw w.if-statement.false (
          ap (λ (v : Vec Membership Global). v.items) w.memberships-is
          ∙ w.remove.ensures
          ∙ drop_same _ _ same c.args.memberships.now.items
          )
    ]
