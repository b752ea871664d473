use Rattle.std.proofs.Common.{rules, ◌∙◌, sym, subst, Ok, Err}
use Rattle.std.proofs.lemmas.Fn.{always_returns_same}
use Rattle.std.specs.Ordering.{ordering_then}
use Rattle.sql_ast.specs.declared.role.Membership.{Membership}
use Rattle.abstract_database.specs.Lists.{Rising, name_cmp}
use Rattle.abstract_database.specs.Database.{membership_cmp}
use Rattle.catalogue.proofs.Searching.{lent_at, searched_membership}
use Rattle.catalogue.proofs.definitions.Catalogue.membership.Goals as goal

pub returns-in-Ok : goal.returns-in-Ok
returns-in-Ok c =
    let facts = c.in-Ok.ensures in
    let list = c.as_slice-memberships in
    let whole = list.ensures.items ∙ c.memberships.ensures.memberships in
    let rise = subst (Rising membership_cmp) (sym list.ensures.items) list.ensures.order in
    let found = searched_membership c.args.role.now c.args.member.now list.result.now rise (Ok c.in-Ok.index) facts.bound (facts.position (λ (m : Membership). ordering_then (name_cmp m.role c.args.role.now) (name_cmp m.member c.args.member.now)) (always_returns_same _ _ _ (λ a r g called. search rules))) in
    rw (← whole) (lent_at list.result.now c.in-Ok.index _ c.get.ensures.lookup.3 ∙ found)

pub returns-in-Err : goal.returns-in-Err
returns-in-Err c =
    let facts = c.in-Err.ensures in
    let list = c.as_slice-memberships in
    let whole = list.ensures.items ∙ c.memberships.ensures.memberships in
    let rise = subst (Rising membership_cmp) (sym list.ensures.items) list.ensures.order in
    let found = searched_membership c.args.role.now c.args.member.now list.result.now rise (Err c.in-Err.field-0) facts.bound (facts.position (λ (m : Membership). ordering_then (name_cmp m.role c.args.role.now) (name_cmp m.member c.args.member.now)) (always_returns_same _ _ _ (λ a r g called. search rules))) in
    rw (← whole) (sym found)
