use Rattle.std.proofs.Common.{rules, ◌∙◌, sym, subst, Ok, Err}
use Rattle.std.proofs.lemmas.Fn.{always_returns_same}
use Rattle.sql_ast.specs.declared.role.Role.{Role}
use Rattle.abstract_database.specs.Lists.{Rising, name_cmp}
use Rattle.abstract_database.specs.Database.{role_cmp}
use Rattle.catalogue.proofs.Searching.{lent_at, searched_by_name}
use Rattle.catalogue.proofs.definitions.Catalogue.role.Goals as goal

pub returns-in-Ok : goal.returns-in-Ok
returns-in-Ok c =
    let facts = c.in-Ok.ensures in
    let rise = subst (Rising role_cmp) (sym c.roles-roles.ensures.roles) c.roles-roles.ensures.order.roles in
    let found = searched_by_name (λ (r : Role). r.name) c.args.name.now c.roles-roles.result.now rise (Ok c.in-Ok.index) facts.bound (facts.position (λ (r : Role). name_cmp r.name c.args.name.now) (always_returns_same _ _ _ (λ a r g called. search rules))) in
    rw (← c.roles-roles.ensures.roles) (lent_at c.roles-roles.result.now c.in-Ok.index _ c.get.ensures.lookup.3 ∙ found)

pub returns-in-Err : goal.returns-in-Err
returns-in-Err c =
    let facts = c.in-Err.ensures in
    let rise = subst (Rising role_cmp) (sym c.roles-roles.ensures.roles) c.roles-roles.ensures.order.roles in
    let found = searched_by_name (λ (r : Role). r.name) c.args.name.now c.roles-roles.result.now rise (Err c.in-Err.field-0) facts.bound (facts.position (λ (r : Role). name_cmp r.name c.args.name.now) (always_returns_same _ _ _ (λ a r g called. search rules))) in
    rw (← c.roles-roles.ensures.roles) (sym found)
