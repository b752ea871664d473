use Rattle.std.proofs.Common.{rules, ◌∙◌, sym, subst, Ok, Err}
use Rattle.std.proofs.lemmas.Fn.{always_returns_same}
use Rattle.abstract_database.specs.Lists.{Rising, name_cmp}
use Rattle.stored_database.specs.Definitions.{TableDefinition, definition_cmp}
use Rattle.catalogue.proofs.Searching.{lent_at, searched_by_name}
use Rattle.catalogue.proofs.definitions.Catalogue.table.Goals as goal

pub returns-in-Ok : goal.returns-in-Ok
returns-in-Ok c =
    let facts = c.in-Ok.ensures in
    let rise = subst (Rising definition_cmp) (sym c.tables-tables.ensures.tables) c.tables-tables.ensures.order.tables in
    let found = searched_by_name (λ (t : TableDefinition). t.definition.name) c.args.name.now c.tables-tables.result.now rise (Ok c.in-Ok.index) facts.bound (facts.position (λ (t : TableDefinition). name_cmp t.definition.name c.args.name.now) (always_returns_same _ _ _ (λ a r g called. search rules))) in
    rw (← c.tables-tables.ensures.tables) (lent_at c.tables-tables.result.now c.in-Ok.index _ c.get.ensures.lookup.3 ∙ found)

pub returns-in-Err : goal.returns-in-Err
returns-in-Err c =
    let facts = c.in-Err.ensures in
    let rise = subst (Rising definition_cmp) (sym c.tables-tables.ensures.tables) c.tables-tables.ensures.order.tables in
    let found = searched_by_name (λ (t : TableDefinition). t.definition.name) c.args.name.now c.tables-tables.result.now rise (Err c.in-Err.field-0) facts.bound (facts.position (λ (t : TableDefinition). name_cmp t.definition.name c.args.name.now) (always_returns_same _ _ _ (λ a r g called. search rules))) in
    rw (← c.tables-tables.ensures.tables) (sym found)
