use Rattle.std.proofs.Common.{rules, ◌∙◌, List, get_or, set, find, sym, ap, subst, Err}
use Rattle.std.proofs.lemmas.Fn.{always_returns_same}
use Rattle.store.proofs.Changes.{same_key}
use Rattle.stored_database.specs.Definitions.{TableDefinition, definition_cmp}
use Rattle.abstract_database.specs.Lists.{Rising, name_cmp}
use Rattle.catalogue.specs.Descriptors.{table_after}
use Rattle.catalogue.specs.Lookups.{is_definition_named}
use Rattle.catalogue.proofs.Searching.{searched_by_name}
use Rattle.catalogue.proofs.Setting.{changed_at, unchanged, found_there}
use Rattle.catalogue.proofs.staged.set_descriptors.Goals as goal

pub change_descriptors-requires-clause-table : goal.change_descriptors-requires-clause-table
change_descriptors-requires-clause-table c =
    let facts = c.in-Ok.ensures in
    let n = c.args.change.table in
    let t = c.index_mut.result.now in
    let found = facts.position (λ (u : TableDefinition). name_cmp u.definition.name n) (always_returns_same _ _ _ (λ a r g called. search rules)) in
    sym (same_key (get_or c.as_slice.result.now c.in-Ok.index t).definition.name n (found t))
    ∙ ap (λ (ts : List TableDefinition). (get_or ts c.in-Ok.index t).definition.name) c.as_slice.ensures.value
    ∙ sym (ap (λ (u : TableDefinition). u.definition.name) c.index_mut.ensures.value)

pub change_descriptors-requires-clause-reservation : goal.change_descriptors-requires-clause-reservation
change_descriptors-requires-clause-reservation c =
    let facts = c.in-Ok.ensures in
    let n = c.args.change.table in
    let t = c.index_mut.result.now in
    let found = facts.position (λ (u : TableDefinition). name_cmp u.definition.name n) (always_returns_same _ _ _ (λ a r g called. search rules)) in
    let order = subst (Rising definition_cmp) (sym c.as_slice.ensures.value) c.requires.order in
    let at = c.index_mut.ensures.value ∙ ap (λ (ts : List TableDefinition). get_or ts c.in-Ok.index t) (sym c.as_slice.ensures.value) in
    c.requires.reservation t
    (ap (find (is_definition_named n)) (sym c.as_slice.ensures.value)
    ∙ found_there (λ (u : TableDefinition). u.definition.name) n c.as_slice.result.now order c.in-Ok.index facts.bound found t at)

pub returns-in-Ok : goal.returns-in-Ok
returns-in-Ok c =
    let facts = c.in-Ok.ensures in
    let n = c.args.change.table in
    let t = c.index_mut.result.now in
    let found = facts.position (λ (u : TableDefinition). name_cmp u.definition.name n) (always_returns_same _ _ _ (λ a r g called. search rules)) in
    let order = subst (Rising definition_cmp) (sym c.as_slice.ensures.value) c.requires.order in
    ap (λ (u : TableDefinition). set c.args.tables.now.items c.in-Ok.index u) (c.change_descriptors.ensures ∙ ap (table_after c.args.change) c.index_mut.ensures.value)
    ∙ rw (← c.as_slice.ensures.value) (changed_at (λ (u : TableDefinition). u.definition.name) n (table_after c.args.change) c.as_slice.result.now order c.in-Ok.index facts.bound found t)

pub returns-in-Err : goal.returns-in-Err
returns-in-Err c =
    let facts = c.in-Err.ensures in
    let n = c.args.change.table in
    let order = subst (Rising definition_cmp) (sym c.as_slice.ensures.value) c.requires.order in
    let none = searched_by_name (λ (t : TableDefinition). t.definition.name) n c.as_slice.result.now order (Err c.in-Err.field-0) facts.bound (facts.position (λ (t : TableDefinition). name_cmp t.definition.name n) (always_returns_same _ _ _ (λ a r g called. search rules))) in
    sym (rw (← c.as_slice.ensures.value) (unchanged (λ (t : TableDefinition). t.definition.name) n (table_after c.args.change) c.as_slice.result.now none))
