use Rattle.std.proofs.Common.{rules, ◌≡◌, ◌∙◌, sym, ap, subst, Some, None, Ok, Err, List, get_or, Option}
use Rattle.std.proofs.lemmas.Fn.{always_returns_same}
use Rattle.std.proofs.lemmas.Option.{slice_get-get_or}
use Rattle.std.proofs.lemmas.Result.{IfOk-weaker}
use Rattle.sql_ast.specs.declared.privilege.Descriptor.{Descriptor}
use Rattle.stored_database.specs.Definitions.{TableDefinition}
use Rattle.abstract_database.specs.Lists.{name_cmp}
use Rattle.catalogue.specs.Rooms.{HasRoomFor}
use Rattle.catalogue.proofs.Searching.{searched_by_name}
use Rattle.catalogue.proofs.staged.room_in_table.Goals as goal

inside : (x y : TableDefinition) → ◌≡◌ {A = Option TableDefinition} (Some x) (Some y) → x ≡ y
inside x y e = cc

pub returns-in-Ok-clause-reservation : goal.returns-in-Ok-clause-reservation
returns-in-Ok-clause-reservation c =
    let facts = c.in-Ok.ensures in
    let n = c.args.change.now.table in
    let ts = c.args.tables.now in
    let x = c.index-tables-index.result in
    let found = searched_by_name (λ (t : TableDefinition). t.definition.name) n ts c.requires (Ok c.in-Ok.index) facts.bound (facts.position (λ (t : TableDefinition). name_cmp t.definition.name n) (always_returns_same _ _ _ (λ a r g called. search rules))) in
    let at = slice_get-get_or ts c.in-Ok.index x facts.bound in
    IfOk-weaker c.new.result _ _ (λ reservation has t is.
    let same : x ≡ t = c.index-tables-index.is ∙ inside (get_or ts c.in-Ok.index x) t (sym at ∙ found ∙ is) in
    subst (λ (ds : List Descriptor). HasRoomFor c.args.change.now ds reservation) (c.descriptors.ensures.descriptors ∙ ap (λ (u : TableDefinition). u.descriptors) same) has) c.new.ensures

pub returns-in-Err-clause-reservation : goal.returns-in-Err-clause-reservation
returns-in-Err-clause-reservation c = λ t is.
    let facts = c.in-Err.ensures in
    let n = c.args.change.now.table in
    let none = searched_by_name (λ (t : TableDefinition). t.definition.name) n c.args.tables.now c.requires (Err c.in-Err.field-0) facts.bound (facts.position (λ (t : TableDefinition). name_cmp t.definition.name n) (always_returns_same _ _ _ (λ a r g called. search rules))) in
    let no : ◌≡◌ {A = Option TableDefinition} (Some t) None = sym is ∙ none in cc
