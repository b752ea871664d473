use Rattle.std.proofs.Common.{◌∙◌, List, [], ap, sym}
use Rattle.std.proofs.lemmas.Result.{IfOk-weaker}
use Rattle.sql_ast.specs.declared.privilege.Descriptor.{Descriptor}
use Rattle.abstract_database.specs.Privileges.{with_descriptors}
use Rattle.schema_statements.proofs.Orders.{all_rise, few_in_order, list_in_order}
use Rattle.schema_statements.proofs.ordered_descriptors.+halves_ordered.Goals as goal

pub returns-then-list-lt2 : goal.returns-then-list-lt2
returns-then-list-lt2 t c = IfOk-weaker c.copies.result _ _ (λ list is. is ∙ sym (few_in_order c.args.list.now c.if-list-lt2.true)) c.copies.ensures

pub grant-requires : goal.grant-requires
grant-requires t c = rw (c.as_slice.ensures.value, c.in_ok-second.ensures) (all_rise c.split_at.result.1.now [] tt)

pub returns : goal.returns
returns t c =
    let first = c.split_at.result.0.now in
    let second = c.split_at.result.1.now in
    c.in_ok-grant.ensures.granted
    ∙ ap (λ (l : List Descriptor). with_descriptors l c.in_ok-first.first.items) (c.as_slice.ensures.value ∙ c.in_ok-second.ensures)
    ∙ ap (λ (l : List Descriptor). with_descriptors (with_descriptors second []) l) c.in_ok-first.ensures
    ∙ list_in_order first second c.args.list.now _ c.split_at.ensures.front c.split_at.ensures.back
