use Rattle.std.proofs.Common.{rules, ◌≡◌}
use Rattle.key_ranges.specs.declared.range.KeyRange.TheVariants.{Span, Several}
use Rattle.executor.proofs.FoundOrder.{inside_span, inside_spans}
use Rattle.executor.proofs.found_order.order_of_rows.Goals as goal

pub order_inside-requires : goal.order_inside-requires
order_inside-requires c =
    let start = c.as_slice.result.now in
    let stop = c.as_slice-in-Some-Span.result.now in
    let is_span : c.in-Some-Span.field-0.now ≡ Span start stop = search rules in
    inside_span c.args.table.now c.in-Some-Span.field-0 start stop c.in-Some-Span.is is_span

pub order_inside-requires-in-Some-Several : goal.order_inside-requires-in-Some-Several
order_inside-requires-in-Some-Several c =
    let is_several : c.in-Some-Several.field-0.now ≡ Several c.in-Some-Several.spans = search rules in
    inside_spans c.args.table.now c.in-Some-Several.field-0 c.in-Some-Several.spans c.start.result.now c.stop.result.now c.in-Some-Several.is is_several c.start.ensures.inside c.start.ensures.start c.stop.ensures.stop
