use Rattle.std.proofs.Common.{rules}
use Rattle.executor.proofs.InsideRange.{inside_each, inside_point, inside_span}
use Rattle.executor.proofs.narrowed.span_inside.Goals as goal

pub returns-in_ok-push_point-in-Point-clause-keys : goal.returns-in_ok-push_point-in-Point-clause-keys
returns-in_ok-push_point-in-Point-clause-keys c =
    (inside_point c.args.start.now c.args.stop.now c.args.bounds.now c.as_slice.result.now c.new-parts.result c.push_point.new.parts (search rules) c.new-parts.ensures c.in_ok-push_point-in-Point.ensures).keys

pub returns-in_ok-push_both-in-Span-clause-keys : goal.returns-in_ok-push_both-in-Span-clause-keys
returns-in_ok-push_both-in-Span-clause-keys c =
    (inside_span c.args.start.now c.args.stop.now c.args.bounds.now c.as_slice-in-Span.result.now c.as_slice-in-Span-2.result.now c.new-parts.result c.push_both.new.parts (search rules) c.new-parts.ensures
    c.in_ok-push_both-in-Span.ensures).keys

pub returns-in_ok-push_both_of_each-in-Several-clause-in_order : goal.returns-in_ok-push_both_of_each-in-Several-clause-in_order
returns-in_ok-push_both_of_each-in-Several-clause-in_order c =
    (inside_each c.args.start.now c.args.stop.now c.args.bounds.now c.as_slice-in-Several.result.now c.in-Several.spans c.new-parts.result c.push_both_of_each.new.parts c.in-Several.is c.as_slice-in-Several.ensures.spans
    c.as_slice-in-Several.ensures.inside c.new-parts.ensures c.in_ok-push_both_of_each-in-Several.ensures).in_order

pub returns-in_ok-push_both_of_each-in-Several-clause-keys : goal.returns-in_ok-push_both_of_each-in-Several-clause-keys
returns-in_ok-push_both_of_each-in-Several-clause-keys c =
    (inside_each c.args.start.now c.args.stop.now c.args.bounds.now c.as_slice-in-Several.result.now c.in-Several.spans c.new-parts.result c.push_both_of_each.new.parts c.in-Several.is c.as_slice-in-Several.ensures.spans
    c.as_slice-in-Several.ensures.inside c.new-parts.ensures c.in_ok-push_both_of_each-in-Several.ensures).keys
