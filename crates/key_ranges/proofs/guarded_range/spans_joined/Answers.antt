use Rattle.std.proofs.Common.{◌∙◌, ap, sym, subst}
use Rattle.key_ranges.specs.InOrder.{merged}
use Rattle.key_ranges.specs.Spans.{AreSpansInOrder}
use Rattle.key_ranges.specs.TableRanges.{spans_of_boxes}
use Rattle.key_ranges.proofs.InOrders.{joined_in_order}
use Rattle.key_ranges.proofs.guarded_range.spans_joined.Goals as goal

pub range_of_spans-requires : goal.range_of_spans-requires
range_of_spans-requires c = subst AreSpansInOrder (sym (c.in_ok-together.ensures ∙ ap merged c.in_ok-spans.ensures)) (joined_in_order (spans_of_boxes c.args.id c.args.columns.now c.args.boxes.now))
