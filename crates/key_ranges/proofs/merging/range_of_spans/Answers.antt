use Rattle.std.proofs.Common.{◌∙◌, ap}
use Rattle.key_ranges.specs.TableRanges.{around_all}
use Rattle.key_ranges.proofs.MergedSpans.{are_inside_all}
use Rattle.key_ranges.proofs.merging.range_of_spans.Goals as goal

pub new-several-requires : goal.new-several-requires
new-several-requires c = are_inside_all c.in_ok-start.field-0 c.args.spans.items c.from_vec.result (c.in_ok-start.ensures ∙ ap around_all c.as_slice.ensures.value) c.from_vec.ensures c.requires
