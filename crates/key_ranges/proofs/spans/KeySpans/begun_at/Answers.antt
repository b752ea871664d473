use Rattle.std.proofs.Common.{◌∙◌, ap, drop}
use Rattle.key_ranges.specs.Spans.{begun_at}
use Rattle.key_ranges.proofs.MergedSpans.{begun_inside}
use Rattle.key_ranges.proofs.spans.KeySpans.begun_at.Goals as goal

pub invariant_of-result : goal.invariant_of-result
invariant_of-result c = begun_inside (record { start = c.self.inside.start; stop = c.self.inside.stop; spans = c.self.inside.spans }) c.args.index c.args.from _ _ _ c.self.invariant
    (c.from_vec-start.ensures ∙ c.in_ok-from_slice.ensures.items ∙ c.as_slice.ensures)
    (c.from_vec-stop.ensures ∙ c.in_ok-from_slice-2.ensures.items ∙ c.as_slice-2.ensures)
    (c.in_ok-spans.ensures ∙ ap (λ spans. begun_at c.args.from (drop c.args.index spans)) c.as_slice-3.ensures)

pub returns-clause-inside : goal.returns-clause-inside
returns-clause-inside c = begun_inside (record { start = c.self.inside.start; stop = c.self.inside.stop; spans = c.self.inside.spans }) c.args.index c.args.from _ _ _ c.self.invariant
    (c.from_vec-start.ensures ∙ c.in_ok-from_slice.ensures.items ∙ c.as_slice.ensures)
    (c.from_vec-stop.ensures ∙ c.in_ok-from_slice-2.ensures.items ∙ c.as_slice-2.ensures)
    (c.in_ok-spans.ensures ∙ ap (λ spans. begun_at c.args.from (drop c.args.index spans)) c.as_slice-3.ensures)
