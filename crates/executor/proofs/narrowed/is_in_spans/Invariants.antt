use Rattle.std.proofs.Common.{◌≡◌, drop}
use Rattle.key_ranges.specs.Spans.{is_in_spans}
use Rattle.executor.proofs.narrowed.is_in_spans.Given as goal

abbrev pub invariant-loop-span : goal.invariant-loop-span
invariant-loop-span l = is_in_spans l.spans l.key ≡ is_in_spans (drop l.span-index l.spans) l.key
