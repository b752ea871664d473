use Rattle.std.proofs.Common.{◌≡◌, length}
use Rattle.statement_parameters.specs.Spans.{fragments_in, viewed_spans}
use Rattle.statement_parameters.specs.Templates.{greatest_from, parameter_count}
use Rattle.statement_parameters.proofs.template.parameter_count.Given as goal

abbrev pub invariant-loop-rest : goal.invariant-loop-rest
invariant-loop-rest l = greatest_from l.count (fragments_in l.fn.parts.masked.now l.rest) ≡ parameter_count (viewed_spans l.fn.parts)

abbrev pub decreases-loop-rest : goal.decreases-loop-rest
decreases-loop-rest l = length l.rest
