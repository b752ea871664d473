use Rattle.std.proofs.Common.{◌≡◌, length}
use Rattle.statement_parameters.specs.Spans.{fragments_in, viewed_spans}
use Rattle.statement_parameters.specs.Templates.{has_parameter}
use Rattle.statement_parameters.proofs.template.has_parameter.Given as goal

abbrev pub invariant-loop-rest : goal.invariant-loop-rest
invariant-loop-rest l = has_parameter (fragments_in l.fn.parts.masked.now l.rest) l.number ≡ has_parameter (viewed_spans l.fn.parts) l.number

abbrev pub decreases-loop-rest : goal.decreases-loop-rest
decreases-loop-rest l = length l.rest
