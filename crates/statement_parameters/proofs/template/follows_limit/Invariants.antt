use Rattle.std.proofs.Common.{◌≡◌, length}
use Rattle.statement_parameters.specs.Spans.{fragments_in, viewed_spans}
use Rattle.statement_parameters.specs.Templates.{is_limited, follows_limit}
use Rattle.statement_parameters.proofs.template.follows_limit.Given as goal

abbrev pub invariant-loop-rest : goal.invariant-loop-rest
invariant-loop-rest l = is_limited l.behind l.number (fragments_in l.fn.parts.masked.now l.rest) ≡ follows_limit (viewed_spans l.fn.parts) l.number

abbrev pub decreases-loop-rest : goal.decreases-loop-rest
decreases-loop-rest l = length l.rest
