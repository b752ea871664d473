use Rattle.std.proofs.Common.{◌≡◌, length, map}
use Rattle.std.specs.Prelude.{is_some}
use Rattle.statement_parameters.specs.Literals.{viewed_literal}
use Rattle.statement_parameters.specs.Parts.{tokens_with}
use Rattle.statement_parameters.specs.Spans.{fragments_in, viewed_spans}
use Rattle.statement_parameters.specs.Templates.{parts_of}
use Rattle.statement_parameters.proofs.binding.have_literals.Given as goal

-- all parameters have one exactly where all of those have one that are left
abbrev pub invariant-loop-rest : goal.invariant-loop-rest
invariant-loop-rest l =
    is_some (tokens_with (map viewed_literal l.literals) (parts_of (fragments_in l.fn.parts.masked.now l.rest)))
    ≡ is_some (tokens_with (map viewed_literal l.literals) (parts_of (viewed_spans l.fn.parts)))

abbrev pub decreases-loop-rest : goal.decreases-loop-rest
decreases-loop-rest l = length l.rest
