use Rattle.std.proofs.Common.{◌≡◌, ◌≤◌, length, map, Some}
use Rattle.statement_parameters.specs.Bindings.{text_with}
use Rattle.statement_parameters.specs.Literals.{viewed_literal}
use Rattle.statement_parameters.specs.Parts.{appended}
use Rattle.statement_parameters.specs.Spans.{fragments_in, viewed_spans}
use Rattle.statement_parameters.proofs.binding.made_text.Given as goal

-- what was made, and the text of the parts that are left, are the whole
abbrev pub invariant-loop-rest : goal.invariant-loop-rest
invariant-loop-rest l = record {
  whole : text_with (map viewed_literal l.literals) (viewed_spans l.fn.parts) ≡ appended (Some l.made.items) (text_with (map viewed_literal l.literals) (fragments_in l.fn.parts.masked.now l.rest));
  short : length l.made.items ≤ 65536;
}

abbrev pub decreases-loop-rest : goal.decreases-loop-rest
decreases-loop-rest l = length l.rest
