use Rattle.std.proofs.Common.{◌≡◌, length, Some}
use Rattle.std.specs.Prelude.{All}
use Rattle.sql_lexer.specs.Lexeme.{IsPlaced, lexemes}
use Rattle.statement_parameters.specs.Parts.{appended}
use Rattle.statement_parameters.specs.Spans.{fragments_in}
use Rattle.statement_parameters.specs.Templates.{fragments_from}
use Rattle.statement_parameters.proofs.template.spans_of.Given as goal

-- what was found, and what the tokens that are left make, are all
abbrev pub invariant-loop-rest : goal.invariant-loop-rest
invariant-loop-rest l = record {
  placed : All (IsPlaced l.shown) (lexemes l.rest);
  whole : fragments_from l.text l.shown 0 (lexemes l.tokens) ≡ appended (Some (fragments_in l.shown l.spans.items)) (fragments_from l.text l.shown l.from (lexemes l.rest));
}

abbrev pub decreases-loop-rest : goal.decreases-loop-rest
decreases-loop-rest l = length l.rest
