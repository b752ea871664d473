use Rattle.std.proofs.Common.{◌≡◌, drop, length, map}
use Rattle.sql_lexer.specs.Lexeme.{lexemes}
use Rattle.statement_parameters.specs.Eaten.{behind_known}
use Rattle.statement_parameters.specs.Literals.{viewed_literal}
use Rattle.statement_parameters.specs.Parts.{tokens_with, token_bytes}
use Rattle.statement_parameters.specs.Spans.{fragments_in, viewed_spans}
use Rattle.statement_parameters.specs.Templates.{parts_of}
use Rattle.statement_parameters.proofs.eating.are_tokens.Given as goal

-- behind the parts that are left stands what stands behind all
abbrev pub invariant-loop-rest : goal.invariant-loop-rest
invariant-loop-rest l =
    behind_known (tokens_with (map viewed_literal l.literals) (parts_of (viewed_spans l.fn.parts))) (token_bytes (lexemes l.tokens))
    ≡ behind_known (tokens_with (map viewed_literal l.literals) (parts_of (fragments_in l.fn.parts.masked.now l.rest))) (drop l.at (token_bytes (lexemes l.tokens)))

abbrev pub decreases-loop-rest : goal.decreases-loop-rest
decreases-loop-rest l = length l.rest
