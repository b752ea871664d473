use Rattle.std.proofs.Common.{◌≡◌, ◌++◌, length}
use Rattle.std.specs.Prelude.{string_bytes}
use Rattle.sql_lexer.specs.Lexeme.{lexemes}
use Rattle.select_labels.specs.Standing.{StandIn}
use Rattle.select_labels.specs.Unlabelled.{blanked}
use Rattle.select_labels.proofs.blanks.blanked.Given as goal

-- what was made, and what stands from a place on, are all
abbrev pub invariant-loop-rest : goal.invariant-loop-rest
invariant-loop-rest l = record {
  whole : blanked l.text 0 (lexemes l.tokens) ≡ string_bytes l.made ++ blanked l.text l.at (lexemes l.rest);
  stand : StandIn l.text l.at (lexemes l.rest);
}

abbrev pub decreases-loop-rest : goal.decreases-loop-rest
decreases-loop-rest l = length l.rest
