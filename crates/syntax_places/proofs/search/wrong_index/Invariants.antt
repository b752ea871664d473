use Rattle.std.proofs.Common.{◌-◌, suc, length}
use Rattle.sql_lexer.specs.Lexeme.{lexemes}
use Rattle.syntax_places.specs.SyntaxPlaces.{GoesOnToAStatement}
use Rattle.syntax_places.proofs.Searching.{Searching}
use Rattle.syntax_places.proofs.search.wrong_index.Given as goal

abbrev pub invariant-loop-high : goal.invariant-loop-high
invariant-loop-high l = Searching (GoesOnToAStatement l.text (lexemes l.tokens)) (suc (length (lexemes l.tokens))) l.low l.high

abbrev pub decreases-loop-high : goal.decreases-loop-high
decreases-loop-high l = l.high - l.low
