use Rattle.std.proofs.Common.{◌-◌, map}
use Rattle.sql_lexer.specs.Lexeme.{lexemes}
use Rattle.sql_parser.proofs.Searches.{Searching}
use Rattle.sql_parser.proofs.places.place_in.Given as goal

abbrev pub invariant-loop-high : goal.invariant-loop-high
invariant-loop-high l = Searching l.front.text.now (lexemes l.front.tokens.items) (map (λ c. (c.0.now, c.1.now)) l.completions) l.low l.high

abbrev pub decreases-loop-high : goal.decreases-loop-high
decreases-loop-high l = l.high - l.low
