use Rattle.std.proofs.Common.{◌++◌, take}
use Rattle.std.specs.Prelude.{All}
use Rattle.sql_parser.specs.Places.{IsSpelled, rest_of}
use Rattle.sql_parser.proofs.beginnings.goes_on.Given as goal

abbrev pub invariant-loop-words : goal.invariant-loop-words
invariant-loop-words l = All (λ c. IsSpelled (l.text ++ rest_of l.opened (c.0.now, c.1.now)) → ⊥) (take l.words-index l.completions)
