use Rattle.std.proofs.Common.{◌≡◌, ◌++◌, ◌∷◌, take}
use Rattle.std.specs.Prelude.{string_bytes}
use Rattle.std.specs.List.{flat_map}
use Rattle.sql_lexer.specs.Lexeme.{lexemes}
use Rattle.postgres_talks.proofs.classes.push_others.Given as goal

abbrev pub invariant-loop-token : goal.invariant-loop-token
invariant-loop-token l = string_bytes l.line ≡ string_bytes l.fn.line ++ flat_map (λ t. 32 ∷ t.bytes) (lexemes (take l.token-index l.tokens))
