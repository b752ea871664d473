-- The conditions that texts are read as.
use Rattle.std.proofs.Common.{◌≡◌, ℕ, List, [], ◌∷◌, length, Option, Some, None, Ok, subst, arith}
use Rattle.std.specs.Prelude.{IfSome, ◌-◌}
use Rattle.std.specs.Str.{IsUtf8}
use Rattle.sql_types.specs.Domain.{HasNoZero}
use Rattle.sql_ast.specs.declared.policy.PolicyClause.{PolicyClause}
use Rattle.sql_ast.specs.Read.{IsReadTerm, IsReadClause}
use Rattle.sql_lexer.specs.Lexeme.{Lexeme}
use Rattle.sql_lexer.specs.Lexing.{Lexes}
use Rattle.sql_lexer.specs.Slices.{text_between}
use Rattle.sql_lexer.specs.Tokens.{AreReadable}
use Rattle.expr_parser.specs.Grammar.{Tree}
use Rattle.expr_parser.specs.Stages.{Parses, by_tokens, Answers, parsed}
use Rattle.expr_parser.specs.Whole.{SpellsWhole, IsWithinDepth}
use Rattle.expr_parser.specs.Written.{IsAsWritten}
use Rattle.catalogue_loading.specs.ValidityParts.{HasUtf8}
use Rattle.expr_parser.proofs.ReadTerms.{term_read}

-- the tokens of a text of UTF-8 are readable
abbrev pub TokensAreReadable : Type 0
TokensAreReadable = (source : List ℕ) (ts : List Lexeme) → IsUtf8 source → Lexes source (Ok ts) → AreReadable source ts

module _ (law : TokensAreReadable) where
  no_zero : (text : List ℕ) (ts : List Lexeme) → AreReadable text ts → text_between text ts 0 (length ts - 1) ≡ text → HasNoZero text
  no_zero text [] z e = subst HasNoZero e tt
  no_zero text (t ∷ ts) z e = subst HasNoZero e (z.slices 0 (length (t ∷ ts) - 1) (omega arith) (omega arith)).no_zero

  answered : (ts : List Lexeme) (text : List ℕ) (e : Tree) → AreReadable text ts → Answers SpellsWhole IsWithinDepth ts (Ok e) → IsReadTerm e
  answered ts text e z (parsed few spells within) = term_read z spells

  read_by : (c : PolicyClause) → IsAsWritten c → HasUtf8 c → Parses SpellsWhole IsWithinDepth c.text (Ok c.expression) → IsReadClause c
  read_by c w utf8 (by_tokens {ts} short lexes answers) =
      let z = law c.text ts utf8 lexes in
      record { text = record { utf8 = utf8; no_zero = no_zero c.text ts z (w.trimmed ts lexes) }; expression = answered ts c.text c.expression z answers }

  pub clause_read : (c : PolicyClause) → IsAsWritten c → HasUtf8 c → IsReadClause c
  clause_read c w utf8 = read_by c w utf8 w.parsed

  pub clause_read_if_any : (o : Option PolicyClause) → IfSome o IsAsWritten → IfSome o HasUtf8 → IfSome o IsReadClause
  clause_read_if_any None w utf8 = tt
  clause_read_if_any (Some c) w utf8 = clause_read c w utf8
