-- An expression ends within the tokens.
use Rattle.std.proofs.Common.{◌≡◌, ℕ, zero, suc, ◌<◌, ◌≤◌, List, [], ◌∷◌, Some, length, arith}
use Rattle.std.specs.Prelude.{true, false}
use Rattle.sql_lexer.specs.Lexeme.{Lexeme, kind_at}
use Rattle.sql_lexer.specs.declared.token.TokenKind.{TokenKind}
use Rattle.sql_lexer.specs.declared.token.TokenKind.TheVariants.{Reserved, Punctuation}
use Rattle.sql_lexer.specs.declared.token.Reserved.TheVariants.{Null}
use Rattle.sql_lexer.specs.declared.token.Punctuation.TheVariants.{Close}
use Rattle.expr_parser.specs.Grammar.{Tree, Part, chain, by_not, no_not, tests, compared, not_compared, by_number, by_minus, no_minus, by_leaf, qualified, inside, by_member, counted, Continues, ends, goes_on, Tested, untested, is_null, is_not_null}
use Rattle.expr_parser.specs.Grammar as grammar
use Rattle.expr_parser.specs.declared.level.Level.{Level}
use Rattle.sql_grammar.specs.Classes.{Class, names, no_star, in_class}
use Rattle.sql_grammar.proofs.Determined.{name_known, expr_known}

-- where a token of a kind stands, or of a class, or a number
token_below : (ts : List Lexeme) (i : ℕ) (k : TokenKind) → kind_at ts i ≡ Some k → i < length ts
token_below [] i k h = absurd (cc)
token_below (x ∷ xs) zero k h = omega arith
token_below (x ∷ xs) (suc i) k h = omega (arith, token_below xs i k h)

class_below : (c : Class) (ts : List Lexeme) (i : ℕ) → in_class c (kind_at ts i) ≡ true → i < length ts
class_below c [] i h = let e : false ≡ true = h in absurd (cc)
class_below c (x ∷ xs) zero h = omega arith
class_below c (x ∷ xs) (suc i) h = omega (arith, class_below c xs i h)

number_below : (ts : List Lexeme) (i n : ℕ) → counted (kind_at ts i) ≡ Some n → i < length ts
number_below [] i n h = absurd (cc)
number_below (x ∷ xs) zero n h = omega arith
number_below (x ∷ xs) (suc i) n h = omega (arith, number_below xs i n h)

mutual
  pub within : {ts : List Lexeme} {p : Part} {i j : ℕ} {e : Tree} → grammar.Spells ts p i j e → j ≤ length ts
  within (chain a r) = continues_within r (within a)
  within (by_not h d) = within d
  within (no_not d) = within d
  within (tests a r) = tested_within r (within a)
  within (compared a h b) = within b
  within (not_compared d) = within d
  within {ts} (by_number {i} {n} h g f) = omega (arith, number_below ts (suc i) n g)
  within (by_minus h g d) = within d
  within (no_minus d) = within d
  within {ts} (by_leaf {i} {e} h) = omega (arith, class_below no_star ts i (expr_known {ts = ts} (by_leaf {i = i} {e = e} h)))
  within {ts} (qualified {i} {t} {n} h g f) = omega (arith, class_below names ts (suc (suc i)) (name_known ts (suc (suc i)) n f))
  within {ts} (inside {j = j} h d g) = omega (arith, token_below ts j (Punctuation Close) g)
  within (by_member h g d) = within d

  pub continues_within : {ts : List Lexeme} {c : Level} {l : Tree} {k j : ℕ} {e : Tree} → Continues ts c l k j e → k ≤ length ts → j ≤ length ts
  continues_within ends le = le
  continues_within (goes_on h a r) le = continues_within r (within a)

  pub tested_within : {ts : List Lexeme} {l : Tree} {k j : ℕ} {e : Tree} → Tested ts l k j e → k ≤ length ts → j ≤ length ts
  tested_within untested le = le
  tested_within {ts} (is_null {k = k} h g r) le = tested_within r (omega (arith, token_below ts (suc k) (Reserved Null) g))
  tested_within {ts} (is_not_null {k = k} h g f r) le = tested_within r (omega (arith, token_below ts (suc (suc k)) (Reserved Null) f))
