-- COUNT before a "(": no expression but the column count begins so.
use Rattle.std.proofs.Common.{◌≡◌, ℕ, suc, List, Option, Some, refl, sym, ap, ◌∙◌}
use Rattle.sql_lexer.specs.Lexeme.{Lexeme, kind_at}
use Rattle.sql_lexer.specs.declared.token.TokenKind.{TokenKind}
use Rattle.sql_lexer.specs.declared.token.TokenKind.TheVariants.{Unreserved, Punctuation}
use Rattle.sql_lexer.specs.declared.token.Unreserved.{Unreserved as Word}
use Rattle.sql_lexer.specs.declared.token.Punctuation.TheVariants.{Open}
use Rattle.expr_parser.specs.Grammar.{Tree, Part, chain, by_not, no_not, tests, compared, not_compared, by_number, by_minus, no_minus, by_leaf, qualified, inside, by_member, joiner, comparer, Continues, ends, goes_on, Tested, untested, is_null, is_not_null}
use Rattle.expr_parser.specs.Grammar as grammar
use Rattle.expr_parser.specs.declared.level.Level.{Level}
use Rattle.expr_parser.specs.declared.level.Level.TheVariants as level
use Rattle.expr_parser.specs.declared.level.Connective.{Connective}
use Rattle.sql_ast.specs.declared.expression.Comparison.{Comparison}

-- a word that is not reserved stands at i, and a "(" after it
pub record IsCall (ts : List Lexeme) (i : ℕ) (w : Word) : Type 0 where
  pub word : kind_at ts i ≡ Some (Unreserved w)
  pub opens : kind_at ts (suc i) ≡ Some (Punctuation Open)

no_joiner : (c : Level) (k : Option TokenKind) (o : Connective) → k ≡ Some (Punctuation Open) → joiner c k ≡ Some o → ⊥
no_joiner level.Or k o h g = let e = rw h at g in cc
no_joiner level.And k o h g = let e = rw h at g in cc
no_joiner level.Sum k o h g = let e = rw h at g in cc
no_joiner level.Term k o h g = let e = rw h at g in cc

no_comparer : (k : Option TokenKind) (o : Comparison) → k ≡ Some (Punctuation Open) → comparer k ≡ Some o → ⊥
no_comparer k o h g = let e = rw h at g in cc

continued : {ts : List Lexeme} {c : Level} {l e : Tree} {k j : ℕ} → Continues ts c l k j e → kind_at ts k ≡ Some (Punctuation Open) → j ≡ k
continued ends h = refl
continued {ts} (goes_on {c} {o = o} {k} q a r) h = absurd (no_joiner c (kind_at ts k) o h q)

tested : {ts : List Lexeme} {l e : Tree} {k j : ℕ} → Tested ts l k j e → kind_at ts k ≡ Some (Punctuation Open) → j ≡ k
tested untested h = refl
tested (is_null q z r) h = let e = sym h ∙ q in cc
tested (is_not_null q z u r) h = let e = sym h ∙ q in cc

-- the column is the whole expression
pub stops : {ts : List Lexeme} {p : Part} {i j : ℕ} {e : Tree} {w : Word} → grammar.Spells ts p i j e → IsCall ts i w → j ≡ suc i
stops {ts} (chain a r) h = let q = stops a h in continued r (ap (kind_at ts) q ∙ h.opens) ∙ q
stops (by_not q d) h = let z = sym h.word ∙ q in cc
stops (no_not d) h = stops d h
stops {ts} (tests a r) h = let q = stops a h in tested r (ap (kind_at ts) q ∙ h.opens) ∙ q
stops {ts} (compared {k = k} {o = o} a q b) h = absurd (no_comparer (kind_at ts k) o (ap (kind_at ts) (stops a h) ∙ h.opens) q)
stops (not_compared d) h = stops d h
stops (by_number q z u) h = let g = sym h.word ∙ q in cc
stops (by_minus q z d) h = let g = sym h.word ∙ q in cc
stops (no_minus d) h = stops d h
stops (by_leaf q) h = refl
stops (qualified q z u) h = let g = sym h.opens ∙ z in cc
stops (inside q d z) h = let g = sym h.word ∙ q in cc
stops (by_member q z d) h = let g = sym h.opens ∙ z in cc
