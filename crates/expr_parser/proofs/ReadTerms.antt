-- The expressions that readable tokens spell: their names are names, and their literals are values.
use Rattle.std.proofs.Common.{◌≡◌, ℕ, zero, suc, ◌<◌, ◌≤◌, List, Option, Some, None, slice_get, refl, subst, arith}
use Rattle.std.specs.Prelude.{◌^◌, Bool, true, false, if◌then◌else◌, nat_lt, nat_le, pos, neg_ℤ, FitsSigned}
use Rattle.std.proofs.lemmas.Bool.{ltb-true, leb-true}
use Rattle.std.specs.Int.{w64}
use Rattle.std.specs.Option.{option_map}
use Rattle.sql_types.specs.declared.value.Value.TheVariants as value
use Rattle.sql_lexer.specs.Lexeme.{Lexeme}
use Rattle.sql_lexer.specs.Content as content
use Rattle.sql_lexer.specs.declared.token.TokenKind.{TokenKind}
use Rattle.sql_lexer.specs.declared.token.TokenKind.TheVariants.{Reserved, Unreserved, Word, QuotedIdentifier, Text, Number}
use Rattle.sql_lexer.specs.declared.token.Reserved.TheVariants as reserved
use Rattle.sql_ast.specs.Term as tree
use Rattle.sql_ast.specs.Read.{IsReadTerm}
use Rattle.expr_parser.specs.Grammar.{Tree, Part, chain, by_not, no_not, tests, compared, not_compared, by_number, by_minus, no_minus, by_leaf, qualified, inside, by_member, joined, positive, negative, bare_column, text_literal, Continues, ends, goes_on, Tested, untested, is_null, is_not_null}
use Rattle.expr_parser.specs.Grammar as grammar
use Rattle.expr_parser.specs.declared.level.Level.{Level}
use Rattle.expr_parser.specs.declared.level.Connective.{Connective}
use Rattle.expr_parser.specs.declared.level.Connective.TheVariants as connective
use Rattle.expr_parser.proofs.Readings.{Some_inj}
use Rattle.sql_lexer.specs.Tokens.{AreReadable}

-- Numbers

small_fits : (n : ℕ) → n < 2 ^ 63 → FitsSigned w64 (pos n)
small_fits n h = record { sfits = h }

least_fits : (n : ℕ) → n ≤ 2 ^ 63 → FitsSigned w64 (neg_ℤ (pos n))
least_fits zero h = record { sfits = omega arith }
least_fits (suc n) h = record { sfits = omega arith }

if_some : (t : Bool) (x e : Tree) → (if t then Some x else None) ≡ Some e → (t ≡ true) × (x ≡ e)
if_some true x e h = (refl, Some_inj h)
if_some false x e h = cc

positive_read : (n : ℕ) (e : Tree) → positive n ≡ Some e → IsReadTerm e
positive_read n e h =
    let q = if_some (nat_lt n (2 ^ 63)) (tree.literal (value.Int (pos n))) e h in
    subst IsReadTerm q.1 (small_fits n (ltb-true n (2 ^ 63) q.0))

negative_read : (n : ℕ) (e : Tree) → negative n ≡ Some e → IsReadTerm e
negative_read n e h =
    let q = if_some (nat_le n (2 ^ 63)) (tree.literal (value.Int (neg_ℤ (pos n)))) e h in
    subst IsReadTerm q.1 (least_fits n (leb-true n (2 ^ 63) q.0))

-- Leaves

mapped : (f : List ℕ → Tree) (o : Option (List ℕ)) (e : Tree) → option_map f o ≡ Some e → ((x : List ℕ) → o ≡ Some x → IsReadTerm (f x)) → IsReadTerm e
mapped f None e h g = cc
mapped f (Some x) e h g = subst IsReadTerm (Some_inj h) (g x refl)

-- what is known of a token
record IsKnown (k : TokenKind) (bytes : List ℕ) : Type 0 where
  name : (x : List ℕ) → content.name_in k bytes ≡ Some x → IsReadTerm (bare_column x)
  text : (x : List ℕ) → content.text_in k bytes ≡ Some x → IsReadTerm (text_literal x)

kind_read : (k : TokenKind) (bytes : List ℕ) (e : Tree) → IsKnown k bytes → grammar.leaf_of k bytes ≡ Some e → IsReadTerm e
kind_read (Reserved reserved.Null) bytes e a h = subst IsReadTerm (Some_inj h) tt
kind_read (Reserved reserved.True) bytes e a h = subst IsReadTerm (Some_inj h) tt
kind_read (Reserved reserved.False) bytes e a h = subst IsReadTerm (Some_inj h) tt
kind_read (Reserved reserved.CurrentUser) bytes e a h = subst IsReadTerm (Some_inj h) tt
kind_read (Reserved reserved.SessionUser) bytes e a h = subst IsReadTerm (Some_inj h) tt
kind_read (Number n) bytes e a h = positive_read n e h
kind_read Word bytes e a h = mapped bare_column (content.name_in Word bytes) e h a.name
kind_read (Unreserved w) bytes e a h = mapped bare_column (content.name_in (Unreserved w) bytes) e h a.name
kind_read QuotedIdentifier bytes e a h = mapped bare_column (content.name_in QuotedIdentifier bytes) e h a.name
kind_read Text bytes e a h = mapped text_literal (content.text_in Text bytes) e h a.text
kind_read _ bytes e a h = let g : None ≡ Some e = h in cc

token_read : (t : Option Lexeme) (e : Tree) → ((x : List ℕ) → content.name t ≡ Some x → IsReadTerm (bare_column x)) → ((x : List ℕ) → content.text_content t ≡ Some x → IsReadTerm (text_literal x)) → grammar.leaf t ≡ Some e → IsReadTerm e
token_read None e f g h = cc
token_read (Some t) e f g h = kind_read t.kind t.bytes e (record { name = f; text = g }) h

-- Operators

joined_read : (o : Connective) (l r : Tree) → IsReadTerm l → IsReadTerm r → IsReadTerm (joined o l r)
joined_read connective.Or l r a b = (a, b)
joined_read connective.And l r a b = (a, b)
joined_read (connective.Arithmetic o) l r a b = (a, b)

tested_read : {ts : List Lexeme} {l : Tree} {k j : ℕ} {e : Tree} → Tested ts l k j e → IsReadTerm l → IsReadTerm e
tested_read untested h = h
tested_read (is_null q g r) h = tested_read r h
tested_read (is_not_null q g f r) h = tested_read r h

mutual
  pub term_read : {source : List ℕ} {ts : List Lexeme} {p : Part} {i j : ℕ} {e : Tree} → AreReadable source ts → grammar.Spells ts p i j e → IsReadTerm e
  term_read z (chain a r) = continued_read z r (term_read z a)
  term_read z (by_not h d) = term_read z d
  term_read z (no_not d) = term_read z d
  term_read z (tests a r) = tested_read r (term_read z a)
  term_read z (compared a h b) = (term_read z a, term_read z b)
  term_read z (not_compared d) = term_read z d
  term_read z (by_number {n = n} {e = e} h g f) = negative_read n e f
  term_read z (by_minus h g d) = term_read z d
  term_read z (no_minus d) = term_read z d
  term_read {ts} z (by_leaf {i} {e} h) = token_read (slice_get ts i) e (λ x g. record { table = tt; name = z.names i x g }) (λ x g. z.texts i x g) h
  term_read {ts} z (qualified {i} {t} {n} h g f) = record { table = z.names i t h; name = z.names (suc (suc i)) n f }
  term_read z (inside h d g) = term_read z d
  term_read z (by_member h g d) = term_read z d

  pub continued_read : {source : List ℕ} {ts : List Lexeme} {c : Level} {l : Tree} {k j : ℕ} {e : Tree} → AreReadable source ts → Continues ts c l k j e → IsReadTerm l → IsReadTerm e
  continued_read z ends h = h
  continued_read z (goes_on {l = l} {r = r} {o = o} q a s) h = continued_read z s (joined_read o l r h (term_read z a))
