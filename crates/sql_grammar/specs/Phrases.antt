-- The grammar as data: what a phrase is, and which tokens spell it.
use Rattle.std.specs.Prelude.{◌≡◌, ◌<◌, ◌^◌, ℕ, suc, Bool, true, false, List, Option, ◌⊎◌, Some, None, IsSome, slice_get, [], ◌∷◌}
use Rattle.sql_lexer.specs.Lexeme.{Lexeme, kind_at}
use Rattle.sql_lexer.specs.Content as content
use Rattle.sql_lexer.specs.Slices.{text_between}
use Rattle.sql_lexer.specs.declared.token.TokenKind.{TokenKind}
use Rattle.sql_lexer.specs.declared.token.TokenKind.TheVariants.{Number, Punctuation}
use Rattle.sql_lexer.specs.declared.token.Punctuation.TheVariants as punctuation
use Rattle.sql_ast.specs.declared.policy.PolicyClause.{PolicyClause}
use Rattle.expr_parser.specs.Grammar.{Tree, SpellsExpr, counted}
use Rattle.sql_grammar.specs.Productions.{SpellsList, SpellsRepeated}

infixl 30 ◌▹◌
infixl 30 ◌⊛◌
infixl 20 ◌∣◌
-- a phrase of the grammar, with the values that it stands for
pub data Phrase : Type 0 → Type 1 where
  -- no token: this value
  gives : {A : Type 0} → A → Phrase A
  -- a phrase, then a token of this kind
  ◌▹◌ : {A : Type 0} → Phrase A → TokenKind → Phrase A
  -- a phrase that stands for a function, then one that stands for its argument
  ◌⊛◌ : {A B : Type 0} → Phrase (A → B) → Phrase A → Phrase B
  -- one phrase or the other
  ◌∣◌ : {A : Type 0} → Phrase A → Phrase A → Phrase A
  -- phrase {"," phrase}
  listed : {A : Type 0} → Phrase A → Phrase (List A)
  -- {phrase}
  many : {A : Type 0} → Phrase A → Phrase (List A)
  -- one of these words, for the value beside it
  word_of : {A : Type 0} → List (TokenKind × A) → Phrase A
  -- a name
  name : Phrase (List ℕ)
  -- a number below 2 ^ 63
  number : Phrase ℕ
  -- an expression
  expr : Phrase Tree
  -- an expression that is no number by itself
  sort_key_expression : Phrase Tree
  -- an expression with its text in this source, from its first token to its last
  clause : List ℕ → Phrase PolicyClause

-- this kind stands in the table beside this value
abbrev pub StandsFor : {A : Type 0} → List (TokenKind × A) → Option TokenKind → A → Type 0
StandsFor [] k y = ⊥
StandsFor (e ∷ es) k y = ((k ≡ Some e.0) × (y ≡ e.1)) ⊎ StandsFor es k y

-- the tokens from i to before j are a number by itself, or one after a "-"
abbrev pub IsLoneNumber : List Lexeme → ℕ → ℕ → Type 0
IsLoneNumber ts i j = ((j ≡ suc i) × IsSome (counted (kind_at ts i)))
    ⊎ ((j ≡ suc (suc i)) × (kind_at ts i ≡ Some (Punctuation punctuation.Minus)) × IsSome (counted (kind_at ts (suc i))))

-- [phrase]
abbrev pub optional : {A : Type 0} → Phrase A → Phrase (Option A)
optional p = (gives Some ⊛ p) ∣ gives None

-- WORD phrase
abbrev pub after : {A : Type 0} → TokenKind → Phrase A → Phrase A
after t p = gives (λ x. x) ▹ t ⊛ p

-- "(" phrase {"," phrase} ")"
abbrev pub parenthesized : {A : Type 0} → Phrase A → Phrase (List A)
parenthesized p = gives (λ xs. xs) ▹ Punctuation punctuation.Open ⊛ listed p ▹ Punctuation punctuation.Close

-- [WORD]: a word that changes nothing
abbrev pub noise : TokenKind → Phrase (Unit {0})
noise t = gives tt ▹ t ∣ gives tt

-- [WORD WORD WORD]: whether the three words stand
abbrev pub three_words : TokenKind → TokenKind → TokenKind → Phrase Bool
three_words a b c = gives true ▹ a ▹ b ▹ c ∣ gives false

-- the tokens from i to before j spell the phrase with this value
abbrev pub Spells : List Lexeme → {A : Type 0} → Phrase A → ℕ → ℕ → A → Type 0
Spells ts (gives x) i j y = (j ≡ i) × (y ≡ x)
Spells ts (p ▹ t) i j y = (k : ℕ) × Spells ts p i k y × (kind_at ts k ≡ Some t) × (j ≡ suc k)
Spells ts (◌⊛◌ {A} p q) i j y = (k : ℕ) × (f : A → _) × (x : A) × Spells ts p i k f × Spells ts q k j x × (y ≡ f x)
Spells ts (p ∣ q) i j y = Spells ts p i j y ⊎ Spells ts q i j y
Spells ts (listed p) i j ys = SpellsList (Spells ts p) ts i j ys
Spells ts (many p) i j ys = SpellsRepeated (Spells ts p) i j ys
Spells ts (word_of table) i j y = StandsFor table (kind_at ts i) y × (j ≡ suc i)
Spells ts name i j y = (content.name (slice_get ts i) ≡ Some y) × (j ≡ suc i)
Spells ts number i j y = (kind_at ts i ≡ Some (Number y)) × (y < 2 ^ 63) × (j ≡ suc i)
Spells ts expr i j y = SpellsExpr ts i j y
Spells ts sort_key_expression i j y = SpellsExpr ts i j y × (IsLoneNumber ts i j → ⊥)
Spells ts (clause source) i j y = SpellsExpr ts i j y.expression × (k : ℕ) × (j ≡ suc k) × (y.text ≡ text_between source ts i k)
