-- Lists, repetitions, and what it is to read a maximal one.
use Rattle.std.specs.Prelude.{◌≡◌, ℕ, suc, List, [], ◌∷◌, Option, ◌⊎◌, Some, Result, Ok, Err}
use Rattle.sql_lexer.specs.Lexeme.{Lexeme, kind_at}
use Rattle.sql_lexer.specs.declared.token.TokenKind.{TokenKind}
use Rattle.sql_lexer.specs.declared.token.TokenKind.TheVariants.{Punctuation}
use Rattle.sql_lexer.specs.declared.token.Punctuation.TheVariants.{Comma}
use Rattle.expr_parser.specs.declared.parse_error.ParseError.{ParseError}
use Rattle.expr_parser.specs.declared.parse_error.ParseError.TheVariants.{Syntax}

-- item {"," item}
pub data SpellsList {A : Type 0} (One : ℕ → ℕ → A → Type 0) (ts : List Lexeme) : ℕ → ℕ → List A → Type 0 where
  last : {i j : ℕ} {x : A} → One i j x → SpellsList One ts i j (x ∷ [])
  more : {i k j : ℕ} {x : A} {xs : List A} → One i k x → kind_at ts k ≡ Some (Punctuation Comma) → SpellsList One ts (suc k) j xs → SpellsList One ts i j (x ∷ xs)

-- {item}
pub data SpellsRepeated {A : Type 0} (One : ℕ → ℕ → A → Type 0) : ℕ → ℕ → List A → Type 0 where
  no_more : {i : ℕ} → SpellsRepeated One i i []
  one_more : {i k j : ℕ} {x : A} {xs : List A} → One i k x → SpellsRepeated One k j xs → SpellsRepeated One i j (x ∷ xs)

-- or a comma
abbrev pub OrComma : (Option TokenKind → Type 0) → Option TokenKind → Type 0
OrComma CanExtend k = CanExtend k ⊎ (k ≡ Some (Punctuation Comma))

-- or what begins another item
abbrev pub OrCanBegin : (Option TokenKind → Type 0) → (Option TokenKind → Type 0) → Option TokenKind → Type 0
OrCanBegin CanExtend CanBegin k = CanExtend k ⊎ CanBegin k

-- no token at k can extend what ends before it
pub record IsMaximal (CanExtend : Option TokenKind → Type 0) (ts : List Lexeme) (k : ℕ) : Type 0 where
  pub ends : CanExtend (kind_at ts k) → ⊥

-- x is spelled from i to before j, and it alone is spelled and maximal from there
pub record IsOnlyMaximal {A : Type 0} (One : ℕ → ℕ → A → Type 0) (CanExtend : Option TokenKind → Type 0) (ts : List Lexeme) (i j : ℕ) (x : A) : Type 0 where
  pub spelled : One i j x
  pub only : (n : ℕ) (y : A) → One i n y → IsMaximal CanExtend ts n → (n ≡ j) × (y ≡ x)

-- if the syntax is why, then nothing is spelled and maximal from i on
pub record NoneIsMaximal {A : Type 0} (One : ℕ → ℕ → A → Type 0) (CanExtend : Option TokenKind → Type 0) (ts : List Lexeme) (i : ℕ) (e : ParseError) : Type 0 where
  pub never : e ≡ Syntax → (n : ℕ) (y : A) → One i n y → IsMaximal CanExtend ts n → ⊥

-- a token of this kind stands at i, and j is the index after it
pub record IsTokenAt (ts : List Lexeme) (i : ℕ) (k : TokenKind) (j : ℕ) : Type 0 where
  pub stands : kind_at ts i ≡ Some k
  pub after : j ≡ suc i

-- none of this kind stands at i
pub record IsNoTokenAt (ts : List Lexeme) (i : ℕ) (k : TokenKind) (e : ParseError) : Type 0 where
  pub lacks : kind_at ts i ≡ Some k → ⊥
  pub why : e ≡ Syntax

-- whether a token of this kind stands at i
abbrev pub Expects : List Lexeme → ℕ → TokenKind → Result ℕ ParseError → Type 0
Expects ts i k (Ok j) = IsTokenAt ts i k j
Expects ts i k (Err e) = IsNoTokenAt ts i k e
