-- Conditions and their texts.
use Rattle.std.proofs.Common.{◌≡◌, ◌<◌, ◌^◌, ℕ, Bool, List, ◌∷◌, ◌++◌, length, ap, sym, ◌∙◌, subst, IsTrue, Result, Ok, Some, None, arith}
use Rattle.std.specs.Prelude.{◌↔◌}
use Rattle.std.specs.Str.{IsUtf8}
use Rattle.byteorder.specs.Endian.{big_bytes}
use Rattle.sql_types.specs.declared.state.SqlState.{SqlState}
use Rattle.sql_ast.specs.declared.policy.PolicyClause.{PolicyClause}
use Rattle.sql_lexer.specs.Lexeme.{Lexeme}
use Rattle.sql_lexer.specs.Lexing.{Lexes}
use Rattle.expr_parser.specs.Written.{IsAsWritten, IsTrimmed}
use Rattle.stored_database.specs.RecordFormat.{clause_bytes}
use Rattle.catalogue_loading.specs.Clauses.{SpansText, text_of, IsStoredClauseIfAny}
use Rattle.catalogue_loading.specs.Decoding.{IsSpelled, IsFront, IsOnlyFront}

-- a text has one list of tokens
abbrev pub OneLexing : Type 0
OneLexing = (source : List ℕ) (r s : Result (List Lexeme) SqlState) → Lexes source r → Lexes source s → r ≡ s

-- so it is trimmed where these span it
pub trimmed_where : OneLexing → (text : List ℕ) (found : List Lexeme) (b : Bool) → Lexes text (Ok found) → (IsTrue b ↔ SpansText text found) → (IsTrue b ↔ IsTrimmed text)
trimmed_where one text found b are whole = (λ is ts lexes. subst (SpansText text) (same ts (one text (Ok found) (Ok ts) are lexes)) (whole.0 is), λ trimmed. whole.1 (trimmed found are)) where
  same : (ts : List Lexeme) → ◌≡◌ {A = Result (List Lexeme) SqlState} (Ok found) (Ok ts) → found ≡ ts
  same ts h = cc

-- a text has one condition
abbrev pub OneCondition : Type 0
OneCondition = (a b : PolicyClause) → IsAsWritten a → IsAsWritten b → a.text ≡ b.text → a ≡ b

-- the texts at the front of bytes, after their lengths
abbrev OnlyText : List ℕ → List ℕ → List ℕ → Type 0
OnlyText bytes text rest = (t r : List ℕ) → IsUtf8 t → length t < 2 ^ 16 → bytes ≡ big_bytes 2 (length t) ++ t ++ r → (text ≡ t) × (rest ≡ r)

-- a condition at the front of bytes
pub clause_read : OneCondition → (bytes rest text after : List ℕ) (tag : ℕ) (c : PolicyClause) → bytes ≡ tag ∷ rest → tag ≡ 1
    → IsUtf8 text → length text < 2 ^ 16 → rest ≡ big_bytes 2 (length text) ++ text ++ after → OnlyText rest text after → IsSpelled IsAsWritten text_of text c
    → IsFront IsStoredClauseIfAny clause_bytes bytes (Some c) after × IsOnlyFront IsStoredClauseIfAny clause_bytes bytes (Some c) after
clause_read one bytes rest text after tag c parts is_one utf8 short spelled only is = (front, only_front) where
  tagged : bytes ≡ 1 ∷ rest
  tagged = parts ∙ ap (λ (n : ℕ). n ∷ rest) is_one

  front : IsFront IsStoredClauseIfAny clause_bytes bytes (Some c) after
  front = record {
    valid = record { written = is.valid; utf8 = subst IsUtf8 (sym is.spelled) utf8; short = subst (λ (t : List ℕ). length t < 2 ^ 16) (sym is.spelled) short };
    spelled = tagged ∙ ap (λ (zs : List ℕ). 1 ∷ zs) (spelled ∙ ap (λ (t : List ℕ). big_bytes 2 (length t) ++ t ++ after) (sym is.spelled));
  }

  tails : (other : List ℕ) → 1 ∷ rest ≡ 1 ∷ other → rest ≡ other
  tails other h = cc

  not_none : (other : List ℕ) → 1 ∷ rest ≡ 0 ∷ other → ⊥
  not_none other h = let heads : ◌≡◌ {A = ℕ} 1 0 = cc in omega (arith, heads)

  only_front : IsOnlyFront IsStoredClauseIfAny clause_bytes bytes (Some c) after
  only_front None other y = absurd (not_none other (sym tagged ∙ y.spelled))
  only_front (Some d) other y =
      let same = only d.text other y.valid.utf8 y.valid.short (tails _ (sym tagged ∙ y.spelled)) in
      (ap (λ (x : PolicyClause). Some x) (one c d is.valid y.valid.written (is.spelled ∙ same.0)), same.1)
