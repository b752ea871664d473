-- A text has one place.
use Rattle.std.proofs.Common.{◌≡◌, ◌∙◌, ℕ, suc, ◌+◌, ◌-◌, ◌/◌, ◌<◌, ◌≤◌, List, length, Option, Some, None, Result, Ok, refl, sym, ap, subst, arith}
use Rattle.sql_types.specs.declared.state.SqlState.{SqlState}
use Rattle.sql_lexer.specs.Lexeme.{Lexeme}
use Rattle.sql_lexer.specs.Lexing.{Lexes}
use Rattle.sql_parser.specs.Places.{place_at}
use Rattle.syntax_places.specs.SyntaxPlaces.{GoesOnToAStatement, Halves, HasNoPlace, IsWrongPlace, IsSyntaxPlace, found, raises, lowers}

one_half : {Holds : ℕ → Type 0} {low high i j : ℕ} → Halves Holds low high i → Halves Holds low high j → i ≡ j
one_half (found le) (found also) = refl
one_half (found le) (raises lt h rest) = absurd (omega (arith, le, lt))
one_half (found le) (lowers lt h rest) = absurd (omega (arith, le, lt))
one_half (raises lt h rest) (found le) = absurd (omega (arith, le, lt))
one_half (raises lt h rest) (raises also g other) = one_half rest other
one_half (raises lt h rest) (lowers also g other) = absurd (g h)
one_half (lowers lt h rest) (found le) = absurd (omega (arith, le, lt))
one_half (lowers lt h rest) (raises also g other) = absurd (h g)
one_half (lowers lt h rest) (lowers also g other) = one_half rest other

-- a text has one list of tokens
module _ (one_lexing : (text : List ℕ) (r s : Result (List Lexeme) SqlState) → Lexes text r → Lexes text s → r ≡ s) where
  same_tokens : (text : List ℕ) (ts us : List Lexeme) → Lexes text (Ok ts) → Lexes text (Ok us) → ts ≡ us
  same_tokens text ts us one other = let both : Ok ts ≡ Ok us = one_lexing text (Ok ts) (Ok us) one other in cc

  same_place : (text : List ℕ) (place other : ℕ) → IsWrongPlace text place → IsWrongPlace text other → place ≡ other
  same_place text place other one two =
      let ts = same_tokens text one.tokens two.tokens one.lexed two.lexed in
      let moved : Halves (GoesOnToAStatement text two.tokens) 0 (suc (length two.tokens)) one.index
      = subst (λ (z : List Lexeme). Halves (GoesOnToAStatement text z) 0 (suc (length z)) one.index) ts one.halves in
      let indices : one.index ≡ two.index = one_half moved two.halves in
      one.stands ∙ ap (λ (z : List Lexeme). place_at (length text) z one.index) ts ∙ ap (λ (i : ℕ). place_at (length text) two.tokens i) indices ∙ sym two.stands

  pub one_place : (text : List ℕ) (o p : Option ℕ) → IsSyntaxPlace text o → IsSyntaxPlace text p → o ≡ p
  one_place text None None one two = refl
  one_place text None (Some other) one two = absurd (one.never two.short two.misread two.tokens two.lexed)
  one_place text (Some place) None one two = absurd (two.never one.short one.misread one.tokens one.lexed)
  one_place text (Some place) (Some other) one two = ap Some (same_place text place other one two)
