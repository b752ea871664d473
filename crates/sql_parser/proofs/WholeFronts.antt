-- Fronts of a text: the whole of it, and the front that is empty.
use Rattle.std.proofs.Common.{◌≡◌, ℕ, List, [], length, refl, sym, subst, arith}
use Rattle.std.proofs.lemmas.List.{take_all}
use Rattle.sql_lexer.specs.Lexeme.{lexemes}
use Rattle.sql_lexer.specs.Lexing.{at_end}
use Rattle.sql_lexer.specs.declared.token.Token.{Token}
use Rattle.sql_parser.specs.Places.{AreTokensOf, IsFront}

pub whole_front : (text : List ℕ) → IsFront text text
whole_front text = record {
  end = length text;
  within = omega arith;
  is = sym (take_all (length text) text (omega arith));
  whole = λ ts l. refl;
}

none : AreTokensOf [] []
none = record {
  lexed = at_end refl;
  placed = record { each = λ k d lt. absurd (omega (arith, lt)); in_order = λ i j d le lt. absurd (omega (arith, lt)) };
}

pub empty_front : (ts : List Token) → ts ≡ [] → AreTokensOf [] (lexemes ts)
empty_front ts e = subst (λ z. AreTokensOf [] (lexemes z)) (sym e) none
