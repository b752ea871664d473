-- That one token of look-ahead tells how a part is read, from the laws of the production that it has.
use Rattle.std.specs.Prelude.{◌≡◌, Bool, true, ◌&&◌}
use Rattle.std.proofs.Common.{ap}
use Rattle.sql_grammar.specs.Phrases.{Phrase, listed, many, optional, parenthesized}
use Rattle.sql_grammar.specs.LookAhead.{is_determined}
use Rattle.sql_grammar.proofs.Steps.{of_law}

pub list_determined : {A : Type 0} (p : Phrase A) → is_determined (parenthesized p) ≡ true → is_determined (listed p) ≡ true
list_determined p w = (of_law p w).in_list

pub optional_determined : {A : Type 0} (p : Phrase A) → is_determined (parenthesized p) ≡ true → is_determined (optional p) ≡ true
optional_determined p w = (of_law p w).left_out

pub lists_determined : {A : Type 0} (p : Phrase A) → is_determined (parenthesized p) ≡ true → is_determined (parenthesized (parenthesized p)) ≡ true
lists_determined p w = ap (λ (b : Bool). b && true && true && true && true) w

pub lists_repeated : {A : Type 0} (p : Phrase A) → is_determined (parenthesized p) ≡ true → is_determined (many (parenthesized p)) ≡ true
lists_repeated p w = ap (λ (b : Bool). b && true && true) w
