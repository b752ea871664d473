use Rattle.std.proofs.Common.{◌≡◌, ◌∙◌, ◌<◌, ◌+◌, ◌∷◌, ℕ, Bool, true, false, List, length, drop, get_or, refl, sym, ap, Some, None}
use Rattle.std.specs.Str.{bytes_eq}
use Rattle.sql_lexer.specs.declared.token.Token.{Token}
use Rattle.sql_lexer.specs.Lexeme.{lexemes}
use Rattle.statement_parameters.specs.Eaten.{behind_one}
use Rattle.statement_parameters.specs.Parts.{token_bytes}
use Rattle.statement_parameters.proofs.Lists.{token_here}
use Rattle.statement_parameters.proofs.eating.behind_one.Goals as goal

hit : (t e : List ℕ) (us : List (List ℕ)) → bytes_eq t e ≡ true → Some us ≡ behind_one e (t ∷ us)
hit t e us h = rw h refl

missed : (t e : List ℕ) (us : List (List ℕ)) → bytes_eq t e ≡ false → None ≡ behind_one e (t ∷ us)
missed t e us h = rw h refl

tested : (t e b : List ℕ) (r v : Bool) → b ≡ t → r ≡ bytes_eq b e → r ≡ v → bytes_eq t e ≡ v
tested t e b r v is tests so = sym (ap (λ (x : List ℕ). bytes_eq x e) is) ∙ sym tests ∙ so

found : (ts : List Token) (at : ℕ) (d : Token) (e b : List ℕ) (r : Bool) → at < length ts → b ≡ (get_or ts at d).text.now → r ≡ bytes_eq b e → r ≡ true
    → Some (drop (at + 1) (token_bytes (lexemes ts))) ≡ behind_one e (drop at (token_bytes (lexemes ts)))
found ts at d e b r lt is tests so =
    hit (get_or ts at d).text.now e (drop (at + 1) (token_bytes (lexemes ts))) (tested (get_or ts at d).text.now e b r true is tests so)
    ∙ ap (behind_one e) (sym (token_here ts at d lt))

other : (ts : List Token) (at : ℕ) (d : Token) (e b : List ℕ) (r : Bool) → at < length ts → b ≡ (get_or ts at d).text.now → r ≡ bytes_eq b e → r ≡ false
    → None ≡ behind_one e (drop at (token_bytes (lexemes ts)))
other ts at d e b r lt is tests so =
    missed (get_or ts at d).text.now e (drop (at + 1) (token_bytes (lexemes ts))) (tested (get_or ts at d).text.now e b r false is tests so)
    ∙ ap (behind_one e) (sym (token_here ts at d lt))

pub returns-then-eq : goal.returns-then-eq
returns-then-eq c = found c.args.tokens.now c.args.at _ c.args.expected.now _ _ c.if-tokens-at.false c.as_bytes.ensures.value c.eq.ensures c.if-eq.true

pub returns-else-eq : goal.returns-else-eq
returns-else-eq c = other c.args.tokens.now c.args.at _ c.args.expected.now _ _ c.if-tokens-at.false c.as_bytes.ensures.value c.eq.ensures c.if-eq.false
