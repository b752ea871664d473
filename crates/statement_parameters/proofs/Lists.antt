-- Tokens and texts, one behind another.
use Rattle.std.proofs.Common.{◌≡◌, ◌∙◌, ◌≤◌, ◌<◌, ◌+◌, ◌++◌, ◌∷◌, [], ℕ, List, length, drop, get_or, refl, sym, ap, append_assoc, append-nil, Option, Some, None}
use Rattle.std.proofs.lemmas.List.{drop_more, drop_all, drop-map}
use Rattle.sql_lexer.specs.declared.token.Token.{Token}
use Rattle.sql_lexer.specs.Lexeme.{Lexeme, lexeme, lexemes}
use Rattle.statement_parameters.specs.Parts.{appended, token_bytes}

-- a list at the end of another, and what follows both
pub put_behind : {X : Type 0} (xs ys : List X) (rest : Option (List X)) → appended (Some xs) (appended (Some ys) rest) ≡ appended (Some (xs ++ ys)) rest
put_behind xs ys None = refl
put_behind xs ys (Some zs) = ap Some (sym (append_assoc xs ys zs))

pub before_nothing : {X : Type 0} (xs : List X) → appended (Some xs) (Some []) ≡ Some xs
before_nothing xs = ap Some (append-nil xs)

pub behind_none : {X : Type 0} (ys : Option (List X)) → appended None ys ≡ None
behind_none ys = refl

-- the tokens from a place on
tokens_from : (ts : List Token) (at : ℕ) → drop at (token_bytes (lexemes ts)) ≡ token_bytes (lexemes (drop at ts))
tokens_from ts at = drop-map (λ (t : Lexeme). t.bytes) at (lexemes ts) ∙ ap token_bytes (drop-map lexeme at ts)

pub token_here : (ts : List Token) (at : ℕ) (d : Token) → at < length ts → drop at (token_bytes (lexemes ts)) ≡ (get_or ts at d).text.now ∷ drop (at + 1) (token_bytes (lexemes ts))
token_here ts at d lt =
    tokens_from ts at ∙ ap (λ us. token_bytes (lexemes us)) (drop_more ts at d lt) ∙ ap (λ us. (get_or ts at d).text.now ∷ us) (sym (tokens_from ts (at + 1)))

pub no_token : (ts : List Token) (at : ℕ) → length ts ≤ at → drop at (token_bytes (lexemes ts)) ≡ []
no_token ts at le = tokens_from ts at ∙ ap (λ us. token_bytes (lexemes us)) (drop_all at ts le)
