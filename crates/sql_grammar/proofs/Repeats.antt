-- Productions any number of times, as far as they are read.
use Rattle.std.proofs.Common.{◌≡◌, ℕ, inr, List, [], ◌∷◌, ◌++◌, Option, refl, ap, subst, ◌∙◌, append_assoc, append-nil}
use Rattle.sql_lexer.specs.Lexeme.{Lexeme, kind_at}
use Rattle.sql_lexer.specs.declared.token.TokenKind.{TokenKind}
use Rattle.sql_grammar.proofs.Laws.{Known, rest_maximal}
use Rattle.sql_grammar.specs.Productions.{SpellsRepeated, no_more, one_more, OrCanBegin, IsMaximal, IsOnlyMaximal, NoneIsMaximal}
use Rattle.expr_parser.specs.declared.parse_error.ParseError.{ParseError}
use Rattle.expr_parser.specs.declared.parse_error.ParseError.TheVariants.{Syntax}

pub repeated_snoc : {A : Type 0} {One : ℕ → ℕ → A → Type 0} {i k j : ℕ} {xs : List A} {x : A} → SpellsRepeated One i k xs → One k j x → SpellsRepeated One i j (xs ++ x ∷ [])
repeated_snoc no_more b = one_more b no_more
repeated_snoc (one_more a r) b = one_more a (repeated_snoc r b)

-- what is found so far, with which all other readings begin
pub record Repeating {A : Type 0} (One : ℕ → ℕ → A → Type 0) (CanExtend CanBegin : Option TokenKind → Type 0) (ts : List Lexeme) (at end : ℕ) (xs : List A) : Type 0 where
  pub so_far : SpellsRepeated One at end xs
  pub only : (n : ℕ) (ys : List A) → SpellsRepeated One at n ys → IsMaximal (OrCanBegin CanExtend CanBegin) ts n → (zs : List A) × (ys ≡ xs ++ zs) × SpellsRepeated One end n zs

pub repeating_begins : {A : Type 0} {One : ℕ → ℕ → A → Type 0} {CanExtend CanBegin : Option TokenKind → Type 0} {ts : List Lexeme} (at : ℕ) → Repeating One CanExtend CanBegin ts at at []
repeating_begins at = record { so_far = no_more; only = λ n ys d s. (ys, refl, d) }

first : {A : Type 0} {One : ℕ → ℕ → A → Type 0} {CanExtend CanBegin : Option TokenKind → Type 0} {ts : List Lexeme} {i next n : ℕ} {x : A} {ys : List A} → Known One CanExtend CanBegin ts → CanBegin (kind_at ts i) → IsOnlyMaximal One CanExtend ts i next x → SpellsRepeated One i n ys → IsMaximal (OrCanBegin CanExtend CanBegin) ts n → (zs : List A) × (ys ≡ x ∷ zs) × SpellsRepeated One next n zs
first l h m no_more s = absurd (s.ends (inr h))
first {One = One} {n = n} l h m (one_more {k = k} {x = y} {xs = zs} b r) s =
    let e = m.only k y b (rest_maximal l r s) in
    (zs, ap (λ z. z ∷ zs) e.1, subst (λ z. SpellsRepeated One z n zs) e.0 r)

further : {A : Type 0} {One : ℕ → ℕ → A → Type 0} {next n : ℕ} {x : A} {ys zs : List A} (xs : List A) → ys ≡ xs ++ zs → (ws : List A) × (zs ≡ x ∷ ws) × SpellsRepeated One next n ws → (ws : List A) × (ys ≡ (xs ++ x ∷ []) ++ ws) × SpellsRepeated One next n ws
further xs p e = (e.0, p ∙ rw (e.1, append_assoc), e.2)

pub repeating_goes_on : {A : Type 0} {One : ℕ → ℕ → A → Type 0} {CanExtend CanBegin : Option TokenKind → Type 0} {ts : List Lexeme} {at end next : ℕ} {xs : List A} {x : A} → Known One CanExtend CanBegin ts → Repeating One CanExtend CanBegin ts at end xs → CanBegin (kind_at ts end) → IsOnlyMaximal One CanExtend ts end next x → Repeating One CanExtend CanBegin ts at next (xs ++ x ∷ [])
repeating_goes_on {xs = xs} l k h m = record {
  so_far = repeated_snoc k.so_far m.spelled;
  only = λ n ys d s. let e = k.only n ys d s in further xs e.1 (first l h m e.2 s);
}

never_first : {A : Type 0} {One : ℕ → ℕ → A → Type 0} {CanExtend CanBegin : Option TokenKind → Type 0} {ts : List Lexeme} {i n : ℕ} {ys : List A} {e : ParseError} → Known One CanExtend CanBegin ts → CanBegin (kind_at ts i) → NoneIsMaximal One CanExtend ts i e → e ≡ Syntax → SpellsRepeated One i n ys → IsMaximal (OrCanBegin CanExtend CanBegin) ts n → ⊥
never_first l h m p no_more s = s.ends (inr h)
never_first l h m p (one_more {k = k} {x = y} b r) s = m.never p k y b (rest_maximal l r s)

-- what begins there is no production
pub repeating_fails : {A : Type 0} {One : ℕ → ℕ → A → Type 0} {CanExtend CanBegin : Option TokenKind → Type 0} {ts : List Lexeme} {at end : ℕ} {xs : List A} {e : ParseError} → Known One CanExtend CanBegin ts → Repeating One CanExtend CanBegin ts at end xs → CanBegin (kind_at ts end) → NoneIsMaximal One CanExtend ts end e → NoneIsMaximal (SpellsRepeated One) (OrCanBegin CanExtend CanBegin) ts at e
repeating_fails l k h m = record { never = λ p n ys d s. never_first l h m p (k.only n ys d s).2 s }

done : {A : Type 0} {One : ℕ → ℕ → A → Type 0} {CanExtend CanBegin : Option TokenKind → Type 0} {ts : List Lexeme} {end n : ℕ} {xs ys zs : List A} → Known One CanExtend CanBegin ts → (CanBegin (kind_at ts end) → ⊥) → ys ≡ xs ++ zs → SpellsRepeated One end n zs → (n ≡ end) × (ys ≡ xs)
done l never p no_more = (refl, p ∙ append-nil _)
done l never p (one_more {i} {k} {x = x} a r) = absurd (never (l.known i k x a))

pub repeating_ends : {A : Type 0} {One : ℕ → ℕ → A → Type 0} {CanExtend CanBegin : Option TokenKind → Type 0} {ts : List Lexeme} {at end : ℕ} {xs : List A} → Known One CanExtend CanBegin ts → Repeating One CanExtend CanBegin ts at end xs → (CanBegin (kind_at ts end) → ⊥) → IsOnlyMaximal (SpellsRepeated One) (OrCanBegin CanExtend CanBegin) ts at end xs
repeating_ends l k never = record { spelled = k.so_far; only = λ n ys d s. let e = k.only n ys d s in done l never e.1 e.2 }
