-- Lists, as far as they are read.
use Rattle.std.proofs.Common.{◌≡◌, ℕ, suc, ◌+◌, ◌⊎◌, inl, inr, List, [], ◌∷◌, ◌++◌, Option, Some, sym, ap, subst, ◌∙◌, append_assoc, add-one}
use Rattle.sql_lexer.specs.Lexeme.{Lexeme, kind_at}
use Rattle.sql_lexer.specs.declared.token.TokenKind.{TokenKind}
use Rattle.sql_lexer.specs.declared.token.TokenKind.TheVariants.{Punctuation}
use Rattle.sql_lexer.specs.declared.token.Punctuation.TheVariants.{Comma}
use Rattle.sql_grammar.proofs.Laws.{Lawful, item_maximal, before_comma}
use Rattle.sql_grammar.specs.Productions.{SpellsList, last, more, IsMaximal, OrComma, IsOnlyMaximal, NoneIsMaximal}
use Rattle.expr_parser.specs.declared.parse_error.ParseError.{ParseError}
use Rattle.expr_parser.specs.declared.parse_error.ParseError.TheVariants.{Syntax}

pub listed_snoc : {A : Type 0} {One : ℕ → ℕ → A → Type 0} {ts : List Lexeme} {i k j : ℕ} {xs : List A} {x : A} → SpellsList One ts i k xs → kind_at ts k ≡ Some (Punctuation Comma) → One (suc k) j x → SpellsList One ts i j (xs ++ x ∷ [])
listed_snoc (last a) h b = more a h (last b)
listed_snoc (more a g r) h b = more a g (listed_snoc r h b)

-- the list that is found so far: every maximal one is it, or goes on after it
pub record Listing {A : Type 0} (One : ℕ → ℕ → A → Type 0) (CanExtend : Option TokenKind → Type 0) (ts : List Lexeme) (at end : ℕ) (xs : List A) : Type 0 where
  pub so_far : SpellsList One ts at end xs
  pub only : (n : ℕ) (ys : List A) → SpellsList One ts at n ys → IsMaximal (OrComma CanExtend) ts n → ((n ≡ end) × (ys ≡ xs)) ⊎ ((zs : List A) × (ys ≡ xs ++ zs) × (kind_at ts end ≡ Some (Punctuation Comma)) × SpellsList One ts (suc end) n zs)

abbrev Rest : {A : Type 0} → (ℕ → ℕ → A → Type 0) → List Lexeme → ℕ → ℕ → A → List A → Type 0
Rest {A} One ts end n x ys = ((n ≡ end) × (ys ≡ x ∷ [])) ⊎ ((zs : List A) × (ys ≡ x ∷ zs) × (kind_at ts end ≡ Some (Punctuation Comma)) × SpellsList One ts (suc end) n zs)

rest_on : {A : Type 0} {One : ℕ → ℕ → A → Type 0} {ts : List Lexeme} {k end n : ℕ} {x y : A} {zs : List A} → k ≡ end → y ≡ x → kind_at ts k ≡ Some (Punctuation Comma) → SpellsList One ts (suc k) n zs → Rest One ts end n x (y ∷ zs)
rest_on {A} {One} {ts} {k} {end} {n} {x} {y} {zs} p q h r = inr (zs, cc, ap (kind_at ts) (sym p) ∙ h, subst (λ z. SpellsList One ts (suc z) n zs) p r)

single : {A : Type 0} {x y : A} → y ≡ x → y ∷ [] ≡ x ∷ []
single q = cc

pub begins : {A : Type 0} {One : ℕ → ℕ → A → Type 0} {CanExtend : Option TokenKind → Type 0} {ts : List Lexeme} {i end n : ℕ} {x : A} {ys : List A} → Lawful One CanExtend ts → IsOnlyMaximal One CanExtend ts i end x → SpellsList One ts i n ys → IsMaximal (OrComma CanExtend) ts n → Rest One ts end n x ys
begins l met (last {j = j} {x = y} b) st = let e = met.only j y b (item_maximal st) in inl (e.0, single e.1)
begins l met (more {k = k} {x = y} b h r) st = let e = met.only k y b (before_comma l h) in rest_on e.0 e.1 h r

pub listing_begins : {A : Type 0} {One : ℕ → ℕ → A → Type 0} {CanExtend : Option TokenKind → Type 0} {ts : List Lexeme} {i end : ℕ} {x : A} → Lawful One CanExtend ts → IsOnlyMaximal One CanExtend ts i end x → Listing One CanExtend ts i end (x ∷ [])
listing_begins l met = record { so_far = last met.spelled; only = λ n ys d st. begins l met d st }

further : {A : Type 0} {One : ℕ → ℕ → A → Type 0} {ts : List Lexeme} {next n : ℕ} {x : A} {ys zs : List A} (xs : List A) → ys ≡ xs ++ zs → Rest One ts next n x zs → ((n ≡ next) × (ys ≡ xs ++ x ∷ [])) ⊎ ((ws : List A) × (ys ≡ (xs ++ x ∷ []) ++ ws) × (kind_at ts next ≡ Some (Punctuation Comma)) × SpellsList One ts (suc next) n ws)
further xs p (inl e) = inl (e.0, let q = e.1 in cc)
further {x = x} xs p (inr e) = inr (e.0, p ∙ rw (e.1, append_assoc), e.2, e.3)

pub listing_goes_on : {A : Type 0} {One : ℕ → ℕ → A → Type 0} {CanExtend : Option TokenKind → Type 0} {ts : List Lexeme} {at end next : ℕ} {xs : List A} {x : A} → Lawful One CanExtend ts → Listing One CanExtend ts at end xs → kind_at ts end ≡ Some (Punctuation Comma) → IsOnlyMaximal One CanExtend ts (end + 1) next x → Listing One CanExtend ts at next (xs ++ x ∷ [])
listing_goes_on {One = One} {CanExtend} {ts = ts} {end = end} {next} {xs = xs} {x} l k h met0 =
    let met : IsOnlyMaximal One CanExtend ts (suc end) next x = rw (← add-one) met0 in record {
      so_far = listed_snoc k.so_far h met.spelled;
      only = λ n ys d st. elim (k.only n ys d st) [
        | inl e ↦ absurd (st.ends (inr (ap (kind_at ts) e.0 ∙ h)))
        | inr e ↦ further xs e.1 (begins l met e.3 st)
      ];
    }

never_begins : {A : Type 0} {One : ℕ → ℕ → A → Type 0} {CanExtend : Option TokenKind → Type 0} {ts : List Lexeme} {i n : ℕ} {ys : List A} {e : ParseError} → Lawful One CanExtend ts → NoneIsMaximal One CanExtend ts i e → e ≡ Syntax → SpellsList One ts i n ys → IsMaximal (OrComma CanExtend) ts n → ⊥
never_begins l m p (last {j = j} {x = y} b) st = m.never p j y b (item_maximal st)
never_begins l m p (more {k = k} {x = y} b h r) st = m.never p k y b (before_comma l h)

pub listing_never : {A : Type 0} {One : ℕ → ℕ → A → Type 0} {CanExtend : Option TokenKind → Type 0} {ts : List Lexeme} {i : ℕ} {e : ParseError} → Lawful One CanExtend ts → NoneIsMaximal One CanExtend ts i e → NoneIsMaximal (SpellsList One ts) (OrComma CanExtend) ts i e
listing_never l m = record { never = λ p n ys d st. never_begins l m p d st }

-- after a comma nothing can be read
pub listing_fails : {A : Type 0} {One : ℕ → ℕ → A → Type 0} {CanExtend : Option TokenKind → Type 0} {ts : List Lexeme} {at end : ℕ} {xs : List A} {e : ParseError} → Lawful One CanExtend ts → Listing One CanExtend ts at end xs → kind_at ts end ≡ Some (Punctuation Comma) → NoneIsMaximal One CanExtend ts (end + 1) e → NoneIsMaximal (SpellsList One ts) (OrComma CanExtend) ts at e
listing_fails {One = One} {CanExtend} {ts = ts} {end = end} {e = e} l k h m0 =
    let m : NoneIsMaximal One CanExtend ts (suc end) e = rw (← add-one) m0 in record {
      never = λ p n ys d st. elim (k.only n ys d st) [
        | inl q ↦ st.ends (inr (ap (kind_at ts) q.0 ∙ h))
        | inr q ↦ never_begins l m p q.3 st
      ];
    }

-- no comma follows: the list ends
pub listing_ends : {A : Type 0} {One : ℕ → ℕ → A → Type 0} {CanExtend : Option TokenKind → Type 0} {ts : List Lexeme} {at end : ℕ} {xs : List A} → Listing One CanExtend ts at end xs → (kind_at ts end ≡ Some (Punctuation Comma) → ⊥) → IsOnlyMaximal (SpellsList One ts) (OrComma CanExtend) ts at end xs
listing_ends k never = record { spelled = k.so_far; only = λ n ys d st. elim (k.only n ys d st) [ inl e ↦ e | inr e ↦ absurd (never e.2) ] }
