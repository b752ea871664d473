-- What is read of a phrase step by step, as the functions of `steps` have it.
use Rattle.std.proofs.Common.{◌≡◌, ℕ, ◌+◌, inl, inr, List, Some, None, Result, Ok, Err, IsErrAnd, refl, sym, ap, ◌∙◌}
use Rattle.std.specs.Prelude.{true}
use Rattle.sql_lexer.specs.Lexeme.{Lexeme, kind_at}
use Rattle.sql_lexer.specs.declared.token.TokenKind.{TokenKind}
use Rattle.expr_parser.specs.declared.parse_error.ParseError.{ParseError}
use Rattle.sql_grammar.specs.Phrases.{Phrase, gives, ◌▹◌, ◌⊛◌, optional, after}
use Rattle.sql_grammar.specs.LookAhead.{is_determined, IsReading, HasNoReading, Reads}
use Rattle.sql_grammar.specs.Productions.{IsTokenAt, IsNoTokenAt}
use Rattle.sql_grammar.proofs.Steps as steps
use Rattle.sql_commands.specs.Steps.{Read, HasToken, PassesToken, HasReading, ReadsNext}
use Rattle.sql_commands.proofs.Walks.{Found, Lost, read, lost, fails, start, phrase, no_phrase, lost_phrase, both, no_second, no_token, lost_token, left_by, no_left_by}
use Rattle.sql_commands.proofs.Walks as walks

-- what the phrase is read as: of the values so far, what this makes of them
abbrev pub Met : {V A : Type 0} → Phrase A → (V → A) → List Lexeme → ℕ → Read V → Type 0
Met p f ts i (Ok v) = Found p ts i v.1 (f v.0)
Met p f ts i (Err e) = Lost p ts i e

pub record Partly {V A : Type 0} (p : Phrase A) (f : V → A) (ts : List Lexeme) (i : ℕ) (r : Read V) : Type 0 where
  pub met : Met p f ts i r

lost_so : {A : Type 0} {p : Phrase A} {ts : List Lexeme} {i : ℕ} {d e : ParseError} → d ≡ e → Lost p ts i e → Lost p ts i d
lost_so h l = record { no_reading = λ w. record { never = λ g. (l.no_reading w).never (sym h ∙ g) } }

pub begin : {A : Type 0} {x : A} {ts : List Lexeme} {i : ℕ} → Partly {V = Unit {0}} (gives x) (λ u. x) ts i (Ok (tt, i))
begin = record { met = start }

by_token : {V A : Type 0} (p : Phrase A) (f : V → A) (t : TokenKind) (ts : List Lexeme) (i : ℕ) (r s : Read V) → Partly p f ts i r → PassesToken t ts r s → Met (p ▹ t) f ts i s
by_token p f t ts i (Err e) (Ok w) a b = absurd b.next
by_token p f t ts i (Err e) (Err d) a b = lost_so b.next (lost_token a.met)
by_token p f t ts i (Ok v) (Ok w) a b = let h = b.next.0 in rw h (walks.token a.met b.next.1)
by_token p f t ts i (Ok v) (Err e) a b = no_token a.met b.next

pub token : {V A : Type 0} {p : Phrase A} {f : V → A} {t : TokenKind} {ts : List Lexeme} {i : ℕ} {r s : Read V} → Partly p f ts i r → PassesToken t ts r s → Partly (p ▹ t) f ts i s
token {p = p} {f} {t} {ts} {i} {r} {s} a b = record { met = by_token p f t ts i r s a b }

by_phrase : {V A B : Type 0} (p : Phrase (A → B)) (q : Phrase A) (f : V → A → B) (ts : List Lexeme) (i : ℕ) (r : Read V) (s : Read (V × A)) → Partly p f ts i r → ReadsNext q ts r s → Met (p ⊛ q) (λ v. f v.0 v.1) ts i s
by_phrase p q f ts i (Err e) (Ok w) a b = absurd b.next
by_phrase p q f ts i (Err e) (Err d) a b = lost_so b.next (lost_phrase a.met)
by_phrase p q f ts i (Ok v) (Ok w) a b = let h = b.next.0 in rw h (phrase a.met b.next.1)
by_phrase p q f ts i (Ok v) (Err e) a b = no_phrase a.met b.next

pub next : {V A B : Type 0} {p : Phrase (A → B)} {q : Phrase A} {f : V → A → B} {ts : List Lexeme} {i : ℕ} {r : Read V} {s : Read (V × A)} → Partly p f ts i r → ReadsNext q ts r s → Partly (p ⊛ q) (λ v. f v.0 v.1) ts i s
next {p = p} {q} {f} {ts} {i} {r} {s} a b = record { met = by_phrase p q f ts i r s a b }

-- the phrase is read
pub done : {V A : Type 0} {p : Phrase A} {f : V → A} {ts : List Lexeme} {i : ℕ} {v : V × ℕ} → is_determined p ≡ true → Partly p f ts i (Ok v) → IsReading p ts i v.1 (f v.0)
done w a = read w a.met

-- it is not, and that is passed on
pub failed : {V A : Type 0} (p : Phrase A) {f : V → A} {ts : List Lexeme} {i : ℕ} {e : ParseError} (r : Read A) → is_determined p ≡ true → Partly p f ts i (Err e) → IsErrAnd r (λ d. d ≡ e) → Reads p ts i r
failed p r w a h = fails p r w a.met h

-- a phrase that begins with a token, where that token stands
pub begun : {A : Type 0} {x : A} {t : TokenKind} {ts : List Lexeme} {i : ℕ} → kind_at ts i ≡ Some t → Partly {V = Unit {0}} (gives x ▹ t) (λ u. x) ts i (Ok (tt, i + 1))
begun {t = t} {ts} {i} h = record { met = walks.token start (steps.next ts t i h) }

-- ---- one step more, after what is read so far

pub stands : {A : Type 0} {t : TokenKind} {ts : List Lexeme} {r : Read A} {v : A × ℕ} {j : ℕ} → r ≡ Ok v → IsTokenAt ts v.1 t j → PassesToken t ts r (Ok (v.0, j))
stands e a = record { next = rw e (refl, a) }

stands_not_by : {A : Type 0} (t : TokenKind) (ts : List Lexeme) (v : A × ℕ) (s : Read A) (e : ParseError) → IsNoTokenAt ts v.1 t e → IsErrAnd s (λ d. d ≡ e) → HasToken t ts v s
stands_not_by t ts v (Ok w) e a h = absurd h
stands_not_by t ts v (Err d) e a h = record { lacks = a.lacks; why = h ∙ a.why }

pub stands_not : {A : Type 0} {t : TokenKind} {ts : List Lexeme} {r s : Read A} {v : A × ℕ} {e : ParseError} → r ≡ Ok v → IsNoTokenAt ts v.1 t e → IsErrAnd s (λ d. d ≡ e) → PassesToken t ts r s
stands_not {t = t} {ts} {s = s} {v} {e} q a h = record { next = rw q (stands_not_by t ts v s e a h) }

pub found_here : {A B : Type 0} {p : Phrase B} {ts : List Lexeme} {r : Read A} {v : A × ℕ} {j : ℕ} {x : B} → r ≡ Ok v → IsReading p ts v.1 j x → ReadsNext p ts r (Ok ((v.0, x), j))
found_here e a = record { next = rw e (refl, a) }

lost_by : {A B : Type 0} (p : Phrase B) (ts : List Lexeme) (v : A × ℕ) (s : Read (A × B)) (e : ParseError) → HasNoReading p ts v.1 e → IsErrAnd s (λ d. d ≡ e) → HasReading p ts v s
lost_by p ts v (Ok w) e a h = absurd h
lost_by p ts v (Err d) e a h = record { never = λ g. a.never (sym h ∙ g) }

pub lost_here : {A B : Type 0} {p : Phrase B} {ts : List Lexeme} {r : Read A} {s : Read (A × B)} {v : A × ℕ} {e : ParseError} → r ≡ Ok v → HasNoReading p ts v.1 e → IsErrAnd s (λ d. d ≡ e) → ReadsNext p ts r s
lost_here {p = p} {ts} {s = s} {v} {e} q a h = record { next = rw q (lost_by p ts v s e a h) }

-- ---- a part after a word, or nothing

after_determined : {A : Type 0} (t : TokenKind) (p : Phrase A) → is_determined p ≡ true → is_determined (after t p) ≡ true
after_determined t p w = rw w

pub clause_determined : {A : Type 0} (t : TokenKind) (p : Phrase A) → is_determined p ≡ true → is_determined (optional (after t p)) ≡ true
clause_determined t p w = steps.optional_determined (after t p) (after_determined t p w) refl

pub left_out : {A : Type 0} {p : Phrase A} {t : TokenKind} {ts : List Lexeme} {i : ℕ} → (kind_at ts i ≡ Some t → ⊥) → IsReading (optional (after t p)) ts i i None
left_out {ts = ts} h = record {
  spelled = inr (refl, refl);
  only = λ n y d s. elim d [ inl a ↦ absurd (h (ap (kind_at ts) (sym (a.4.3.1.0 ∙ a.3.0)) ∙ a.4.3.2)) | inr a ↦ a ];
}

pub after_there : {A : Type 0} {p : Phrase A} {t : TokenKind} {ts : List Lexeme} {i j : ℕ} {x : A} → is_determined (optional (after t p)) ≡ true → kind_at ts i ≡ Some t → IsReading p ts (i + 1) j x → IsReading (optional (after t p)) ts i j (Some x)
after_there {t = t} {ts} {i} w h r = read w (left_by t refl h (both start (phrase (walks.token start (steps.next ts t i h)) r)))

pub after_never : {A : Type 0} {p : Phrase A} {t : TokenKind} {ts : List Lexeme} {i : ℕ} {e : ParseError} → is_determined (optional (after t p)) ≡ true → kind_at ts i ≡ Some t → HasNoReading p ts (i + 1) e → HasNoReading (optional (after t p)) ts i e
after_never {t = t} {ts} {i} w h r = lost w (no_left_by t refl h (no_second start (no_phrase (walks.token start (steps.next ts t i h)) r)))
