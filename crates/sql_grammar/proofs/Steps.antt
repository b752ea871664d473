-- What is read step by step: a phrase, and what comes after it.
use Rattle.std.proofs.Common.{◌≡◌, ℕ, suc, ◌+◌, ◌<◌, inl, inr, List, [], ◌∷◌, Option, Some, None, add-one, refl, sym, ap, ◌∙◌, arith}
use Rattle.std.specs.Prelude.{Bool, true, false, Result, Ok, Err}
use Rattle.std.proofs.lemmas.Bool.{both_ways, not-true, eqb-true}
use denote.Enum.Bare.{tag_one}
use Rattle.sql_lexer.specs.Lexeme.{Lexeme, kind_at}
use Rattle.sql_lexer.specs.declared.token.TokenKind.{TokenKind}
use Rattle.sql_lexer.specs.declared.token.TokenKind.TheVariants.{Reserved, Unreserved, Word, QuotedIdentifier, Text, Number, Punctuation}
use Rattle.sql_lexer.specs.declared.token.Punctuation.TheVariants.{Open, Close}
use Rattle.sql_lexer.specs.contracts.token.Reserved as reserved_words
use Rattle.sql_lexer.specs.contracts.token.Unreserved as unreserved_words
use Rattle.sql_lexer.specs.contracts.token.Punctuation as punctuations
use Rattle.expr_parser.specs.declared.parse_error.ParseError.{ParseError}
use Rattle.sql_grammar.specs.Classes.{Class, exactly, code, is_number, in_any, in_class, apart}
use Rattle.sql_grammar.specs.Phrases.{Phrase, gives, ◌▹◌, ◌⊛◌, ◌∣◌, listed, many, Spells, optional, after, parenthesized}
use Rattle.sql_grammar.specs.LookAhead.{CanBegin, nullable, first, is_determined, Ends, IsReading, HasNoReading, Reads}
use Rattle.sql_grammar.specs.Productions.{SpellsList, SpellsRepeated, IsOnlyMaximal, NoneIsMaximal, OrComma, OrCanBegin, IsTokenAt, IsNoTokenAt}
use Rattle.sql_grammar.proofs.Apart.{apart_never, not_in, in_first, is_exactly}
use Rattle.sql_grammar.proofs.Determined.{begins, of_two, of_choice, of_listed, of_token, before_token, former_ends, latter_ends, choice_ends, empty_nullable, at_least}
use Rattle.sql_grammar.proofs.OneReading.{CanExtend, maximal_ends, list_maximal, many_maximal, from_here}

-- Nothing

pub start : {A : Type 0} {x : A} {ts : List Lexeme} {i : ℕ} → IsReading (gives x) ts i i x
start = record { spelled = (refl, refl); only = λ n y d s. d }

-- A token

after_token : {A : Type 0} {x y : A} {k j m n : ℕ} → j ≡ suc k → n ≡ suc m → (m ≡ k) × (y ≡ x) → (n ≡ j) × (y ≡ x)
after_token a b q = (b ∙ (ap suc q.0 ∙ sym a), q.1)

pub token : {A : Type 0} {p : Phrase A} {t : TokenKind} {ts : List Lexeme} {i k j : ℕ} {x : A} → is_determined (p ▹ t) ≡ true → IsReading p ts i k x → IsTokenAt ts k t j → IsReading (p ▹ t) ts i j x
token {p = p} {t} {ts} {k = k} w r a = record {
  spelled = (k, r.spelled, a.stands, a.after);
  only = λ n y d s. after_token a.after d.3 (r.only d.0 y d.1 (before_token p t ts d.0 w d.2));
}

pub no_token : {A : Type 0} {p : Phrase A} {t : TokenKind} {ts : List Lexeme} {i k : ℕ} {x : A} {e : ParseError} → is_determined (p ▹ t) ≡ true → IsReading p ts i k x → IsNoTokenAt ts k t e → HasNoReading (p ▹ t) ts i e
no_token {p = p} {t} {ts} w r a = record {
  never = λ h n y d s. a.lacks (ap (kind_at ts) (sym (r.only d.0 y d.1 (before_token p t ts d.0 w d.2)).0) ∙ d.2);
}

pub lost_token : {A : Type 0} {p : Phrase A} {t : TokenKind} {ts : List Lexeme} {i : ℕ} {e : ParseError} → is_determined (p ▹ t) ≡ true → HasNoReading p ts i e → HasNoReading (p ▹ t) ts i e
lost_token {p = p} {t} {ts} w r = record { never = λ h n y d s. r.never h d.0 y d.1 (before_token p t ts d.0 w d.2) }

-- Another phrase

after_phrase : {A B : Type 0} {f g : A → B} {x y : A} {v : B} {j n : ℕ} → g ≡ f → (n ≡ j) × (y ≡ x) → v ≡ g y → (n ≡ j) × (v ≡ f x)
after_phrase p q e = (q.0, e ∙ (let u = q.1 in rw (p, u)))

pub phrase : {A B : Type 0} {p : Phrase (A → B)} {q : Phrase A} {ts : List Lexeme} {i k j : ℕ} {f : A → B} {x : A} → is_determined (p ⊛ q) ≡ true → IsReading p ts i k f → IsReading q ts k j x → IsReading (p ⊛ q) ts i j (f x)
phrase {p = p} {q} {ts} {k = k} {f = f} {x} w r a = record {
  spelled = (k, f, x, r.spelled, a.spelled, refl);
  only = λ n y d s. let z = r.only d.0 d.1 d.3 (former_ends p q ts d.0 n d.2 w d.4 s) in after_phrase z.1 (a.only n d.2 (from_here q ts n d.2 (sym z.0) d.4) (latter_ends p q ts n s)) d.5;
}

pub no_phrase : {A B : Type 0} {p : Phrase (A → B)} {q : Phrase A} {ts : List Lexeme} {i k : ℕ} {f : A → B} {e : ParseError} → is_determined (p ⊛ q) ≡ true → IsReading p ts i k f → HasNoReading q ts k e → HasNoReading (p ⊛ q) ts i e
no_phrase {p = p} {q} {ts} w r a = record {
  never = λ h n y d s. let z = r.only d.0 d.1 d.3 (former_ends p q ts d.0 n d.2 w d.4 s) in a.never h n d.2 (from_here q ts n d.2 (sym z.0) d.4) (latter_ends p q ts n s);
}

pub lost_phrase : {A B : Type 0} {p : Phrase (A → B)} {q : Phrase A} {ts : List Lexeme} {i : ℕ} {e : ParseError} → is_determined (p ⊛ q) ≡ true → HasNoReading p ts i e → HasNoReading (p ⊛ q) ts i e
lost_phrase {p = p} {q} {ts} w r = record { never = λ h n y d s. r.never h d.0 d.1 d.3 (former_ends p q ts d.0 n d.2 w d.4 s) }

-- Which phrases are determined

apart_nothing : (cs : List Class) → apart cs [] ≡ true
apart_nothing [] = refl
apart_nothing (c ∷ cs) = apart_nothing cs

pub optional_determined : {A : Type 0} (p : Phrase A) → is_determined p ≡ true → nullable p ≡ false → is_determined (optional p) ≡ true
optional_determined p w h = rw (w, h, apart_nothing (first p))

-- what the law of a production holds
pub record Determined {A : Type 0} (p : Phrase A) : Type 0 where
  pub itself : is_determined p ≡ true
  pub filled : nullable p ≡ false
  pub in_list : is_determined (listed p) ≡ true
  pub in_parens : is_determined (parenthesized p) ≡ true
  pub left_out : is_determined (optional p) ≡ true

pub of_law : {A : Type 0} (p : Phrase A) → is_determined (parenthesized p) ≡ true → Determined p
of_law p w =
    let u = of_two (gives (λ xs. xs) ▹ Punctuation Open) (listed p) (of_token (gives (λ xs. xs) ▹ Punctuation Open ⊛ listed p) (Punctuation Close) w).0 in
    let v = of_listed p u.1 in let n = not-true (nullable p) v.1 in record {
      itself = v.0;
      filled = n;
      in_list = u.1;
      in_parens = w;
      left_out = optional_determined p v.0 n;
    }

-- One of two

-- the latter of two phrases, where a token stands that begins the former
not_latter : {A : Type 0} (p q : Phrase A) (ts : List Lexeme) (i n : ℕ) (y : A) → is_determined (p ∣ q) ≡ true → in_any (first p) (kind_at ts i) ≡ true → Spells ts q i n y → Ends (p ∣ q) ts n → ⊥
not_latter p q ts i n y w h d s =
    let v = of_choice p q w in let c = begins q ts i n y v.1 d in
    elim (at_least i n c.le) [
      | inl z ↦ apart_never (first p) (first q) (kind_at ts i) v.2 h (c.known z)
      | inr z ↦ both_ways (in_any (first p) (kind_at ts i)) (let u = (choice_ends p q ts n s).left_begins (empty_nullable q ts i n c z) in rw z at u) h
    ]

pub left : {A : Type 0} {p q : Phrase A} {ts : List Lexeme} {i j : ℕ} {x : A} → is_determined (p ∣ q) ≡ true → in_any (first p) (kind_at ts i) ≡ true → IsReading p ts i j x → IsReading (p ∣ q) ts i j x
left {p = p} {q} {ts} {i} w h r = record {
  spelled = inl r.spelled;
  only = λ n y d s. elim d [ inl a ↦ r.only n y a (choice_ends p q ts n s).left | inr a ↦ absurd (not_latter p q ts i n y w h a s) ];
}

pub no_left : {A : Type 0} {p q : Phrase A} {ts : List Lexeme} {i : ℕ} {e : ParseError} → is_determined (p ∣ q) ≡ true → in_any (first p) (kind_at ts i) ≡ true → HasNoReading p ts i e → HasNoReading (p ∣ q) ts i e
no_left {p = p} {q} {ts} {i} w h r = record {
  never = λ g n y d s. elim d [ inl a ↦ r.never g n y a (choice_ends p q ts n s).left | inr a ↦ not_latter p q ts i n y w h a s ];
}

-- the former of two phrases, where no token stands that begins it
not_former : {A : Type 0} (p : Phrase A) (ts : List Lexeme) (i n : ℕ) (y : A) → is_determined p ≡ true → nullable p ≡ false → in_any (first p) (kind_at ts i) ≡ false → Spells ts p i n y → ⊥
not_former p ts i n y w e h d = let b = begins p ts i n y w d in both_ways (in_any (first p) (kind_at ts i)) h (b.known (b.filled e))

pub right : {A : Type 0} {p q : Phrase A} {ts : List Lexeme} {i j : ℕ} {x : A} → is_determined (p ∣ q) ≡ true → nullable p ≡ false → in_any (first p) (kind_at ts i) ≡ false → IsReading q ts i j x → IsReading (p ∣ q) ts i j x
right {p = p} {q} {ts} {i} w e h r = record {
  spelled = inr r.spelled;
  only = λ n y d s. elim d [ inl a ↦ absurd (not_former p ts i n y (of_choice p q w).0 e h a) | inr a ↦ r.only n y a (choice_ends p q ts n s).right ];
}

pub no_right : {A : Type 0} {p q : Phrase A} {ts : List Lexeme} {i : ℕ} {e : ParseError} → is_determined (p ∣ q) ≡ true → nullable p ≡ false → in_any (first p) (kind_at ts i) ≡ false → HasNoReading q ts i e → HasNoReading (p ∣ q) ts i e
no_right {p = p} {q} {ts} {i} w f h r = record {
  never = λ g n y d s. elim d [ inl a ↦ not_former p ts i n y (of_choice p q w).0 f h a | inr a ↦ r.never g n y a (choice_ends p q ts n s).right ];
}

pub other : {A : Type 0} {p q : Phrase A} {ts : List Lexeme} {i j : ℕ} {x : A} → ((n : ℕ) (y : A) → Spells ts p i n y → ⊥) → IsReading q ts i j x → IsReading (p ∣ q) ts i j x
other {p = p} {q} {ts} never r = record {
  spelled = inr r.spelled;
  only = λ n y d s. elim d [ inl a ↦ absurd (never n y a) | inr a ↦ r.only n y a (choice_ends p q ts n s).right ];
}

-- Which token stands

code_one : (k t : TokenKind) → is_number t ≡ false → code k ≡ code t → k ≡ t
code_one (Reserved a) (Reserved b) h e = ap Reserved (tag_one reserved_words.the_type tt a b (omega (arith, e)))
code_one (Unreserved a) (Unreserved b) h e = ap Unreserved (tag_one unreserved_words.the_type tt a b (omega (arith, e)))
code_one (Punctuation a) (Punctuation b) h e = ap Punctuation (tag_one punctuations.the_type tt a b (omega (arith, e)))
code_one Word Word h e = refl
code_one QuotedIdentifier QuotedIdentifier h e = refl
code_one Text Text h e = refl
code_one k (Number n) h e = let g : true ≡ false = h in cc
code_one _ _ h e = absurd (omega (arith, e))

-- of this kind it is, or not
pub is_token : (t : TokenKind) (k : Option TokenKind) → is_number t ≡ false → in_class (exactly t) k ≡ true → k ≡ Some t
is_token t None h e = let g : false ≡ true = e in cc
is_token t (Some k) h e = ap Some (code_one k t h (eqb-true (code k) (code t) e))

pub no_such : (t : TokenKind) (k : Option TokenKind) → is_number t ≡ false → (k ≡ Some t → ⊥) → in_class (exactly t) k ≡ false
no_such t k h never = is_false (in_class (exactly t) k) (λ e. never (is_token t k h e))
  where
    is_false : (b : Bool) → (b ≡ true → ⊥) → b ≡ false
    is_false true f = absurd (f refl)
    is_false false f = refl

lacking : (t : TokenKind) (k : Option TokenKind) → is_number t ≡ false → (k ≡ Some t → ⊥) → in_any (exactly t ∷ []) k ≡ false
lacking t k h never = rw (no_such t k h never)

-- the former of two phrases, which begins with this token alone
pub left_by : {A : Type 0} {p q : Phrase A} {ts : List Lexeme} {i j : ℕ} {x : A} (t : TokenKind) → is_determined (p ∣ q) ≡ true → first p ≡ exactly t ∷ [] → kind_at ts i ≡ Some t → IsReading p ts i j x → IsReading (p ∣ q) ts i j x
left_by {ts = ts} {i} t w f h r = left w (rw f (in_first (exactly t) [] (kind_at ts i) (is_exactly t (kind_at ts i) h))) r

pub no_left_by : {A : Type 0} {p q : Phrase A} {ts : List Lexeme} {i : ℕ} {e : ParseError} (t : TokenKind) → is_determined (p ∣ q) ≡ true → first p ≡ exactly t ∷ [] → kind_at ts i ≡ Some t → HasNoReading p ts i e → HasNoReading (p ∣ q) ts i e
no_left_by {ts = ts} {i} t w f h r = no_left w (rw f (in_first (exactly t) [] (kind_at ts i) (is_exactly t (kind_at ts i) h))) r

-- the latter, where this token does not stand
pub right_by : {A : Type 0} {p q : Phrase A} {ts : List Lexeme} {i j : ℕ} {x : A} (t : TokenKind) → is_determined (p ∣ q) ≡ true → first p ≡ exactly t ∷ [] → nullable p ≡ false → is_number t ≡ false → (kind_at ts i ≡ Some t → ⊥) → IsReading q ts i j x → IsReading (p ∣ q) ts i j x
right_by {ts = ts} {i} t w f n z never r = right w n (rw f (lacking t (kind_at ts i) z never)) r

pub no_right_by : {A : Type 0} {p q : Phrase A} {ts : List Lexeme} {i : ℕ} {e : ParseError} (t : TokenKind) → is_determined (p ∣ q) ≡ true → first p ≡ exactly t ∷ [] → nullable p ≡ false → is_number t ≡ false → (kind_at ts i ≡ Some t → ⊥) → HasNoReading q ts i e → HasNoReading (p ∣ q) ts i e
no_right_by {ts = ts} {i} t w f n z never r = no_right w n (rw f (lacking t (kind_at ts i) z never)) r

-- Lists and repetitions

pub as_item : {A : Type 0} {p : Phrase A} {ts : List Lexeme} {i j : ℕ} {x : A} → IsReading p ts i j x → IsOnlyMaximal (Spells ts p) (CanExtend p) ts i j x
as_item {p = p} {ts} r = record { spelled = r.spelled; only = λ n y d s. r.only n y d (maximal_ends p ts n s) }

pub as_no_item : {A : Type 0} {p : Phrase A} {ts : List Lexeme} {i : ℕ} {e : ParseError} → HasNoReading p ts i e → NoneIsMaximal (Spells ts p) (CanExtend p) ts i e
as_no_item {p = p} {ts} r = record { never = λ h n y d s. r.never h n y d (maximal_ends p ts n s) }

pub as_list : {A : Type 0} {p : Phrase A} {ts : List Lexeme} {i j : ℕ} {xs : List A} → IsOnlyMaximal (SpellsList (Spells ts p) ts) (OrComma (CanExtend p)) ts i j xs → IsReading (listed p) ts i j xs
as_list {p = p} {ts} r = record { spelled = r.spelled; only = λ n y d s. r.only n y d (list_maximal p ts n s) }

pub as_no_list : {A : Type 0} {p : Phrase A} {ts : List Lexeme} {i : ℕ} {e : ParseError} → NoneIsMaximal (SpellsList (Spells ts p) ts) (OrComma (CanExtend p)) ts i e → HasNoReading (listed p) ts i e
as_no_list {p = p} {ts} r = record { never = λ h n y d s. r.never h n y d (list_maximal p ts n s) }

pub as_many : {A : Type 0} {p : Phrase A} {ts : List Lexeme} {i j : ℕ} {xs : List A} → IsOnlyMaximal (SpellsRepeated (Spells ts p)) (OrCanBegin (CanExtend p) (CanBegin p)) ts i j xs → IsReading (many p) ts i j xs
as_many {p = p} {ts} r = record { spelled = r.spelled; only = λ n y d s. r.only n y d (many_maximal p ts n s) }

pub as_no_many : {A : Type 0} {p : Phrase A} {ts : List Lexeme} {i : ℕ} {e : ParseError} → NoneIsMaximal (SpellsRepeated (Spells ts p)) (OrCanBegin (CanExtend p) (CanBegin p)) ts i e → HasNoReading (many p) ts i e
as_no_many {p = p} {ts} r = record { never = λ h n y d s. r.never h n y d (many_maximal p ts n s) }

-- Parts that may be left out

pub given : {A B : Type 0} (f : A → B) (p : Phrase A) → is_determined p ≡ true → is_determined (gives f ⊛ p) ≡ true
given f p w = rw w

pub optional_there : {A : Type 0} {p : Phrase A} {ts : List Lexeme} {i j : ℕ} {x : A} → Determined p → CanBegin p (kind_at ts i) → IsReading p ts i j x → IsReading (optional p) ts i j (Some x)
optional_there {p = p} d h r = left d.left_out h (phrase (given (λ x. Some x) p d.itself) start r)

pub optional_never : {A : Type 0} {p : Phrase A} {ts : List Lexeme} {i : ℕ} {e : ParseError} → Determined p → CanBegin p (kind_at ts i) → HasNoReading p ts i e → HasNoReading (optional p) ts i e
optional_never {p = p} d h r = no_left d.left_out h (no_phrase (given (λ x. Some x) p d.itself) start r)

pub optional_left : {A : Type 0} {p : Phrase A} {ts : List Lexeme} {i : ℕ} → Determined p → (CanBegin p (kind_at ts i) → ⊥) → IsReading (optional p) ts i i None
optional_left {p = p} {ts} {i} d never = right d.left_out d.filled (not_in (first p) (kind_at ts i) never) start

pub next : (ts : List Lexeme) (t : TokenKind) (i : ℕ) → kind_at ts i ≡ Some t → IsTokenAt ts i t (i + 1)
next ts t i h = record { stands = h; after = add-one i }

pub reading_lt : {A : Type 0} {p : Phrase A} {ts : List Lexeme} {i j : ℕ} {x : A} → Determined p → IsReading p ts i j x → i < j
reading_lt {p = p} {ts} {i} {j} {x} d r = (begins p ts i j x d.itself r.spelled).filled d.filled

-- what is read as the latter of two phrases, where this token does not stand
pub reads_right : {A : Type 0} (p q : Phrase A) (ts : List Lexeme) (i : ℕ) (t : TokenKind) → is_determined (p ∣ q) ≡ true → first p ≡ exactly t ∷ [] → nullable p ≡ false → is_number t ≡ false → (kind_at ts i ≡ Some t → ⊥) → (r : Result (A × ℕ) ParseError) → Reads q ts i r → Reads (p ∣ q) ts i r
reads_right p q ts i t w f n z never (Ok x) r = right_by t w f n z never r
reads_right p q ts i t w f n z never (Err e) r = no_right_by t w f n z never r

-- what is read as the former of two phrases, which begins with this token alone
pub reads_left : {A : Type 0} (p q : Phrase A) (ts : List Lexeme) (i : ℕ) (t : TokenKind) → is_determined (p ∣ q) ≡ true → first p ≡ exactly t ∷ [] → kind_at ts i ≡ Some t → (r : Result (A × ℕ) ParseError) → Reads p ts i r → Reads (p ∣ q) ts i r
reads_left p q ts i t w f h (Ok x) r = left_by t w f h r
reads_left p q ts i t w f h (Err e) r = no_left_by t w f h r
