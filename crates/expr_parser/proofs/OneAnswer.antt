-- A text has one answer, refusals of memory aside.
use Rattle.std.proofs.Common.{◌≡◌, ◌≢◌, ℕ, List, Result, Ok, Err, refl, sym, ap, subst, arith}
use Rattle.sql_types.specs.declared.state.SqlState.{SqlState}
use Rattle.sql_types.specs.declared.state.SqlState.TheVariants.{OutOfMemory}
use Rattle.sql_types.specs.declared.state.Refusal.{Refusal}
use Rattle.sql_lexer.specs.Lexeme.{Lexeme}
use Rattle.sql_lexer.specs.Lexing.{Lexes}
use Rattle.expr_parser.specs.Stages.{refusal, Answers, too_many, ill_formed, out_of_range, too_deep, parsed, no_memory, Parses, too_long, bad_token, by_tokens, memory_refused}

-- tokens mean at most one value
pub record MeansOne {A : Type 0} (Means : List Lexeme → A → Type 0) : Type 0 where
  pub one : (ts : List Lexeme) (x y : A) → Means ts x → Means ts y → x ≡ y

abbrev OutOf : {A : Type 0} → Result A Refusal → Type 0
OutOf r = r ≢ Err (refusal OutOfMemory)

same_value : {A : Type 0} {Means : List Lexeme → A → Type 0} {ts : List Lexeme} {x y : A} → MeansOne Means → Means ts x → Means ts y → x ≡ y
same_value {ts = ts} {x} {y} u a b = u.one ts x y a b

pub one_of_tokens : {A : Type 0} {Means : List Lexeme → A → Type 0} {IsWithinDepth : A → Type 0} {ts : List Lexeme} {r s : Result A Refusal} → MeansOne Means → Answers Means IsWithinDepth ts r → Answers Means IsWithinDepth ts s → OutOf r → OutOf s → r ≡ s
one_of_tokens u no_memory b m n = absurd (m refl)
one_of_tokens u a no_memory m n = absurd (n refl)
one_of_tokens u (too_many h) (too_many g) m n = refl
one_of_tokens u (too_many h) (ill_formed g p q) m n = absurd (g h)
one_of_tokens u (too_many h) (out_of_range g p q) m n = absurd (g h)
one_of_tokens u (too_many h) (too_deep g p q) m n = absurd (g h)
one_of_tokens u (too_many h) (parsed g p q) m n = absurd (g h)
one_of_tokens u (ill_formed h p q) (too_many g) m n = absurd (h g)
one_of_tokens u (ill_formed h p q) (ill_formed g p' q') m n = refl
one_of_tokens u (ill_formed h p q) (out_of_range {x} g p' q') m n = absurd (q x q')
one_of_tokens u (ill_formed h p q) (too_deep {x} g p' q') m n = absurd (p x p')
one_of_tokens u (ill_formed h p q) (parsed {x} g p' q') m n = absurd (p x p')
one_of_tokens u (out_of_range h p q) (too_many g) m n = absurd (h g)
one_of_tokens u (out_of_range {x} h p q) (ill_formed g p' q') m n = absurd (q' x q)
one_of_tokens u (out_of_range h p q) (out_of_range g p' q') m n = refl
one_of_tokens u (out_of_range h p q) (too_deep {x} g p' q') m n = absurd (p x p')
one_of_tokens u (out_of_range h p q) (parsed {x} g p' q') m n = absurd (p x p')
one_of_tokens u (too_deep h p q) (too_many g) m n = absurd (h g)
one_of_tokens u (too_deep {x} h p q) (ill_formed g p' q') m n = absurd (p' x p)
one_of_tokens u (too_deep {x} h p q) (out_of_range g p' q') m n = absurd (p' x p)
one_of_tokens u (too_deep h p q) (too_deep g p' q') m n = refl
one_of_tokens {IsWithinDepth = IsWithinDepth} u (too_deep h p q) (parsed g p' q') m n = absurd (q (subst IsWithinDepth (sym (same_value u p p')) q'))
one_of_tokens u (parsed h p q) (too_many g) m n = absurd (h g)
one_of_tokens u (parsed {x} h p q) (ill_formed g p' q') m n = absurd (p' x p)
one_of_tokens u (parsed {x} h p q) (out_of_range g p' q') m n = absurd (p' x p)
one_of_tokens {IsWithinDepth = IsWithinDepth} u (parsed h p q) (too_deep g p' q') m n = absurd (q' (subst IsWithinDepth (same_value u p p') q))
one_of_tokens u (parsed h p q) (parsed g p' q') m n = ap Ok (same_value u p p')

-- a text has one lexing
pub record LexesOnce : Type 0 where
  pub one : (text : List ℕ) (r s : Result (List Lexeme) SqlState) → Lexes text r → Lexes text s → r ≡ s

same_fault : {text : List ℕ} {s t : SqlState} → LexesOnce → Lexes text (Err s) → Lexes text (Err t) → s ≡ t
same_fault {text} {s} {t} o a b = let e : Err s ≡ Err t = o.one text (Err s) (Err t) a b in cc

same_tokens : {text : List ℕ} {ts us : List Lexeme} → LexesOnce → Lexes text (Ok ts) → Lexes text (Ok us) → ts ≡ us
same_tokens {text} {ts} {us} o a b = let e : Ok ts ≡ Ok us = o.one text (Ok ts) (Ok us) a b in cc

fault_or_tokens : {A : Type 0} {text : List ℕ} {s : SqlState} {ts : List Lexeme} → LexesOnce → Lexes text (Err s) → Lexes text (Ok ts) → A
fault_or_tokens {text = text} {s} {ts} o a b = let e : Err s ≡ Ok ts = o.one text (Err s) (Ok ts) a b in cc

pub one_of_texts : {A : Type 0} {Means : List Lexeme → A → Type 0} {IsWithinDepth : A → Type 0} {text : List ℕ} {r s : Result A Refusal} → LexesOnce → MeansOne Means → Parses Means IsWithinDepth text r → Parses Means IsWithinDepth text s → OutOf r → OutOf s → r ≡ s
one_of_texts o u (memory_refused h) b m n = absurd (m refl)
one_of_texts o u a (memory_refused h) m n = absurd (n refl)
one_of_texts o u (too_long h) (too_long g) m n = refl
one_of_texts o u (too_long h) (bad_token g l) m n = absurd (omega arith)
one_of_texts o u (too_long h) (by_tokens g l a) m n = absurd (omega arith)
one_of_texts o u (bad_token h l) (too_long g) m n = absurd (omega arith)
one_of_texts o u (bad_token h l) (bad_token g k) m n = ap (λ s. Err (refusal s)) (same_fault o l k)
one_of_texts o u (bad_token h l) (by_tokens g k a) m n = fault_or_tokens o l k
one_of_texts o u (by_tokens h l a) (too_long g) m n = absurd (omega arith)
one_of_texts o u (by_tokens h l a) (bad_token g k) m n = fault_or_tokens o k l
one_of_texts {Means = Means} {IsWithinDepth} {s = s} o u (by_tokens h l a) (by_tokens g k b) m n = one_of_tokens u a (subst (λ ts. Answers Means IsWithinDepth ts s) (sym (same_tokens o l k)) b) m n
