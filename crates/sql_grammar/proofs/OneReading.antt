-- A phrase is read in one way.
use Rattle.std.proofs.Common.{◌≡◌, ℕ, suc, ◌⊎◌, inl, inr, List, [], ◌∷◌, Option, Some, refl, sym, ap, subst, ◌∙◌, arith}
use Rattle.std.specs.Prelude.{Bool, true, false, ◌||◌}
use Rattle.std.proofs.lemmas.Bool.{both_ways, not-true}
use Rattle.sql_lexer.specs.Lexeme.{Lexeme, kind_at}
use Rattle.sql_lexer.specs.Slices.{text_between}
use Rattle.sql_lexer.specs.declared.token.TokenKind.{TokenKind}
use Rattle.sql_lexer.specs.declared.token.TokenKind.TheVariants.{Number, Punctuation}
use Rattle.sql_lexer.specs.declared.token.Punctuation.TheVariants.{Comma}
use Rattle.sql_ast.specs.declared.policy.PolicyClause.{PolicyClause}
use Rattle.expr_parser.specs.Grammar.{Tree}
use Rattle.expr_parser.proofs.Readings.{Compared, same, shorter, longer, one, Some_inj}
use Rattle.sql_grammar.specs.Classes.{exactly, in_any, in_class, apart}
use Rattle.sql_grammar.specs.Phrases.{Phrase, gives, ◌▹◌, ◌⊛◌, ◌∣◌, listed, many, word_of, name, number, expr, sort_key_expression, clause, Spells}
use Rattle.sql_grammar.specs.LookAhead.{CanBegin, nullable, first, extends, is_determined, Ends}
use Rattle.sql_grammar.specs.Productions.{IsMaximal, OrComma, OrCanBegin}
use Rattle.sql_grammar.proofs.Apart.{apart_never, none_of_both, is_exactly, not_in}
use Rattle.sql_grammar.proofs.Laws.{Lawful, Known, listed_unique, repeated_unique}
use Rattle.sql_grammar.proofs.Determined.{operator_known, one_value, begins, of_two, of_choice, of_listed, of_repeated, of_token, before_token, former_ends, latter_ends, choice_ends, one_choice}

-- a token of this kind extends the phrase
abbrev pub CanExtend : {A : Type 0} → Phrase A → Option TokenKind → Type 0
CanExtend p k = in_any (extends p) k ≡ true

pub maximal_ends : {A : Type 0} (p : Phrase A) (ts : List Lexeme) (n : ℕ) → IsMaximal (CanExtend p) ts n → Ends p ts n
maximal_ends p ts n s = not_in (extends p) (kind_at ts n) s.ends

-- two readings, each of which no token extends, are one
abbrev OneReading : {A : Type 0} → Phrase A → List Lexeme → Type 0
OneReading {A} p ts = (i m n : ℕ) (x y : A) → Spells ts p i m x → Spells ts p i n y → Ends p ts m → Ends p ts n → (m ≡ n) × (x ≡ y)

comma_apart : {A : Type 0} (p : Phrase A) → apart (extends p) (exactly (Punctuation Comma) ∷ []) ≡ true → CanExtend p (Some (Punctuation Comma)) → ⊥
comma_apart p h g = apart_never (extends p) (exactly (Punctuation Comma) ∷ []) (Some (Punctuation Comma)) h g refl

-- the laws of a phrase that is not empty
pub laws_of : {A : Type 0} (p : Phrase A) (ts : List Lexeme) → OneReading p ts → is_determined (listed p) ≡ true → Lawful (Spells ts p) (CanExtend p) ts
laws_of p ts f w = let v = of_listed p w in record {
  advances = λ i j x d. (begins p ts i j x v.0 d).filled (not-true (nullable p) v.1);
  unique = λ i m n x y d e s t. f i m n x y d e (maximal_ends p ts m s) (maximal_ends p ts n t);
  not_comma = λ g. comma_apart p v.2 g;
}

pub list_maximal : {A : Type 0} (p : Phrase A) (ts : List Lexeme) (n : ℕ) → Ends (listed p) ts n → IsMaximal (OrComma (CanExtend p)) ts n
list_maximal p ts n s = record { ends = λ g. both_ways (in_any (extends (listed p)) (kind_at ts n)) s (either (in_class (exactly (Punctuation Comma)) (kind_at ts n)) (in_any (extends p) (kind_at ts n)) (by_case g)) }
  where
    either : (a b : Bool) → (a ≡ true) ⊎ (b ≡ true) → a || b ≡ true
    either a b (inl e) = rw e
    either true b (inr e) = refl
    either false b (inr e) = e

    by_case : OrComma (CanExtend p) (kind_at ts n) → (in_class (exactly (Punctuation Comma)) (kind_at ts n) ≡ true) ⊎ (in_any (extends p) (kind_at ts n) ≡ true)
    by_case (inl g) = inr g
    by_case (inr g) = inl (is_exactly (Punctuation Comma) (kind_at ts n) g)

pub many_maximal : {A : Type 0} (p : Phrase A) (ts : List Lexeme) (n : ℕ) → Ends (many p) ts n → IsMaximal (OrCanBegin (CanExtend p) (CanBegin p)) ts n
many_maximal p ts n s = let v = none_of_both (first p) (extends p) (kind_at ts n) s in record { ends = λ g. elim g [ inl h ↦ both_ways (in_any (extends p) (kind_at ts n)) v.1 h | inr h ↦ both_ways (in_any (first p) (kind_at ts n)) v.0 h ] }

-- the laws of a phrase that is repeated
pub known_of : {A : Type 0} (p : Phrase A) (ts : List Lexeme) → OneReading p ts → is_determined (many p) ≡ true → Known (Spells ts p) (CanExtend p) (CanBegin p) ts
known_of p ts f w = let v = of_repeated p w in record {
  advances = λ i j x d. (begins p ts i j x v.0 d).filled (not-true (nullable p) v.1);
  unique = λ i m n x y d e s t. f i m n x y d e (maximal_ends p ts m s) (maximal_ends p ts n t);
  known = λ i j x d. let b = begins p ts i j x v.0 d in b.known (b.filled (not-true (nullable p) v.1));
  apart = λ k g h. apart_never (extends p) (first p) k v.2 h g;
}

alike : {ts : List Lexeme} {m n : ℕ} {x y : Tree} → Compared ts 1 m n x y → Ends expr ts m → Ends expr ts n → (m ≡ n) × (x ≡ y)
alike (same p q) s t = (p, q)
alike {ts} {m} (shorter p q) s t = absurd (both_ways (in_any (extends expr) (kind_at ts m)) s (operator_known (kind_at ts m) q))
alike {ts} {n = n} (longer p q) s t = absurd (both_ways (in_any (extends expr) (kind_at ts n)) t (operator_known (kind_at ts n) q))

-- a clause of these parts
abbrev pub clause_of : List ℕ → Tree → PolicyClause
clause_of t e = record { text = t; expression = e }

pub clause_same : {t t' : List ℕ} {e e' : Tree} → t ≡ t' → e ≡ e' → clause_of t e ≡ clause_of t' e'
clause_same p q = cc

named_same : {i m n : ℕ} {o : Option (List ℕ)} {x y : List ℕ} → o ≡ Some x → o ≡ Some y → m ≡ suc i → n ≡ suc i → (m ≡ n) × (x ≡ y)
named_same h g p q = (p ∙ sym q, Some_inj (sym h ∙ g))

Number_inj : {x y : ℕ} → Some (Number x) ≡ Some (Number y) → x ≡ y
Number_inj e = cc

after_two : {A B : Type 0} {f g : A → B} {x y : A} {m n : ℕ} {u v : B} → f ≡ g → (m ≡ n) × (x ≡ y) → u ≡ f x → v ≡ g y → (m ≡ n) × (u ≡ v)
after_two p q a b = (q.0, a ∙ (let e = q.1 in rw (p, e) (sym b)))

pub from_here : {A : Type 0} (p : Phrase A) (ts : List Lexeme) {k k' : ℕ} (n : ℕ) (y : A) → k ≡ k' → Spells ts p k' n y → Spells ts p k n y
from_here p ts n y e d = subst (λ z. Spells ts p z n y) (sym e) d

pub one_reading : {A : Type 0} (p : Phrase A) (ts : List Lexeme) → is_determined p ≡ true → OneReading p ts
one_reading (gives z) ts w i m n x y d e s t = (d.0 ∙ sym e.0, d.1 ∙ sym e.1)
one_reading (p ▹ k) ts w i m n x y d e s t =
    let q = one_reading p ts (of_token p k w).0 i d.0 e.0 x y d.1 e.1 (before_token p k ts d.0 w d.2) (before_token p k ts e.0 w e.2) in
    (d.3 ∙ (ap suc q.0 ∙ sym e.3), q.1)
one_reading (p ⊛ q) ts w i m n x y d e s t =
    let v = of_two p q w in
    let a = one_reading p ts v.0 i d.0 e.0 d.1 e.1 d.3 e.3 (former_ends p q ts d.0 m d.2 w d.4 s) (former_ends p q ts e.0 n e.2 w e.4 t) in
    after_two a.1 (one_reading q ts v.1 d.0 m n d.2 e.2 d.4 (from_here q ts n e.2 a.0 e.4) (latter_ends p q ts m s) (latter_ends p q ts n t)) d.5 e.5
one_reading (p ∣ q) ts w i m n x y (inl d) (inl e) s t = one_reading p ts (of_choice p q w).0 i m n x y d e (choice_ends p q ts m s).left (choice_ends p q ts n t).left
one_reading (p ∣ q) ts w i m n x y (inl d) (inr e) s t = absurd (one_choice p q ts i m n x y w d e s t)
one_reading (p ∣ q) ts w i m n x y (inr d) (inl e) s t = absurd (one_choice p q ts i n m y x w e d t s)
one_reading (p ∣ q) ts w i m n x y (inr d) (inr e) s t = one_reading q ts (of_choice p q w).1 i m n x y d e (choice_ends p q ts m s).right (choice_ends p q ts n t).right
one_reading (listed p) ts w i m n x y d e s t = listed_unique (laws_of p ts (one_reading p ts (of_listed p w).0) w) refl d e (list_maximal p ts m s) (list_maximal p ts n t)
one_reading (many p) ts w i m n x y d e s t = repeated_unique (known_of p ts (one_reading p ts (of_repeated p w).0) w) refl d e (many_maximal p ts m s) (many_maximal p ts n t)
one_reading (word_of table) ts w i m n x y d e s t = (d.1 ∙ sym e.1, one_value table (kind_at ts i) x y w d.0 e.0)
one_reading name ts w i m n x y d e s t = named_same d.0 e.0 d.1 e.1
one_reading number ts w i m n x y d e s t = (d.2 ∙ sym e.2, Number_inj (sym d.0 ∙ e.0))
one_reading expr ts w i m n x y d e s t = alike (one d e) s t
one_reading sort_key_expression ts w i m n x y d e s t = alike (one d.0 e.0) s t
one_reading (clause source) ts w i m n x y d e s t =
    let a = alike (one d.0 e.0) s t in
    let b : d.1 ≡ e.1 = omega (arith, a.0, d.2, e.2) in
    (a.0, clause_same (d.3 ∙ (ap (text_between source ts i) b ∙ sym e.3)) a.1)
