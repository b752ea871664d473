-- What is read at once: expressions, numbers, and the conditions of policies.
use Rattle.std.proofs.Common.{◌≡◌, ℕ, suc, ◌+◌, ◌-◌, ◌<◌, ◌≤◌, ◌^◌, inl, inr, List, [], ◌∷◌, Option, Some, None, refl, sym, ap, subst, ◌∙◌, add-one, arith}
use Rattle.std.specs.Prelude.{true, false, not}
use Rattle.std.proofs.lemmas.Bool.{both_ways, and_parts, or_cases, not-true}
use Rattle.sql_lexer.specs.Lexeme.{Lexeme, kind_at}
use Rattle.sql_lexer.specs.Slices.{text_between}
use Rattle.sql_lexer.specs.declared.token.TokenKind.{TokenKind}
use Rattle.sql_lexer.specs.declared.token.TokenKind.TheVariants.{Number}
use Rattle.expr_parser.specs.declared.parse_error.ParseError.{ParseError}
use Rattle.expr_parser.specs.Grammar.{Tree, SpellsExpr}
use Rattle.expr_parser.proofs.Readings.{Compared, same, shorter, longer, one, spells_lt}
use Rattle.sql_grammar.specs.Classes.{exactly, is_number, in_any, in_class}
use Rattle.sql_grammar.specs.Phrases.{expr, sort_key_expression, number, clause, word_of, optional, IsLoneNumber, StandsFor}
use Rattle.sql_grammar.specs.LookAhead.{extends, words_in, has_words, has_no_doubles, is_determined, Ends, IsReading, HasNoReading}
use Rattle.sql_grammar.proofs.Determined.{operator_known, one_value, word_known}
use Rattle.sql_grammar.proofs.Steps.{start, phrase, left, other, given, is_token, optional_determined}
use Rattle.sql_grammar.proofs.OneReading.{clause_of, clause_same}

suc_one : {m n : ℕ} → suc m ≡ suc n → m ≡ n
suc_one e = omega (arith, e)

longest_only : {ts : List Lexeme} {end n : ℕ} {x y : Tree} → Compared ts 1 end n x y → n ≤ end → Ends expr ts n → (n ≡ end) × (y ≡ x)
longest_only (same p q) le s = (sym p, sym q)
longest_only (shorter p q) le s = absurd (omega arith)
longest_only {ts} {n = n} (longer p q) le s = absurd (both_ways (in_any (extends expr) (kind_at ts n)) s (operator_known (kind_at ts n) q))

-- the longest expression is the one reading
pub expr_read : {ts : List Lexeme} {i end : ℕ} {x : Tree} → SpellsExpr ts i end x → ((j : ℕ) (e : Tree) → SpellsExpr ts i j e → j ≤ end) → IsReading expr ts i end x
expr_read d most = record { spelled = d; only = λ n y e s. longest_only (one d e) (most n y e) s }

pub sort_key_expression_read : {ts : List Lexeme} {i end : ℕ} {x : Tree} → IsReading expr ts i end x → (IsLoneNumber ts i end → ⊥) → IsReading sort_key_expression ts i end x
sort_key_expression_read r never = record { spelled = (r.spelled, never); only = λ n y d s. r.only n y d.0 s }

pub lone_number : {ts : List Lexeme} {i end : ℕ} {x : Tree} {e : ParseError} → IsReading expr ts i end x → IsLoneNumber ts i end → HasNoReading sort_key_expression ts i e
lone_number {ts} {i} r h = record { never = λ p n y d s. d.1 (subst (IsLoneNumber ts i) (sym (r.only n y d.0 s).0) h) }

pub no_sort_key_expression : {ts : List Lexeme} {i : ℕ} {e : ParseError} → HasNoReading expr ts i e → HasNoReading sort_key_expression ts i e
no_sort_key_expression r = record { never = λ p n y d s. r.never p n y d.0 s }

Number_inj : {x y : ℕ} → Some (Number x) ≡ Some (Number y) → x ≡ y
Number_inj e = cc

pub no_number : {ts : List Lexeme} {i : ℕ} {e : ParseError} → ((x : ℕ) → kind_at ts i ≡ Some (Number x) → x < 2 ^ 63 → ⊥) → HasNoReading number ts i e
no_number never = record { never = λ p n y d s. never y d.0 d.1 }

pub clause_read : {source t : List ℕ} {ts : List Lexeme} {i k : ℕ} {x : Tree} → IsReading expr ts i (suc k) x → t ≡ text_between source ts i k → IsReading (clause source) ts i (suc k) (clause_of t x)
clause_read {source} {t} {ts} {i} {k} {x} r h = record {
  spelled = (r.spelled, k, refl, h);
  only = λ n y d s. let z = r.only n y.expression d.0 s in (z.0, clause_same (d.3 ∙ (ap (text_between source ts i) (suc_one (sym d.2 ∙ z.0)) ∙ sym h)) z.1);
}

last_token : {i j : ℕ} → i < j → suc (j - 1) ≡ j
last_token lt = omega (arith, lt)

-- the same by the end of the expression
pub clause_at : {source t : List ℕ} {ts : List Lexeme} {i end : ℕ} {x : Tree} → IsReading expr ts i end x → t ≡ text_between source ts i (end - 1) → IsReading (clause source) ts i end (clause_of t x)
clause_at {source} {t} {ts} {i} {end} {x} r h =
    let e = last_token (spells_lt r.spelled) in
    subst (λ n. IsReading (clause source) ts i n (clause_of t x)) e (clause_read (subst (λ n. IsReading expr ts i n x) (sym e) r) h)

pub no_clause : {source : List ℕ} {ts : List Lexeme} {i : ℕ} {e : ParseError} → HasNoReading expr ts i e → HasNoReading (clause source) ts i e
no_clause r = record { never = λ p n y d s. r.never p n y.expression d.0 s }

-- a word of the whole table is one of its rest, and the other way round
pub record Choosing {A : Type 0} (table rest : List (TokenKind × A)) (k : Option TokenKind) : Type 0 where
  pub onward : (y : A) → StandsFor table k y → StandsFor rest k y
  pub back : (y : A) → StandsFor rest k y → StandsFor table k y

pub choosing_begins : {A : Type 0} (table : List (TokenKind × A)) (k : Option TokenKind) → Choosing table table k
choosing_begins table k = record { onward = λ y h. h; back = λ y h. h }

pub word_read : {A : Type 0} {table : List (TokenKind × A)} {ts : List Lexeme} {i : ℕ} {x : A} → has_no_doubles table ≡ true → StandsFor table (kind_at ts i) x → IsReading (word_of table) ts i (i + 1) x
word_read {table = table} {ts} {i} {x} w a = rw add-one (let r : IsReading (word_of table) ts i (suc i) x = record { spelled = (a, refl); only = λ n y d s. (d.1, one_value table (kind_at ts i) y x w d.0 a) } in r)

pub no_word : {A : Type 0} {table : List (TokenKind × A)} {ts : List Lexeme} {i : ℕ} {e : ParseError} → ((y : A) → StandsFor table (kind_at ts i) y → ⊥) → HasNoReading (word_of table) ts i e
no_word never = record { never = λ p n y d s. never y d.0 }

-- a token among the words of a table stands for a value
pub word_stands : {A : Type 0} (table : List (TokenKind × A)) (k : Option TokenKind) → has_words table ≡ true → in_any (words_in table) k ≡ true → ((y : A) → StandsFor table k y → ⊥) → ⊥
word_stands [] k w h never = let e : false ≡ true = h in cc
word_stands (e ∷ es) k w h never =
    let v = and_parts (not (is_number e.0)) (has_words es) w in
    elim (or_cases (in_class (exactly e.0) k) (in_any (words_in es) k) h) [
      | inl g ↦ never e.1 (inl (is_token e.0 k (not-true (is_number e.0) v.0) g, refl))
      | inr g ↦ word_stands es k v.1 g (λ y d. never y (inr d))
    ]

there : {A : Type 0} (table : List (TokenKind × A)) → has_no_doubles table ≡ true → is_determined (optional (word_of table)) ≡ true
there table w = optional_determined (word_of table) w refl

pub optional_word_there : {A : Type 0} {table : List (TokenKind × A)} {ts : List Lexeme} {i : ℕ} {x : A} → has_no_doubles table ≡ true → StandsFor table (kind_at ts i) x → IsReading (optional (word_of table)) ts i (i + 1) (Some x)
optional_word_there {table = table} {ts} {i} {x} w a = left (there table w) (word_known table (kind_at ts i) x a) (phrase (given (λ x. Some x) (word_of table) w) start (word_read w a))

pub optional_word_left : {A : Type 0} {table : List (TokenKind × A)} {ts : List Lexeme} {i : ℕ} → ((y : A) → StandsFor table (kind_at ts i) y → ⊥) → IsReading (optional (word_of table)) ts i i None
optional_word_left {table = table} {ts} never = other (λ n y d. never d.2 (subst (λ z. StandsFor table (kind_at ts z) d.2) d.3.0 d.4.0)) start
