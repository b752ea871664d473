-- What holds of the values that a phrase stands for, from what holds of those of its parts.
use Rattle.std.proofs.Common.{ℕ, ◌<◌, inl, inr, List, sym, subst, arith}
use Rattle.std.specs.Prelude.{◌^◌, IfSome}
use Rattle.std.specs.List.{AllByRecursion}
use Rattle.sql_types.specs.Name.{IsUtf8Name}
use Rattle.sql_lexer.specs.Lexeme.{Lexeme}
use Rattle.sql_lexer.specs.declared.token.TokenKind.{TokenKind}
use Rattle.sql_ast.specs.Read.{AreSome, IsReadTerm}
use Rattle.sql_grammar.specs.Phrases.{Phrase, gives, ◌▹◌, ◌⊛◌, ◌∣◌, listed, many, name, number, expr, sort_key_expression, Spells, optional, after, parenthesized}
use Rattle.sql_grammar.specs.Productions.{SpellsList, last, more, SpellsRepeated, no_more, one_more}
use Rattle.sql_lexer.specs.Tokens.{AreReadable}
use Rattle.expr_parser.proofs.ReadTerms.{term_read}

-- P holds of each value of the phrase
pub record Sound {A : Type 0} (ts : List Lexeme) (p : Phrase A) (P : A → Type 0) : Type 0 where
  pub holds : (i j : ℕ) (x : A) → Spells ts p i j x → P x

pub nothing : {A : Type 0} {ts : List Lexeme} {x : A} {P : A → Type 0} → P x → Sound ts (gives x) P
nothing {P = P} h = record { holds = λ i j y s. subst P (sym s.1) h }

pub word : {A : Type 0} {ts : List Lexeme} {p : Phrase A} {t : TokenKind} {P : A → Type 0} → Sound ts p P → Sound ts (p ▹ t) P
word a = record { holds = λ i j x s. a.holds i s.0 x s.1 }

pub part : {A B : Type 0} {ts : List Lexeme} {p : Phrase (A → B)} {q : Phrase A} {R : B → Type 0} (Q : A → Type 0) → Sound ts p (λ f. (x : A) → Q x → R (f x)) → Sound ts q Q → Sound ts (p ⊛ q) R
part {R = R} Q a b = record { holds = λ i j y s. subst R (sym s.5) (a.holds i s.0 s.1 s.3 s.2 (b.holds s.0 j s.2 s.4)) }

pub either : {A : Type 0} {ts : List Lexeme} {p q : Phrase A} {P : A → Type 0} → Sound ts p P → Sound ts q P → Sound ts (p ∣ q) P
either a b = record { holds = λ i j x s. elim s [ inl d ↦ a.holds i j x d | inr d ↦ b.holds i j x d ] }

-- a part of which nothing is asked
pub anything : {A : Type 0} {ts : List Lexeme} {p : Phrase A} → Sound ts p (λ _. Unit {0})
anything = record { holds = λ i j x s. tt }

pub names : {source : List ℕ} {ts : List Lexeme} → AreReadable source ts → Sound ts name IsUtf8Name
names z = record { holds = λ i j x s. z.names i x s.0 }

pub terms : {source : List ℕ} {ts : List Lexeme} → AreReadable source ts → Sound ts expr IsReadTerm
terms z = record { holds = λ i j x s. term_read z s }

pub sort_terms : {source : List ℕ} {ts : List Lexeme} → AreReadable source ts → Sound ts sort_key_expression IsReadTerm
sort_terms z = record { holds = λ i j x s. term_read z s.0 }

pub numbers : {ts : List Lexeme} → Sound ts number (λ n. n < 2 ^ 63)
numbers = record { holds = λ i j x s. s.1 }

-- Lists

of_list : {A : Type 0} {ts : List Lexeme} {p : Phrase A} {P : A → Type 0} {i j : ℕ} {xs : List A} → Sound ts p P → SpellsList (Spells ts p) ts i j xs → AreSome P xs
of_list a (last {i} {j} {x} d) = record { some = omega arith; each = (a.holds i j x d, tt) }
of_list a (more {i} {k} {x = x} d h r) = record { some = omega arith; each = (a.holds i k x d, (of_list a r).each) }

of_many : {A : Type 0} {ts : List Lexeme} {p : Phrase A} {P : A → Type 0} {i j : ℕ} {xs : List A} → Sound ts p P → SpellsRepeated (Spells ts p) i j xs → AllByRecursion P xs
of_many a no_more = tt
of_many a (one_more {i} {k} {x = x} d r) = (a.holds i k x d, of_many a r)

pub list_of : {A : Type 0} {ts : List Lexeme} {p : Phrase A} {P : A → Type 0} → Sound ts p P → Sound ts (listed p) (AreSome P)
list_of a = record { holds = λ i j xs s. of_list a s }

pub many_of : {A : Type 0} {ts : List Lexeme} {p : Phrase A} {P : A → Type 0} → Sound ts p P → Sound ts (many p) (AllByRecursion P)
many_of a = record { holds = λ i j xs s. of_many a s }

-- Parts that may be left out, and parts between words

pub option_of : {A : Type 0} {ts : List Lexeme} {p : Phrase A} {P : A → Type 0} → Sound ts p P → Sound ts (optional p) (λ o. IfSome o P)
option_of {P = P} a = either (part P (nothing (λ x h. h)) a) (nothing tt)

pub after_of : {A : Type 0} {ts : List Lexeme} {t : TokenKind} {p : Phrase A} {P : A → Type 0} → Sound ts p P → Sound ts (after t p) P
after_of {P = P} a = part P (word (nothing (λ x h. h))) a

pub parens_of : {A : Type 0} {ts : List Lexeme} {p : Phrase A} {P : A → Type 0} → Sound ts p P → Sound ts (parenthesized p) (AreSome P)
parens_of {P = P} a = word (part (AreSome P) (word (nothing (λ x h. h))) (list_of a))
