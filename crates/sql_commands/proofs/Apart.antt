-- Phrases that the first two tokens tell apart.
use Rattle.std.proofs.Common.{◌≡◌, ℕ, suc, inl, inr, List}
use Rattle.std.specs.Prelude.{Bool, true, not, ◌&&◌, ◌||◌}
use Rattle.std.proofs.lemmas.Bool.{and_parts, or_cases, both_ways, not-true}
use Rattle.sql_lexer.specs.Lexeme.{Lexeme, kind_at}
use Rattle.sql_grammar.specs.Classes.{in_any, apart}
use Rattle.sql_grammar.specs.Phrases.{Phrase, Spells}
use Rattle.sql_grammar.specs.LookAhead.{nullable, first, is_determined}
use Rattle.sql_grammar.proofs.Apart.{apart_never}
use Rattle.sql_grammar.proofs.Determined.{begins, at_least}
use Rattle.sql_commands.proofs.Second.{single, second, seconds}

-- whether no token can be the first of both, and neither is empty
abbrev pub first_apart : {A B : Type 0} → Phrase A → Phrase B → Bool
first_apart p q = not (nullable p) && not (nullable q) && apart (first p) (first q)

-- whether each has two tokens at least, and no token can be the second of both
abbrev pub second_apart : {A B : Type 0} → Phrase A → Phrase B → Bool
second_apart p q = not (nullable p) && not (nullable q) && not (single p) && not (single q) && apart (second p) (second q)

three : (a b c : Bool) → a && b && c ≡ true → (a ≡ true) × (b ≡ true) × (c ≡ true)
three a b c h = let v = and_parts (a && b) c h in let u = and_parts a b v.0 in (u.0, u.1, v.1)

five : (a b c d e : Bool) → a && b && c && d && e ≡ true → (a ≡ true) × (b ≡ true) × (c ≡ true) × (d ≡ true) × (e ≡ true)
five a b c d e h =
    let v = and_parts (a && b && c && d) e h in let u = and_parts (a && b && c) d v.0 in let z = three a b c u.0 in
    (z.0, z.1, z.2, u.1, v.1)

by_first : {A B : Type 0} (p : Phrase A) (q : Phrase B) (ts : List Lexeme) (i m n : ℕ) (x : A) (y : B) → is_determined p ≡ true → is_determined q ≡ true → first_apart p q ≡ true → Spells ts p i m x → Spells ts q i n y → ⊥
by_first p q ts i m n x y w v h d e =
    let t = three (not (nullable p)) (not (nullable q)) (apart (first p) (first q)) h in
    let b = begins p ts i m x w d in let c = begins q ts i n y v e in
    apart_never (first p) (first q) (kind_at ts i) t.2 (b.known (b.filled (not-true (nullable p) t.0))) (c.known (c.filled (not-true (nullable q) t.1)))

-- a phrase of two tokens at least
two_long : {A : Type 0} (p : Phrase A) (ts : List Lexeme) (i m : ℕ) (x : A) → is_determined p ≡ true → not (nullable p) ≡ true → not (single p) ≡ true → Spells ts p i m x → in_any (second p) (kind_at ts (suc i)) ≡ true
two_long p ts i m x w h g d =
    let b = begins p ts i m x w d in let c = seconds p ts i m x w d in
    elim (at_least (suc i) m (b.filled (not-true (nullable p) h))) [ inl lt ↦ c.known lt | inr e ↦ absurd (both_ways (single p) (not-true (single p) g) (c.alone e)) ]

by_second : {A B : Type 0} (p : Phrase A) (q : Phrase B) (ts : List Lexeme) (i m n : ℕ) (x : A) (y : B) → is_determined p ≡ true → is_determined q ≡ true → second_apart p q ≡ true → Spells ts p i m x → Spells ts q i n y → ⊥
by_second p q ts i m n x y w v h d e =
    let t = five (not (nullable p)) (not (nullable q)) (not (single p)) (not (single q)) (apart (second p) (second q)) h in
    apart_never (second p) (second q) (kind_at ts (suc i)) t.4 (two_long p ts i m x w t.0 t.2 d) (two_long q ts i n y v t.1 t.3 e)

-- the first token tells them apart, or the second does
abbrev pub told_apart : {A B : Type 0} → Phrase A → Phrase B → Bool
told_apart p q = first_apart p q || second_apart p q

pub never_both : {A B : Type 0} (p : Phrase A) (q : Phrase B) (ts : List Lexeme) (i m n : ℕ) (x : A) (y : B) → is_determined p ≡ true → is_determined q ≡ true → told_apart p q ≡ true → Spells ts p i m x → Spells ts q i n y → ⊥
never_both p q ts i m n x y w v h d e = elim (or_cases (first_apart p q) (second_apart p q) h) [
  | inl f ↦ by_first p q ts i m n x y w v f d e
  | inr s ↦ by_second p q ts i m n x y w v s d e
]
