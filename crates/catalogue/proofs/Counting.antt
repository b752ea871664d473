-- Numbers that are taken, and how many there are.
use Rattle.std.proofs.Common.{◌≡◌, ℕ, zero, suc, ◌≤◌, true, nat_eq, List, [], ◌∷◌, length, refl, sym, ap, subst, inl, inr, arith}
use Rattle.std.proofs.lemmas.Bool.{eqb-true}
use Rattle.abstract_database.specs.Lists.{Among}
use Rattle.abstract_database.specs.Whole.{max_tables}
use Rattle.abstract_database.proofs.ElementLemmas.{any_found, rest_of, length-rest_of, in_rest_of}
use Rattle.stored_database.specs.Definitions.{TableDefinition, ids_of}
use Rattle.catalogue.specs.Numbers.{is_taken, AreAllTaken}

-- a list that has each number from 1 to n has n elements at least
at_least : (n : ℕ) (xs : List ℕ) → ((k : ℕ) → 1 ≤ k → k ≤ n → Among k xs) → n ≤ length xs
at_least zero xs h = omega arith
at_least (suc n) xs h =
    let last = h (suc n) (omega arith) (omega arith) in
    let rest = rest_of xs (suc n) last in
    let count = length-rest_of xs (suc n) last in
    let others : (k : ℕ) → 1 ≤ k → k ≤ n → Among k rest = λ k from to. elim (in_rest_of xs (suc n) last k (h k from (omega (arith, to)))) [ inl is ↦ absurd (omega (arith, is, to)) | inr there ↦ there ] in
    let enough = at_least n rest others in
    omega (arith, count, enough)

taken_among : (ids : List ℕ) (n : ℕ) → is_taken ids n ≡ true → Among n ids
taken_among ids n h =
    let found = any_found (nat_eq n) ids h in
    subst (λ k. Among k ids) (sym (eqb-true n found.0 found.2)) found.1

length_ids : (tables : List TableDefinition) → length (ids_of tables) ≡ length tables
length_ids [] = refl
length_ids (t ∷ ts) = ap suc (length_ids ts)

-- where each number is taken there are as many tables
pub all_taken : (tables : List TableDefinition) → AreAllTaken (ids_of tables) → max_tables ≤ length tables
all_taken tables h =
    let many = at_least max_tables (ids_of tables) (λ k from to. taken_among (ids_of tables) k (h k from to)) in
    omega (arith, many, length_ids tables)
