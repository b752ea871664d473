-- The number of a store with a journal: the greatest of its root's and of those in its journal.
use Rattle.std.proofs.Common.{◌≡◌, ◌+◌, ◌-◌, ◌++◌, inl, inr, ⊎_elim, ℕ, List, [], ◌∷◌, length, max, refl, arith}
use Rattle.std.proofs.lemmas.Bool.{cases_lt}
use Rattle.journal.specs.Chain.{Part, Holds, Region, Entry, Chains, part_of}
use Rattle.journal.specs.Journal.{IsGreatest}
use Rattle.journal_store.specs.Meaning.{IsNumberOf}

-- the greater of a root's number and of the greatest in the journal
pub greater : (root top : ℕ) (region : Region) → IsGreatest top region → IsNumberOf (max root top) root region
greater root top region greatest = record {
  not_below = omega arith;
  up_to = λ q part held. omega (arith, greatest.up_to q part held);
  reached = elim (cases_lt root top) [
    | inl above ↦ ⊎_elim
        (λ none. absurd (omega (arith, none, above)))
        (λ found. inr (found.0, found.1, found.2, omega (arith, found.3, above)))
        greatest.reached
    | inr low ↦ inl (omega (arith, low))
  ];
}

-- the number of the last of a chain of records stands in a sector
pub last_stands : (region : Region) (root last p room : ℕ) (es : List Entry) (new : Entry) → Chains region root last p room (es ++ new ∷ [])
    → (q : ℕ) × (part : Part) × (region q ≡ Holds part) × (part.number ≡ new.number)
last_stands region root last p room [] new chain = (p + 0, part_of root new 0, chain.0.holds 0 (omega (arith, chain.0.some)), refl)
last_stands region root last p room (e ∷ es) new chain = last_stands region root e.number (p + length e.parts) (room - length e.parts) es new chain.1

-- under the next root
pub under_next : (root next top : ℕ) (region : Region) → next ≡ root + 1 → IsNumberOf (max root top) root region → IsNumberOf (max next top) next region
under_next root next top region anew is = record {
  not_below = omega arith;
  up_to = λ q part held. omega (arith, is.up_to q part held, anew);
  reached = elim (cases_lt root top) [
    | inl above ↦ ⊎_elim
        (λ low. absurd (omega (arith, low, above)))
        (λ found. inr (found.0, found.1, found.2, omega (arith, found.3, above, anew)))
        is.reached
    | inr low ↦ inl (omega (arith, low, anew))
  ];
}
