-- Entries that a put has changed, and entries in two parts.
use Rattle.std.proofs.Common.{◌≡◌, ⊎_elim, ℕ, ◌<◌, true, false, Option, Some, List, [], ◌∷◌, ◌++◌, length, arith}
use Rattle.std.proofs.lemmas.Bool.{cases_Bool}
use Rattle.page_nodes.specs.Map.{is_below, Entry, with_entry, AllAbove, IsRising}
use Rattle.page_nodes.proofs.Order.{one_way, le_lt, above_all}
use Rattle.page_tree.specs.Forest.{IsUnder, AllFrom, AllUnder}
use Rattle.page_tree.proofs.Bounds.{irreflexive}

above_lower : (key k : List ℕ) (es : List Entry) → is_below k key ≡ false → AllAbove k es → AllAbove key es
above_lower key k [] le all = tt
above_lower key k (e ∷ es) le all = (le_lt key k e.0 le all.0, above_lower key k es le all.1)

module _ (key value : List ℕ) where
  -- what stands for all entries and for the new one stands for all with it
  pub with_from : (k : List ℕ) (es : List Entry) → is_below key k ≡ false → AllFrom k es → AllFrom k (with_entry key value es)
  with_from k [] le all = (le, tt)
  with_from k (e ∷ es) le all = ⊎_elim (λ yes. rw yes (all.0, with_from k es le all.1))
      (λ past. rw past (⊎_elim (λ less. rw less (le, all)) (λ same. rw same (le, all.1)) (cases_Bool (is_below key e.0)))) (cases_Bool (is_below e.0 key))

  pub with_under : (high : Option (List ℕ)) (es : List Entry) → IsUnder key high → AllUnder high es → AllUnder high (with_entry key value es)
  with_under high [] lt all = (lt, tt)
  with_under high (e ∷ es) lt all = ⊎_elim (λ yes. rw yes (all.0, with_under high es lt all.1))
      (λ past. rw past (⊎_elim (λ less. rw less (lt, all)) (λ same. rw same (lt, all.1)) (cases_Bool (is_below key e.0)))) (cases_Bool (is_below e.0 key))

  with_above : (k : List ℕ) (es : List Entry) → is_below k key ≡ true → AllAbove k es → AllAbove k (with_entry key value es)
  with_above k [] lt all = (lt, tt)
  with_above k (e ∷ es) lt all = ⊎_elim (λ yes. rw yes (all.0, with_above k es lt all.1))
      (λ past. rw past (⊎_elim (λ less. rw less (lt, all)) (λ same. rw same (lt, all.1)) (cases_Bool (is_below key e.0)))) (cases_Bool (is_below e.0 key))

  pub with_rising : (es : List Entry) → IsRising es → IsRising (with_entry key value es)
  with_rising [] r = (tt, tt)
  with_rising (e ∷ es) r = ⊎_elim (λ yes. rw yes (with_above e.0 es yes r.0, with_rising es r.1))
      (λ past. rw past (⊎_elim (λ less. rw less ((less, above_all key e.0 es less r.0), r))
      (λ same. rw same (above_lower key e.0 es past r.0, r.1)) (cases_Bool (is_below key e.0)))) (cases_Bool (is_below e.0 key))

  pub with_some : (es : List Entry) → 0 < length (with_entry key value es)
  with_some [] = omega arith
  with_some (e ∷ es) = ⊎_elim (λ yes. rw yes (omega arith))
      (λ past. rw past (⊎_elim (λ less. rw less (omega arith)) (λ same. rw same (omega arith)) (cases_Bool (is_below key e.0)))) (cases_Bool (is_below e.0 key))

-- the parts of rising entries
pub from_front : (k : List ℕ) (xs ys : List Entry) → AllFrom k (xs ++ ys) → AllFrom k xs
from_front k [] ys all = tt
from_front k (x ∷ xs) ys all = (all.0, from_front k xs ys all.1)

pub under_back : (high : Option (List ℕ)) (xs ys : List Entry) → AllUnder high (xs ++ ys) → AllUnder high ys
under_back high [] ys all = all
under_back high (x ∷ xs) ys all = under_back high xs ys all.1

above_front : (k : List ℕ) (xs ys : List Entry) → AllAbove k (xs ++ ys) → AllAbove k xs
above_front k [] ys all = tt
above_front k (x ∷ xs) ys all = (all.0, above_front k xs ys all.1)

above_at : (k : List ℕ) (xs : List Entry) (c : Entry) (ys : List Entry) → AllAbove k (xs ++ (c ∷ ys)) → is_below k c.0 ≡ true
above_at k [] c ys all = all.0
above_at k (x ∷ xs) c ys all = above_at k xs c ys all.1

pub rising_front : (xs ys : List Entry) → IsRising (xs ++ ys) → IsRising xs
rising_front [] ys r = tt
rising_front (x ∷ xs) ys r = (above_front x.0 xs ys r.0, rising_front xs ys r.1)

pub rising_back : (xs ys : List Entry) → IsRising (xs ++ ys) → IsRising ys
rising_back [] ys r = r
rising_back (x ∷ xs) ys r = rising_back xs ys r.1

pub front_under : (xs : List Entry) (c : Entry) (ys : List Entry) → IsRising (xs ++ (c ∷ ys)) → AllUnder (Some c.0) xs
front_under [] c ys r = tt
front_under (x ∷ xs) c ys r = (above_at x.0 xs c ys r.0, front_under xs c ys r.1)

above_from : (k : List ℕ) (es : List Entry) → AllAbove k es → AllFrom k es
above_from k [] all = tt
above_from k (e ∷ es) all = (one_way k e.0 all.0, above_from k es all.1)

pub back_from : (c : Entry) (ys : List Entry) → IsRising (c ∷ ys) → AllFrom c.0 (c ∷ ys)
back_from c ys r = (irreflexive c.0, above_from c.0 ys r.0)

-- a key that all entries are from on is below one that has entries before it
pub bound_below : (k : List ℕ) (xs : List Entry) (c : Entry) (ys : List Entry) → 0 < length xs → AllFrom k (xs ++ (c ∷ ys)) → IsRising (xs ++ (c ∷ ys)) → is_below k c.0 ≡ true
bound_below k [] c ys some all r = absurd (omega (arith, some))
bound_below k (x ∷ xs) c ys some all r = le_lt k x.0 c.0 all.0 (above_at x.0 xs c ys r.0)
