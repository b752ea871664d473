-- Batches that are read change by change, in the order of their keys.
use Rattle.std.proofs.Common.{◌≡◌, ℕ, ◌+◌, ◌%◌, ◌<◌, ◌≤◌, true, false, List, [], ◌∷◌, ◌++◌, Option, Some, None, length, take, drop, get_or, replicate, refl, sym, ap, subst, ◌∙◌, arith, append_assoc, length-append}
use Rattle.std.specs.List.{AllByRecursion}
use Rattle.std.specs.Ordering.{is_lt}
use Rattle.std.specs.declared.cmp.Ordering.TheVariants.{Less}
use Rattle.std.proofs.lemmas.List.{take_at, drop_at, length-replicate}
use Rattle.byteorder.specs.Endian.{big_bytes, big_number}
use Rattle.byteorder.specs.Numbers.{big_number-reads_back}
use Rattle.store.specs.Records.{Changes, key_cmp, IsOrdered, IsChangeSize, changed}
use Rattle.store.specs.Batch.{IsBatch}
use Rattle.store.proofs.Changes.{key_trans, after}
use Rattle.store.proofs.Places.{less_key}
use Rattle.journal.specs.Changes.{change_then, changes_then, Spells, EndsBatch, IsFront}
use Rattle.journal.proofs.RecordFormat.{changes_then-append, both_hold, zeros_are, zero_at, no_change_in_zeros}

-- ---- bytes begin with one change at most

two_same : (a b : ℕ) (r s : List ℕ) → a < 65536 → b < 65536 → big_bytes 2 a ++ r ≡ big_bytes 2 b ++ s → (a ≡ b) × (r ≡ s)
two_same a b r s small_a small_b same =
    (sym (big_number-reads_back 2 a r small_a) ∙ ap (λ (zs : List ℕ). big_number 2 zs) same ∙ big_number-reads_back 2 b s small_b, ap (λ (zs : List ℕ). drop 2 zs) same)

front_same : (xs ys r s : List ℕ) → length xs ≡ length ys → xs ++ r ≡ ys ++ s → (xs ≡ ys) × (r ≡ s)
front_same xs ys r s long same = (
  sym (take_at xs r (length xs) refl) ∙ ap (λ (zs : List ℕ). take (length xs) zs) same ∙ take_at ys s (length xs) (sym long),
  sym (drop_at xs r (length xs) refl) ∙ ap (λ (zs : List ℕ). drop (length xs) zs) same ∙ drop_at ys s (length xs) (sym long),
)

-- the same key, value and rest
abbrev pub AreSame : List ℕ → List ℕ → Option (List ℕ) → Option (List ℕ) → List ℕ → List ℕ → Type 0
AreSame key k value v rest r = (key ≡ k) × (value ≡ v) × (rest ≡ r)

one_change : (key k : List ℕ) (value v : Option (List ℕ)) (rest r : List ℕ) → IsChangeSize (key, value) → IsChangeSize (k, v)
    → change_then key value rest ≡ change_then k v r → AreSame key k value v rest r
one_change key k (Some value) (Some v) rest r size other same =
    let behind = ap (λ (zs : List ℕ). drop 1 zs) same in
    let lengths = two_same (length key) (length k) _ _ (omega (arith, size.0.1)) (omega (arith, other.0.1)) behind in
    let values = two_same (length value) (length v) _ _ (omega (arith, size.1)) (omega (arith, other.1)) lengths.1 in
    let keys = front_same key k (value ++ rest) (v ++ r) lengths.0 values.1 in
    let rests = front_same value v rest r values.0 keys.1 in
    (keys.0, ap (λ (bytes : List ℕ). Some bytes) rests.0, rests.1)
one_change key k None None rest r size other same =
    let behind = ap (λ (zs : List ℕ). drop 1 zs) same in
    let lengths = two_same (length key) (length k) _ _ (omega (arith, size.0.1)) (omega (arith, other.0.1)) behind in
    let keys = front_same key k rest r lengths.0 lengths.1 in
    (keys.0, refl, keys.1)
one_change key k (Some value) None rest r size other same = let first : 1 ≡ 2 = ap (λ (zs : List ℕ). get_or zs 0 0) same in absurd (omega (arith, first))
one_change key k None (Some v) rest r size other same = let first : 2 ≡ 1 = ap (λ (zs : List ℕ). get_or zs 0 0) same in absurd (omega (arith, first))

pub one_front : (bytes key k : List ℕ) (value v : Option (List ℕ)) (rest r : List ℕ) → IsFront bytes key value rest → IsFront bytes k v r → AreSame key k value v rest r
one_front bytes key k value v rest r first also = one_change key k value v rest r first.size also.size (sym first.is ∙ also.is)

-- ---- keys that rise

-- all keys come before this one
abbrev AreBelow : List ℕ → Changes → Type 0
AreBelow key cs = AllByRecursion (λ c. key_cmp c.0 key ≡ Less) cs

changed_behind : (key : List ℕ) (value : Option (List ℕ)) (cs : Changes) → AreBelow key cs → changed key (Some value) cs ≡ cs ++ (key, value) ∷ []
changed_behind key value [] below = refl
changed_behind key value (c ∷ cs) below = rw (after c.0 key below.0) (ap (λ (ds : Changes). c ∷ ds) (changed_behind key value cs below.1))

below_with : (k : List ℕ) (cs : Changes) (c : List ℕ × Option (List ℕ)) → AreBelow k cs → key_cmp c.0 k ≡ Less → AreBelow k (cs ++ c ∷ [])
below_with k [] c below less = (less, tt)
below_with k (d ∷ cs) c below less = (below.0, below_with k cs c below.1 less)

behind_ordered : (xs ys : Changes) → IsOrdered (xs ++ ys) → IsOrdered ys
behind_ordered [] ys o = o
behind_ordered (x ∷ xs) ys o = behind_ordered xs ys o.1

nothing_first : (key : List ℕ) → 1 ≤ length key → key_cmp [] key ≡ Less
nothing_first [] long = absurd (omega (arith, long))
nothing_first (b ∷ key) long = refl

-- The changes so far stand at the front of the bytes, in the order of their keys, of which the last one is this; and the
-- changes of a batch that all bytes spell begin with them.
pub record ReadsSoFar (bytes : List ℕ) (batch : Changes) (last rest : List ℕ) : Type 0 where
  pub spelled : bytes ≡ changes_then batch rest
  pub below : (key : List ℕ) → key_cmp last key ≡ Less → AllByRecursion (λ c. key_cmp c.0 key ≡ Less) batch
  pub above : (c : List ℕ × Option (List ℕ)) (cs : Changes) → IsOrdered (batch ++ c ∷ cs) → 1 ≤ length c.0 → key_cmp last c.0 ≡ Less
  pub only : (cs : Changes) (n : ℕ) → IsBatch cs → bytes ≡ changes_then cs (replicate n 0) → (ds : Changes) × (cs ≡ batch ++ ds) × (rest ≡ changes_then ds (replicate n 0))

pub reads_none : (bytes : List ℕ) → ReadsSoFar bytes [] [] bytes
reads_none bytes = record {
  spelled = refl;
  below = λ key less. tt;
  above = λ c cs ordered long. nothing_first c.0 long;
  only = λ cs n batch is. (cs, refl, is);
}

-- a batch that goes on behind the changes so far goes on with the change at the front
goes_on : (bytes : List ℕ) (batch ds : Changes) (last rest key : List ℕ) (value : Option (List ℕ)) (behind : List ℕ) (cs : Changes) (n : ℕ) → IsFront rest key value behind → IsBatch cs
    → cs ≡ batch ++ ds → rest ≡ changes_then ds (replicate n 0)
    → (es : Changes) × (ds ≡ (key, value) ∷ es) × (behind ≡ changes_then es (replicate n 0))
goes_on bytes batch [] last rest key value behind cs n front is split left = absurd (no_change_in_zeros n key value behind (sym left ∙ front.is))
goes_on bytes batch (d ∷ ds) last rest key value behind cs n front is split left =
    let sizes : AllByRecursion IsChangeSize batch × AllByRecursion IsChangeSize (d ∷ ds) = both_hold IsChangeSize batch (d ∷ ds) (subst (λ (xs : Changes). AllByRecursion IsChangeSize xs) split is.sizes) in
    let there : IsFront rest d.0 d.1 (changes_then ds (replicate n 0)) = record { size = sizes.1.0; is = left } in
    let same = one_front rest key d.0 value d.1 behind (changes_then ds (replicate n 0)) front there in
    (ds, sym (ap (λ (k : List ℕ). (k, value) ∷ ds) same.0 ∙ ap (λ (v : Option (List ℕ)). (d.0, v) ∷ ds) same.1), same.2)

module _ (bytes : List ℕ) (batch : Changes) (last rest key : List ℕ) (value : Option (List ℕ)) (behind : List ℕ) (so_far : ReadsSoFar bytes batch last rest) (front : IsFront rest key value behind) where
  -- the next change of a batch comes after the last one
  pub next_rises : (cs : Changes) → Spells bytes cs → is_lt (key_cmp last key) ≡ false → ⊥
  next_rises cs spells falls =
      let found = so_far.only cs spells.zeros spells.batch spells.is in
      let next = goes_on bytes batch found.0 last rest key value behind cs spells.zeros front spells.batch found.1 found.2 in
      let ordered : IsOrdered (batch ++ (key, value) ∷ next.0) = subst (λ (xs : Changes). IsOrdered (batch ++ xs)) next.1 (subst (λ (xs : Changes). IsOrdered xs) found.1 spells.batch.ordered) in
      let rises : key_cmp last key ≡ Less = so_far.above (key, value) next.0 ordered front.size.0.0 in
      let wrong : true ≡ false = sym (ap is_lt rises) ∙ falls in
      cc

  -- one change more
  pub reads_more : (new : Changes) → is_lt (key_cmp last key) ≡ true → new ≡ changed key (Some value) batch → ReadsSoFar bytes new key behind
  reads_more new rises is =
      let less : key_cmp last key ≡ Less = less_key (key_cmp last key) rises in
      let longer : new ≡ batch ++ (key, value) ∷ [] = is ∙ changed_behind key value batch (so_far.below key less) in
      subst (λ (cs : Changes). ReadsSoFar bytes cs key behind) (sym longer) (record {
        spelled = so_far.spelled ∙ ap (λ (bs : List ℕ). changes_then batch bs) front.is ∙ sym (changes_then-append batch ((key, value) ∷ []) behind);
        below = λ k further. below_with k batch (key, value) (so_far.below k (key_trans last key k less further)) further;
        above = λ c cs ordered long.
            (behind_ordered batch ((key, value) ∷ c ∷ cs) (subst (λ (xs : Changes). IsOrdered xs) (append_assoc batch ((key, value) ∷ []) (c ∷ cs)) ordered)).0.0;
        only = λ cs n whole spelled.
            let found = so_far.only cs n whole spelled in
            let next = goes_on bytes batch found.0 last rest key value behind cs n front whole found.1 found.2 in
            (next.0, found.1 ∙ ap (λ (xs : Changes). batch ++ xs) next.1 ∙ sym (append_assoc batch ((key, value) ∷ []) next.0), next.2);
      })

-- ---- the end

append_none : (cs : Changes) → cs ++ [] ≡ cs
append_none [] = refl
append_none (c ∷ cs) = ap (λ (ds : Changes). c ∷ ds) (append_none cs)

-- no change is at the front
abbrev pub HasNoFront : List ℕ → Type 0
HasNoFront rest = (key : List ℕ) (value : Option (List ℕ)) (behind : List ℕ) → IsFront rest key value behind → ⊥

-- a batch that the bytes spell is what was read, and zeros are left
pub read_whole : (bytes : List ℕ) (batch : Changes) (last rest : List ℕ) (cs : Changes) → ReadsSoFar bytes batch last rest → HasNoFront rest → Spells bytes cs
    → (batch ≡ cs) × EndsBatch bytes rest
read_whole bytes batch last rest cs so_far none spells =
    go (so_far.only cs spells.zeros spells.batch spells.is).0 (so_far.only cs spells.zeros spells.batch spells.is).1 (so_far.only cs spells.zeros spells.batch spells.is).2
  where
    go : (ds : Changes) → cs ≡ batch ++ ds → rest ≡ changes_then ds (replicate spells.zeros 0) → (batch ≡ cs) × EndsBatch bytes rest
    go [] split left = (
      sym (split ∙ append_none batch),
      record {
        whole = spells.whole;
        few = let long : length rest ≡ spells.zeros = ap (λ (zs : List ℕ). length zs) left ∙ length-replicate spells.zeros 0 in omega (arith, long, spells.few);
        zeros = λ k lt. ap (λ (zs : List ℕ). get_or zs k 0) left ∙ zero_at spells.zeros k;
      },
    )
    go (d ∷ ds) split left =
        let sizes : AllByRecursion IsChangeSize batch × AllByRecursion IsChangeSize (d ∷ ds) = both_hold IsChangeSize batch (d ∷ ds) (subst (λ (xs : Changes). AllByRecursion IsChangeSize xs) split spells.batch.sizes) in
        absurd (none d.0 d.1 (changes_then ds (replicate spells.zeros 0)) (record { size = sizes.1.0; is = left }))

-- what was read is what the bytes spell, where zeros are left
pub spells_read : (bytes : List ℕ) (batch : Changes) (last rest : List ℕ) → ReadsSoFar bytes batch last rest → IsOrdered batch → AllByRecursion IsChangeSize batch → EndsBatch bytes rest
    → Spells bytes batch
spells_read bytes batch last rest so_far ordered sizes ends = record {
  batch = record { ordered = ordered; sizes = sizes };
  zeros = length rest;
  few = ends.few;
  is = so_far.spelled ∙ ap (λ (bs : List ℕ). changes_then batch bs) (zeros_are rest ends.zeros);
  whole = ends.whole;
}

-- ---- one spelling, and how long it is

-- a batch and zeros are spelled by no other batch and zeros
one_spelled : (cs ds : Changes) (n m : ℕ) → AllByRecursion IsChangeSize cs → AllByRecursion IsChangeSize ds → changes_then cs (replicate n 0) ≡ changes_then ds (replicate m 0) → cs ≡ ds
one_spelled [] [] n m sizes other same = refl
one_spelled [] (d ∷ ds) n m sizes other same = absurd (no_change_in_zeros n d.0 d.1 (changes_then ds (replicate m 0)) same)
one_spelled (c ∷ cs) [] n m sizes other same = absurd (no_change_in_zeros m c.0 c.1 (changes_then cs (replicate n 0)) (sym same))
one_spelled (c ∷ cs) (d ∷ ds) n m sizes other same =
    let first = one_change c.0 d.0 c.1 d.1 (changes_then cs (replicate n 0)) (changes_then ds (replicate m 0)) sizes.0 other.0 same in
    ap (λ (k : List ℕ). (k, c.1) ∷ cs) first.0 ∙ ap (λ (v : Option (List ℕ)). (d.0, v) ∷ cs) first.1
    ∙ ap (λ (es : Changes). d ∷ es) (one_spelled cs ds n m sizes.1 other.1 first.2)

pub one_batch_read : (bytes : List ℕ) (cs ds : Changes) → Spells bytes cs → Spells bytes ds → cs ≡ ds
one_batch_read bytes cs ds first also = one_spelled cs ds first.zeros also.zeros first.batch.sizes also.batch.sizes (sym first.is ∙ also.is)

change_long : (key : List ℕ) (value : Option (List ℕ)) (rest : List ℕ) → length (change_then key value rest) ≡ length (change_then key value []) + length rest
change_long key (Some value) rest = simp length-append (omega arith)
change_long key None rest = simp length-append (omega arith)

changes_long : (cs : Changes) (rest : List ℕ) → length (changes_then cs rest) ≡ length (changes_then cs []) + length rest
changes_long [] rest = omega arith
changes_long (c ∷ cs) rest =
    omega (arith, change_long c.0 c.1 (changes_then cs rest), change_long c.0 c.1 (changes_then cs []), changes_long cs rest)

-- less is left behind a change
front_long : (key : List ℕ) (value : Option (List ℕ)) (rest : List ℕ) → length rest < length (change_then key value rest)
front_long key (Some value) rest = simp length-append (omega arith)
front_long key None rest = simp length-append (omega arith)

pub front_shorter : (bytes key : List ℕ) (value : Option (List ℕ)) (rest : List ℕ) → IsFront bytes key value rest → length rest < length bytes
front_shorter bytes key value rest front = omega (arith, front_long key value rest, ap (λ (bs : List ℕ). length bs) front.is)

same_zeros : (long n m : ℕ) → n < 488 → m < 488 → (long + n) % 488 ≡ 0 → (long + m) % 488 ≡ 0 → n ≡ m
same_zeros long n m few fewer whole also = omega arith

spelled_long : (bytes : List ℕ) (cs : Changes) (spells : Spells bytes cs) → length bytes ≡ length (changes_then cs []) + spells.zeros
spelled_long bytes cs spells = ap (λ (bs : List ℕ). length bs) spells.is ∙ changes_long cs (replicate spells.zeros 0) ∙ ap (λ (n : ℕ). length (changes_then cs []) + n) (length-replicate spells.zeros 0)

pub one_spelling : (bytes other : List ℕ) (cs : Changes) → Spells bytes cs → Spells other cs → bytes ≡ other
one_spelling bytes other cs first also =
    let zeros_are_same : first.zeros ≡ also.zeros = same_zeros (length (changes_then cs [])) first.zeros also.zeros first.few also.few
    (ap (λ (n : ℕ). n % 488) (sym (spelled_long bytes cs first)) ∙ first.whole) (ap (λ (n : ℕ). n % 488) (sym (spelled_long other cs also)) ∙ also.whole) in
    first.is ∙ ap (λ (n : ℕ). changes_then cs (replicate n 0)) zeros_are_same ∙ sym also.is
