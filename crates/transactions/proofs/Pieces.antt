-- Changes that lie in pieces.
use Rattle.std.proofs.Common.{◌≡◌, ℕ, zero, suc, ◌<◌, ◌+◌, List, [], ◌∷◌, ◌++◌, Option, Some, None, length, take, drop, get_or, refl, ap, sym, ◌∙◌, subst, arith, append_assoc}
use Rattle.std.proofs.lemmas.List.{take_more, take-append-drop, append-nil}
use Rattle.std.specs.List.{AllByRecursion}
use Rattle.std.specs.declared.cmp.Ordering.{Ordering}
use Rattle.std.specs.declared.cmp.Ordering.TheVariants.{Less, Equal, Greater}
use Rattle.store.specs.Records.{Changes, IsBefore, IsOrdered, key_cmp, lookup, found_by}
use Rattle.store.specs.Batch.{all_changes}
use Rattle.store.proofs.Changes.{same_key, lookup-before}
use Rattle.transactions.specs.Views.{or_earlier}

-- what holds of a list holds of both its parts
abbrev HoldsOfParts : (Changes → Type 0) → Type 0
HoldsOfParts P = (xs ys : Changes) → P (xs ++ ys) → P xs × P ys

all_changes-append : (ps qs : List Changes) → all_changes (ps ++ qs) ≡ all_changes ps ++ all_changes qs
all_changes-append [] qs = refl
all_changes-append (p ∷ ps) qs = ap (λ (cs : Changes). p ++ cs) (all_changes-append ps qs) ∙ sym (append_assoc p (all_changes ps) (all_changes qs))

-- of all changes it holds, so it holds of those of the first pieces
pub front_has : (P : Changes → Type 0) → HoldsOfParts P → (n : ℕ) (ps : List Changes) → P (all_changes ps) → P (all_changes (take n ps))
front_has P parts n ps has =
    (parts (all_changes (take n ps)) (all_changes (drop n ps))
    (subst P (ap all_changes (sym (take-append-drop n ps)) ∙ all_changes-append (take n ps) (drop n ps)) has)).0

-- and of each piece
pub piece_has : (P : Changes → Type 0) → HoldsOfParts P → (ps : List Changes) (at : ℕ) (piece : Changes) → at < length ps → piece ≡ get_or ps at piece → P (all_changes ps) → P piece
piece_has P parts [] at piece inside is has = absurd (omega (arith, inside))
piece_has P parts (p ∷ ps) zero piece inside is has = subst P (sym is) (parts p (all_changes ps) has).0
piece_has P parts (p ∷ ps) (suc at) piece inside is has = piece_has P parts ps at piece (omega (arith, inside)) is (parts p (all_changes ps) has).1

-- one piece more
pub front_and_piece : (ps : List Changes) (at : ℕ) (piece : Changes) → at < length ps → piece ≡ get_or ps at piece → all_changes (take (at + 1) ps) ≡ all_changes (take at ps) ++ piece
front_and_piece ps at piece inside is =
    ap all_changes (take_more ps at piece inside ∙ ap (λ (p : Changes). take at ps ++ p ∷ []) (sym is))
    ∙ all_changes-append (take at ps) (piece ∷ [])
    ∙ ap (λ (cs : Changes). all_changes (take at ps) ++ cs) (append-nil piece)

-- ---- what holds of both parts

before_parts : (key : List ℕ) (xs ys : Changes) → IsBefore key (xs ++ ys) → IsBefore key xs × IsBefore key ys
before_parts key [] ys before = (tt, before)
before_parts key (x ∷ xs) ys before = let later = before_parts key xs ys before.1 in ((before.0, later.0), later.1)

pub ordered_parts : HoldsOfParts IsOrdered
ordered_parts [] ys rise = (tt, rise)
ordered_parts (x ∷ xs) ys rise = let later = ordered_parts xs ys rise.1 in (((before_parts x.0 xs ys rise.0).0, later.0), later.1)

pub all_parts : (Q : List ℕ × Option (List ℕ) → Type 0) → HoldsOfParts (λ cs. AllByRecursion Q cs)
all_parts Q [] ys all = (tt, all)
all_parts Q (x ∷ xs) ys all = let later = all_parts Q xs ys all.1 in ((all.0, later.0), later.1)

-- a key that the whole does not name
pub unnamed_parts : (key : List ℕ) → HoldsOfParts (λ cs. lookup key cs ≡ None)
unnamed_parts key [] ys none = (refl, none)
unnamed_parts key (x ∷ xs) ys none = go (key_cmp key x.0) none (unnamed_parts key xs ys)
  where
    go : (o : Ordering) → found_by o x.1 (lookup key (xs ++ ys)) ≡ None → (lookup key (xs ++ ys) ≡ None → (lookup key xs ≡ None) × (lookup key ys ≡ None))
        → (found_by o x.1 (lookup key xs) ≡ None) × (lookup key ys ≡ None)
    go Less is later = later is
    go Equal is later = let wrong : Some x.1 ≡ None = is in cc
    go Greater is later = later is

-- the front of a list that rises does
pub front_rises : (n : ℕ) (xs : Changes) → IsOrdered xs → IsOrdered (take n xs)
front_rises n xs rise = (ordered_parts (take n xs) (drop n xs) (subst IsOrdered (sym (take-append-drop n xs)) rise)).0

-- and names no key that the whole does not name
pub front_names_none : (key : List ℕ) (n : ℕ) (xs : Changes) → lookup key xs ≡ None → lookup key (take n xs) ≡ None
front_names_none key n xs none = (unnamed_parts key (take n xs) (drop n xs) (subst (λ (cs : Changes). lookup key cs ≡ None) (sym (take-append-drop n xs)) none)).0

-- the later part decides, and names no key of the first
pub lookup-parts : (key : List ℕ) (xs ys : Changes) → IsOrdered (xs ++ ys) → lookup key (xs ++ ys) ≡ or_earlier (lookup key ys) (lookup key xs)
lookup-parts key [] ys rise = none (lookup key ys)
  where
    none : (word : Option (Option (List ℕ))) → word ≡ or_earlier word None
    none None = refl
    none (Some value) = refl
lookup-parts key (x ∷ xs) ys rise = go (key_cmp key x.0) refl (lookup-parts key xs ys rise.1)
  where
    go : (o : Ordering) → o ≡ key_cmp key x.0 → lookup key (xs ++ ys) ≡ or_earlier (lookup key ys) (lookup key xs)
        → found_by o x.1 (lookup key (xs ++ ys)) ≡ or_earlier (lookup key ys) (found_by o x.1 (lookup key xs))
    go Less is later = later
    go Greater is later = later
    go Equal is later =
        let none : lookup key ys ≡ None =
        subst (λ (k : List ℕ). lookup k ys ≡ None) (sym (same_key key x.0 (sym is))) (lookup-before x.0 ys (before_parts x.0 xs ys rise.0).1) in
        rw none refl

-- changes to which one piece more is added
pub piece_more : (key : List ℕ) (ps : List Changes) (at : ℕ) (piece old mid new : Changes) → at < length ps → piece ≡ get_or ps at piece → IsOrdered (all_changes ps)
    → lookup key mid ≡ or_earlier (lookup key (all_changes (take at ps))) (lookup key old) → lookup key new ≡ or_earlier (lookup key piece) (lookup key mid)
    → lookup key new ≡ or_earlier (lookup key (all_changes (take (at + 1) ps))) (lookup key old)
piece_more key ps at piece old mid new inside is rise was added =
    let front = front_and_piece ps at piece inside is in
    let rises : IsOrdered (all_changes (take at ps) ++ piece) = subst IsOrdered front (front_has IsOrdered ordered_parts (at + 1) ps rise) in
    added ∙ ap (or_earlier (lookup key piece)) was ∙ joined (lookup key piece)
    ∙ ap (λ (word : Option (Option (List ℕ))). or_earlier word (lookup key old)) (sym (ap (lookup key) front ∙ lookup-parts key (all_changes (take at ps)) piece rises))
  where
    joined : (word : Option (Option (List ℕ))) → or_earlier word (or_earlier (lookup key (all_changes (take at ps))) (lookup key old))
        ≡ or_earlier (or_earlier word (lookup key (all_changes (take at ps)))) (lookup key old)
    joined None = refl
    joined (Some value) = refl
