-- The entries of the pages that have a slot: how a look-up changes with them.
use Rattle.std.proofs.Common.{◌≡◌, ◌≢◌, ◌-◌, ℕ, zero, suc, Bool, true, false, cond, List, [], ◌∷◌, ◌++◌, inl, inr, Option, Some, None, option_map, take, length, refl, sym, ap, ◌∙◌, subst, arith, Contains}
use Rattle.std.proofs.lemmas.Bool.{eqb-true, ne_eqb}
use Rattle.std.proofs.lemmas.Bool.Decides.{eqb_tells}
use Rattle.std.specs.Prelude.{nat_eq}
use Rattle.std.specs.Option.{option_map_or}
use Rattle.std.specs.List.{AllByRecursion, IsDistinct}
use Rattle.std.specs.Map.{lookup, lookup_entry, remove_entry, keys_of}
use Rattle.lru.specs.LruCache.{LruCache, promoted, last_entry, put_entries}
use Rattle.lru.proofs.CallerLemmas.{Contains-lookup, Contains-lookup_entry, Contains-take}
use Rattle.lru.proofs.Splits.{Contains-cons, Contains-nil, Contains-middle}
use Rattle.lru.proofs.Pairs.{cut_end, last_of_push, lookup-lookup_entry}
use Rattle.page_cache.specs.Slots.{AreApart}

abbrev pub Entries : Type 0
Entries = List (ℕ × ℕ)

-- a page that is found is among the entries
pub entry_of : (entries : Entries) (page slot : ℕ) → lookup (nat_eq page) entries ≡ Some slot → Contains entries (page, slot)
entry_of entries page slot is =
    let at = Contains-lookup (nat_eq page) entries slot is in
    subst (λ (key : ℕ). Contains entries (key, slot)) (sym (eqb-true page at.0 at.2)) at.1

lookup-remove_other : (page other : ℕ) (entries : Entries) → other ≢ page → lookup (nat_eq other) (remove_entry (nat_eq page) entries) ≡ lookup (nat_eq other) entries
lookup-remove_other page other [] apart = refl
lookup-remove_other page other (entry ∷ entries) apart = by (nat_eq page entry.0) refl (lookup-remove_other page other entries apart)
  where
    by : (here : Bool) → nat_eq page entry.0 ≡ here
        → lookup (nat_eq other) (remove_entry (nat_eq page) entries) ≡ lookup (nat_eq other) entries
        → lookup (nat_eq other) (cond here entries (entry ∷ remove_entry (nat_eq page) entries)) ≡ lookup (nat_eq other) (entry ∷ entries)
    by true here after = sym (ap (λ (b : Bool). cond b (Some entry.1) (lookup (nat_eq other) entries)) (ne_eqb other entry.0 (λ same. apart (same ∙ sym (eqb-true page entry.0 here)))))
    by false here after = ap (cond (nat_eq other entry.0) (Some entry.1)) after

-- to make a page the most recently used changes no look-up
pub lookup-promoted : (page other : ℕ) (entries : Entries) → lookup (nat_eq other) (promoted (nat_eq page) entries) ≡ lookup (nat_eq other) entries
lookup-promoted page other entries = by (lookup_entry (nat_eq page) entries) refl
  where
    by : (found : Option (ℕ × ℕ)) → lookup_entry (nat_eq page) entries ≡ found
        → lookup (nat_eq other) (option_map_or (λ e. e ∷ remove_entry (nat_eq page) entries) found entries) ≡ lookup (nat_eq other) entries
    by None found = refl
    by (Some entry) found =
        let key : page ≡ entry.0 = eqb-true page entry.0 (Contains-lookup_entry (nat_eq page) entries entry found).1 in
        elim (eqb_tells other entry.0) [
          | inl is ↦ ap (λ (b : Bool). cond b (Some entry.1) (lookup (nat_eq other) (remove_entry (nat_eq page) entries))) is.0
              ∙ sym (ap (λ (p : ℕ). lookup (nat_eq p) entries) (is.1 ∙ sym key) ∙ sym (lookup-lookup_entry (nat_eq page) entries) ∙ ap (option_map (λ e. e.1)) found)
          | inr is ↦ ap (λ (b : Bool). cond b (Some entry.1) (lookup (nat_eq other) (remove_entry (nat_eq page) entries))) is.0
              ∙ lookup-remove_other page other entries (λ same. is.1 (same ∙ key))
        ]

length-removed : (page : ℕ) (entries : Entries) (entry : ℕ × ℕ) → lookup_entry (nat_eq page) entries ≡ Some entry → suc (length (remove_entry (nat_eq page) entries)) ≡ length entries
length-removed page [] entry is = absurd cc
length-removed page (first ∷ entries) entry is = by (nat_eq page first.0) (length-removed page entries entry) is
  where
    by : (here : Bool) → (lookup_entry (nat_eq page) entries ≡ Some entry → suc (length (remove_entry (nat_eq page) entries)) ≡ length entries)
        → cond here (Some first) (lookup_entry (nat_eq page) entries) ≡ Some entry
        → suc (length (cond here entries (first ∷ remove_entry (nat_eq page) entries))) ≡ length (first ∷ entries)
    by true after is = omega arith
    by false after is = let rest = after is in omega arith

pub length-promoted : (page : ℕ) (entries : Entries) → length (promoted (nat_eq page) entries) ≡ length entries
length-promoted page entries = by (lookup_entry (nat_eq page) entries) refl
  where
    by : (found : Option (ℕ × ℕ)) → lookup_entry (nat_eq page) entries ≡ found
        → length (option_map_or (λ e. e ∷ remove_entry (nat_eq page) entries) found entries) ≡ length entries
    by None found = refl
    by (Some entry) found = let rest = length-removed page entries entry found in omega arith

-- what is found in the first entries is found in all
pub lookup-take : (test : ℕ → Bool) (n : ℕ) (entries : Entries) (slot : ℕ) → lookup test (take n entries) ≡ Some slot → lookup test entries ≡ Some slot
lookup-take test zero entries slot is = absurd cc
lookup-take test (suc n) [] slot is = is
lookup-take test (suc n) (entry ∷ entries) slot is = by (test entry.0) (lookup-take test n entries slot) is
  where
    by : (here : Bool) → (lookup test (take n entries) ≡ Some slot → lookup test entries ≡ Some slot) → cond here (Some entry.1) (lookup test (take n entries)) ≡ Some slot → cond here (Some entry.1) (lookup test entries) ≡ Some slot
    by true after is = is
    by false after is = after is

-- a new page comes before those that stay
pub put_new : (cache : LruCache ℕ ℕ) (page slot : ℕ) → lookup (nat_eq page) cache.entries ≡ None → put_entries nat_eq cache page slot ≡ (page, slot) ∷ take (cache.cap - 1) cache.entries
put_new cache page slot new = by (lookup_entry (nat_eq page) cache.entries) (lookup-lookup_entry (nat_eq page) cache.entries ∙ new)
  where
    by : (found : Option (ℕ × ℕ)) → option_map (λ e. e.1) found ≡ None
        → option_map_or (λ e. (e.0, slot) ∷ remove_entry (nat_eq page) cache.entries) found ((page, slot) ∷ take (cache.cap - 1) cache.entries) ≡ (page, slot) ∷ take (cache.cap - 1) cache.entries
    by None none = refl
    by (Some entry) none = absurd cc

all_to_end : (P : ℕ → Type 0) (before : Entries) (entry : ℕ × ℕ) → AllByRecursion P (keys_of (before ++ entry ∷ [])) → P entry.0
all_to_end P [] entry all = all.0
all_to_end P (first ∷ before) entry all = all_to_end P before entry all.1

end_apart : (before : Entries) (last entry : ℕ × ℕ) → IsDistinct nat_eq (keys_of (before ++ last ∷ [])) → Contains before entry → entry.0 ≢ last.0
unfolding IsDistinct
end_apart [] last entry distinct there same = Contains-nil entry there
end_apart (first ∷ before) last entry distinct there same = elim (Contains-cons first before entry there) [
  | inl is ↦ by (nat_eq first.0 last.0) refl (all_to_end (λ (key : ℕ). nat_eq first.0 key ≡ false) before last distinct.0) (ap (λ (e : ℕ × ℕ). e.0) is ∙ same)
  | inr rest ↦ end_apart before last entry distinct.1 rest same
]
  where
    by : (here : Bool) → nat_eq first.0 last.0 ≡ here → nat_eq first.0 last.0 ≡ false → first.0 ≡ last.0 → ⊥
    by here is other same = let alike : nat_eq last.0 last.0 ≡ false = subst (λ (p : ℕ). nat_eq p last.0 ≡ false) same other in
        elim (eqb_tells last.0 last.0) [ inl equal ↦ absurd cc | inr differ ↦ differ.1 refl ]

-- where no two pages have one slot, those before the last do not have the slot of the last
pub last_slot : (entries : Entries) (last : ℕ × ℕ) → IsDistinct nat_eq (keys_of entries) → AreApart entries → last_entry entries ≡ Some last
    → (Contains entries last) × ((entry : ℕ × ℕ) → Contains (take (length entries - 1) entries) entry → entry.1 ≢ last.1)
last_slot [] last distinct apart is = absurd cc
last_slot (first ∷ rest) last distinct apart is =
    let cut = cut_end (first ∷ rest) (omega arith) in
    let ends = last_of_push cut.0 cut.1 in
    let all : Entries = first ∷ rest in
    let there : Contains all cut.1 = subst (λ (l : Entries). Contains l cut.1) (sym cut.2) (Contains-middle cut.0 cut.1 []) in
    let same : Some cut.1 ≡ Some last = sym ends.0 ∙ sym (ap last_entry cut.2) ∙ is in
    let end : cut.1 ≡ last = cc in (
      subst (Contains all) end there,
      λ entry early one.
          let before : Contains cut.0 entry = subst (λ (l : Entries). Contains l entry) (ap (λ (l : Entries). take (length l - 1) l) cut.2 ∙ ends.1) early in
          end_apart cut.0 cut.1 entry (subst (λ (l : Entries). IsDistinct nat_eq (keys_of l)) cut.2 distinct) before
          (apart entry cut.1 (Contains-take (length all - 1) all entry early) there (one ∙ ap (λ (e : ℕ × ℕ). e.1) (sym end))),
    )
