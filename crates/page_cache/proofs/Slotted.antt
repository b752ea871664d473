-- Pages that have slots: what stays so when a page is the most recently used, and when a new one takes a slot.
use Rattle.std.proofs.Common.{◌≡◌, ◌≢◌, ◌<◌, ◌≤◌, ◌-◌, ℕ, List, [], ◌∷◌, inl, inr, Option, Some, None, IfSome, Result, Ok, Err, OnOk, OnErr, take, set, length, refl, sym, ap, ◌∙◌, subst, arith, get_or, cond}
use Rattle.std.proofs.lemmas.Bool.{ne_eqb, cases_eq}
use Rattle.std.proofs.lemmas.Bool.Decides.{eqb_tells}
use Rattle.std.proofs.lemmas.List.{take_all, length-take-le, get_or-set_same, get_or-set_other}
use Rattle.std.specs.Prelude.{nat_eq, option_map, option_and_then, Box}
use Rattle.std.specs.declared.alloc.Global.{Global}
use Rattle.std.specs.List.{IsDistinct}
use Rattle.std.specs.Map.{lookup, keys_of}
use Rattle.lru.specs.LruCache.{LruCache, lru_cache, promoted, last_entry, put_entries}
use Rattle.lru.proofs.CallerLemmas.{Contains-promoted, Contains-take}
use Rattle.lru.proofs.Splits.{Contains-cons}
use Rattle.page_nodes.specs.declared.offsets.IndexedPage.{IndexedPage}
use Rattle.page_cache.specs.declared.cache.PageCache.{PageCache}
use Rattle.page_cache.specs.Slots.{AreFirst, AreApart, IsSpare, boxed_bytes}
use Rattle.page_cache.proofs.Entries.{Entries, entry_of, lookup-promoted, length-promoted, lookup-take, put_new, last_slot}

-- a page in memory of its own
abbrev pub Kept : Type 0
Kept = Box IndexedPage Global

-- what holds of the pages of each cache of so many slots
pub record IsKept (pages : LruCache ℕ ℕ) (slots : ℕ) : Type 0 where
  pub capacity : 0 < slots → pages.cap ≡ slots
  pub room : length pages.entries ≤ slots
  pub first : AreFirst pages.entries
  pub apart : AreApart pages.entries

pub kept_of : (cache : PageCache) → IsKept cache.pages (length cache.slots.items)
kept_of cache = record { capacity = cache.capacity; room = cache.room; first = cache.first; apart = cache.apart }

slot_inside : (pages : LruCache ℕ ℕ) (slots page slot : ℕ) → IsKept pages slots → lookup (nat_eq page) pages.entries ≡ Some slot → slot < slots
slot_inside pages slots page slot kept is =
    let below = kept.first (page, slot) (entry_of pages.entries page slot is) in
    let room = kept.room in
    omega arith

pub inside_of : (pages : LruCache ℕ ℕ) (slots page : ℕ) → IsKept pages slots → (found : Option ℕ) → lookup (nat_eq page) pages.entries ≡ found → IfSome found (λ slot. slot < slots)
inside_of pages slots page kept None is = tt
inside_of pages slots page kept (Some slot) is = slot_inside pages slots page slot kept is

-- what is the same is no more
pub no_more : {X : Type 0} (new old : Option X) → new ≡ old → IfSome new (λ x. old ≡ Some x)
no_more None old is = tt
no_more (Some x) old is = sym is

pub promoted_kept : (old new : LruCache ℕ ℕ) (page slots : ℕ) → new ≡ lru_cache (promoted (nat_eq page) old.entries) old.cap → IsKept old slots → IsKept new slots
promoted_kept old new page slots is kept = subst (λ (pages : LruCache ℕ ℕ). IsKept pages slots) (sym is) (
    let same = length-promoted page old.entries in
    let room = kept.room in
    record {
      capacity = kept.capacity;
      room = omega arith;
      first = λ entry there. let below = kept.first entry (Contains-promoted (nat_eq page) old.entries entry there) in omega arith;
      apart = λ one other here there. kept.apart one other (Contains-promoted (nat_eq page) old.entries one here) (Contains-promoted (nat_eq page) old.entries other there);
    })

pub promoted_slot : (old new : LruCache ℕ ℕ) (page other : ℕ) → new ≡ lru_cache (promoted (nat_eq page) old.entries) old.cap → lookup (nat_eq other) new.entries ≡ lookup (nat_eq other) old.entries
promoted_slot old new page other is = ap (λ (pages : LruCache ℕ ℕ). lookup (nat_eq other) pages.entries) is ∙ lookup-promoted page other old.entries

-- where not all slots are in use, the next one is spare
pub spare_new : (pages : LruCache ℕ ℕ) (slots used : ℕ) → IsKept pages slots → used ≡ length pages.entries → used < slots → IsSpare (take (pages.cap - 1) pages.entries) slots used
spare_new pages slots used kept is below =
    let cap : pages.cap ≡ slots = kept.capacity (omega arith) in
    let all : take (pages.cap - 1) pages.entries ≡ pages.entries = take_all (pages.cap - 1) pages.entries (omega arith) in
    subst (λ (stay : Entries). IsSpare stay slots used) (sym all) (record {
      room = omega arith;
      first = omega arith;
      others = λ entry there. let inside = kept.first entry there in omega arith;
      apart = λ entry there same. let inside = kept.first entry there in omega arith;
    })

some_entry : (entries : Entries) (last : ℕ × ℕ) → last_entry entries ≡ Some last → 0 < length entries
some_entry [] last is = absurd cc
some_entry (entry ∷ entries) last is = omega arith

-- where all are in use, that of the least recently used page is
pub spare_last : (pages : LruCache ℕ ℕ) (slots : ℕ) (last : ℕ × ℕ) → IsKept pages slots → IsDistinct nat_eq (keys_of pages.entries) → slots ≤ length pages.entries → last_entry pages.entries ≡ Some last
    → IsSpare (take (pages.cap - 1) pages.entries) slots last.1
spare_last pages slots last kept distinct full is =
    let entries = pages.entries in
    let some = some_entry entries last is in
    let room = kept.room in
    let cap : pages.cap ≡ slots = kept.capacity (omega arith) in
    let stay : take (pages.cap - 1) entries ≡ take (length entries - 1) entries = ap (λ (n : ℕ). take n entries) (omega arith) in
    let long : length (take (length entries - 1) entries) ≡ length entries - 1 = length-take-le (length entries - 1) entries (omega arith) in
    let at = last_slot entries last distinct kept.apart is in
    let below = kept.first last at.0 in
    subst (λ (left : Entries). IsSpare left slots last.1) (sym stay) (record {
      room = omega arith;
      first = omega arith;
      others = λ entry there. let inside = kept.first entry (Contains-take (length entries - 1) entries entry there) in omega arith;
      apart = at.1;
    })

module _ (old new : LruCache ℕ ℕ) (page slot : ℕ) (free : lookup (nat_eq page) old.entries ≡ None) where
  -- the pages after one that took a slot
  pub pushed_is : new ≡ lru_cache (put_entries nat_eq old page slot) old.cap → new ≡ lru_cache ((page, slot) ∷ take (old.cap - 1) old.entries) old.cap
  pushed_is is = is ∙ ap (λ (es : Entries). lru_cache es old.cap) (put_new old page slot free)

  pushed_kept : (slots : ℕ) → IsSpare (take (old.cap - 1) old.entries) slots slot → new ≡ lru_cache (put_entries nat_eq old page slot) old.cap → IsKept old slots → IsKept new slots
  pushed_kept slots spare is kept = subst (λ (pages : LruCache ℕ ℕ). IsKept pages slots) (sym (pushed_is is)) (
      let stay : Entries = take (old.cap - 1) old.entries in
      let room = spare.room in
      let low = spare.first in
      record {
        capacity = kept.capacity;
        room = omega arith;
        first = λ entry there. elim (Contains-cons (page, slot) stay entry there) [
          | inl same ↦ let alike : slot ≡ entry.1 = ap (λ (e : ℕ × ℕ). e.1) same in omega arith
          | inr rest ↦ let inside = spare.others entry rest in omega arith
        ];
        apart = λ one other here there alike. elim (Contains-cons (page, slot) stay one here) [
          | inl same ↦ elim (Contains-cons (page, slot) stay other there) [
            | inl too ↦ ap (λ (e : ℕ × ℕ). e.0) (sym same ∙ too)
            | inr rest ↦ absurd (spare.apart other rest (sym (ap (λ (e : ℕ × ℕ). e.1) same ∙ alike)))
          ]
          | inr before ↦ elim (Contains-cons (page, slot) stay other there) [
            | inl too ↦ absurd (spare.apart one before (alike ∙ sym (ap (λ (e : ℕ × ℕ). e.1) too)))
            | inr rest ↦ kept.apart one other (Contains-take (old.cap - 1) old.entries one before) (Contains-take (old.cap - 1) old.entries other rest) alike
          ]
        ];
      })

  pub put_kept : {T E : Type 0} (slots : ℕ) (result : Result T E) → IsSpare (take (old.cap - 1) old.entries) slots slot
      → OnOk result (new ≡ lru_cache (put_entries nat_eq old page slot) old.cap) → OnErr result (new ≡ old) → IsKept old slots → IsKept new slots
  put_kept slots (Ok x) spare is same kept = pushed_kept slots spare is kept
  put_kept slots (Err x) spare is same kept = subst (λ (pages : LruCache ℕ ℕ). IsKept pages slots) (sym same) kept

  pub pushed_here : new ≡ lru_cache (put_entries nat_eq old page slot) old.cap → lookup (nat_eq page) new.entries ≡ Some slot
  pushed_here is = ap (λ (pages : LruCache ℕ ℕ). lookup (nat_eq page) pages.entries) (pushed_is is)
      ∙ elim (eqb_tells page page) [ inl equal ↦ ap (λ b. cond b (Some slot) (lookup (nat_eq page) (take (old.cap - 1) old.entries))) equal.0 | inr differ ↦ absurd (differ.1 refl) ]

  pub pushed_others : new ≡ lru_cache (put_entries nat_eq old page slot) old.cap → (other : ℕ) → other ≢ page
      → IfSome (lookup (nat_eq other) new.entries) (λ found. lookup (nat_eq other) old.entries ≡ Some found)
  pushed_others is other apart = by (lookup (nat_eq other) new.entries) refl
    where
      stayed : lookup (nat_eq other) new.entries ≡ lookup (nat_eq other) (take (old.cap - 1) old.entries)
      stayed = ap (λ (pages : LruCache ℕ ℕ). lookup (nat_eq other) pages.entries) (pushed_is is)
          ∙ ap (λ b. cond b (Some slot) (lookup (nat_eq other) (take (old.cap - 1) old.entries))) (ne_eqb other page apart)

      by : (found : Option ℕ) → lookup (nat_eq other) new.entries ≡ found → IfSome found (λ at. lookup (nat_eq other) old.entries ≡ Some at)
      by None found = tt
      by (Some at) found = lookup-take (nat_eq other) (old.cap - 1) old.entries at (sym stayed ∙ found)

-- new bytes in the slot of a page leave those of each other
pub put_others : (entries : Entries) (page other slot : ℕ) (before : Option ℕ) (items : List (Option Kept)) (bytes : Option Kept)
    → AreApart entries → lookup (nat_eq page) entries ≡ Some slot → other ≢ page
    → IfSome (lookup (nat_eq other) entries) (λ found. before ≡ Some found)
    → IfSome (option_and_then (λ (at : ℕ). option_map boxed_bytes (get_or (set items slot bytes) at None)) (lookup (nat_eq other) entries))
    (λ there. option_and_then (λ (at : ℕ). option_map boxed_bytes (get_or items at None)) before ≡ Some there)
put_others entries page other slot before items bytes apart is differs shrinks = by (lookup (nat_eq other) entries) refl shrinks
  where
    by : (found : Option ℕ) → lookup (nat_eq other) entries ≡ found → IfSome found (λ at. before ≡ Some at)
        → IfSome (option_and_then (λ (at : ℕ). option_map boxed_bytes (get_or (set items slot bytes) at None)) found) (λ there. option_and_then (λ (at : ℕ). option_map boxed_bytes (get_or items at None)) before ≡ Some there)
    by None found was = tt
    by (Some at) found was = no_more _ _
        (ap (option_map boxed_bytes) (get_or-set_other items slot at bytes None (λ same. differs (apart (other, at) (page, slot) (entry_of entries other at found) (entry_of entries page slot is) same)))
        ∙ sym (ap (option_and_then (λ (k : ℕ). option_map boxed_bytes (get_or items k None))) was))

-- the bytes in the slot of a page are those that were put there, if any are
pub put_here : (entries : Entries) (page slot : ℕ) (items : List (Option Kept)) (kept : Option Kept) (bytes : List ℕ)
    → lookup (nat_eq page) entries ≡ Some slot → slot < length items → IfSome kept (λ it. boxed_bytes it ≡ bytes)
    → IfSome (option_and_then (λ (at : ℕ). option_map boxed_bytes (get_or (set items slot kept) at None)) (lookup (nat_eq page) entries)) (λ there. there ≡ bytes)
put_here entries page slot items kept bytes is inside has = rw is (rw (get_or-set_same items slot kept None inside) (by kept has))
  where
    by : (it : Option Kept) → IfSome it (λ it. boxed_bytes it ≡ bytes) → IfSome (option_map boxed_bytes it) (λ there. there ≡ bytes)
    by None has = tt
    by (Some it) has = has

-- a slot gets a page of the same bytes
bytes_stay : (items : List (Option Kept)) (slot : ℕ) (new : Option Kept) → slot < length items → option_map boxed_bytes new ≡ option_map boxed_bytes (get_or items slot None)
    → (at : ℕ) → option_map boxed_bytes (get_or (set items slot new) at None) ≡ option_map boxed_bytes (get_or items at None)
bytes_stay items slot new inside same at = elim (cases_eq at slot) [
  | inl is ↦
      ap (λ (n : ℕ). option_map boxed_bytes (get_or (set items slot new) n None)) is ∙ ap (option_map boxed_bytes) (get_or-set_same items slot new None inside) ∙ same
      ∙ ap (λ (n : ℕ). option_map boxed_bytes (get_or items n None)) (sym is)
  | inr other ↦ ap (option_map boxed_bytes) (get_or-set_other items slot at new None other)
]

pub held_stays : (items : List (Option Kept)) (slot : ℕ) (new : Option Kept) → slot < length items → option_map boxed_bytes new ≡ option_map boxed_bytes (get_or items slot None)
    → (found : Option ℕ) → option_and_then (λ (at : ℕ). option_map boxed_bytes (get_or (set items slot new) at None)) found ≡ option_and_then (λ (at : ℕ). option_map boxed_bytes (get_or items at None)) found
held_stays items slot new inside same None = refl
held_stays items slot new inside same (Some at) = bytes_stay items slot new inside same at
