-- The index of a dirty page in memory.
use Rattle.std.proofs.Common.{◌≡◌, ◌≢◌, ◌<◌, ◌+◌, ℕ, suc, Bool, true, false, cond, not, nat_lt, List, [], ◌∷◌, Option, Some, None, IsSome, IfNone, is_some, length, slice_get, position, refl, sym, ap, ◌∙◌, arith}
use Rattle.std.proofs.lemmas.Bool.{eqb-true}
use Rattle.std.proofs.lemmas.Option.{slice_get_within}
use Rattle.std.specs.Prelude.{nat_eq}
use Rattle.std.specs.List.{position_or_len}
use Rattle.std.specs.Map.{lookup, keys_of}
use Rattle.indexmap.specs.IndexMap.{insert_entry}
use Rattle.cow_pages.specs.DirtyPages.{held_in}

-- the entries of the dirty pages
abbrev pub Entries : Type 0
Entries = List (ℕ × Bool)

-- the index of a page among them
abbrev pub index_in : Entries → ℕ → ℕ
index_in entries page = position_or_len (nat_eq page) (keys_of entries)

-- where a page is dirty, its entry says so
pub entry_dirty : (entry : Option Bool) (bytes : List ℕ) → IsSome (held_in entry bytes) → entry ≡ Some true
entry_dirty None bytes some = absurd cc
entry_dirty (Some true) bytes some = refl
entry_dirty (Some false) bytes some = absurd cc

-- the bytes matter only where the page has an entry
pub held_same : (now entry : Option Bool) (one two : List ℕ) → now ≡ entry → ((waits : Bool) → entry ≡ Some waits → one ≡ two) → held_in now one ≡ held_in entry two
held_same now entry one two is same = ap (λ (e : Option Bool). held_in e one) is ∙ by entry same
  where
    by : (e : Option Bool) → ((waits : Bool) → e ≡ Some waits → one ≡ two) → held_in e one ≡ held_in e two
    by None same = refl
    by (Some waits) same = ap (held_in (Some waits)) (same waits refl)

-- where a search finds nothing, what is so without it
pub if_none : {T : Type 0} (found : Option T) (P : Type 0) → P → IfNone found P
if_none None P is = is
if_none (Some x) P is = tt

one_more : (n : ℕ) → 1 + n ≡ suc n
one_more n = omega arith

-- the entry at the page's index
with_page : ℕ → Option Bool → Option (ℕ × Bool)
with_page page None = None
with_page page (Some waits) = Some (page, waits)

pub entry_there : (entries : Entries) (page : ℕ) (waits : Bool) → lookup (nat_eq page) entries ≡ Some waits → slice_get entries (index_in entries page) ≡ Some (page, waits)
unfolding with_page
entry_there [] page waits is = absurd cc
entry_there (entry ∷ entries) page waits is = by (nat_eq page entry.0) refl (entry_there entries page waits) is
  where
    by : (here : Bool) → nat_eq page entry.0 ≡ here → (lookup (nat_eq page) entries ≡ Some waits → slice_get entries (index_in entries page) ≡ Some (page, waits))
        → cond here (Some entry.1) (lookup (nat_eq page) entries) ≡ Some waits → slice_get (entry ∷ entries) (cond (not here) (1 + index_in entries page) 0) ≡ Some (page, waits)
    by true here after is = ap (λ (p : ℕ). Some (p, entry.1)) (sym (eqb-true page entry.0 here)) ∙ ap (with_page page) is
    by false here after is = ap (slice_get (entry ∷ entries)) (one_more (index_in entries page)) ∙ after is

pub index_inside : (entries : Entries) (page : ℕ) (waits : Bool) → lookup (nat_eq page) entries ≡ Some waits → index_in entries page < length entries
index_inside entries page waits is = slice_get_within entries (index_in entries page) (page, waits) (entry_there entries page waits is)

-- the index that a search finds
found_in : Option ℕ → ℕ
found_in None = 0
found_in (Some index) = index

pub found_index : (entries : Entries) (page index : ℕ) → Some index ≡ position (nat_eq page) (keys_of entries) → index ≡ index_in entries page
unfolding found_in
found_index entries page index is = by (nat_lt (index_in entries page) (length (keys_of entries))) is
  where
    by : (inside : Bool) → Some index ≡ cond inside (Some (index_in entries page)) None → index ≡ index_in entries page
    by true is = ap found_in is
    by false is = absurd cc

-- two pages have two indexes
page_of : Option (ℕ × Bool) → ℕ
page_of None = 0
page_of (Some entry) = entry.0

pub one_page : (entries : Entries) (index page : ℕ) (waits : Bool) → slice_get entries index ≡ Some (page, waits)
    → (other : ℕ) (also : Bool) → lookup (nat_eq other) entries ≡ Some also → index_in entries other ≡ index → other ≡ page
unfolding page_of
one_page entries index page waits there other also is same =
    sym (ap page_of (entry_there entries other also is)) ∙ ap (λ (p : ℕ). page_of (slice_get entries p)) same ∙ ap page_of there

pub none_there : (entries : Entries) (index : ℕ) → slice_get entries index ≡ None → (page : ℕ) (waits : Bool) → lookup (nat_eq page) entries ≡ Some waits
    → index_in entries page ≢ index
none_there entries index none page waits is same =
    let e : true ≡ false = ap is_some (sym (entry_there entries page waits is) ∙ ap (slice_get entries) same ∙ none) in
    absurd cc

pub indexes_apart : (entries : Entries) (page other : ℕ) (waits also : Bool) → lookup (nat_eq page) entries ≡ Some waits → lookup (nat_eq other) entries ≡ Some also
    → other ≢ page → index_in entries other ≢ index_in entries page
indexes_apart entries page other waits also is too apart same = apart (one_page entries (index_in entries page) page waits (entry_there entries page waits is) other also too same)

-- one entry more leaves the indexes of the others
pub index_preserved : (entries : Entries) (page other : ℕ) (waits : Bool) → IsSome (lookup (nat_eq other) entries) → index_in (insert_entry nat_eq entries page waits) other ≡ index_in entries other
index_preserved [] page other waits some = absurd cc
index_preserved (entry ∷ entries) page other waits some = by (nat_eq page entry.0) (after (nat_eq other entry.0) (index_preserved entries page other waits) some)
  where
    inserted : Entries
    inserted = insert_entry nat_eq entries page waits

    after : (there : Bool) → (IsSome (lookup (nat_eq other) entries) → index_in inserted other ≡ index_in entries other)
        → IsSome (cond there (Some entry.1) (lookup (nat_eq other) entries)) → cond (not there) (1 + index_in inserted other) 0 ≡ cond (not there) (1 + index_in entries other) 0
    after true preserved some = refl
    after false preserved some = ap (λ (n : ℕ). 1 + n) (preserved some)

    by : (here : Bool) → index_in (entry ∷ inserted) other ≡ index_in (entry ∷ entries) other
        → index_in (cond here ((entry.0, waits) ∷ entries) (entry ∷ inserted)) other ≡ index_in (entry ∷ entries) other
    by true preserved = refl
    by false preserved = preserved
