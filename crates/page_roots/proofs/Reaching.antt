-- The reach of a root is sound exactly where its pages can be claimed one after the other.
use Rattle.std.proofs.Common.{◌≡◌, ◌↔◌, ℕ, zero, suc, ◌+◌, ◌-◌, ◌<◌, ◌≤◌, Bool, true, false, not, ◌&&◌, ◌||◌, eqb, ltb, List, [], ◌∷◌, ◌++◌, length, filter, get_or, replicate, refl, sym, ap, subst, ◌∙◌, arith, inl, inr}
use Rattle.std.specs.List.{list_all, list_any}
use Rattle.std.proofs.lemmas.Bool.{cases_lt, eqb-true, eq-eqb, ltb-true, lt-ltb}
use Rattle.std.proofs.Math.Dec.{eqb-suc-zero}
use Rattle.std.proofs.lemmas.List.{length-append, get_or-replicate, get_or_past, get_or_default, get_or-append-add, length-replicate}
use Rattle.std.proofs.Math.ListN.{get_or-append}
use Rattle.std.proofs.lemmas.Bool.Decides.{same_from_decides}
use Rattle.std.proofs.lemmas.List.Elements.{filter-append}
use Rattle.std.proofs.lemmas.List.Folds.{list_all-append}
use Rattle.std.proofs.lemmas.List.Sums.{AllPass-from_list_all, list_all-from_AllPass}
use Rattle.page_roots.specs.Reach.{InReach, IsSound, reach, are_distinct, is_reached, is_sound}
use Rattle.page_roots.specs.Claims.{CanClaim, IsClaimed}
use Rattle.page_roots.proofs.Claiming.{marked_or_not, within}

-- ---- the pages that can be claimed

-- a page that no device has is never free
inside_of : (pages : ℕ) (page : ℕ) → get_or (replicate pages false) page true ≡ false → page < pages
inside_of pages page free = elim (cases_lt page pages) [
  | inl lt ↦ lt
  | inr past ↦ let clash : false ≡ true = sym free ∙ get_or_past (replicate pages false) page true (omega (arith, length-replicate pages false)) in absurd cc
]

none_behind : (a b : Bool) → (a || b) ≡ false → b ≡ false
none_behind true b is = absurd cc
none_behind false b is = is

-- 0 is none of these numbers
no_zero : (ns : List ℕ) (j : ℕ) → list_any (λ n. eqb n 0) ns ≡ false → j < length ns → 0 < get_or ns j 0
no_zero [] j none lt = absurd (omega arith)
no_zero (zero ∷ ns) j none lt = absurd cc
no_zero (suc n ∷ ns) zero none lt = omega arith
no_zero (suc n ∷ ns) (suc j) none lt = no_zero ns j (none_behind (eqb (suc n) 0) (list_any (λ m. eqb m 0) ns) none) (omega arith)

pub sound_claimed : (pages : ℕ) (maps entries : List ℕ) (now : List Bool) → 0 < get_or entries 0 0 → list_any (λ n. eqb n 0) maps ≡ false
    → CanClaim (replicate pages false) maps → IsClaimed (replicate pages false) maps now → CanClaim now entries → IsSound pages maps entries
sound_claimed pages maps entries now used none can claimed more =
    let entry_inside : (l : ℕ) → 0 < get_or entries l 0 → get_or entries l 0 < pages = λ l some.
    elim (marked_or_not (get_or (replicate pages false) (get_or entries l 0) true)) [
      | inl known ↦ let clash : true ≡ false = sym (claimed.preserved (get_or entries l 0) known) ∙ more.free l some in absurd cc
      | inr free ↦ inside_of pages (get_or entries l 0) free
    ] in
    record {
      first_in_use = used;
      maps_inside = λ j lt. let some = no_zero maps j none lt in (some, inside_of pages (get_or maps j 0) (can.free j some));
      entries_inside = λ l. elim (cases_lt 0 (get_or entries l 0)) [
        | inl some ↦ entry_inside l some
        | inr none ↦ omega (arith, entry_inside 0 used)
      ];
      maps_differ = λ j k j_lt k_lt same. can.differ j k (no_zero maps j none j_lt) same;
      entries_differ = more.differ;
      apart = λ j l lt some same.
          let clash : true ≡ false = sym (claimed.each j (no_zero maps j none lt)) ∙ ap (λ (p : ℕ). get_or now p true) same ∙ more.free l some in
          absurd cc;
    }

zero_first : (b : Bool) (n : ℕ) (ns : List ℕ) → (b ≡ true → n ≡ 0) → (list_any (λ m. eqb m 0) ns ≡ true → (j : ℕ) × (j < length ns) × (get_or ns j 0 ≡ 0))
    → (b || list_any (λ m. eqb m 0) ns) ≡ true → (j : ℕ) × (j < length (n ∷ ns)) × (get_or (n ∷ ns) j 0 ≡ 0)
zero_first true n ns here later is = (0, omega arith, here refl)
zero_first false n ns here later is = let at = later is in (suc at.0, omega (arith, at.1), at.2)

zero_place : (ns : List ℕ) → list_any (λ m. eqb m 0) ns ≡ true → (j : ℕ) × (j < length ns) × (get_or ns j 0 ≡ 0)
zero_place [] is = absurd cc
zero_place (n ∷ ns) is = zero_first (eqb n 0) n ns (eqb-true n 0) (zero_place ns) is

-- what is refused at once
pub unused_unsound : (pages : ℕ) (maps entries : List ℕ) → get_or entries 0 0 ≡ 0 → IsSound pages maps entries → ⊥
unused_unsound pages maps entries none sound = omega (arith, sound.first_in_use)

pub empty_unsound : (pages : ℕ) (maps entries : List ℕ) → length entries ≡ 0 → IsSound pages maps entries → ⊥
empty_unsound pages maps entries none sound = unused_unsound pages maps entries (get_or_past entries 0 0 (omega arith)) sound

pub zero_unsound : (pages : ℕ) (maps entries : List ℕ) → list_any (λ m. eqb m 0) maps ≡ true → IsSound pages maps entries → ⊥
zero_unsound pages maps entries is sound = let at = zero_place maps is in omega (arith, (sound.maps_inside at.0 at.1).0, at.2)

pub maps_can_claim : (pages : ℕ) (maps entries : List ℕ) → IsSound pages maps entries → CanClaim (replicate pages false) maps
maps_can_claim pages maps entries sound = record {
  free = λ l some. get_or-replicate pages (get_or maps l 0) false true (sound.maps_inside l (within maps l some)).1;
  differ = λ l k some same. sound.maps_differ l k (within maps l some) (within maps k (omega arith)) same;
}

pub entries_can_claim : (pages : ℕ) (maps entries : List ℕ) (now : List Bool) → IsSound pages maps entries → IsClaimed (replicate pages false) maps now → CanClaim now entries
entries_can_claim pages maps entries now sound claimed = record {
  free = λ l some. elim (marked_or_not (get_or now (get_or entries l 0) true)) [
    | inl known ↦ elim (claimed.only (get_or entries l 0) known) [
      | inl was ↦ let clash : true ≡ false = sym was ∙ get_or-replicate pages (get_or entries l 0) false true (sound.entries_inside l) in absurd cc
      | inr at ↦ absurd (sound.apart at.0 l (within maps at.0 (omega (arith, at.1, at.2))) some at.1)
    ]
    | inr free ↦ free
  ];
  differ = sound.entries_differ;
}

-- ---- the test over the list of the reach

-- the two parts of a test
both_true : (a b : Bool) → (a && b) ≡ true → (a ≡ true) × (b ≡ true)
both_true true b is = (refl, is)
both_true false b is = absurd cc

and_true : (a b : Bool) → a ≡ true → b ≡ true → (a && b) ≡ true
and_true a b left right = rw (left, right) refl

not_true : (a : Bool) → not a ≡ true → a ≡ true → ⊥
not_true true is met = cc
not_true false is met = cc

true_not : (a : Bool) → (a ≡ true → ⊥) → not a ≡ true
true_not true never = absurd (never refl)
true_not false never = refl

-- a number that stands in a list
abbrev IsNamed : List ℕ → ℕ → Type 0
IsNamed ns n = (i : ℕ) × (i < length ns) × (get_or ns i 0 ≡ n)

found_first : (b : Bool) (n first : ℕ) (ns : List ℕ) → (b ≡ true → n ≡ first) → (list_any (λ other. eqb n other) ns ≡ true → IsNamed ns n)
    → (b || list_any (λ other. eqb n other) ns) ≡ true → IsNamed (first ∷ ns) n
found_first true n first ns here later found = (0, omega arith, sym (here refl))
found_first false n first ns here later found = let at = later found in (suc at.0, omega (arith, at.1), at.2)

any_named : (n : ℕ) (ns : List ℕ) → list_any (λ other. eqb n other) ns ≡ true → IsNamed ns n
any_named n [] is = absurd cc
any_named n (first ∷ ns) is = found_first (eqb n first) n first ns (eqb-true n first) (any_named n ns) is

or_true : (a b : Bool) → b ≡ true → (a || b) ≡ true
or_true true b is = refl
or_true false b is = is

named_any : (n : ℕ) (ns : List ℕ) (i : ℕ) → i < length ns → get_or ns i 0 ≡ n → list_any (λ other. eqb n other) ns ≡ true
named_any n [] i lt is = absurd (omega arith)
named_any n (first ∷ ns) zero lt is = rw (eq-eqb n first (sym is)) refl
named_any n (first ∷ ns) (suc i) lt is = or_true (eqb n first) (list_any (λ other. eqb n other) ns) (named_any n ns i (omega arith) is)

-- the numbers of a list that are not 0
abbrev is_some_page : ℕ → Bool
is_some_page page = not (eqb page 0)

some_kept : (n : ℕ) (ns : List ℕ) → 0 < n → filter is_some_page (n ∷ ns) ≡ n ∷ filter is_some_page ns
some_kept zero ns some = absurd (omega arith)
some_kept (suc n) ns some = rw (eqb-suc-zero n) refl

-- they are those that stand in the whole list
later_or_first : (first : ℕ) (ns : List ℕ) (n : ℕ) → 0 < first → (IsNamed (filter is_some_page ns) n → (0 < n) × IsNamed ns n)
    → IsNamed (first ∷ filter is_some_page ns) n → (0 < n) × IsNamed (first ∷ ns) n
later_or_first first ns n some later (zero, lt, is) = (subst (λ (m : ℕ). 0 < m) is some, (0, omega arith, is))
later_or_first first ns n some later (suc i, lt, is) = let at = later (i, omega (arith, lt), is) in (at.0, (suc at.1.0, omega (arith, at.1.1), at.1.2))

kept_named : (ns : List ℕ) (n : ℕ) → IsNamed (filter is_some_page ns) n → (0 < n) × IsNamed ns n
kept_named [] n at = absurd (omega (arith, at.1))
kept_named (zero ∷ ns) n at = let later = kept_named ns n at in (later.0, (suc later.1.0, omega (arith, later.1.1), later.1.2))
kept_named (suc first ∷ ns) n at = later_or_first (suc first) ns n (omega arith) (kept_named ns n) (rw (some_kept (suc first) ns (omega arith)) at at)

named_kept : (ns : List ℕ) (i : ℕ) → i < length ns → 0 < get_or ns i 0 → IsNamed (filter is_some_page ns) (get_or ns i 0)
named_kept [] i lt some = absurd (omega arith)
named_kept (zero ∷ ns) zero lt some = absurd (omega arith)
named_kept (zero ∷ ns) (suc i) lt some = named_kept ns i (omega arith) some
named_kept (suc first ∷ ns) zero lt some = rw (some_kept (suc first) ns (omega arith)) (0, omega arith, refl)
named_kept (suc first ∷ ns) (suc i) lt some = let later = named_kept ns i (omega arith) some in rw (some_kept (suc first) ns (omega arith)) (suc later.0, omega (arith, later.1), later.2)

-- numbers that are not 0 differ from each other
abbrev pub AreApart : List ℕ → Type 0
AreApart ns = (i k : ℕ) → 0 < get_or ns i 0 → get_or ns i 0 ≡ get_or ns k 0 → i ≡ k

apart_more : (first : ℕ) (ns : List ℕ) → 0 < first → (list_any (λ other. eqb first other) (filter is_some_page ns) ≡ true → ⊥) → AreApart ns → AreApart (first ∷ ns)
apart_more first ns more never apart zero zero some same = refl
apart_more first ns more never apart zero (suc k) some same =
    let at = named_kept ns k (within ns k (omega arith)) (omega arith) in
    absurd (never (named_any first (filter is_some_page ns) at.0 at.1 (at.2 ∙ sym same)))
apart_more first ns more never apart (suc i) zero some same =
    let at = named_kept ns i (within ns i some) some in
    absurd (never (named_any first (filter is_some_page ns) at.0 at.1 (at.2 ∙ same)))
apart_more first ns more never apart (suc i) (suc k) some same = ap suc (apart i k some same)

distinct_apart : (ns : List ℕ) → are_distinct (filter is_some_page ns) ≡ true → AreApart ns
distinct_apart [] is i k some same = absurd (omega arith)
distinct_apart (zero ∷ ns) is zero k some same = absurd (omega arith)
distinct_apart (zero ∷ ns) is (suc i) zero some same = absurd (omega arith)
distinct_apart (zero ∷ ns) is (suc i) (suc k) some same = ap suc (distinct_apart ns is i k some same)
distinct_apart (suc n ∷ ns) is i k some same =
    let parts = both_true (not (list_any (λ other. eqb (suc n) other) (filter is_some_page ns))) (are_distinct (filter is_some_page ns)) (rw (some_kept (suc n) ns (omega arith)) at is) in
    apart_more (suc n) ns (omega arith) (not_true _ parts.0) (distinct_apart ns parts.1) i k some same

apart_behind : (first : ℕ) (ns : List ℕ) → AreApart (first ∷ ns) → AreApart ns
apart_behind first ns apart i k some same = let next = apart (suc i) (suc k) some same in omega arith

apart_distinct : (ns : List ℕ) → AreApart ns → are_distinct (filter is_some_page ns) ≡ true
apart_distinct [] apart = refl
apart_distinct (zero ∷ ns) apart = apart_distinct ns (apart_behind 0 ns apart)
apart_distinct (suc n ∷ ns) apart =
    let never : list_any (λ other. eqb (suc n) other) (filter is_some_page ns) ≡ true → ⊥ = λ found.
    let at = kept_named ns (suc n) (any_named (suc n) (filter is_some_page ns) found) in
    let same = apart 0 (suc at.1.0) (omega arith) (sym at.1.2) in
    omega arith in
    rw (some_kept (suc n) ns (omega arith)) (and_true _ _ (true_not _ never) (apart_distinct ns (apart_behind (suc n) ns apart)))

-- where no map page is 0, the reach is what is not 0 of both lists
all_kept : (ns : List ℕ) → ((j : ℕ) → j < length ns → 0 < get_or ns j 0) → filter is_some_page ns ≡ ns
all_kept [] some = refl
all_kept (n ∷ ns) some = some_kept n ns (some 0 (omega arith)) ∙ ap (λ (rest : List ℕ). n ∷ rest) (all_kept ns (λ j lt. some (suc j) (omega arith)))

reach_is : (maps entries : List ℕ) → ((j : ℕ) → j < length maps → 0 < get_or maps j 0) → reach maps entries ≡ filter is_some_page (maps ++ entries)
reach_is maps entries some = ap (λ (front : List ℕ). front ++ filter is_some_page entries) (sym (all_kept maps some)) ∙ sym (filter-append is_some_page maps entries)

-- the test of one page
abbrev is_inside : ℕ → ℕ → Bool
is_inside pages page = ltb 0 page && ltb page pages

inside_where : (pages page : ℕ) → is_inside pages page ≡ true → (1 ≤ page) × (page < pages)
inside_where pages page is = let parts = both_true (ltb 0 page) (ltb page pages) is in (ltb-true 0 page parts.0, ltb-true page pages parts.1)

where_inside : (pages page : ℕ) → 0 < page → page < pages → is_inside pages page ≡ true
where_inside pages page some lt = and_true (ltb 0 page) (ltb page pages) (lt-ltb 0 page some) (lt-ltb page pages lt)

test_sound : (pages : ℕ) (maps entries : List ℕ) → is_sound pages maps entries ≡ true → IsSound pages maps entries
test_sound pages maps entries is =
    let used = both_true (ltb 0 (get_or entries 0 0)) (list_all (is_inside pages) (reach maps entries) && are_distinct (reach maps entries)) is in
    let parts = both_true (list_all (is_inside pages) (reach maps entries)) (are_distinct (reach maps entries)) used.1 in
    let insides = both_true (list_all (is_inside pages) maps) (list_all (is_inside pages) (filter is_some_page entries)) (sym (list_all-append (is_inside pages) maps (filter is_some_page entries)) ∙ parts.0) in
    let maps_pass = AllPass-from_list_all (is_inside pages) maps insides.0 in
    let entries_pass = AllPass-from_list_all (is_inside pages) (filter is_some_page entries) insides.1 in
    let maps_inside : (j : ℕ) → j < length maps → (1 ≤ get_or maps j 0) × (get_or maps j 0 < pages) = λ j lt. inside_where pages (get_or maps j 0) (maps_pass j 0 lt) in
    let first_used : 0 < get_or entries 0 0 = ltb-true 0 (get_or entries 0 0) used.0 in
    let entry_inside : (l : ℕ) → 0 < get_or entries l 0 → get_or entries l 0 < pages = λ l some.
    let at = named_kept entries l (within entries l some) some in
    (inside_where pages (get_or entries l 0) (ap (is_inside pages) (sym at.2) ∙ entries_pass at.0 0 at.1)).1 in
    let apart = distinct_apart (maps ++ entries) (ap are_distinct (sym (reach_is maps entries (λ j lt. (maps_inside j lt).0))) ∙ parts.1) in
    let at_map : (j : ℕ) → j < length maps → get_or (maps ++ entries) j 0 ≡ get_or maps j 0 = λ j lt. get_or-append maps entries 0 j lt in
    let at_entry : (l : ℕ) → get_or (maps ++ entries) (length maps + l) 0 ≡ get_or entries l 0 = λ l. get_or-append-add maps entries l 0 in
    record {
      first_in_use = first_used;
      maps_inside = maps_inside;
      entries_inside = λ l. elim (cases_lt 0 (get_or entries l 0)) [
        | inl some ↦ entry_inside l some
        | inr none ↦ omega (arith, entry_inside 0 first_used)
      ];
      maps_differ = λ j k j_lt k_lt same. apart j k (omega (arith, at_map j j_lt, maps_inside j j_lt)) (at_map j j_lt ∙ same ∙ sym (at_map k k_lt));
      entries_differ = λ l k some same. let both = apart (length maps + l) (length maps + k) (omega (arith, at_entry l)) (at_entry l ∙ same ∙ sym (at_entry k)) in omega arith;
      apart = λ j l lt some same. let both = apart j (length maps + l) (omega (arith, at_map j lt, maps_inside j lt)) (at_map j lt ∙ same ∙ sym (at_entry l)) in omega arith;
    }

sound_test : (pages : ℕ) (maps entries : List ℕ) → IsSound pages maps entries → is_sound pages maps entries ≡ true
sound_test pages maps entries sound =
    let at_map : (j : ℕ) → j < length maps → get_or (maps ++ entries) j 0 ≡ get_or maps j 0 = λ j lt. get_or-append maps entries 0 j lt in
    let at_entry : (i : ℕ) → length maps ≤ i → get_or (maps ++ entries) i 0 ≡ get_or entries (i - length maps) 0 = λ i past.
    ap (λ (n : ℕ). get_or (maps ++ entries) n 0) (let e : i ≡ length maps + (i - length maps) = omega arith in e) ∙ get_or-append-add maps entries (i - length maps) 0 in
    let apart : AreApart (maps ++ entries) = λ i k some same.
    elim (cases_lt i (length maps)) [
      | inl i_lt ↦ elim (cases_lt k (length maps)) [
        | inl k_lt ↦ sound.maps_differ i k i_lt k_lt (sym (at_map i i_lt) ∙ same ∙ at_map k k_lt)
        | inr k_past ↦ absurd (sound.apart i (k - length maps) i_lt (omega (arith, at_entry k k_past)) (sym (at_map i i_lt) ∙ same ∙ at_entry k k_past))
      ]
      | inr i_past ↦ elim (cases_lt k (length maps)) [
        | inl k_lt ↦ absurd (sound.apart k (i - length maps) k_lt (omega (arith, at_entry i i_past)) (sym (at_map k k_lt) ∙ sym same ∙ at_entry i i_past))
        | inr k_past ↦
            let equal = sound.entries_differ (i - length maps) (k - length maps) (omega (arith, at_entry i i_past)) (sym (at_entry i i_past) ∙ same ∙ at_entry k k_past) in
            omega arith
      ]
    ] in
    let maps_pass : list_all (is_inside pages) maps ≡ true = list_all-from_AllPass (is_inside pages) maps (λ k d lt.
    ap (is_inside pages) (get_or_default maps k d 0 lt) ∙ where_inside pages (get_or maps k 0) (sound.maps_inside k lt).0 (sound.maps_inside k lt).1) in
    let entries_pass : list_all (is_inside pages) (filter is_some_page entries) ≡ true = list_all-from_AllPass (is_inside pages) (filter is_some_page entries) (λ k d lt.
    let at = kept_named entries (get_or (filter is_some_page entries) k 0) (k, lt, refl) in
    ap (is_inside pages) (get_or_default (filter is_some_page entries) k d 0 lt) ∙ where_inside pages (get_or (filter is_some_page entries) k 0) at.0 (omega (arith, at.1.2, sound.entries_inside at.1.0))) in
    and_true _ _ (lt-ltb 0 (get_or entries 0 0) sound.first_in_use)
    (and_true _ _ (list_all-append (is_inside pages) maps (filter is_some_page entries) ∙ and_true _ _ maps_pass entries_pass)
    (ap are_distinct (reach_is maps entries (λ j lt. (sound.maps_inside j lt).0)) ∙ apart_distinct (maps ++ entries) apart))

-- both tests are one
pub same_test : (pages : ℕ) (maps entries : List ℕ) (sound : Bool) → (sound ≡ true → IsSound pages maps entries) → (IsSound pages maps entries → sound ≡ true)
    → sound ≡ is_sound pages maps entries
same_test pages maps entries sound only met = same_from_decides sound (is_sound pages maps entries) (only, met) (test_sound pages maps entries, sound_test pages maps entries)

-- a page of the reach is a map page, or one that an entry names
reached_only : (maps entries : List ℕ) (page : ℕ) → is_reached maps entries page ≡ true → InReach maps entries page
reached_only maps entries page is =
    let at = any_named page (reach maps entries) is in
    elim (cases_lt at.0 (length maps)) [
      | inl lt ↦ inl (at.0, lt, get_or_default maps at.0 page 0 lt ∙ sym (get_or-append maps (filter is_some_page entries) 0 at.0 lt) ∙ at.2)
      | inr past ↦
          let place : at.0 ≡ length maps + (at.0 - length maps) = omega arith in
          let behind : get_or (filter is_some_page entries) (at.0 - length maps) 0 ≡ page =
          sym (get_or-append-add maps (filter is_some_page entries) (at.0 - length maps) 0) ∙ ap (λ (n : ℕ). get_or (reach maps entries) n 0) (sym place) ∙ at.2 in
          let named = kept_named entries page (at.0 - length maps, omega (arith, at.1, length-append maps (filter is_some_page entries)), behind) in
          inr (named.1.0, named.1.2, named.0)
    ]

in_reach_found : (maps entries : List ℕ) (page : ℕ) → InReach maps entries page → is_reached maps entries page ≡ true
in_reach_found maps entries page (inl at) =
    named_any page (reach maps entries) at.0 (omega (arith, at.1, length-append maps (filter is_some_page entries)))
    (get_or-append maps (filter is_some_page entries) 0 at.0 at.1 ∙ get_or_default maps at.0 0 page at.1 ∙ at.2)
in_reach_found maps entries page (inr at) =
    let named = named_kept entries at.0 (within entries at.0 (omega (arith, at.1, at.2))) (omega (arith, at.1, at.2)) in
    named_any page (reach maps entries) (length maps + named.0) (omega (arith, named.1, length-append maps (filter is_some_page entries)))
    (get_or-append-add maps (filter is_some_page entries) named.0 0 ∙ named.2 ∙ at.1)

pub reached_where : (maps entries : List ℕ) (page : ℕ) → (is_reached maps entries page ≡ true) ↔ InReach maps entries page
reached_where maps entries page = (reached_only maps entries page, in_reach_found maps entries page)
