-- The maps, as pages are taken and given back.
use Rattle.std.proofs.Common.{◌≡◌, ◌≢◌, ◌⊎◌, ℕ, zero, suc, ◌<◌, ◌≤◌, Bool, true, false, List, [], length, replicate, get_or, refl, sym, ap, subst, ◌∙◌, arith, inl, inr}
use Rattle.std.proofs.Math.ListN.{set, length-set}
use Rattle.std.proofs.lemmas.Bool.{cases_eq, cases_lt}
use Rattle.std.proofs.lemmas.List.{get_or-set_same, get_or-set_other, get_or_past, get_or_default}
use Rattle.page_roots.specs.Reach.{IsSound, InReach, IsPage, is_reached}
use Rattle.page_allocator.specs.TakenPages.{TakenPages, IsTaken, IsFree, AreReached}
use Rattle.cow_pages.specs.PageMap.{IsConsistent, IsOwn, IsUsedUp, IsIdle}
use Rattle.cow_pages.proofs.Taken.{reached_so, reach_taken, working_taken, taken_only}
use Rattle.cow_pages.proofs.Loading.{reach_inside}

pub zero_there : (n l : ℕ) → get_or (replicate n zero) l zero ≡ zero
zero_there zero l = refl
zero_there (suc n) zero = refl
zero_there (suc n) (suc l) = zero_there n l

-- where nothing is reserved, the pages after page 0 that the working root reaches are those that its map names
pub named_only : (reserved working : List ℕ) (page : ℕ) → IsIdle reserved → 1 ≤ page → InReach reserved working page → IsPage working page
named_only reserved working page idle some (inl at) = absurd (omega (arith, idle at.0, contained reserved page at.0 at.1 at.2))
  where
    contained : (reserved : List ℕ) (page : ℕ) (k : ℕ) → k < length reserved → get_or reserved k page ≡ page → get_or reserved k 0 ≡ page
    contained reserved page k lt is = get_or_default reserved k 0 page lt ∙ is
named_only reserved working page idle some (inr at) = at

-- where the durable map is the working one
pub consistent_first : (pages : ℕ) (maps entries reserved : List ℕ) (marks : TakenPages) → 64 ≤ pages → pages ≤ 65536 → length entries ≡ 65536 → IsSound pages maps entries
    → IsIdle reserved → length reserved ≡ 64 → length marks ≡ pages → AreReached marks (is_reached maps entries) (is_reached [] entries) → IsConsistent pages maps entries reserved entries marks
consistent_first pages maps entries reserved marks least most count sound idle reserved_count marks_count taken = record {
  least = least;
  most = most;
  durable_count = count;
  working_count = count;
  reserved_count = reserved_count;
  sound = sound;
  inside = sound.entries_inside;
  differ = sound.entries_differ;
  fresh = λ l some other. absurd (other refl);
  reserved_inside = λ j. omega (arith, least, idle j);
  reserved_differ = λ j k some. absurd (omega (arith, some, idle j));
  reserved_apart = λ j some. absurd (omega (arith, some, idle j));
  reserved_unnamed = λ j l some. absurd (omega (arith, some, idle j));
  marks_count = marks_count;
  taken = reached_so marks maps entries reserved entries
      (λ page some inside at. reach_taken marks maps entries [] entries taken page some inside at)
      (λ page some inside at. working_taken marks maps entries [] entries taken page some inside (inr (named_only reserved entries page idle some at)))
      (λ page some inside is. elim (taken_only marks maps entries [] entries taken page some inside is) [
        | inl at ↦ inl at
        | inr at ↦ elim at [
          | inl none ↦ absurd (omega (arith, none.1))
          | inr named ↦ inr (inr named)
        ]
      ]);
}

-- marks with one changed
pub marked_same : (marks : TakenPages) (page : ℕ) (mark : Bool) → page < length marks → get_or (set marks page mark) page false ≡ mark
marked_same marks page mark inside = get_or-set_same marks page mark false inside

pub marked_other : (marks : TakenPages) (page other : ℕ) (mark : Bool) → other ≢ page → get_or (set marks page mark) other false ≡ get_or marks other false
marked_other marks page other mark apart = get_or-set_other marks page other mark false apart

-- a page that is free is not taken
pub not_both : (marks : TakenPages) (page : ℕ) → page < length marks → IsFree marks page → IsTaken marks page → ⊥
not_both marks page inside free is = let e : false ≡ true = sym free ∙ get_or_default marks page true false inside ∙ is in cc

-- the same list as default
contained : (reserved : List ℕ) (page : ℕ) (k : ℕ) → k < length reserved → get_or reserved k page ≡ page → get_or reserved k 0 ≡ page
contained reserved page k lt is = get_or_default reserved k 0 page lt ∙ is

module _ (pages : ℕ) (maps durable reserved working : List ℕ) (marks : TakenPages) (old : IsConsistent pages maps durable reserved working marks) where
  mark_inside : (page : ℕ) → page < pages → page < length marks
  mark_inside page lt = omega (arith, lt, old.marks_count)

  pub in_reach_taken : (page : ℕ) → InReach maps durable page → IsTaken marks page
  in_reach_taken page at = let inside = reach_inside pages maps durable old.sound page at in
      reach_taken marks maps durable reserved working old.taken page inside.0 (mark_inside page inside.1) at

  pub in_working_taken : (page : ℕ) → 1 ≤ page → page < pages → InReach reserved working page → IsTaken marks page
  in_working_taken page some lt at = working_taken marks maps durable reserved working old.taken page some (mark_inside page lt) at

  pub in_either : (page : ℕ) → 1 ≤ page → page < pages → IsTaken marks page → InReach maps durable page ⊎ InReach reserved working page
  in_either page some lt is = taken_only marks maps durable reserved working old.taken page some (mark_inside page lt) is

  -- where no page is free, each is used
  pub used_up : ((page : ℕ) → 1 ≤ page → page < length marks → IsTaken marks page) → IsUsedUp pages maps durable reserved working
  used_up full page some lt = in_either page some lt (full page some (mark_inside page lt))

  -- a durable entry is in reach
  durable_reach : (l : ℕ) → 0 < get_or durable l 0 → InReach maps durable (get_or durable l 0)
  durable_reach l some = inr (l, refl, some)

  -- the page of a logical page that has no page of its own, or none at all, is in the durable reach
  shared_reach : (l page : ℕ) → (get_or working l 0 ≡ 0) ⊎ (get_or working l 0 ≡ get_or durable l 0) → get_or working l 0 ≡ page → 0 < page → InReach maps durable page
  shared_reach l page (inl none) is some = absurd (omega (arith, none, is, some))
  shared_reach l page (inr same) is some = inr (l, sym same ∙ is, some)

  module _ (l : ℕ) (within : l < 65536) where
    in_list : l < length working
    in_list = omega (arith, within, old.working_count)

    here : (page : ℕ) → get_or (set working l page) l 0 ≡ page
    here page = get_or-set_same working l page 0 in_list

    there : (page k : ℕ) → k ≢ l → get_or (set working l page) k 0 ≡ get_or working k 0
    there page k other = get_or-set_other working l k page 0 other

    at_here : (page k : ℕ) → k ≡ l → get_or (set working l page) k 0 ≡ page
    at_here page k is = ap (λ (n : ℕ). get_or (set working l page) n 0) is ∙ here page

    -- a free page for a logical page that has none of its own
    module _ (page : ℕ) (some : 1 ≤ page) (lt : page < pages) (free : IsFree marks page) (shared : (get_or working l 0 ≡ 0) ⊎ (get_or working l 0 ≡ get_or durable l 0)) where
      not_reached : InReach maps durable page → ⊥
      not_reached at = not_both marks page (mark_inside page lt) free (in_reach_taken page at)

      not_worked : InReach reserved working page → ⊥
      not_worked at = not_both marks page (mark_inside page lt) free (in_working_taken page some lt at)

      pub taken_own : IsOwn pages maps durable working l page
      taken_own = record { some = some; inside = lt; apart = not_reached; unshared = λ k other same. not_worked (inr (k, same, some)) }

      preserved : (p : ℕ) → p < pages → IsTaken marks p → IsTaken (set marks page true) p
      preserved p inside is = elim (cases_eq p page) [
        | inl same ↦ ap (λ (n : ℕ). get_or (set marks page true) n false) same ∙ marked_same marks page true (mark_inside page lt)
        | inr apart ↦ marked_other marks page p true apart ∙ is
      ]

      pub consistent_taken : IsConsistent pages maps durable reserved (set working l page) (set marks page true)
      consistent_taken = record {
        least = old.least;
        most = old.most;
        durable_count = old.durable_count;
        working_count = length-set working l page ∙ old.working_count;
        reserved_count = old.reserved_count;
        sound = old.sound;
        inside = λ k. elim (cases_eq k l) [
          | inl is ↦ omega (arith, at_here page k is, lt)
          | inr other ↦ omega (arith, there page k other, old.inside k)
        ];
        differ = λ a b positive same. elim (cases_eq a l) [
          | inl a_is ↦ elim (cases_eq b l) [
            | inl b_is ↦ a_is ∙ sym b_is
            | inr b_other ↦ absurd (not_worked (inr (b, sym (there page b b_other) ∙ sym same ∙ at_here page a a_is, some)))
          ]
          | inr a_other ↦ elim (cases_eq b l) [
            | inl b_is ↦ absurd (not_worked (inr (a, sym (there page a a_other) ∙ same ∙ at_here page b b_is, some)))
            | inr b_other ↦ old.differ a b (omega (arith, positive, there page a a_other)) (sym (there page a a_other) ∙ same ∙ there page b b_other)
          ]
        ];
        fresh = λ k positive other reach. elim (cases_eq k l) [
          | inl is ↦ not_reached (subst (λ (p : ℕ). InReach maps durable p) (at_here page k is) reach)
          | inr apart ↦ old.fresh k (omega (arith, positive, there page k apart)) (λ same. other (there page k apart ∙ same)) (subst (λ (p : ℕ). InReach maps durable p) (there page k apart) reach)
        ];
        reserved_inside = old.reserved_inside;
        reserved_differ = old.reserved_differ;
        reserved_apart = old.reserved_apart;
        reserved_unnamed = λ j k positive same. elim (cases_eq k l) [
          | inl is ↦ not_worked (inl (j, in_reserved j positive, get_or_default reserved j page 0 (in_reserved j positive) ∙ sym same ∙ at_here page k is))
          | inr apart ↦ old.reserved_unnamed j k positive (sym (there page k apart) ∙ same)
        ];
        marks_count = length-set marks page true ∙ old.marks_count;
        taken = reached_so (set marks page true) maps durable reserved (set working l page)
            (λ p one inside at. preserved p (in_pages p inside) (in_reach_taken p at))
            (λ p one inside at. elim at [
              | inl reserve ↦ preserved p (in_pages p inside) (in_working_taken p one (in_pages p inside) (inl reserve))
              | inr named ↦ elim (cases_eq named.0 l) [
                | inl is ↦ ap (λ (n : ℕ). get_or (set marks page true) n false) (sym named.1 ∙ at_here page named.0 is) ∙ marked_same marks page true (mark_inside page lt)
                | inr apart ↦ preserved p (in_pages p inside) (in_working_taken p one (in_pages p inside) (inr (named.0, sym (there page named.0 apart) ∙ named.1, named.2)))
              ]
            ])
            (λ p one inside is. elim (cases_eq p page) [
              | inl same ↦ inr (inr (l, here page ∙ sym same, omega (arith, one)))
              | inr apart ↦ elim (in_either p one (in_pages p inside) (sym (marked_other marks page p true apart) ∙ is)) [
                | inl reach ↦ inl reach
                | inr work ↦ elim work [
                  | inl reserve ↦ inr (inl reserve)
                  | inr named ↦ elim (cases_eq named.0 l) [
                    | inl at ↦ inl (shared_reach l p shared (ap (λ (n : ℕ). get_or working n 0) (sym at) ∙ named.1) named.2)
                    | inr other ↦ inr (inr (named.0, there page named.0 other ∙ named.1, named.2))
                  ]
                ]
              ]
            ]);
      }
        where
          in_pages : (p : ℕ) → p < length (set marks page true) → p < pages
          in_pages p inside = omega (arith, inside, length-set marks page true, old.marks_count)

          in_reserved : (j : ℕ) → 0 < get_or reserved j 0 → j < length reserved
          in_reserved j positive = elim (cases_lt j (length reserved)) [
            | inl below ↦ below
            | inr past ↦ absurd (omega (arith, positive, get_or_past reserved j 0 past))
          ]

    -- a logical page with a page of its own is written there
    pub fresh_own : 0 < get_or working l 0 → get_or working l 0 ≢ get_or durable l 0 → IsOwn pages maps durable working l (get_or working l 0)
    fresh_own positive apart = record {
      some = omega (arith, positive);
      inside = old.inside l;
      apart = old.fresh l positive apart;
      unshared = λ k other same. other (old.differ k l (omega (arith, positive, same)) same);
    }

    -- no page for a logical page: an entry of the new map is one of the old, at another index
    remains : (k page : ℕ) → get_or (set working l 0) k 0 ≡ page → 0 < page → (k ≢ l) × (get_or working k 0 ≡ page)
    remains k page is some = elim (cases_eq k l) [
      | inl at ↦ absurd (omega (arith, at_here 0 k at, is, some))
      | inr other ↦ (other, sym (there 0 k other) ∙ is)
    ]

    module _ (new_marks : TakenPages) (count : length new_marks ≡ length marks)
        (reach : (page : ℕ) → InReach maps durable page → IsTaken new_marks page)
        (reserve : (j : ℕ) → 0 < get_or reserved j 0 → IsTaken new_marks (get_or reserved j 0))
        (named : (k : ℕ) → k ≢ l → 0 < get_or working k 0 → IsTaken new_marks (get_or working k 0))
        (only : (page : ℕ) → 1 ≤ page → page < pages → IsTaken new_marks page → IsTaken marks page × (page ≡ get_or working l 0 → InReach maps durable page)) where
      without : IsConsistent pages maps durable reserved (set working l 0) new_marks
      without = record {
        least = old.least;
        most = old.most;
        durable_count = old.durable_count;
        working_count = length-set working l 0 ∙ old.working_count;
        reserved_count = old.reserved_count;
        sound = old.sound;
        inside = λ k. elim (cases_eq k l) [
          | inl is ↦ omega (arith, at_here 0 k is, old.least)
          | inr other ↦ omega (arith, there 0 k other, old.inside k)
        ];
        differ = λ a b positive same.
            let one = remains a (get_or (set working l 0) a 0) refl positive in
            let two = remains b (get_or (set working l 0) a 0) (sym same) positive in
            old.differ a b (omega (arith, one.1, positive)) (one.1 ∙ sym two.1);
        fresh = λ k positive other at.
            let one = remains k (get_or (set working l 0) k 0) refl positive in
            old.fresh k (omega (arith, one.1, positive)) (λ same. other (sym one.1 ∙ same)) (subst (λ (p : ℕ). InReach maps durable p) (sym one.1) at);
        reserved_inside = old.reserved_inside;
        reserved_differ = old.reserved_differ;
        reserved_apart = old.reserved_apart;
        reserved_unnamed = λ j k positive same.
            let one = remains k (get_or reserved j 0) same positive in
            old.reserved_unnamed j k positive one.1;
        marks_count = count ∙ old.marks_count;
        taken = reached_so new_marks maps durable reserved (set working l 0)
            (λ p one inside at. reach p at)
            (λ p one inside at. elim at [
              | inl preserved ↦
                  let is : get_or reserved preserved.0 0 ≡ p = get_or_default reserved preserved.0 0 p preserved.1 ∙ preserved.2 in
                  subst (λ (n : ℕ). IsTaken new_marks n) is (reserve preserved.0 (omega (arith, is, one)))
              | inr preserved ↦
                  let left = remains preserved.0 p preserved.1 preserved.2 in
                  subst (λ (n : ℕ). IsTaken new_marks n) left.1 (named preserved.0 left.0 (omega (arith, left.1, one)))
            ])
            (λ p one inside is.
            let was = only p one (omega (arith, inside, count, old.marks_count)) is in
            elim (in_either p one (omega (arith, inside, count, old.marks_count)) was.0) [
              | inl at ↦ inl at
              | inr work ↦ elim work [
                | inl preserved ↦ inr (inl preserved)
                | inr preserved ↦ elim (cases_eq preserved.0 l) [
                  | inl at ↦ inl (was.1 (sym preserved.1 ∙ ap (λ (n : ℕ). get_or working n 0) at))
                  | inr other ↦ inr (inr (preserved.0, there 0 preserved.0 other ∙ preserved.1, preserved.2))
                ]
              ]
            ]);
      }

    -- where it had none of its own, no page is given back
    pub consistent_left : (get_or working l 0 ≡ 0) ⊎ (get_or working l 0 ≡ get_or durable l 0) → IsConsistent pages maps durable reserved (set working l 0) marks
    consistent_left shared = without marks refl in_reach_taken
        (λ j positive. in_working_taken (get_or reserved j 0) (omega (arith, positive)) (old.reserved_inside j) (inl (in_list_of reserved j positive)))
        (λ k other positive. in_working_taken (get_or working k 0) (omega (arith, positive)) (old.inside k) (inr (k, refl, positive)))
        (λ page one lt is. (is, λ same. shared_reach l page shared (sym same) one))
      where
        in_list_of : (xs : List ℕ) (j : ℕ) → 0 < get_or xs j 0 → (k : ℕ) × (k < length xs) × (get_or xs k (get_or xs j 0) ≡ get_or xs j 0)
        in_list_of xs j positive = elim (cases_lt j (length xs)) [
          | inl lt ↦ (j, lt, get_or_default xs j (get_or xs j 0) 0 lt)
          | inr past ↦ absurd (omega (arith, positive, get_or_past xs j 0 past))
        ]

    -- otherwise its page is free again
    pub consistent_given : 0 < get_or working l 0 → get_or working l 0 ≢ get_or durable l 0 → IsConsistent pages maps durable reserved (set working l 0) (set marks (get_or working l 0) false)
    consistent_given positive apart =
        let own = fresh_own positive apart in
        let page = get_or working l 0 in
        let stays : (p : ℕ) → p ≢ page → IsTaken marks p → IsTaken (set marks page false) p = λ p other is. marked_other marks page p false other ∙ is in
        without (set marks page false) (length-set marks page false)
        (λ p at. stays p (λ same. own.apart (subst (λ (n : ℕ). InReach maps durable n) same at)) (in_reach_taken p at))
        (λ j some. stays (get_or reserved j 0) (λ same. old.reserved_unnamed j l some (sym same)) (in_working_taken (get_or reserved j 0) (omega (arith, some)) (old.reserved_inside j) (inl (in_list_of reserved j some))))
        (λ k other some. stays (get_or working k 0) (own.unshared k other) (in_working_taken (get_or working k 0) (omega (arith, some)) (old.inside k) (inr (k, refl, some))))
        (λ p one lt is. elim (cases_eq p page) [
          | inl same ↦
              let e : true ≡ false = sym is ∙ ap (λ (n : ℕ). get_or (set marks page false) n false) same ∙ marked_same marks page false (mark_inside page (old.inside l)) in
              absurd cc
          | inr other ↦ (sym (marked_other marks page p false other) ∙ is, λ same. absurd (other same))
        ])
      where
        in_list_of : (xs : List ℕ) (j : ℕ) → 0 < get_or xs j 0 → (k : ℕ) × (k < length xs) × (get_or xs k (get_or xs j 0) ≡ get_or xs j 0)
        in_list_of xs j positive = elim (cases_lt j (length xs)) [
          | inl lt ↦ (j, lt, get_or_default xs j (get_or xs j 0) 0 lt)
          | inr past ↦ absurd (omega (arith, positive, get_or_past xs j 0 past))
        ]

    -- a logical page without a page gets the durable one again
    pub consistent_restored : get_or working l 0 ≡ 0 → IsConsistent pages maps durable reserved (set working l (get_or durable l 0)) marks
    consistent_restored none =
        let page = get_or durable l 0 in record {
          least = old.least;
          most = old.most;
          durable_count = old.durable_count;
          working_count = length-set working l page ∙ old.working_count;
          reserved_count = old.reserved_count;
          sound = old.sound;
          inside = λ k. elim (cases_eq k l) [
            | inl is ↦ omega (arith, at_here page k is, old.sound.entries_inside l)
            | inr other ↦ omega (arith, there page k other, old.inside k)
          ];
          differ = λ a b positive same. elim (cases_eq a l) [
            | inl a_is ↦ elim (cases_eq b l) [
              | inl b_is ↦ a_is ∙ sym b_is
              | inr b_other ↦ absurd (never_durable b b_other (omega (arith, positive, at_here page a a_is)) (sym (there page b b_other) ∙ sym same ∙ at_here page a a_is))
            ]
            | inr a_other ↦ elim (cases_eq b l) [
              | inl b_is ↦ absurd (never_durable a a_other (omega (arith, positive, same, at_here page b b_is)) (sym (there page a a_other) ∙ same ∙ at_here page b b_is))
              | inr b_other ↦ old.differ a b (omega (arith, positive, there page a a_other)) (sym (there page a a_other) ∙ same ∙ there page b b_other)
            ]
          ];
          fresh = λ k positive other at. elim (cases_eq k l) [
            | inl is ↦ other (at_here page k is ∙ ap (λ (n : ℕ). get_or durable n 0) (sym is))
            | inr apart ↦ old.fresh k (omega (arith, positive, there page k apart)) (λ same. other (there page k apart ∙ same)) (subst (λ (p : ℕ). InReach maps durable p) (there page k apart) at)
          ];
          reserved_inside = old.reserved_inside;
          reserved_differ = old.reserved_differ;
          reserved_apart = old.reserved_apart;
          reserved_unnamed = λ j k positive same. elim (cases_eq k l) [
            | inl is ↦ old.reserved_apart j positive (inr (l, sym (at_here page k is) ∙ same, positive))
            | inr apart ↦ old.reserved_unnamed j k positive (sym (there page k apart) ∙ same)
          ];
          marks_count = old.marks_count;
          taken = reached_so marks maps durable reserved (set working l page)
              (λ p one inside at. in_reach_taken p at)
              (λ p one inside at. elim at [
                | inl preserved ↦ in_working_taken p one (omega (arith, inside, old.marks_count)) (inl preserved)
                | inr preserved ↦ elim (cases_eq preserved.0 l) [
                  | inl is ↦ in_reach_taken p (inr (l, sym (at_here page preserved.0 is) ∙ preserved.1, one))
                  | inr other ↦ in_working_taken p one (omega (arith, inside, old.marks_count)) (inr (preserved.0, sym (there page preserved.0 other) ∙ preserved.1, one))
                ]
              ])
              (λ p one inside is. elim (in_either p one (omega (arith, inside, old.marks_count)) is) [
                | inl at ↦ inl at
                | inr work ↦ elim work [
                  | inl preserved ↦ inr (inl preserved)
                  | inr preserved ↦ elim (cases_eq preserved.0 l) [
                    | inl at ↦ absurd (omega (arith, one, none, preserved.1, ap (λ (n : ℕ). get_or working n 0) at))
                    | inr other ↦ inr (inr (preserved.0, there page preserved.0 other ∙ preserved.1, preserved.2))
                  ]
                ]
              ]);
        }
      where
        -- no other logical page has its durable page
        never_durable : (b : ℕ) → b ≢ l → 0 < get_or durable l 0 → get_or working b 0 ≡ get_or durable l 0 → ⊥
        never_durable b other some same = elim (cases_eq (get_or working b 0) (get_or durable b 0)) [
          | inl shared ↦ other (old.sound.entries_differ b l (omega (arith, some, shared, same)) (sym shared ∙ same))
          | inr apart ↦ old.fresh b (omega (arith, some, same)) apart (inr (l, sym same, omega (arith, some, same)))
        ]
