-- The physical page that a logical page has already, and the next root.
use Rattle.std.proofs.Common.{◌≡◌, ◌≢◌, ℕ, ◌<◌, ◌≤◌, ◌+◌, ◌*◌, List, Result, Ok, Err, MatchResult, length, get_or, take, inl, inr, refl, sym, subst, arith}
use Rattle.std.proofs.lemmas.Bool.{cases_lt}
use Rattle.std.proofs.lemmas.List.{get_or_past, set-get_or, length-take-le, get_or-take}
use Rattle.page_roots.specs.declared.format.Format.{Format}
use Rattle.page_roots.specs.Root.{RootFields}
use Rattle.cow_pages.specs.declared.page_map.PageMap.{PageMap}
use Rattle.cow_pages.specs.MapCalls.{GetsPage, FindsNoPage, IsShared, IsNextOf, HasMapPageIn, IsNextMapPage}

-- a logical page in use has an entry
pub used_inside : (entries : List ℕ) (l : ℕ) → 0 < get_or entries l 0 → l < length entries
used_inside entries l used = elim (cases_lt l (length entries)) [
  | inl lt ↦ lt
  | inr past ↦ absurd (omega (arith, used, get_or_past entries l 0 past))
]

-- a logical page that has another physical page than the durable one has one of its own
pub keeps_own : (m : PageMap) (l page : ℕ) → page ≡ get_or m.working.items l 0 → 0 < get_or m.working.items l 0
    → get_or m.working.items l 0 ≢ get_or m.durable.items l 0 → GetsPage l page m m
keeps_own m l page is used apart = subst (λ (p : ℕ). GetsPage l p m m) (sym is) (record {
  own = record {
    some = omega (arith, used);
    inside = m.consistent.inside l;
    apart = m.consistent.fresh l used apart;
    unshared = λ k other same. other (sym (m.consistent.differ l k used (sym same)));
  };
  working = sym (set-get_or m.working.items l 0);
})

-- where the logical page has the durable one, it is said of a search that finds none
pub gets_or_shared : {E : Type 0} (r : Result ℕ E) (l : ℕ) (old new : PageMap) → IsShared old l
    → MatchResult r (λ page. GetsPage l page old new) (λ _. FindsNoPage old new)
    → MatchResult r (λ page. GetsPage l page old new) (λ _. FindsNoPage old new × IsShared old l)
gets_or_shared (Ok page) l old new shared is = is
gets_or_shared (Err fault) l old new shared is = (is, shared)

module _ (m : PageMap) (count : ℕ) (pages : List ℕ) (least : length m.root.maps ≤ count) (most : count ≤ 64) (size : length pages ≡ 64)
    (has : (j : ℕ) → j < count → HasMapPageIn m m.reserved j) (each : (j : ℕ) → j < count → IsNextMapPage m j (get_or pages j 0)) where
  length_is : length (take count pages) ≡ count
  length_is = length-take-le count pages (omega (arith, most, size))

  there : (j : ℕ) → j < count → IsNextMapPage m j (get_or (take count pages) j 0)
  there j lt = subst (λ (page : ℕ). IsNextMapPage m j page) (sym (get_or-take count pages j 0 lt)) (each j lt)

  inside : (j : ℕ) → j < length (take count pages) → j < count
  inside j lt = omega (arith, lt, length_is)

  pub next_is : (next : RootFields) (format : Format) → next ≡ record { format = format; number = m.root.number + 1; pages = m.root.pages; maps = take count pages }
      → 0 < get_or m.working.items 0 0 → ((j : ℕ) → count ≤ j → get_or m.reserved j 0 ≡ 0)
      → ((l : ℕ) → 1024 * count ≤ l → get_or m.working.items l 0 ≡ 0) → IsNextOf next m m
  next_is next format is used unreserved beyond = subst (λ (r : RootFields). IsNextOf r m m) (sym is) (record {
    number_is = refl;
    pages_is = refl;
    used = used;
    maps = record {
      least = omega (arith, least, length_is);
      each = λ j lt. there j (inside j lt);
      beyond = λ j past. unreserved j (omega (arith, past, length_is));
    };
    most = omega (arith, most, length_is);
    stays = λ j lt none. elim (has j (inside j lt)) [
      | inl some ↦ absurd (omega (arith, some, none))
      | inr stays ↦ stays.2
    ];
    beyond = λ l past. beyond l (omega (arith, past, length_is));
  })
