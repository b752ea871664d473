-- Which logical pages get a page of their own.
use Rattle.std.proofs.Common.{◌≡◌, ◌<◌, inl, inr, ℕ, List, [], ◌∷◌, length, get_or, sym, ap, ◌∙◌, arith}
use Rattle.std.specs.Prelude.{Contains, Result, Ok, Err, OnOk, IfErr}
use Rattle.std.proofs.Math.ListN.{set}
use Rattle.std.proofs.lemmas.Bool.{cases_eq}
use Rattle.std.proofs.lemmas.List.{get_or-set_same, get_or-set_other}
use Rattle.sector_device.specs.declared.device.Device.{Ghosts}
use Rattle.pages.specs.State.{GetOwn, HasNoOwn}
use Rattle.pages.specs.declared.array.PageFault.{PageFault}
use Rattle.pages.specs.declared.array.PageFault.TheVariants.{Full, Memory, Device, Malformed}
use Rattle.cow_pages.specs.declared.cow.CowPages.{CowPages}
use Rattle.cow_pages.specs.declared.page_map.PageMap.{PageMap}
use Rattle.cow_pages.specs.Cow.{own_pages, HasOwnPage, IsRefused}
use Rattle.cow_pages.specs.Calls.{WritesPage, TakesPage}

pub is_only : (page l : ℕ) → l ≡ page → Contains (page ∷ []) l
is_only page l is = (0, omega arith, sym is)

module _ {D : Type 0} {g : Ghosts D} (p q : CowPages D g) (durable : q.map.durable.items ≡ p.map.durable.items) where
  -- where the working map is as it was, a page of a logical page is one that it had
  still_own : (l page : ℕ) → get_or q.map.working.items l 0 ≡ get_or p.map.working.items l 0 → HasOwnPage q l page → HasOwnPage p l page
  still_own l page same own = record {
    some = own.some;
    named = sym same ∙ own.named;
    apart = λ is. own.apart (is ∙ ap (λ (es : List ℕ). get_or es l 0) (sym durable));
  }

  pub none_got : q.map.working.items ≡ p.map.working.items → GetOwn [] (own_pages p) (own_pages q)
  none_got same l page own = inl (still_own l page (ap (λ (es : List ℕ). get_or es l 0) same) own)

  -- one logical page gets a page
  pub one_got : (logical physical : ℕ) → q.map.working.items ≡ set p.map.working.items logical physical → GetOwn (logical ∷ []) (own_pages p) (own_pages q)
  one_got logical physical is l page own = elim (cases_eq l logical) [
    | inl here ↦ inr (is_only logical l here)
    | inr other ↦ inl (still_own l page (ap (λ (es : List ℕ). get_or es l 0) is ∙ get_or-set_other p.map.working.items logical l physical 0 other) own)
  ]

  -- or has none any more
  pub one_freed : (logical : ℕ) → logical < length p.map.working.items → q.map.working.items ≡ set p.map.working.items logical 0 → GetOwn [] (own_pages p) (own_pages q)
  one_freed logical within is l page own = elim (cases_eq l logical) [
    | inl here ↦
        let none : get_or q.map.working.items l 0 ≡ 0 = ap (λ (k : ℕ). get_or q.map.working.items k 0) here ∙ ap (λ (es : List ℕ). get_or es logical 0) is ∙ get_or-set_same p.map.working.items logical 0 0 within in
        absurd (omega (arith, own.some, own.named, none))
    | inr other ↦ inl (still_own l page (ap (λ (es : List ℕ). get_or es l 0) is ∙ get_or-set_other p.map.working.items logical l 0 0 other) own)
  ]

  -- a logical page that has its durable page has none of its own
  pub shared_has_none : (logical : ℕ) → q.map.working.items ≡ p.map.working.items → get_or p.map.working.items logical 0 ≡ get_or p.map.durable.items logical 0
      → HasNoOwn logical (own_pages q)
  shared_has_none logical same shared page own =
      own.apart (sym own.named ∙ ap (λ (es : List ℕ). get_or es logical 0) same ∙ shared ∙ ap (λ (es : List ℕ). get_or es logical 0) (sym durable))

-- a call that leaves the maps alone
pub map_kept : {D : Type 0} {g : Ghosts D} {T : Type 0} (p q : CowPages D g) (r : Result T PageFault) → q.map ≡ p.map → OnOk r (GetOwn [] (own_pages p) (own_pages q))
map_kept p q (Err f) same = tt
map_kept p q (Ok x) same = none_got p q (ap (λ (m : PageMap). m.durable.items) same) (ap (λ (m : PageMap). m.working.items) same)

refused_got : {D : Type 0} {g : Ghosts D} (p q : CowPages D g) → IsRefused p q → GetOwn [] (own_pages p) (own_pages q)
refused_got p q refused = none_got p q refused.memory.durable refused.memory.working

-- where no page is free none is got
pub write_full : {D : Type 0} {g : Ghosts D} (p q : CowPages D g) (page : ℕ) (bytes : List ℕ) (r : Result (Unit {0}) PageFault) → WritesPage page bytes r p q
    → IfErr r (λ f. f ≡ Full → GetOwn [] (own_pages p) (own_pages q) × HasNoOwn page (own_pages q))
write_full p q page bytes (Ok x) is = tt
write_full p q page bytes (Err Full) is = λ full. (refused_got p q is.refused, shared_has_none p q is.refused.memory.durable page is.refused.memory.working is.shared)
write_full p q page bytes (Err Memory) is = absurd is
write_full p q page bytes (Err Device) is = λ full. absurd cc
write_full p q page bytes (Err Malformed) is = λ full. absurd cc

pub take_full : {D : Type 0} {g : Ghosts D} (p q : CowPages D g) (bytes : List ℕ) (r : Result ℕ PageFault) → TakesPage bytes r p q
    → IfErr r (λ f. f ≡ Full → GetOwn [] (own_pages p) (own_pages q))
take_full p q bytes (Ok x) is = tt
take_full p q bytes (Err Full) is = λ full. refused_got p q is.1
take_full p q bytes (Err Memory) is = absurd is
take_full p q bytes (Err Device) is = λ full. absurd cc
take_full p q bytes (Err Malformed) is = absurd is
