use Rattle.std.proofs.Common.{◌≡◌, ◌≢◌, ◌<◌, ℕ, List, IsSome, length, get_or, refl, ap, sym, subst, ◌∙◌, inl, inr, arith}
use Rattle.std.proofs.lemmas.Bool.Decides.{eqb_tells}
use Rattle.std.proofs.lemmas.Bool.{cases_lt}
use Rattle.std.proofs.lemmas.List.{get_or-set_same, get_or-set_other, get_or_past}
use Rattle.cow_pages.specs.Dirty.{overlaid_page}
use Rattle.cow_pages.specs.DirtyPages.{dirty_bytes}
use Rattle.cow_pages.proofs.Preserving.{refused_still, preserved_still, open_still}
use Rattle.cow_pages.specs.PageMap.{IsIdle}
use Rattle.cow_pages.specs.PreservedLaws.{preserved_same}
use Rattle.cow_pages.proofs.Answered.{not_both}
use Rattle.cow_pages.proofs.Overlaid.{none_dirty, page_same, page_used}
use Rattle.cow_pages.proofs.Putting.{outside_as, sized_kept}
use Rattle.cow_pages.proofs.Owned.{one_freed}
use Rattle.cow_pages.proofs.cow.CowPages.free_page.Goals as goal

pub returns-clause-preserved : goal.returns-clause-preserved
returns-clause-preserved g c =
    let same = c.release.ensures.preserved in
    preserved_still g.met.D.Device.only_now _ _ refl same.root same.durable refl

pub returns-clause-open : goal.returns-clause-open
returns-clause-open g c =
    let same = c.release.ensures.preserved in
    open_still g.met.D.Device.only_now _ _ refl same.root same.durable refl

pub returns-clause-outcome : goal.returns-clause-outcome
returns-clause-outcome g c =
    let m = c.args.self.now.map in
    let image = (g.D.Device.state c.args.self.now.device).content in
    let old = dirty_bytes c.args.self.now.dirty in
    let new = dirty_bytes c.discard.new.self in
    let l = c.args.page in
    let physical : c.page-physical.result ≡ get_or m.working.items l 0 = c.page-physical.ensures.page in
    let within : l < length m.working.items = elim (cases_lt l (length m.working.items)) [
      | inl lt ↦ lt
      | inr past ↦ absurd (c.if-physical-eq0.false (physical ∙ get_or_past m.working.items l 0 past))
    ] in
    record {
      has_not_failed = c.if-self.false;
      used = page_used old image (get_or m.working.items l 0) (λ none. c.if-physical-eq0.false (physical ∙ none));
      changes = record {
        here = ap (λ (es : List ℕ). overlaid_page new image (get_or es l 0)) c.release.ensures.working ∙ ap (λ (p : ℕ). overlaid_page new image p) (get_or-set_same m.working.items l 0 0 within);
        others = λ k other.
            let differs : 0 < get_or m.working.items k 0 → get_or m.working.items k 0 ≢ c.page-physical.result = λ some same. other (m.consistent.differ k l some (same ∙ physical)) in
            ap (λ (es : List ℕ). overlaid_page new image (get_or es k 0)) c.release.ensures.working ∙ ap (λ (p : ℕ). overlaid_page new image p) (get_or-set_other m.working.items l k 0 0 other)
            ∙ page_same old new image (get_or m.working.items k 0) (λ some. c.discard.ensures.others (get_or m.working.items k 0) (differs some));
      };
    }

pub returns-clause-own : goal.returns-clause-own
returns-clause-own g c =
    let m = c.args.self.now.map in
    let l = c.args.page in
    let within : l < length m.working.items = elim (cases_lt l (length m.working.items)) [
      | inl lt ↦ lt
      | inr past ↦ absurd (c.if-physical-eq0.false (c.page-physical.ensures.page ∙ get_or_past m.working.items l 0 past))
    ] in
    one_freed c.args.self.now _ c.release.ensures.preserved.durable l within c.release.ensures.working

pub returns-then-self-clause-preserved : goal.returns-then-self-clause-preserved
returns-then-self-clause-preserved g c = preserved_same c.args.self.now

pub returns-then-self-clause-outcome : goal.returns-then-self-clause-outcome
returns-then-self-clause-outcome g c = (c.if-self.true, c.if-self.true)

pub returns-then-self-clause-own : goal.returns-then-self-clause-own
returns-then-self-clause-own g c = tt

pub returns-then-self-clause-no_device_call : goal.returns-then-self-clause-no_device_call
returns-then-self-clause-no_device_call g c = refl

pub returns-then-self-clause-open : goal.returns-then-self-clause-open
returns-then-self-clause-open g c is = is

pub returns-then-self-clause-closed : goal.returns-then-self-clause-closed
returns-then-self-clause-closed g c was = (refl, refl)

pub returns-then-physical-eq0-clause-preserved : goal.returns-then-physical-eq0-clause-preserved
returns-then-physical-eq0-clause-preserved g c = preserved_same c.args.self.now

pub returns-then-physical-eq0-clause-outcome : goal.returns-then-physical-eq0-clause-outcome
returns-then-physical-eq0-clause-outcome g c =
    let s = c.args.self.now in (
      ap (λ (p : ℕ). overlaid_page (dirty_bytes s.dirty) (g.D.Device.state s.device).content p) (sym c.page-physical.ensures.page ∙ c.if-physical-eq0.true),
      refused_still s c.if-self.false,
    )

pub returns-then-physical-eq0-clause-own : goal.returns-then-physical-eq0-clause-own
returns-then-physical-eq0-clause-own g c = tt

pub returns-then-physical-eq0-clause-no_device_call : goal.returns-then-physical-eq0-clause-no_device_call
returns-then-physical-eq0-clause-no_device_call g c = refl

pub returns-then-physical-eq0-clause-open : goal.returns-then-physical-eq0-clause-open
returns-then-physical-eq0-clause-open g c is = is

pub returns-then-physical-eq0-clause-closed : goal.returns-then-physical-eq0-clause-closed
returns-then-physical-eq0-clause-closed g c was = not_both _ c.if-self.false was

pub release-requires : goal.release-requires
release-requires g c =
    let m = c.args.self.now.map in
    let l = c.args.page in
    record {
      inside = elim (cases_lt l (length m.working.items)) [
        | inl lt ↦ omega (arith, lt, m.consistent.working_count)
        | inr past ↦ absurd (c.if-physical-eq0.false (c.page-physical.ensures.page ∙ get_or_past m.working.items l 0 past))
      ];
    }

pub invariant_of-self : goal.invariant_of-self
invariant_of-self g c =
    let s = c.args.self.now in
    let m = s.map in
    let n = c.release.new.self in
    let same = c.release.ensures.preserved in
    record {
      sized = sized_kept _ _ _ same.root s.sized;
      idle = subst (λ (reserved : List ℕ). IsIdle reserved) (sym same.reserved) s.idle;
      outside = λ page some. outside_as m.root n.root m.durable.items n.durable.items same.root same.durable page
          (elim (eqb_tells page c.page-physical.result) [
            | inl here ↦ absurd (none_dirty _ c.discard.ensures.here (subst (λ (p : ℕ). IsSome (dirty_bytes c.discard.new.self p)) here.1 some))
            | inr apart ↦ s.outside page (subst (λ w. IsSome w) (c.discard.ensures.others page apart.1) some)
          ]);
      cached = s.cached;
    }

pub returns-clause-no_device_call : goal.returns-clause-no_device_call
returns-clause-no_device_call g c = refl

pub returns-clause-closed : goal.returns-clause-closed
returns-clause-closed g c was = not_both _ c.if-self.false was
