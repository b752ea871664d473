use Rattle.std.proofs.Common.{◌≡◌, ◌<◌, ℕ, List, IsSome, Ok, length, get_or, inl, inr, ap, sym, subst, ◌∙◌, refl}
use Rattle.std.proofs.lemmas.List.{get_or_past}
use Rattle.std.proofs.lemmas.Bool.{cases_lt}
use Rattle.std.proofs.lemmas.Result.{MatchResult-from_both, IfErr-weaker}
use Rattle.std.specs.Prelude.{nat_eq}
use Rattle.indexmap.specs.IndexMap.{get}
use Rattle.cow_pages.specs.DirtyPages.{dirty_bytes}
use Rattle.cow_pages.specs.Calls.{CannotWrite}
use Rattle.cow_pages.specs.declared.page_map.PageMap.{PageMap}
use Rattle.cow_pages.proofs.Answered.{on_ok_also, on_ok_always}
use Rattle.cow_pages.proofs.Preserving.{refused_still, preserved_still, preserved_from, faulted_from}
use Rattle.cow_pages.proofs.Overlaid.{page_used, has_entry}
use Rattle.cow_pages.proofs.Consistency.{named_only}
use Rattle.cow_pages.proofs.Putting.{entry_here, entry_apart, others_preserved, outside_as, outside_kept, sized_kept}
use Rattle.cow_pages.proofs.Owned.{one_got}
use Rattle.cow_pages.specs.PageMap.{IsIdle}
use Rattle.cow_pages.specs.Dirty.{overlaid_page}
use Rattle.cow_pages.specs.PreservedLaws.{preserved_same}
use Rattle.cow_pages.proofs.Answered.{not_both}
use Rattle.cow_pages.proofs.cow.CowPages.write.Goals as goal

pub put-requires : goal.put-requires
put-requires g c =
    let m = c.args.self.now.map in
    let same = c.own_page.ensures.preserved in
    let own = c.in-Ok.ensures.outcome.own in
    record { outside = outside_as m.root c.own_page.new.self.root m.durable.items c.own_page.new.self.durable.items same.root same.durable c.in-Ok.physical (own.some, own.inside, own.apart) }

pub returns-in-Ok-clause-preserved : goal.returns-in-Ok-clause-preserved
returns-in-Ok-clause-preserved g c =
    let same = c.own_page.ensures.preserved in
    preserved_from g.met.D.Device.only_now _ _ _ c.put.ensures.preserved refl same.root same.durable refl

pub returns-in-Ok-clause-outcome : goal.returns-in-Ok-clause-outcome
returns-in-Ok-clause-outcome g c =
    let p = c.args.self.now in
    let q = c.put.new.self in
    let m = p.map in
    let n = c.own_page.new.self in
    let d = g.D.Device.state p.device in
    let gets = c.in-Ok.ensures.outcome in
    let physical = c.in-Ok.physical in
    let l = c.args.page in
    let within : l < length m.working.items = elim (cases_lt l (length m.working.items)) [
      | inl lt ↦ lt
      | inr past ↦ absurd (c.if-page-eq0.false (c.page.ensures.page ∙ get_or_past m.working.items l 0 past))
    ] in
    let here : get_or n.working.items l 0 ≡ physical = entry_here m.working.items n.working.items l physical gets.working within in
    MatchResult-from_both c.put.result _ _
    (on_ok_also c.put.result c.put.ensures.put (λ put. (
      page_used (dirty_bytes p.dirty) d.content (get_or m.working.items l 0) (λ none. c.if-page-eq0.false (c.page.ensures.page ∙ none)),
      record {
        has_not_failed = put.has_failed ∙ c.if-self.false;
        is_dirty = subst (λ (k : ℕ). IsSome (dirty_bytes q.dirty k)) (sym (ap (λ m. get_or m.working.items l 0) c.put.ensures.map ∙ here)) put.is_dirty;
        changes = λ first. record {
          here = put.here l here;
          others = λ k other. put.others first k (entry_apart m.working.items n.working.items l physical gets.working within gets.own.unshared k other)
              ∙ others_preserved m.working.items n.working.items l physical gets.working within (dirty_bytes p.dirty) d.content k other;
        };
      },
    )))
    (IfErr-weaker c.put.result _ _ (λ fault fails. subst (λ f. CannotWrite l f p q) (sym fails.0) (faulted_from p _ q fails.1 refl refl)) c.put.ensures.fault)

-- a page that is dirty has a physical page of its own, and an entry
pub returns-in-Ok-clause-no_device_call : goal.returns-in-Ok-clause-no_device_call
returns-in-Ok-clause-no_device_call g c some =
    let s = c.args.self.now in
    let here : ℕ = get_or s.map.working.items c.args.page 0 in
    c.put.ensures.no_device_call (elim some [
      | inl dirty ↦
          let can = s.outside here dirty in
          let own : Ok c.in-Ok.physical ≡ Ok here = c.in-Ok.ensures.own (λ shared. can.2 (inr (c.args.page, sym shared, can.0))) in
          let same : here ≡ c.in-Ok.physical = cc in
          inl (subst (λ (p : ℕ). IsSome (get nat_eq s.dirty.pages p)) same (has_entry (get nat_eq s.dirty.pages here) _ dirty))
      | inr space ↦ inr space
    ])

pub returns-in-Err-clause-preserved : goal.returns-in-Err-clause-preserved
returns-in-Err-clause-preserved g c =
    let same = c.own_page.ensures.preserved in
    preserved_still g.met.D.Device.only_now _ _ refl same.root same.durable refl

pub returns-in-Err-clause-outcome : goal.returns-in-Err-clause-outcome
returns-in-Err-clause-outcome g c =
    let none = c.in-Err.ensures.outcome in
    let same = c.own_page.ensures.preserved in
    record {
      shared = none.1;
      no_room = λ page some lt. elim (none.0.used_up page some lt) [
        | inl at ↦ inl at
        | inr at ↦ inr (named_only _ _ page c.args.self.now.idle some at)
      ];
      refused = record {
        memory = record { root = same.root; durable = same.durable; working = none.0.working; dirty = refl };
        device = refl;
        has_not_failed = c.if-self.false;
      };
    }

pub returns-in-Ok-clause-own : goal.returns-in-Ok-clause-own
returns-in-Ok-clause-own g c =
    let n = c.own_page.new.self in
    on_ok_always c.put.result
    (one_got c.args.self.now c.put.new.self (ap (λ (m : PageMap). m.durable.items) c.put.ensures.map ∙ c.own_page.ensures.preserved.durable)
    c.args.page c.in-Ok.physical (ap (λ (m : PageMap). m.working.items) c.put.ensures.map ∙ c.in-Ok.ensures.outcome.working))

pub returns-then-self-clause-preserved : goal.returns-then-self-clause-preserved
returns-then-self-clause-preserved g c = preserved_same c.args.self.now

pub returns-then-self-clause-outcome : goal.returns-then-self-clause-outcome
returns-then-self-clause-outcome g c = record { has_failed = c.if-self.true; cause = inl c.if-self.true }

pub returns-then-self-clause-own : goal.returns-then-self-clause-own
returns-then-self-clause-own g c = tt

pub returns-then-self-clause-no_device_call : goal.returns-then-self-clause-no_device_call
returns-then-self-clause-no_device_call g c held = refl

pub returns-then-self-clause-closed : goal.returns-then-self-clause-closed
returns-then-self-clause-closed g c was = (refl, refl)

pub returns-then-page-eq0-clause-preserved : goal.returns-then-page-eq0-clause-preserved
returns-then-page-eq0-clause-preserved g c = preserved_same c.args.self.now

pub returns-then-page-eq0-clause-outcome : goal.returns-then-page-eq0-clause-outcome
returns-then-page-eq0-clause-outcome g c =
    let s = c.args.self.now in (
      ap (λ (p : ℕ). overlaid_page (dirty_bytes s.dirty) (g.D.Device.state s.device).content p) (sym c.page.ensures.page ∙ c.if-page-eq0.true),
      refused_still s c.if-self.false,
    )

pub returns-then-page-eq0-clause-own : goal.returns-then-page-eq0-clause-own
returns-then-page-eq0-clause-own g c = tt

pub returns-then-page-eq0-clause-no_device_call : goal.returns-then-page-eq0-clause-no_device_call
returns-then-page-eq0-clause-no_device_call g c held = refl

pub returns-then-page-eq0-clause-closed : goal.returns-then-page-eq0-clause-closed
returns-then-page-eq0-clause-closed g c was = not_both _ c.if-self.false was

pub returns-in-Ok-clause-closed : goal.returns-in-Ok-clause-closed
returns-in-Ok-clause-closed g c was = not_both _ c.if-self.false was

pub returns-in-Err-clause-own : goal.returns-in-Err-clause-own
returns-in-Err-clause-own g c = tt

pub returns-in-Err-clause-no_device_call : goal.returns-in-Err-clause-no_device_call
returns-in-Err-clause-no_device_call g c held = refl

pub returns-in-Err-clause-closed : goal.returns-in-Err-clause-closed
returns-in-Err-clause-closed g c was = not_both _ c.if-self.false was

pub invariant_of-self : goal.invariant_of-self
invariant_of-self g c =
    let s = c.args.self.now in
    let same = c.own_page.ensures.preserved in
    record {
      sized = sized_kept _ _ _ same.root s.sized;
      idle = subst (λ (reserved : List ℕ). IsIdle reserved) (sym same.reserved) s.idle;
      outside = outside_kept _ _ _ _ same.root same.durable _ s.outside;
      cached = s.cached;
    }
