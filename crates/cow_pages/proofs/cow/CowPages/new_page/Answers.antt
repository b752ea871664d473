use Rattle.std.proofs.Common.{◌≡◌, ◌<◌, ℕ, List, IsSome, length, get_or, inl, inr, ap, sym, subst, ◌∙◌, refl, arith}
use Rattle.std.proofs.lemmas.Result.{err_from_is_err_and}
use Rattle.cow_pages.specs.DirtyPages.{dirty_bytes}
use Rattle.cow_pages.specs.Dirty.{overlaid_page}
use Rattle.cow_pages.specs.Calls.{CannotTake}
use Rattle.cow_pages.proofs.Preserving.{preserved_still, preserved_from, faulted_from}
use Rattle.cow_pages.proofs.Consistency.{named_only}
use Rattle.cow_pages.proofs.Putting.{entry_here, entry_apart, others_preserved, outside_as, outside_kept, sized_kept}
use Rattle.cow_pages.specs.declared.page_map.PageMap.{PageMap}
use Rattle.cow_pages.proofs.Owned.{one_got}
use Rattle.cow_pages.specs.PageMap.{IsIdle}
use Rattle.cow_pages.specs.PreservedLaws.{preserved_same}
use Rattle.cow_pages.proofs.Answered.{never_ok, not_both}
use Rattle.cow_pages.proofs.cow.CowPages.new_page.Goals as goal

pub returns-in_default-clause-preserved : goal.returns-in_default-clause-preserved
returns-in_default-clause-preserved g c =
    let same = c.take_new.ensures.preserved in
    preserved_still g.met.D.Device.only_now _ _ refl same.root same.durable refl

pub returns-in_default-clause-outcome : goal.returns-in_default-clause-outcome
returns-in_default-clause-outcome g c =
    let none = c.in_default.ensures.outcome in
    let same = c.take_new.ensures.preserved in (
      λ page some lt. elim (none.used_up page some lt) [
        | inl at ↦ inl at
        | inr at ↦ inr (named_only _ _ page c.args.self.now.idle some at)
      ],
      record {
        memory = record { root = same.root; durable = same.durable; working = none.working; dirty = refl };
        device = refl;
        has_not_failed = c.if-self.false;
      },
    )

pub put-requires : goal.put-requires
put-requires g c =
    let m = c.args.self.now.map in
    let same = c.take_new.ensures.preserved in
    let own = c.in-Ok.ensures.outcome.1.own in
    record { outside = outside_as m.root c.take_new.new.self.root m.durable.items c.take_new.new.self.durable.items same.root same.durable c.in-Ok.physical (own.some, own.inside, own.apart) }

pub returns-in_err-put-clause-preserved : goal.returns-in_err-put-clause-preserved
returns-in_err-put-clause-preserved g c =
    let same = c.take_new.ensures.preserved in
    preserved_from g.met.D.Device.only_now _ _ _ c.put.ensures.preserved refl same.root same.durable refl

pub returns-in_err-put-clause-outcome : goal.returns-in_err-put-clause-outcome
returns-in_err-put-clause-outcome g c =
    let p = c.args.self.now in
    let q = c.put.new.self in
    let back = err_from_is_err_and c.from_residual.result c.from_residual.ensures.1 in
    let fails = c.in_err-put.ensures.fault in
    rw back.1 (subst (λ f. CannotTake f p q) (sym (back.2 ∙ fails.0)) (faulted_from p _ q fails.1 refl refl))

pub returns-clause-preserved : goal.returns-clause-preserved
returns-clause-preserved g c =
    let same = c.take_new.ensures.preserved in
    preserved_from g.met.D.Device.only_now _ _ _ c.put.ensures.preserved refl same.root same.durable refl

pub returns-clause-outcome : goal.returns-clause-outcome
returns-clause-outcome g c =
    let p = c.args.self.now in
    let q = c.put.new.self in
    let m = p.map in
    let n = c.take_new.new.self in
    let d = g.D.Device.state p.device in
    let unmapped = c.in-Ok.ensures.outcome.0 in
    let gets = c.in-Ok.ensures.outcome.1 in
    let physical = c.in-Ok.physical in
    let l = c.in-Ok.page in
    let within : l < length m.working.items = omega (arith, unmapped.0, m.consistent.working_count) in
    let here : get_or n.working.items l 0 ≡ physical = entry_here m.working.items n.working.items l physical gets.working within in
    let put = c.in_ok-put.ensures.put in (
      (unmapped.0, ap (λ (k : ℕ). overlaid_page (dirty_bytes p.dirty) d.content k) unmapped.1),
      record {
        has_not_failed = put.has_failed ∙ c.if-self.false;
        is_dirty = subst (λ (k : ℕ). IsSome (dirty_bytes q.dirty k)) (sym (ap (λ m. get_or m.working.items l 0) c.put.ensures.map ∙ here)) put.is_dirty;
        changes = λ first. record {
          here = put.here l here;
          others = λ k other. put.others first k (entry_apart m.working.items n.working.items l physical gets.working within gets.own.unshared k other)
              ∙ others_preserved m.working.items n.working.items l physical gets.working within (dirty_bytes p.dirty) d.content k other;
        };
      },
    )

pub returns-clause-own : goal.returns-clause-own
returns-clause-own g c =
    one_got c.args.self.now c.put.new.self (ap (λ (m : PageMap). m.durable.items) c.put.ensures.map ∙ c.take_new.ensures.preserved.durable)
    c.in-Ok.page c.in-Ok.physical (ap (λ (m : PageMap). m.working.items) c.put.ensures.map ∙ c.in-Ok.ensures.outcome.1.working)

pub returns-then-self-clause-preserved : goal.returns-then-self-clause-preserved
returns-then-self-clause-preserved g c = preserved_same c.args.self.now

pub returns-then-self-clause-outcome : goal.returns-then-self-clause-outcome
returns-then-self-clause-outcome g c = record { has_failed = c.if-self.true; cause = inl c.if-self.true }

pub returns-then-self-clause-own : goal.returns-then-self-clause-own
returns-then-self-clause-own g c = tt

pub returns-then-self-clause-no_device_call : goal.returns-then-self-clause-no_device_call
returns-then-self-clause-no_device_call g c space = refl

pub returns-then-self-clause-closed : goal.returns-then-self-clause-closed
returns-then-self-clause-closed g c was = (refl, refl)

pub returns-in_default-clause-own : goal.returns-in_default-clause-own
returns-in_default-clause-own g c = tt

pub returns-in_default-clause-no_device_call : goal.returns-in_default-clause-no_device_call
returns-in_default-clause-no_device_call g c space = refl

pub returns-in_default-clause-closed : goal.returns-in_default-clause-closed
returns-in_default-clause-closed g c was = not_both _ c.if-self.false was

pub returns-in_err-put-clause-own : goal.returns-in_err-put-clause-own
returns-in_err-put-clause-own g c = never_ok _ _ _ (err_from_is_err_and c.from_residual.result c.from_residual.ensures.1).1

pub returns-in_err-put-clause-no_device_call : goal.returns-in_err-put-clause-no_device_call
returns-in_err-put-clause-no_device_call g c space = c.put.ensures.no_device_call (inr space)

pub returns-in_err-put-clause-closed : goal.returns-in_err-put-clause-closed
returns-in_err-put-clause-closed g c was = not_both _ c.if-self.false was

pub returns-clause-no_device_call : goal.returns-clause-no_device_call
returns-clause-no_device_call g c space = c.put.ensures.no_device_call (inr space)

pub returns-clause-closed : goal.returns-clause-closed
returns-clause-closed g c was = not_both _ c.if-self.false was

pub invariant_of-self : goal.invariant_of-self
invariant_of-self g c =
    let s = c.args.self.now in
    let same = c.take_new.ensures.preserved in
    record {
      sized = sized_kept _ _ _ same.root s.sized;
      idle = subst (λ (reserved : List ℕ). IsIdle reserved) (sym same.reserved) s.idle;
      outside = outside_kept _ _ _ _ same.root same.durable _ s.outside;
      cached = s.cached;
    }
