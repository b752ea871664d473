use Rattle.std.proofs.Common.{◌≡◌, ◌<◌, ◌-◌, get_or, List, Bool, length, subst, ◌∙◌, ap, arith}
use Rattle.std.proofs.lemmas.List.{with_items_is, get_or_default}
use Rattle.page_allocator.specs.TakenPages.{with_taken}
use Rattle.page_allocator.specs.Order.{taken_pages}
use Rattle.page_allocator.proofs.Changes.{IsProtected, protected, past_stays, behind_stays}
use Rattle.page_allocator.proofs.allocator.PageAllocator.protect.Goals as goal
use Rattle.page_allocator.proofs.allocator.PageAllocator.protect.Goals.{then-page-len-via-then-page-len, then-page-len-via-else-page-len+then-index-self}

-- the page moved to the last place of the free ones
moved : (c : goal.After-self-3-1) → IsProtected c.self.inside.order.items c.self.inside.places.items c.exchange.new.order c.exchange.new.places c.self.inside.free c.args.page
moved c =
    let order_is = c.deref_mut.ensures.value in
    let places_is = c.deref_mut-2.ensures.value in
    protected _ _ _ _ _ _ c.self.invariant c.exchange.ensures.inverse (c.exchange.auto.order ∙ ap length order_is)
    (let inside : c.args.page < length c.self.inside.places.items = omega (arith, c.if-page-len.false, c.len.ensures, c.self.inside.places.ok.0) in
    let place : c.index.result.now ≡ get_or c.self.inside.places.items c.args.page 0 = c.index.ensures ∙ get_or_default _ _ _ _ inside in
    record { inside = inside; place = omega (arith, place, c.if-index-self.false) })
    (record {
      count = c.exchange.auto.places ∙ ap length places_is;
      here = c.exchange.ensures.page;
      other = rw (order_is, places_is) at c.exchange.ensures.other;
      others = rw (order_is, places_is) at c.exchange.ensures.others;
    })

pub returns-then-page-len-clause-taken : goal.returns-then-page-len-clause-taken
returns-then-page-len-clause-taken c =
    subst (λ (taken : List Bool). taken ≡ with_taken taken c.args.page) c.self.view_is (elim c.then-page-len.branch [
      | then-page-len-via-then-page-len w ↦ past_stays c.self.inside.free c.self.inside.places.items c.args.page (omega (arith, w.if-page-len.true, c.len.ensures, c.self.inside.places.ok.0))
      | then-page-len-via-else-page-len+then-index-self w ↦
          let inside : c.args.page < length c.self.inside.places.items = omega (arith, w.if-page-len.false, c.len.ensures, c.self.inside.places.ok.0) in
          let place : w.index.result.now ≡ get_or c.self.inside.places.items c.args.page 0 = w.index.ensures ∙ get_or_default _ _ _ _ inside in
          behind_stays c.self.inside.free c.self.inside.places.items c.args.page inside (omega (arith, place, w.if-index-self.true))
    ])

pub invariant_of-self : goal.invariant_of-self
invariant_of-self c = rw (
  with_items_is c.self.inside.order c.exchange.new.order (omega (arith, c.exchange.auto.order, c.deref_mut.ensures.len)),
  with_items_is c.self.inside.places c.exchange.new.places (omega (arith, c.exchange.auto.places, c.deref_mut-2.ensures.len)),
) (moved c).kept

pub returns-clause-taken : goal.returns-clause-taken
returns-clause-taken c =
    ap (taken_pages (c.self.inside.free - 1)) (with_items_is c.self.inside.places c.exchange.new.places (omega (arith, c.exchange.auto.places, c.deref_mut-2.ensures.len)))
    ∙ (moved c).taken ∙ ap (λ (taken : List Bool). with_taken taken c.args.page) c.self.view_is
