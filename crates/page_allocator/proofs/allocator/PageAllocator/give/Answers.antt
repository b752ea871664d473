use Rattle.std.proofs.Common.{◌+◌, List, Bool, length, subst, sym, ◌∙◌, ap, arith}
use Rattle.std.proofs.lemmas.List.{with_items_is}
use Rattle.page_allocator.specs.TakenPages.{IsTaken, with_free}
use Rattle.page_allocator.specs.Order.{taken_pages}
use Rattle.page_allocator.proofs.Changes.{IsGiven, given, taken_is_behind}
use Rattle.page_allocator.proofs.allocator.PageAllocator.give.Goals as goal

-- the page moved to the first place behind the free ones
moved : (c : goal.After-self-3-1) → IsGiven c.self.inside.order.items c.self.inside.places.items c.exchange.new.order c.exchange.new.places c.self.inside.free c.args.page
moved c =
    let order_is = c.deref_mut.ensures.value in
    let places_is = c.deref_mut-2.ensures.value in
    given _ _ _ _ _ _ c.self.invariant c.exchange.ensures.inverse (c.exchange.auto.order ∙ ap length order_is) c.requires.inside
    (taken_is_behind _ _ _ (subst (λ (taken : List Bool). IsTaken taken c.args.page) (sym c.self.view_is) c.requires.taken))
    (record {
      count = c.exchange.auto.places ∙ ap length places_is;
      here = c.exchange.ensures.page;
      other = rw (order_is, places_is) at c.exchange.ensures.other;
      others = rw (order_is, places_is) at c.exchange.ensures.others;
    })

pub invariant_of-self : goal.invariant_of-self
invariant_of-self c = rw (
  with_items_is c.self.inside.order c.exchange.new.order (omega (arith, c.exchange.auto.order, c.deref_mut.ensures.len)),
  with_items_is c.self.inside.places c.exchange.new.places (omega (arith, c.exchange.auto.places, c.deref_mut-2.ensures.len)),
) (moved c).kept

pub returns : goal.returns
returns c =
    ap (taken_pages (c.self.inside.free + 1)) (with_items_is c.self.inside.places c.exchange.new.places (omega (arith, c.exchange.auto.places, c.deref_mut-2.ensures.len)))
    ∙ (moved c).taken ∙ ap (λ (taken : List Bool). with_free taken c.args.page) c.self.view_is
