use Rattle.std.proofs.Common.{sym, arith}
use Rattle.cow_pages.proofs.Switched.{consistent_switched}
use Rattle.cow_pages.proofs.ChangedParts.{changed_swapped}
use Rattle.cow_pages.proofs.page_map.PageMap.swap_roots.Goals as goal

pub invariant_of-self-clause-consistent : goal.invariant_of-self-clause-consistent
invariant_of-self-clause-consistent c =
    let m = c.args.self.now in
    let next = c.requires.next in
    rw (next.pages_is, c.swap.ensures.x_after, c.swap.ensures.y_after)
    (consistent_switched m.root.pages m.root.maps m.durable.items m.reserved m.working.items m.allocator m.consistent
    c.args.next.maps next.maps next.used c.replaced-self.result c.replaced-self.ensures)

pub invariant_of-self-clause-parts : goal.invariant_of-self-clause-parts
invariant_of-self-clause-parts c =
    let m = c.args.self.now in
    rw (c.swap.ensures.x_after, c.swap.ensures.y_after) (changed_swapped m.durable.items m.working.items m.changed_parts m.parts)

pub invariant_of-self-clause-within : goal.invariant_of-self-clause-within
invariant_of-self-clause-within c =
    let m = c.args.self.now in
    rw (c.swap.ensures.x_after, c.swap.ensures.y_after) (λ l outside. sym (m.within l outside))

pub invariant_of-self-clause-ended : goal.invariant_of-self-clause-ended
invariant_of-self-clause-ended c = rw (c.swap.ensures.x_after) c.requires.next.beyond

pub invariant_of-self-clause-used : goal.invariant_of-self-clause-used
invariant_of-self-clause-used c l below = absurd (omega (arith, below))
