use Rattle.std.proofs.Common.{◌≤◌, get_or, inl, refl, sym, subst, arith}
use Rattle.std.proofs.Math.ListN.{set}
use Rattle.page_allocator.specs.TakenPages.{TakenPages}
use Rattle.cow_pages.specs.PageMap.{IsConsistent}
use Rattle.cow_pages.proofs.Consistency.{in_working_taken}
use Rattle.cow_pages.proofs.Reserving.{at_index, consistent_unreserved, consistent_unchanged}
use Rattle.cow_pages.proofs.page_map.PageMap.unreserve_map_page.Goals as goal

pub invariant_of-self : goal.invariant_of-self
invariant_of-self c =
    let m = c.args.self.now in
    let j = c.args.index in
    let given = consistent_unreserved _ _ _ _ _ m.allocator m.consistent j c.requires.inside (omega (arith, c.if-page-ne0.true)) in
    record {
      consistent = subst (λ (marks : TakenPages). IsConsistent m.root.pages m.root.maps m.durable.items (set m.reserved j 0) m.working.items marks) (sym c.give.ensures) given;
      parts = m.parts;
      within = m.within;
      ended = m.ended;
      used = m.used;
    }

pub give-requires-clause-taken : goal.give-requires-clause-taken
give-requires-clause-taken c =
    let m = c.args.self.now in
    let j = c.args.index in
    let some : 1 ≤ get_or m.reserved j 0 = omega (arith, c.if-page-ne0.true) in
    in_working_taken _ _ _ _ _ m.allocator m.consistent (get_or m.reserved j 0) some (m.consistent.reserved_inside j) (inl (at_index m.reserved j (get_or m.reserved j 0) refl some))

pub invariant_of-self-else-page-ne0 : goal.invariant_of-self-else-page-ne0
invariant_of-self-else-page-ne0 c =
    let m = c.args.self.now in
    record {
      consistent = consistent_unchanged _ _ _ _ _ m.allocator m.consistent c.args.index c.requires.inside c.if-page-ne0.false;
      parts = m.parts;
      within = m.within;
      ended = m.ended;
      used = m.used;
    }
