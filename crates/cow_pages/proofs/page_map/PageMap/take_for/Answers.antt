use Rattle.std.proofs.Common.{sym, subst, arith, refl}
use Rattle.std.proofs.Math.ListN.{set}
use Rattle.std.proofs.lemmas.Result.{err_from_is_err_and}
use Rattle.page_allocator.specs.TakenPages.{TakenPages}
use Rattle.cow_pages.specs.PageMap.{IsConsistent}
use Rattle.cow_pages.proofs.Consistency.{consistent_taken, taken_own, used_up}
use Rattle.cow_pages.proofs.ChangedParts.{changed_more, within_more, used_more}
use Rattle.cow_pages.proofs.page_map.PageMap.take_for.Goals as goal

pub returns-in_err-page-clause-outcome : goal.returns-in_err-page-clause-outcome
returns-in_err-page-clause-outcome c =
    let m = c.args.self.now in
    let p = err_from_is_err_and c.from_residual.result c.from_residual.ensures.1 in
    rw p.1 (record { used_up = used_up _ _ _ _ _ m.allocator m.consistent (c.in_err-page.ensures.full.0 refl); working = refl })

pub invariant_of-self-2 : goal.invariant_of-self-2
invariant_of-self-2 c =
    let m = c.args.self.now in
    let page = c.in_ok-page.page in
    let inside = c.in_ok-page.ensures.inside in
    record {
      consistent = subst (λ (marks : TakenPages). IsConsistent m.root.pages m.root.maps m.durable.items m.reserved (set m.working.items c.args.logical page) marks) (sym c.in_ok-page.ensures.taken)
          (consistent_taken _ _ _ _ _ m.allocator m.consistent c.args.logical c.requires.inside page inside.0 (omega (arith, inside.1, m.consistent.marks_count)) c.in_ok-page.ensures.free c.requires.no_own_page);
      parts = changed_more m.durable.items m.working.items m.changed_parts m.parts c.args.logical page c.requires.inside;
      within = within_more m.changed c.including-self.result m.durable.items m.working.items c.args.logical page m.within c.including-self.ensures;
      ended = m.ended;
      used = used_more m.working.items m.unused_from c.args.logical page m.used (omega (arith, c.requires.inside, m.consistent.working_count)) inside.0;
    }

pub returns-clause-outcome : goal.returns-clause-outcome
returns-clause-outcome c =
    let m = c.args.self.now in
    let inside = c.in_ok-page.ensures.inside in
    record {
      own = taken_own _ _ _ _ _ m.allocator m.consistent c.args.logical c.requires.inside c.in_ok-page.page inside.0 (omega (arith, inside.1, m.consistent.marks_count)) c.in_ok-page.ensures.free c.requires.no_own_page;
      working = refl;
    }
