use Rattle.std.proofs.Common.{sym, subst, arith, refl}
use Rattle.std.proofs.Math.ListN.{set}
use Rattle.std.proofs.lemmas.Result.{err_from_is_err_and}
use Rattle.page_allocator.specs.TakenPages.{TakenPages}
use Rattle.cow_pages.specs.PageMap.{IsConsistent}
use Rattle.cow_pages.proofs.Consistency.{used_up}
use Rattle.cow_pages.proofs.Reserving.{consistent_reserved}
use Rattle.std.proofs.lemmas.List.{get_or-set_other}
use Rattle.cow_pages.proofs.Answered.{never_ok}
use Rattle.cow_pages.proofs.page_map.PageMap.reserve_map_page.Goals as goal

pub returns-in_err-page-clause-full : goal.returns-in_err-page-clause-full
returns-in_err-page-clause-full c =
    let m = c.args.self.now in
    let p = err_from_is_err_and c.from_residual.result c.from_residual.ensures.1 in
    rw p.1 (refl, used_up _ _ _ _ _ m.allocator m.consistent (c.in_err-page.ensures.full.0 refl))

pub invariant_of-self-2 : goal.invariant_of-self-2
invariant_of-self-2 c =
    let m = c.args.self.now in
    let page = c.in_ok-page.page in
    let inside = c.in_ok-page.ensures.inside in
    record {
      consistent = subst (λ (marks : TakenPages). IsConsistent m.root.pages m.root.maps m.durable.items (set m.reserved c.args.index page) m.working.items marks) (sym c.in_ok-page.ensures.taken)
          (consistent_reserved _ _ _ _ _ m.allocator m.consistent c.args.index c.requires.inside page inside.0 (omega (arith, inside.1, m.consistent.marks_count)) c.in_ok-page.ensures.free c.requires.unreserved);
      parts = m.parts;
      within = m.within;
      ended = m.ended;
      used = m.used;
    }

pub returns-in_err-page-clause-reserved : goal.returns-in_err-page-clause-reserved
returns-in_err-page-clause-reserved c = never_ok _ _ _ (err_from_is_err_and c.from_residual.result c.from_residual.ensures.1).1

pub returns-in_err-page-clause-others : goal.returns-in_err-page-clause-others
returns-in_err-page-clause-others c j other = refl

pub returns-in_err-page-clause-preserved : goal.returns-in_err-page-clause-preserved
returns-in_err-page-clause-preserved c = record { root = refl; durable = refl; working = refl }

pub returns-clause-preserved : goal.returns-clause-preserved
returns-clause-preserved c = record { root = refl; durable = refl; working = refl }

pub returns-clause-others : goal.returns-clause-others
returns-clause-others c j other = get_or-set_other c.args.self.now.reserved c.args.index j c.in_ok-page.page 0 other

pub returns-clause-full : goal.returns-clause-full
returns-clause-full c = tt
