use Rattle.std.proofs.Common.{◌+◌, sym, subst}
use Rattle.page_allocator.specs.TakenPages.{TakenPages}
use Rattle.cow_pages.proofs.Protecting.{IsProtectedTo, protected_none, protected_more, protected_all}
use Rattle.cow_pages.proofs.open.protect_all.Goals as goal

pub loop-page-init : goal.loop-page-init
loop-page-init c = protected_none c.args.allocator.now c.args.pages.now

pub loop-page-preserved : goal.loop-page-preserved
loop-page-preserved c = subst (λ (m : TakenPages). IsProtectedTo c.args.allocator.now c.args.pages.now m (c.loop-page.page-index + 1)) (sym c.protect-is_new.ensures.taken) (protected_more _ _ _ _ c.loop-page.invariant)

pub returns-clause-taken : goal.returns-clause-taken
returns-clause-taken c = protected_all _ _ _ c.loop-page.page-index c.loop-page-test.false c.loop-page.invariant
