use Rattle.cow_pages.proofs.Protecting.{IsProtectedTo}
use Rattle.cow_pages.proofs.open.protect_all.Given as goal

abbrev pub invariant-loop-page : goal.invariant-loop-page
invariant-loop-page l = IsProtectedTo l.fn.allocator l.pages l.allocator l.page-index
