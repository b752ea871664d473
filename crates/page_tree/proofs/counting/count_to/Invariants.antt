use Rattle.std.proofs.Common.{List}
use Rattle.page_nodes.specs.Map.{Entry}
use Rattle.page_tree.specs.Calls.{LeavesPages}
use Rattle.page_tree.specs.Forest.{Represents}
use Rattle.page_tree.proofs.Spans.{IsCountedTo}
use Rattle.page_tree.proofs.counting.count_to.Given as goal

abbrev pub invariant-loop : goal.invariant-loop
invariant-loop g l = record {
  preserved : g.P.Pages.preserved l.fn.pages l.pages;
  works : g.P.Pages.works l.fn.pages → g.P.Pages.works l.pages;
  only_reads : LeavesPages g.P.Pages l.fn.pages l.pages;
  counted : (g.P.Pages.state l.fn.pages).sound → (map : List Entry) → Represents map (g.P.Pages.state l.fn.pages).array → IsCountedTo map l.start l.stop l.count l.walk;
}
