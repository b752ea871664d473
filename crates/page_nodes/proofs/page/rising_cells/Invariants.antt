use Rattle.std.proofs.Common.{ℕ, ◌≤◌, List}
use Rattle.page_nodes.specs.Map.{Entry, IsRising}
use Rattle.page_nodes.specs.Node.{IsNode, zeros_after, start}
use Rattle.page_nodes.proofs.Whole.{ReadsOn, Rises}
use Rattle.page_nodes.proofs.Ends.{Passes}
use Rattle.page_nodes.proofs.page.rising_cells.Given as goal

abbrev pub invariant-loop-i : goal.invariant-loop-i
invariant-loop-i l = record {
  begins : start l.kind ≤ l.last.end;
  inside : l.last.end ≤ 4096;
  reads : ReadsOn l.kind l.bytes l.last.key.now l.last.payload.now l.last.end l.i;
  rises : (first : List ℕ) (cells : List Entry) → IsNode l.kind first cells l.bytes → IsRising cells → Rises l.kind l.bytes l.last.key.now l.last.payload.now l.last.end l.i l.count (zeros_after l.kind first cells);
  ends : (first : List ℕ) (cells : List Entry) → IsNode l.kind first cells l.bytes → Passes l.kind l.bytes cells l.first l.last.key.now l.last.end l.i l.count (zeros_after l.kind first cells);
}
