use Rattle.std.proofs.Common.{ℕ, ◌≤◌, List}
use Rattle.page_nodes.specs.declared.cell.NodeKind.TheVariants.{Inner}
use Rattle.page_nodes.specs.Map.{Entry}
use Rattle.page_nodes.specs.Node.{IsNode, zeros_after}
use Rattle.page_nodes.proofs.Scan.{Branches}
use Rattle.page_nodes.proofs.search.turn_for.Given as goal

abbrev pub invariant-loop-i : goal.invariant-loop-i
invariant-loop-i l = record {
  inside : l.at ≤ 4096;
  ahead : (first : List ℕ) (cells : List Entry) → IsNode Inner first cells l.bytes → Branches l.bytes l.key first cells (zeros_after Inner first cells) l.child l.at l.i l.count;
}
