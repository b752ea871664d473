use Rattle.std.proofs.Common.{ℕ, ◌≤◌, List}
use Rattle.page_nodes.specs.declared.cell.NodeKind.TheVariants.{Leaf}
use Rattle.page_nodes.specs.Map.{Entry}
use Rattle.page_nodes.specs.Node.{IsNode, zeros_after}
use Rattle.page_nodes.proofs.Scan.{Seeks}
use Rattle.page_nodes.proofs.search.entry_from.Given as goal

abbrev pub invariant-loop-i : goal.invariant-loop-i
invariant-loop-i l = record {
  inside : l.at ≤ 4096;
  ahead : (first : List ℕ) (cells : List Entry) → IsNode Leaf first cells l.bytes → Seeks Leaf l.bytes l.key cells (zeros_after Leaf first cells) l.at l.i l.count;
}
