use Rattle.std.proofs.Common.{◌≡◌, ℕ, ◌≤◌, List, length}
use Rattle.page_nodes.specs.Map.{Entry}
use Rattle.page_nodes.specs.Search.{AreCellsAt}
use Rattle.page_nodes.proofs.Scan.{Walks}
use Rattle.page_tree.proofs.cuts.cells_end.Given as goal

abbrev pub invariant-loop-i : goal.invariant-loop-i
invariant-loop-i l = record {
  inside : l.end ≤ length l.bytes;
  ahead : (cells : List Entry) (after : List ℕ) → AreCellsAt l.kind l.bytes 0 cells after → l.count ≡ length cells → Walks l.kind l.bytes l.end l.i l.count after;
}
