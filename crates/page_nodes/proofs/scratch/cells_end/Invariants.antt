use Rattle.std.proofs.Common.{◌≡◌, ℕ, ◌+◌, ◌≤◌, List, length}
use Rattle.page_nodes.specs.Map.{Entry}
use Rattle.page_nodes.specs.Search.{AreCellsAt}
use Rattle.page_nodes.proofs.Scan.{Walks}
use Rattle.page_nodes.proofs.scratch.cells_end.Given as goal

abbrev pub invariant-loop-i : goal.invariant-loop-i
invariant-loop-i l = record {
  inside : l.end ≤ length l.bytes;
  order : l.at + l.i ≤ l.end;
  ahead : (cells : List Entry) (after : List ℕ) → AreCellsAt l.kind l.bytes l.at cells after → l.left ≡ length cells → Walks l.kind l.bytes l.end l.i l.left after;
}
