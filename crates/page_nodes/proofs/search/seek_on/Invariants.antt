use Rattle.std.proofs.Common.{◌≡◌, ℕ, ◌+◌, ◌≤◌, List, length}
use Rattle.page_nodes.specs.Map.{Entry}
use Rattle.page_nodes.specs.Search.{AreCellsAt}
use Rattle.page_nodes.proofs.Scan.{Seeks}
use Rattle.page_nodes.proofs.search.seek_on.Given as goal

abbrev pub invariant-loop-i : goal.invariant-loop-i
invariant-loop-i l = record {
  begins : l.begin + l.i ≤ l.at;
  inside : l.at ≤ 4096;
  ahead : (cells : List Entry) (after : List ℕ) → AreCellsAt l.kind l.bytes l.begin cells after → l.count ≡ length cells → Seeks l.kind l.bytes l.key cells after l.at l.i l.count;
}
