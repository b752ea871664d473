use Rattle.std.proofs.Common.{◌≤◌, ◌<◌, List, length}
use Rattle.page_nodes.specs.Map.{Entry}
use Rattle.page_tree.specs.Kept.{AreLeft}
use Rattle.page_tree.proofs.Spans.{AreUpTo}
use Rattle.page_tree.proofs.tree_walk.last_cell.Given as goal

abbrev pub invariant-loop-passed : goal.invariant-loop-passed
invariant-loop-passed l = record {
  inside : l.at ≤ 4096;
  here : (cells : List Entry) → AreLeft cells l.cursor → 0 < length cells → AreUpTo cells l.at l.passed l.cursor;
}
