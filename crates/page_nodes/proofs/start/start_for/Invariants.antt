use Rattle.std.proofs.Common.{ℕ, ◌-◌, ◌≤◌, List, length}
use Rattle.page_nodes.specs.Map.{Entry}
use Rattle.page_nodes.specs.Node.{IsNode, zeros_after}
use Rattle.page_nodes.specs.Search.{IsStart}
use Rattle.page_nodes.proofs.start.start_for.Given as goal

abbrev pub invariant-loop-low : goal.invariant-loop-low
invariant-loop-low l = record {
  order : l.high ≤ length l.offsets;
  within : l.start.at ≤ 4096;
  starts : (first : List ℕ) (cells : List Entry) → IsNode l.kind first cells l.bytes → IsStart l.kind l.bytes l.key cells (zeros_after l.kind first cells) l.start.at l.start.index;
}

abbrev pub decreases-loop-low : goal.decreases-loop-low
decreases-loop-low l = l.high - l.low
