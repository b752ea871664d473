use Rattle.std.proofs.Common.{◌≡◌, ◌+◌, ◌≤◌, List, length}
use Rattle.page_nodes.specs.Map.{Entry}
use Rattle.page_nodes.specs.Node.{cells_bytes, HasSizes, start}
use Rattle.page_nodes.specs.Scratch.{max_cell_length}
use Rattle.page_nodes.proofs.Halving.{Cuts}
use Rattle.page_nodes.proofs.scratch.middle.Given as goal

abbrev pub invariant-loop-i : goal.invariant-loop-i
invariant-loop-i l = record {
  inside : l.at ≤ length l.cells;
  fits : start l.kind + l.at ≤ 4096;
  some : l.i ≤ l.at;
  ahead : (cs : List Entry) → HasSizes l.kind cs → l.cells ≡ cells_bytes l.kind cs → start l.kind + length l.cells ≤ 4096 + max_cell_length l.kind → Cuts l.kind l.cells cs l.at l.i;
}
