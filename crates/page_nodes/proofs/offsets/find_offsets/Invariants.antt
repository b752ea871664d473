use Rattle.std.proofs.Common.{◌≡◌, ℕ, ◌≤◌, List, length, take}
use Rattle.page_nodes.specs.Map.{Entry}
use Rattle.page_nodes.specs.Node.{IsNode, zeros_after}
use Rattle.page_nodes.specs.Offsets.{HasOffsets, AreInside}
use Rattle.page_nodes.proofs.Starts.{Lists}
use Rattle.page_nodes.proofs.offsets.find_offsets.Given as goal

abbrev pub invariant-loop-i : goal.invariant-loop-i
invariant-loop-i l = record {
  size : length l.offsets ≡ 103;
  most : l.count ≤ 103;
  within : l.at ≤ 4096;
  inside : AreInside (take l.count l.offsets);
  listed : (first : List ℕ) (cells : List Entry) → IsNode l.kind first cells l.bytes
      → Lists l.kind l.bytes l.last cells (zeros_after l.kind first cells) l.at l.i l.cells × HasOffsets l.kind l.bytes cells (zeros_after l.kind first cells) (take l.count l.offsets);
}
