use Rattle.std.proofs.Common.{◌≡◌, ℕ, ◌≤◌, List, ◌∷◌, length}
use Rattle.page_nodes.specs.declared.cell.NodeKind.TheVariants.{Inner}
use Rattle.page_nodes.specs.Map.{Entry}
use Rattle.page_nodes.specs.Node.{IsKeySize, IsNode, zeros_after}
use Rattle.page_nodes.proofs.Scan.{Pairs}
use Rattle.page_nodes.proofs.search.pair_for.Given as goal

abbrev pub invariant-loop-i : goal.invariant-loop-i
invariant-loop-i l = record {
  inside : l.right.end ≤ 4096;
  key : IsKeySize l.right.key.now;
  child : length l.right.payload.now ≡ 4;
  ahead : (first : List ℕ) (c : Entry) (cells : List Entry) → IsNode Inner first (c ∷ cells) l.bytes
      → Pairs l.bytes l.key first c cells (zeros_after Inner first (c ∷ cells)) l.left l.right.key.now l.right.payload.now l.right.end l.i l.count;
}
