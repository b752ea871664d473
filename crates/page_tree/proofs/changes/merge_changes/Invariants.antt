use Rattle.std.proofs.Common.{◌≡◌, ◌≤◌, ℕ, List, Option, [], ◌∷◌, length}
use Rattle.page_nodes.specs.Map.{Entry}
use Rattle.page_nodes.specs.Merge.{AreMerged}
use Rattle.store.specs.Records.{Changes}
use Rattle.page_tree.specs.Forest.{IsUnder}
use Rattle.page_tree.specs.Bounds.{IsBound}
use Rattle.page_tree.specs.Changed.{Change}
use Rattle.page_tree.proofs.LeafChanges.{Merging}
use Rattle.page_tree.proofs.changes.merge_changes.Given as goal

-- the changes so far are made
abbrev pub invariant-loop-made : goal.invariant-loop-made
invariant-loop-made l = record {
  most : l.made ≤ length l.changes;
  merging : (es : List Entry) (high : Option (List ℕ)) (first : Change) (rest : Changes) → l.changes ≡ first ∷ rest → IsBound l.bound high → IsUnder first.0 high
      → AreMerged l.bytes l.fn.cells.items [] es l.fn.begun → Merging l.bytes l.cells.items es high first l.changes l.made l.merge l.last;
}
