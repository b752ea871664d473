use Rattle.std.proofs.Common.{List, ℕ, [], ap, sym}
use Rattle.page_nodes.specs.Map.{rest_entries}
use Rattle.page_tree.proofs.Stepping.{none_left}
use Rattle.page_tree.proofs.tree_walk.TreeWalk.from_key.Goals as goal

pub returns : goal.returns
returns c map = record {
  in_leaf = λ some. absurd (none_left c.new.result (c.new.ensures.place []) some);
  at_key = λ none. ap (λ (k : List ℕ). rest_entries k map) (sym c.in_ok-from_slice.ensures.items);
}
