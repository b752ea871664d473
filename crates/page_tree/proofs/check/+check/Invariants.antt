use Rattle.std.proofs.Common.{◌≡◌, ℕ, ◌+◌, ◌*◌, ◌≤◌, List, length}
use Rattle.page_nodes.specs.declared.cell.NodeKind.TheVariants.{Inner}
use Rattle.page_nodes.specs.Map.{Entry}
use Rattle.page_nodes.specs.Node.{IsNode}
use Rattle.page_tree.specs.Check.{OnlyReadsBelow}
use Rattle.page_tree.proofs.CheckSteps.{Progress}
use Rattle.page_tree.proofs.check.+check.Given as goal

abbrev pub invariant-check_children-loop-i : goal.invariant-check_children-loop-i
invariant-check_children-loop-i g l = record {
  inside : l.at ≤ 4096;
  count : length l.met ≡ 65536;
  reads : OnlyReadsBelow g.P.Pages l.initial.pages l.pages;
  progress : (g.P.Pages.state l.initial.pages).sound → (first : List ℕ) (cs : List Entry) → IsNode Inner first cs l.bytes
      → Progress (g.P.Pages.state l.initial.pages).array l.initial.met l.met l.bytes l.depth l.low first cs l.key l.child l.at l.i l.i-end;
}

abbrev pub decreases-check_below : goal.decreases-check_below
decreases-check_below g l = 2 * l.depth

abbrev pub decreases-check_children : goal.decreases-check_children
decreases-check_children g l = 2 * l.depth + 1
