use Rattle.std.proofs.Common.{◌≡◌, subst}
use Rattle.page_nodes.specs.declared.cell.NodeKind.{NodeKind}
use Rattle.page_nodes.specs.declared.cell.NodeKind.TheVariants.{Leaf, Inner}
use Rattle.page_nodes.specs.Node.{IsWhole}
use Rattle.page_nodes.proofs.Whole.{kind_same}
use Rattle.page_tree.proofs.Descent.{numbered_of}
use Rattle.page_tree.proofs.CheckTrees.{read_yes, read_no, mark_yes, mark_no}
use Rattle.page_tree.proofs.CheckSteps.{not_alone, not_used, no_leaf, a_leaf}
use Rattle.page_tree.proofs.check.check_leaf_alone.Goals as goal

pub returns-then-not-mark-clause-checked : goal.returns-then-not-mark-clause-checked
returns-then-not-mark-clause-checked g c sound = not_alone (g.P.Pages.state c.args.pages.now).array (numbered_of g.P.Pages c.args.pages.now sound) c.args.met.now c.mark.new.met (mark_no 0 c.mark.result c.args.met.now c.mark.new.met c.if-not-mark.true c.mark.ensures)

pub returns-then-not-branch-clause-checked : goal.returns-then-not-branch-clause-checked
returns-then-not-branch-clause-checked g c sound =
    not_used (g.P.Pages.state c.args.pages.now).array (numbered_of g.P.Pages c.args.pages.now sound) c.args.met.now c.mark.new.met (read_no _ c.read_if_used.new.bytes c.in_ok-read_if_used.field-0 c.if-not-branch.true (c.in_ok-read_if_used.ensures.found sound))

pub returns-in-Some-Leaf-clause-checked : goal.returns-in-Some-Leaf-clause-checked
returns-in-Some-Leaf-clause-checked g c sound =
    let here = read_yes _ c.read_if_used.new.bytes c.in_ok-read_if_used.field-0 c.if-not-branch.false (c.in_ok-read_if_used.ensures.found sound) in
    a_leaf (g.P.Pages.state c.args.pages.now).array (numbered_of g.P.Pages c.args.pages.now sound) c.args.met.now c.read_if_used.new.bytes here c.mark.new.met
    (mark_yes 0 c.mark.result c.args.met.now c.mark.new.met c.if-not-mark.false c.mark.ensures) (subst (λ (k : NodeKind). IsWhole c.read_if_used.new.bytes k) c.in-Some-Leaf.field-0-is c.in-Some-Leaf.ensures.node)

pub returns-in-None-clause-checked : goal.returns-in-None-clause-checked
returns-in-None-clause-checked g c sound =
    let here = read_yes _ c.read_if_used.new.bytes c.in_ok-read_if_used.field-0 c.if-not-branch.false (c.in_ok-read_if_used.ensures.found sound) in
    no_leaf (g.P.Pages.state c.args.pages.now).array (numbered_of g.P.Pages c.args.pages.now sound) c.args.met.now c.read_if_used.new.bytes here c.mark.new.met (c.node_kind.ensures.none c.in-None.is Leaf)

pub returns-in-Some-Inner-clause-checked : goal.returns-in-Some-Inner-clause-checked
returns-in-Some-Inner-clause-checked g c sound =
    let here = read_yes _ c.read_if_used.new.bytes c.in_ok-read_if_used.field-0 c.if-not-branch.false (c.in_ok-read_if_used.ensures.found sound) in
    let inner = subst (λ (k : NodeKind). IsWhole c.read_if_used.new.bytes k) c.in-Some-Inner.field-0-is c.in-Some-Inner.ensures.node in
    no_leaf (g.P.Pages.state c.args.pages.now).array (numbered_of g.P.Pages c.args.pages.now sound) c.args.met.now c.read_if_used.new.bytes here c.mark.new.met
    (λ w. let bad : Leaf ≡ Inner = kind_same Leaf Inner c.read_if_used.new.bytes w.first inner.first w.cells inner.cells w.node inner.node in cc)
