use Rattle.std.proofs.Common.{[], arith}
use Rattle.page_nodes.specs.declared.cell.NodeKind.TheVariants.{Leaf}
use Rattle.page_tree.proofs.Faults.{fails, caused_since}
use Rattle.page_tree.proofs.LeafJoins.{both_copied, holds_then}
use Rattle.page_tree.proofs.Made.{reads_then}
use Rattle.page_tree.proofs.Taking.{own_none}
use Rattle.page_tree.proofs.joining.copy_leaves.Goals as goal

pub returns-in_err-left-clause-copied : goal.returns-in_err-left-clause-copied
returns-in_err-left-clause-copied g c sound es fs left right =
    fails c.from_residual.result c.in_err-left.field-0.0 _ _ c.from_residual.ensures.1 (c.in_err-left.ensures.copied sound es left)

pub returns-in_err-right-clause-copied : goal.returns-in_err-right-clause-copied
returns-in_err-right-clause-copied g c sound es fs left right =
    let one = c.in_ok-left.ensures.only_reads sound in
    fails c.from_residual-in_err-right.result c.in_err-right.field-0.0 _ _ c.from_residual-in_err-right.ensures.1
    (caused_since g.P.Pages c.args.pages.now c.copy_leaf.new.pages c.copy_leaf-2.new.pages c.in_err-right.field-0.0 c.in_ok-left.ensures.preserved
    (c.in_err-right.ensures.copied one.sound fs (holds_then (g.P.Pages.state c.args.pages.now) (g.P.Pages.state c.copy_leaf.new.pages) c.args.leaves.right Leaf [] fs one right)))

pub returns-clause-copied : goal.returns-clause-copied
returns-clause-copied g c sound es fs left right =
    let one = c.in_ok-left.ensures.only_reads sound in
    let a = c.in_ok-left.ensures.copied sound es left in
    let b = c.in_ok-right.ensures.copied one.sound fs (holds_then (g.P.Pages.state c.args.pages.now) (g.P.Pages.state c.copy_leaf.new.pages) c.args.leaves.right Leaf [] fs one right) in
    both_copied es fs c.in_ok-left.left c.in_ok-right.right c.clear.new.self.items c.copy_leaf.new.cells.items c.copy_leaf-2.new.cells.items c.clear.ensures.items a b (omega (arith, c.if-len-gt-MAX_JOINED.false, c.len.ensures))

pub returns-in_err-right-clause-preserved : goal.returns-in_err-right-clause-preserved
returns-in_err-right-clause-preserved g c =
    g.P.Pages.preserved_joined c.args.pages.now c.copy_leaf.new.pages c.copy_leaf-2.new.pages c.in_ok-left.ensures.preserved c.in_err-right.ensures.preserved

pub returns-in_err-right-clause-only_reads : goal.returns-in_err-right-clause-only_reads
returns-in_err-right-clause-only_reads g c sound =
    let one = c.in_ok-left.ensures.only_reads sound in
    reads_then (g.P.Pages.state c.args.pages.now) (g.P.Pages.state c.copy_leaf.new.pages) (g.P.Pages.state c.copy_leaf-2.new.pages) one (c.in_err-right.ensures.only_reads one.sound)

pub returns-then-len-gt-MAX_JOINED-clause-preserved : goal.returns-then-len-gt-MAX_JOINED-clause-preserved
returns-then-len-gt-MAX_JOINED-clause-preserved g c =
    g.P.Pages.preserved_joined c.args.pages.now c.copy_leaf.new.pages c.copy_leaf-2.new.pages c.in_ok-left.ensures.preserved c.in_ok-right.ensures.preserved

pub returns-then-len-gt-MAX_JOINED-clause-only_reads : goal.returns-then-len-gt-MAX_JOINED-clause-only_reads
returns-then-len-gt-MAX_JOINED-clause-only_reads g c sound =
    let one = c.in_ok-left.ensures.only_reads sound in
    reads_then (g.P.Pages.state c.args.pages.now) (g.P.Pages.state c.copy_leaf.new.pages) (g.P.Pages.state c.copy_leaf-2.new.pages) one (c.in_ok-right.ensures.only_reads one.sound)

pub returns-then-len-gt-MAX_JOINED-clause-own : goal.returns-then-len-gt-MAX_JOINED-clause-own
returns-then-len-gt-MAX_JOINED-clause-own g c =
    own_none g.P.Pages c.args.pages.now c.copy_leaf.new.pages c.copy_leaf-2.new.pages c.in_ok-left.ensures.own c.in_ok-right.ensures.own

pub returns-clause-preserved : goal.returns-clause-preserved
returns-clause-preserved g c =
    g.P.Pages.preserved_joined c.args.pages.now c.copy_leaf.new.pages c.copy_leaf-2.new.pages c.in_ok-left.ensures.preserved c.in_ok-right.ensures.preserved

pub returns-clause-only_reads : goal.returns-clause-only_reads
returns-clause-only_reads g c sound =
    let one = c.in_ok-left.ensures.only_reads sound in
    reads_then (g.P.Pages.state c.args.pages.now) (g.P.Pages.state c.copy_leaf.new.pages) (g.P.Pages.state c.copy_leaf-2.new.pages) one (c.in_ok-right.ensures.only_reads one.sound)

pub returns-clause-own : goal.returns-clause-own
returns-clause-own g c =
    own_none g.P.Pages c.args.pages.now c.copy_leaf.new.pages c.copy_leaf-2.new.pages c.in_ok-left.ensures.own c.in_ok-right.ensures.own
