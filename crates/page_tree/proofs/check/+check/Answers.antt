use Rattle.std.proofs.Common.{◌-◌, Bool, true, false, Some, [], ◌∷◌, ◌∙◌, subst, arith}
use Rattle.page_nodes.specs.declared.cell.NodeKind.{NodeKind}
use Rattle.page_nodes.specs.declared.cell.NodeKind.TheVariants.{Inner}
use Rattle.page_nodes.specs.Node.{four_bytes, IsWhole, zeros_after}
use Rattle.page_nodes.proofs.Scan.{unread}
use Rattle.page_tree.specs.Check.{AreChecked}
use Rattle.page_nodes.specs.Map.{lent_bytes}
use Rattle.page_tree.proofs.Faults.{fails, caused_since, gives_as, gives_since}
use Rattle.page_tree.proofs.Descent.{numbered_of}
use Rattle.page_tree.proofs.CheckTrees.{read_yes, read_no, mark_yes, mark_no, checked_same, refused_met, refused_unused, refused_node, refused_deep_leaf, leaf_checked, inner_checked}
use Rattle.page_tree.proofs.CheckSteps.{reads_none, reads_joined, begins_check, goes_on, stops, ends, some_left}
use Rattle.page_tree.proofs.check.+check.Goals as goal

pub check_below-returns-then-not-mark-clause-checked : goal.check_below-returns-then-not-mark-clause-checked
check_below-returns-then-not-mark-clause-checked g t c sound =
    refused_met (g.P.Pages.state c.args.pages.now).array (numbered_of g.P.Pages c.args.pages.now sound) c.args.met.now c.args.page c.args.depth c.args.low.now (lent_bytes c.args.high) c.ranges.page.fits c.mark.new.met
    (mark_no c.args.page c.mark.result c.args.met.now c.mark.new.met c.if-not-mark.true c.mark.ensures)

pub check_below-returns-then-not-branch-clause-checked : goal.check_below-returns-then-not-branch-clause-checked
check_below-returns-then-not-branch-clause-checked g t c sound =
    refused_unused (g.P.Pages.state c.args.pages.now).array (numbered_of g.P.Pages c.args.pages.now sound) c.args.met.now c.args.page c.args.depth c.args.low.now (lent_bytes c.args.high) c.ranges.page.fits
    (read_no _ c.read_if_used.new.bytes c.in_ok-read_if_used.field-0 c.if-not-branch.true (c.in_ok-read_if_used.ensures.found sound))

pub check_below-returns-then-depth-eq0-clause-checked : goal.check_below-returns-then-depth-eq0-clause-checked
check_below-returns-then-depth-eq0-clause-checked g t c sound =
    gives_as g.P.Pages c.args.pages.now c.check_leaf.new.pages c.check_leaf.result _ _
    (λ whole is.
    leaf_checked (g.P.Pages.state c.args.pages.now).array (numbered_of g.P.Pages c.args.pages.now sound) c.args.met.now c.args.page c.args.depth c.args.low.now (lent_bytes c.args.high) c.ranges.page.fits c.mark.new.met
    (mark_yes c.args.page c.mark.result c.args.met.now c.mark.new.met c.if-not-mark.false c.mark.ensures) c.if-depth-eq0.true whole is)
    (c.check_leaf.ensures.checked sound)

pub check_below-returns-in-Some-Leaf-clause-checked : goal.check_below-returns-in-Some-Leaf-clause-checked
check_below-returns-in-Some-Leaf-clause-checked g t c sound =
    let here = read_yes _ c.read_if_used.new.bytes c.in_ok-read_if_used.field-0 c.if-not-branch.false (c.in_ok-read_if_used.ensures.found sound) in
    let w = subst (λ (k : NodeKind). IsWhole c.read_if_used.new.bytes k) c.in-Some-Leaf.field-0-is c.in-Some-Leaf.ensures.node in
    refused_deep_leaf (g.P.Pages.state c.args.pages.now).array (numbered_of g.P.Pages c.args.pages.now sound) c.args.met.now c.args.page c.args.depth c.args.low.now (lent_bytes c.args.high) c.ranges.page.fits c.read_if_used.new.bytes here w (omega (arith, c.if-depth-eq0.false))

pub check_below-returns-in-None-clause-checked : goal.check_below-returns-in-None-clause-checked
check_below-returns-in-None-clause-checked g t c sound =
    let here = read_yes _ c.read_if_used.new.bytes c.in_ok-read_if_used.field-0 c.if-not-branch.false (c.in_ok-read_if_used.ensures.found sound) in
    refused_node (g.P.Pages.state c.args.pages.now).array (numbered_of g.P.Pages c.args.pages.now sound) c.args.met.now c.args.page c.args.depth c.args.low.now (lent_bytes c.args.high) c.ranges.page.fits c.read_if_used.new.bytes here (c.node_kind.ensures.none c.in-None.is)

pub check_below-returns-in-Some-Inner-clause-checked : goal.check_below-returns-in-Some-Inner-clause-checked
check_below-returns-in-Some-Inner-clause-checked g t c sound =
    let here = read_yes _ c.read_if_used.new.bytes c.in_ok-read_if_used.field-0 c.if-not-branch.false (c.in_ok-read_if_used.ensures.found sound) in
    let w = subst (λ (k : NodeKind). IsWhole c.read_if_used.new.bytes k) c.in-Some-Inner.field-0-is c.in-Some-Inner.ensures.node in
    let reads = c.in_ok-read_if_used.ensures.reads in
    let only_reads = reads.leaves sound in
    gives_since g.P.Pages c.args.pages.now c.read_if_used.new.pages c.check_children.new.pages c.check_children.result _ _ reads.preserved
    (λ whole is.
    inner_checked (g.P.Pages.state c.args.pages.now).array (numbered_of g.P.Pages c.args.pages.now sound) c.args.met.now c.args.page c.args.depth c.args.low.now (lent_bytes c.args.high) c.ranges.page.fits c.read_if_used.new.bytes here c.mark.new.met (mark_yes c.args.page c.mark.result c.args.met.now c.mark.new.met c.if-not-mark.false c.mark.ensures)
    c.check_children.new.met (c.args.depth - 1) (omega (arith, c.if-depth-eq0.false)) w whole
    (checked_same (g.P.Pages.state c.args.pages.now).array (g.P.Pages.state c.read_if_used.new.pages).array c.mark.new.met c.check_children.new.met (c.args.depth - 1) (lent_bytes c.args.high) _ whole only_reads.same is))
    (c.check_children.ensures.checked only_reads.sound w.first w.cells w.node)

pub check_children-loop-i-init : goal.check_children-loop-i-init
check_children-loop-i-init g t c = record {
  inside = c.in-Some.ensures.ends;
  count = c.requires;
  reads = reads_none g.P.Pages c.args.pages.now (g.met.P.Pages.writes_nothing_same c.args.pages.now);
  progress = λ sound first cs node.
      begins_check (g.P.Pages.state c.args.pages.now).array c.args.met.now c.args.bytes.now c.args.depth c.args.low.now first cs c.first_child-child.result c.in-Some.cells.at c.in-Some.cells.index c.in-Some.cells.left
      (c.in-Some.ensures.sought first cs node) (c.first_child-child.ensures first cs node);
}

pub check_children-cell_at-requires : goal.check_children-cell_at-requires
check_children-cell_at-requires g t c = omega (arith, c.loop-i.invariant.inside, c.told-bytes)

pub check_children-returns-in_default-cell_at-clause-reads : goal.check_children-returns-in_default-cell_at-clause-reads
check_children-returns-in_default-cell_at-clause-reads g t c = c.loop-i.invariant.reads

pub check_children-returns-in_default-cell_at-clause-checked : goal.check_children-returns-in_default-cell_at-clause-checked
check_children-returns-in_default-cell_at-clause-checked g t c sound first cs node =
    let p = c.loop-i.invariant.progress sound first cs node in
    absurd (unread Inner c.args.bytes.now c.loop-i.at p.rest (zeros_after Inner first cs) p.here (some_left (g.P.Pages.state c.args.pages.now).array c.args.met.now c.loop-i.met c.args.bytes.now c.args.depth c.args.low.now first cs c.loop-i.key.now c.loop-i.child c.loop-i.at c.loop-i.i _ (c.loop-i.invariant.progress sound first cs node) c.loop-i-test.true) (c.cell_at.ensures.none c.in_default-cell_at.is))

pub check_children-returns-in_err-check_below-clause-reads : goal.check_children-returns-in_err-check_below-clause-reads
check_children-returns-in_err-check_below-clause-reads g t c = reads_joined g.P.Pages c.args.pages.now c.loop-i.pages c.check_below.new.pages c.loop-i.invariant.reads c.in_err-check_below.ensures.reads

pub check_children-returns-in_err-check_below-clause-checked : goal.check_children-returns-in_err-check_below-clause-checked
check_children-returns-in_err-check_below-clause-checked g t c sound first cs node =
    let reads = c.loop-i.invariant.reads in
    fails c.from_residual.result c.in_err-check_below.field-0.0 _ _ c.from_residual.ensures.1
    (caused_since g.P.Pages c.args.pages.now c.loop-i.pages c.check_below.new.pages c.in_err-check_below.field-0.0 reads.preserved (c.in_err-check_below.ensures.checked (reads.leaves sound).sound))

pub check_children-returns-then-not-branch-clause-reads : goal.check_children-returns-then-not-branch-clause-reads
check_children-returns-then-not-branch-clause-reads g t c = reads_joined g.P.Pages c.args.pages.now c.loop-i.pages c.check_below.new.pages c.loop-i.invariant.reads c.in_ok-check_below.ensures.reads

pub check_children-returns-then-not-branch-clause-checked : goal.check_children-returns-then-not-branch-clause-checked
check_children-returns-then-not-branch-clause-checked g t c sound first cs node =
    let only_reads = c.loop-i.invariant.reads.leaves sound in
    let cell = c.in-Some-cell_at.cell in
    stops (g.P.Pages.state c.args.pages.now).array c.args.met.now c.loop-i.met c.args.bytes.now c.args.depth c.args.low.now first cs c.loop-i.key.now c.loop-i.child c.loop-i.at c.loop-i.i _ (c.loop-i.invariant.progress sound first cs node) cell.key.now cell.payload.now cell.end c.loop-i-test.true c.in-Some-cell_at.ensures.found (numbered_of g.P.Pages c.args.pages.now sound) c.check_below.new.met (lent_bytes c.args.high)
    (checked_same (g.P.Pages.state c.args.pages.now).array (g.P.Pages.state c.loop-i.pages).array c.loop-i.met c.check_below.new.met c.args.depth (Some cell.key.now) ((c.loop-i.key.now, four_bytes c.loop-i.child) ∷ []) false only_reads.same
    (subst (λ (whole : Bool). AreChecked (g.P.Pages.state c.loop-i.pages).array c.loop-i.met c.check_below.new.met c.args.depth (Some cell.key.now) ((c.loop-i.key.now, four_bytes c.loop-i.child) ∷ []) whole) c.if-not-branch.true
    (c.in_ok-check_below.ensures.checked only_reads.sound)))

pub check_children-loop-i-preserved : goal.check_children-loop-i-preserved
check_children-loop-i-preserved g t c =
    let reads = c.loop-i.invariant.reads in
    let cell = c.in-Some-cell_at.cell in
    record {
      inside = omega (arith, c.in-Some-cell_at.ensures.found.inside, c.told-bytes);
      count = c.check_below.auto.met ∙ c.loop-i.invariant.count;
      reads = reads_joined g.P.Pages c.args.pages.now c.loop-i.pages c.check_below.new.pages reads c.in_ok-check_below.ensures.reads;
      progress = λ sound first cs node.
          let only_reads = reads.leaves sound in
          goes_on (g.P.Pages.state c.args.pages.now).array c.args.met.now c.loop-i.met c.args.bytes.now c.args.depth c.args.low.now first cs c.loop-i.key.now c.loop-i.child c.loop-i.at c.loop-i.i _ (c.loop-i.invariant.progress sound first cs node) cell.key.now cell.payload.now cell.end c.loop-i-test.true c.in-Some-cell_at.ensures.found c.check_below.new.met c.child_of-child.result c.child_of-child.ensures
          (checked_same (g.P.Pages.state c.args.pages.now).array (g.P.Pages.state c.loop-i.pages).array c.loop-i.met c.check_below.new.met c.args.depth (Some cell.key.now) ((c.loop-i.key.now, four_bytes c.loop-i.child) ∷ []) true only_reads.same
          (subst (λ (whole : Bool). AreChecked (g.P.Pages.state c.loop-i.pages).array c.loop-i.met c.check_below.new.met c.args.depth (Some cell.key.now) ((c.loop-i.key.now, four_bytes c.loop-i.child) ∷ []) whole) c.if-not-branch.false
          (c.in_ok-check_below.ensures.checked only_reads.sound)));
    }

pub check_children-returns-clause-reads : goal.check_children-returns-clause-reads
check_children-returns-clause-reads g t c = reads_joined g.P.Pages c.args.pages.now c.loop-i.pages c.check_below-2.new.pages c.loop-i.invariant.reads c.check_below-2.ensures.reads

pub check_children-returns-clause-checked : goal.check_children-returns-clause-checked
check_children-returns-clause-checked g t c sound first cs node =
    let reads = c.loop-i.invariant.reads in
    let only_reads = reads.leaves sound in
    gives_since g.P.Pages c.args.pages.now c.loop-i.pages c.check_below-2.new.pages c.check_below-2.result _ _ reads.preserved
    (λ whole is.
    ends (g.P.Pages.state c.args.pages.now).array c.args.met.now c.loop-i.met c.args.bytes.now c.args.depth c.args.low.now first cs c.loop-i.key.now c.loop-i.child c.loop-i.at c.loop-i.i _ (c.loop-i.invariant.progress sound first cs node) (numbered_of g.P.Pages c.args.pages.now sound) c.loop-i-test.false c.check_below-2.new.met (lent_bytes c.args.high) whole
    (checked_same (g.P.Pages.state c.args.pages.now).array (g.P.Pages.state c.loop-i.pages).array c.loop-i.met c.check_below-2.new.met c.args.depth (lent_bytes c.args.high) _ whole only_reads.same is))
    (c.check_below-2.ensures.checked only_reads.sound)

pub check_below-returns-then-not-mark-clause-reads : goal.check_below-returns-then-not-mark-clause-reads
check_below-returns-then-not-mark-clause-reads g t c =
    reads_none g.P.Pages c.args.pages.now (g.met.P.Pages.writes_nothing_same c.args.pages.now)

pub check_below-returns-in-Some-Inner-clause-reads : goal.check_below-returns-in-Some-Inner-clause-reads
check_below-returns-in-Some-Inner-clause-reads g t c =
    reads_joined g.P.Pages c.args.pages.now c.read_if_used.new.pages c.check_children.new.pages c.in_ok-read_if_used.ensures.reads c.check_children.ensures.reads
