use Rattle.std.proofs.Common.{◌-◌, Some, ap, ◌∙◌}
use Rattle.page_nodes.specs.declared.cell.NodeKind.{NodeKind}
use Rattle.page_tree.proofs.Faults.{fails, caused_since}
use Rattle.page_tree.proofs.Descent.{numbered_of}
use Rattle.page_tree.proofs.CheckSteps.{reads_joined}
use Rattle.page_tree.proofs.CheckTrees.{no_depth, depth_none, depth_leaf, depth_inner, depth_more, depth_lost, depth_same, read_yes, read_no}
use Rattle.page_tree.proofs.check.+depth_below.Goals as goal

pub returns-then-not-branch-clause-measured : goal.returns-then-not-branch-clause-measured
returns-then-not-branch-clause-measured g t c sound tree d high low s top lt =
    let gone = read_no _ c.read_if_used.new.bytes c.in_ok-read_if_used.field-0 c.if-not-branch.true (c.in_ok-read_if_used.ensures.found sound) in
    absurd (no_depth (g.P.Pages.state c.args.pages.now).array (numbered_of g.P.Pages c.args.pages.now sound) c.args.page c.args.levels c.ranges.page.fits gone tree d high low s top)

pub returns-in_err-depth-in-Some-Inner-clause-measured : goal.returns-in_err-depth-in-Some-Inner-clause-measured
returns-in_err-depth-in-Some-Inner-clause-measured g t c sound =
    let reads = c.in_ok-read_if_used.ensures.reads in
    fails c.from_residual-in_err-depth-in-Some-Inner.result c.in_err-depth-in-Some-Inner.field-0.0 _ _ c.from_residual-in_err-depth-in-Some-Inner.ensures.1
    (caused_since g.P.Pages c.args.pages.now c.read_if_used.new.pages c.depth_below.new.pages c.in_err-depth-in-Some-Inner.field-0.0 reads.preserved
    (c.in_err-depth-in-Some-Inner.ensures.measured (reads.leaves sound).sound))

pub returns-in-None-clause-measured : goal.returns-in-None-clause-measured
returns-in-None-clause-measured g t c sound =
    let here = read_yes _ c.read_if_used.new.bytes c.in_ok-read_if_used.field-0 c.if-not-branch.false (c.in_ok-read_if_used.ensures.found sound) in
    depth_none (g.P.Pages.state c.args.pages.now).array (numbered_of g.P.Pages c.args.pages.now sound) c.args.page c.args.levels c.ranges.page.fits c.read_if_used.new.bytes here c.kind_of.result c.kind_of.ensures.spelled c.in-None.is

pub returns-in-Some-Leaf-clause-measured : goal.returns-in-Some-Leaf-clause-measured
returns-in-Some-Leaf-clause-measured g t c sound =
    let here = read_yes _ c.read_if_used.new.bytes c.in_ok-read_if_used.field-0 c.if-not-branch.false (c.in_ok-read_if_used.ensures.found sound) in
    depth_leaf (g.P.Pages.state c.args.pages.now).array (numbered_of g.P.Pages c.args.pages.now sound) c.args.page c.args.levels c.ranges.page.fits c.read_if_used.new.bytes here c.kind_of.result c.kind_of.ensures.spelled
    (c.in-Some-Leaf.is ∙ ap (λ (k : NodeKind). Some k) c.in-Some-Leaf.field-0-is)

pub returns-in-Some-clause-measured : goal.returns-in-Some-clause-measured
returns-in-Some-clause-measured g t c sound tree d high low s top lt =
    let A = (g.P.Pages.state c.args.pages.now).array in
    let here = read_yes _ c.read_if_used.new.bytes c.in_ok-read_if_used.field-0 c.if-not-branch.false (c.in_ok-read_if_used.ensures.found sound) in
    let only_reads = c.in_ok-read_if_used.ensures.reads.leaves sound in
    let below = depth_same A (g.P.Pages.state c.read_if_used.new.pages).array c.first_child-child.result (c.args.levels - 1) c.in_ok-depth-in-Some-Inner.field-0 only_reads.same
    (c.in_ok-depth-in-Some-Inner.ensures.measured only_reads.sound) in
    let more = depth_inner A (numbered_of g.P.Pages c.args.pages.now sound) c.args.page c.args.levels c.ranges.page.fits c.read_if_used.new.bytes here c.kind_of.result c.kind_of.ensures.spelled (c.in-Some-Inner.is ∙ ap (λ (k : NodeKind). Some k) c.in-Some-Inner.field-0-is)
    c.first_child-child.result c.first_child-child.ensures c.in_ok-depth-in-Some-Inner.field-0 below tree d high low s top lt in
    depth_more c.in-Some.depth d more.0 c.in_ok-depth-in-Some-Inner.field-0 c.in-Some.is more.2 more.1

pub returns-in-None-2-clause-measured : goal.returns-in-None-2-clause-measured
returns-in-None-2-clause-measured g t c sound tree d high low s top lt =
    let A = (g.P.Pages.state c.args.pages.now).array in
    let here = read_yes _ c.read_if_used.new.bytes c.in_ok-read_if_used.field-0 c.if-not-branch.false (c.in_ok-read_if_used.ensures.found sound) in
    let only_reads = c.in_ok-read_if_used.ensures.reads.leaves sound in
    let below = depth_same A (g.P.Pages.state c.read_if_used.new.pages).array c.first_child-child.result (c.args.levels - 1) c.in_ok-depth-in-Some-Inner.field-0 only_reads.same
    (c.in_ok-depth-in-Some-Inner.ensures.measured only_reads.sound) in
    let more = depth_inner A (numbered_of g.P.Pages c.args.pages.now sound) c.args.page c.args.levels c.ranges.page.fits c.read_if_used.new.bytes here c.kind_of.result c.kind_of.ensures.spelled (c.in-Some-Inner.is ∙ ap (λ (k : NodeKind). Some k) c.in-Some-Inner.field-0-is)
    c.first_child-child.result c.first_child-child.ensures c.in_ok-depth-in-Some-Inner.field-0 below tree d high low s top lt in
    absurd (depth_lost d more.0 c.in_ok-depth-in-Some-Inner.field-0 c.in-None-2.is more.2)

pub returns-in-Some-clause-reads : goal.returns-in-Some-clause-reads
returns-in-Some-clause-reads g t c = reads_joined g.P.Pages c.args.pages.now c.read_if_used.new.pages c.depth_below.new.pages c.in_ok-read_if_used.ensures.reads c.in_ok-depth-in-Some-Inner.ensures.reads

pub returns-in-None-2-clause-reads : goal.returns-in-None-2-clause-reads
returns-in-None-2-clause-reads g t c = reads_joined g.P.Pages c.args.pages.now c.read_if_used.new.pages c.depth_below.new.pages c.in_ok-read_if_used.ensures.reads c.in_ok-depth-in-Some-Inner.ensures.reads

pub returns-in_err-depth-in-Some-Inner-clause-reads : goal.returns-in_err-depth-in-Some-Inner-clause-reads
returns-in_err-depth-in-Some-Inner-clause-reads g t c = reads_joined g.P.Pages c.args.pages.now c.read_if_used.new.pages c.depth_below.new.pages c.in_ok-read_if_used.ensures.reads c.in_err-depth-in-Some-Inner.ensures.reads
