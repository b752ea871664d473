use Rattle.std.proofs.Common.{ℕ, Bool, true, false, Option, List, subst, ◌∙◌, arith}
use Rattle.std.specs.Prelude.{◌↔◌, IsTrue, ◌≡◌}
use Rattle.std.proofs.lemmas.List.{take_at}
use Rattle.page_tree.specs.Check.{IsMet, IsDepthUnder, HasMetAll}
use Rattle.page_tree.proofs.Faults.{fails, caused_since}
use Rattle.page_tree.proofs.Descent.{numbered_of}
use Rattle.page_tree.proofs.CheckSteps.{reads_joined, no_root, no_tree, root_same, root_as, root_checked, met_all_same}
use Rattle.page_tree.proofs.check.check_tree.Goals as goal

pub returns-in_default-clause-checked : goal.returns-in_default-clause-checked
returns-in_default-clause-checked g c sound =
    no_root (g.P.Pages.state c.args.pages.now).array (numbered_of g.P.Pages c.args.pages.now sound) c.in_ok-met.met.items c.in_ok-met.ensures.none
    (subst (λ (depth : Option ℕ). IsDepthUnder (g.P.Pages.state c.args.pages.now).array 0 17 depth) c.in_default.is (c.in_ok-depth.ensures.measured sound))

pub returns-in_err-check_root-clause-reads : goal.returns-in_err-check_root-clause-reads
returns-in_err-check_root-clause-reads g c = reads_joined g.P.Pages c.args.pages.now c.depth_below.new.pages c.check_root.new.pages c.in_ok-depth.ensures.reads c.in_err-check_root.ensures.reads

pub returns-in_err-check_root-clause-checked : goal.returns-in_err-check_root-clause-checked
returns-in_err-check_root-clause-checked g c sound =
    let reads = c.in_ok-depth.ensures.reads in
    fails c.from_residual-in_err-check_root.result c.in_err-check_root.field-0.0 _ _ c.from_residual-in_err-check_root.ensures.1
    (caused_since g.P.Pages c.args.pages.now c.depth_below.new.pages c.check_root.new.pages c.in_err-check_root.field-0.0 reads.preserved (c.in_err-check_root.ensures.checked (reads.leaves sound).sound))

pub returns-then-not-branch-clause-reads : goal.returns-then-not-branch-clause-reads
returns-then-not-branch-clause-reads g c = reads_joined g.P.Pages c.args.pages.now c.depth_below.new.pages c.check_root.new.pages c.in_ok-depth.ensures.reads c.in_ok-check_root.ensures.reads

pub returns-then-not-branch-clause-checked : goal.returns-then-not-branch-clause-checked
returns-then-not-branch-clause-checked g c sound =
    let only_reads = c.in_ok-depth.ensures.reads.leaves sound in
    no_tree (g.P.Pages.state c.args.pages.now).array (numbered_of g.P.Pages c.args.pages.now sound) c.deref_mut.result.now (λ q met. c.in_ok-met.ensures.none q (subst (λ (xs : List Bool). IsMet xs q) c.deref_mut.ensures.value met)) c.in-Some.depth
    (subst (λ (depth : Option ℕ). IsDepthUnder (g.P.Pages.state c.args.pages.now).array 0 17 depth) c.in-Some.is (c.in_ok-depth.ensures.measured sound)) c.check_root.new.met
    (root_same (g.P.Pages.state c.args.pages.now).array (g.P.Pages.state c.depth_below.new.pages).array c.deref_mut.result.now c.check_root.new.met c.in-Some.depth false only_reads.same
    (root_as (g.P.Pages.state c.depth_below.new.pages).array c.deref_mut.result.now c.check_root.new.met c.in-Some.depth c.in_ok-check_root.field-0 false c.if-not-branch.true (c.in_ok-check_root.ensures.checked only_reads.sound)))

pub returns-clause-reads : goal.returns-clause-reads
returns-clause-reads g c = reads_joined g.P.Pages c.args.pages.now c.depth_below.new.pages c.check_root.new.pages c.in_ok-depth.ensures.reads c.in_ok-check_root.ensures.reads

pub returns-clause-checked : goal.returns-clause-checked
returns-clause-checked g c sound =
    let only_reads = c.in_ok-depth.ensures.reads.leaves sound in
    let both = reads_joined g.P.Pages c.args.pages.now c.depth_below.new.pages c.check_root.new.pages c.in_ok-depth.ensures.reads c.in_ok-check_root.ensures.reads in
    let after = both.leaves sound in
    let marks_are : c.deref.result.now ≡ c.check_root.new.met = c.deref.ensures.value ∙ take_at c.check_root.new.met _ c.in_ok-met.met.len (omega (arith, c.check_root.auto.met, c.deref_mut.ensures.len)) in
    root_checked (g.P.Pages.state c.args.pages.now).array (numbered_of g.P.Pages c.args.pages.now sound) c.deref_mut.result.now (λ q met. c.in_ok-met.ensures.none q (subst (λ (xs : List Bool). IsMet xs q) c.deref_mut.ensures.value met)) c.in-Some.depth
    (subst (λ (depth : Option ℕ). IsDepthUnder (g.P.Pages.state c.args.pages.now).array 0 17 depth) c.in-Some.is (c.in_ok-depth.ensures.measured sound)) c.check_root.new.met c.has_met_all.result
    (root_same (g.P.Pages.state c.args.pages.now).array (g.P.Pages.state c.depth_below.new.pages).array c.deref_mut.result.now c.check_root.new.met c.in-Some.depth true only_reads.same
    (root_as (g.P.Pages.state c.depth_below.new.pages).array c.deref_mut.result.now c.check_root.new.met c.in-Some.depth c.in_ok-check_root.field-0 true c.if-not-branch.false (c.in_ok-check_root.ensures.checked only_reads.sound)))
    (met_all_same (g.P.Pages.state c.args.pages.now).array (g.P.Pages.state c.check_root.new.pages).array c.check_root.new.met c.has_met_all.result after.same
    (subst (λ (marks : List Bool). IsTrue c.has_met_all.result ↔ HasMetAll (g.P.Pages.state c.check_root.new.pages).array marks) marks_are (c.has_met_all.ensures after.sound)))
