use Rattle.std.proofs.Common.{Bool, sym, ◌∙◌, subst, arith}
use Rattle.store.specs.Records.{Records}
use Rattle.store.specs.Steps.{Takes}
use Rattle.store.proofs.Reading.{reads_joined}
use Rattle.transactions.specs.Merging.{IsLent}
use Rattle.transactions.specs.Within.{AreMergedTo}
use Rattle.transactions.proofs.Counting.{counted_most, ends_here, one_less}
use Rattle.transactions.proofs.Viewing.{view_found}
use Rattle.transactions.proofs.merge.count_merged.Goals as goal

pub returns-then-not-branch-clause-goes : goal.returns-then-not-branch-clause-goes
returns-then-not-branch-clause-goes g c =
    let old = c.args.map.now in
    let mid = c.loop-count.map in
    let new = c.step_merged_within.new.map in
    let lists = c.args.lists.now in
    let stop = c.args.stop.now in
    let inv = c.loop-count.invariant in
    let step = c.in_ok-step_merged_within.ensures in
    view_found lists _ c.loop-count.count (g.M.Map.state old) (g.M.Map.state new) (reads_joined (g.M.Map.state old) (g.M.Map.state mid) (g.M.Map.state new) inv.reads step.only_reads) (step.goes.failed ∙ inv.works)
    (λ sound records ahead.
    let at = inv.counted sound records ahead in
    let same = (inv.reads.unchanged sound).map in
    let here = subst (λ (es : Records). AreMergedTo (g.M.Map.ahead_within mid stop) stop lists es c.loop-count.place at.0) (sym same) at.2 in
    let took = subst (λ (b : Bool). Takes (IsLent (g.M.Map.found_at new) c.step_merged_within.new.place) (AreMergedTo (g.M.Map.ahead_within new stop) stop lists (g.M.Map.state mid).map c.step_merged_within.new.place) b at.0) c.if-not-branch.true (step.goes.answer (inv.reads.history.sound sound) at.0 here) in
    ends_here records at.0 c.loop-count.count c.args.most at.1 took (omega (arith, c.loop-count-test.true)))

pub loop-count-preserved : goal.loop-count-preserved
loop-count-preserved g c =
    let old = c.args.map.now in
    let mid = c.loop-count.map in
    let new = c.step_merged_within.new.map in
    let lists = c.args.lists.now in
    let stop = c.args.stop.now in
    let inv = c.loop-count.invariant in
    let step = c.in_ok-step_merged_within.ensures in
    record {
      preserved = g.M.Map.preserved_joined old mid new inv.preserved step.preserved;
      reads = reads_joined (g.M.Map.state old) (g.M.Map.state mid) (g.M.Map.state new) inv.reads step.only_reads;
      works = step.goes.failed ∙ inv.works;
      counted = λ sound records ahead.
          let at = inv.counted sound records ahead in
          let same = (inv.reads.unchanged sound).map in
          let here = subst (λ (es : Records). AreMergedTo (g.M.Map.ahead_within mid stop) stop lists es c.loop-count.place at.0) (sym same) at.2 in
          let took = subst (λ (b : Bool). Takes (IsLent (g.M.Map.found_at new) c.step_merged_within.new.place) (AreMergedTo (g.M.Map.ahead_within new stop) stop lists (g.M.Map.state mid).map c.step_merged_within.new.place) b at.0) c.if-not-branch.false (step.goes.answer (inv.reads.history.sound sound) at.0 here) in
          (took.1, one_less records at.0 took.0 took.1 c.loop-count.count at.1 took.2, subst (λ (es : Records). AreMergedTo (g.M.Map.ahead_within new stop) stop lists es c.step_merged_within.new.place took.1) same took.4);
    }

pub returns-clause-goes : goal.returns-clause-goes
returns-clause-goes g c =
    let inv = c.loop-count.invariant in
    view_found c.args.lists.now _ c.args.most (g.M.Map.state c.args.map.now) (g.M.Map.state c.loop-count.map) inv.reads inv.works
    (λ sound records ahead.
    let at = inv.counted sound records ahead in
    counted_most records at.0 c.loop-count.count c.args.most at.1 (omega (arith, c.loop-count-test.false)))
