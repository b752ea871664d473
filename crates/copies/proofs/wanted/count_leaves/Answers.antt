use Rattle.std.proofs.Common.{◌∙◌, arith}
use Rattle.store.proofs.Reading.{reads_joined}
use Rattle.copies.proofs.Counted.{one_counted}
use Rattle.copies.proofs.wanted.count_leaves.Goals as goal

pub returns-in_err-step-clause-preserved : goal.returns-in_err-step-clause-preserved
returns-in_err-step-clause-preserved g c = g.M.Map.preserved_joined c.args.source.now c.loop.source c.step.new.self c.loop.invariant.preserved c.in_err-step.ensures.preserved

pub returns-then-not-branch-clause-preserved : goal.returns-then-not-branch-clause-preserved
returns-then-not-branch-clause-preserved g c = g.M.Map.preserved_joined c.args.source.now c.loop.source c.step.new.self c.loop.invariant.preserved c.in_ok-step.ensures.preserved

pub loop-preserved : goal.loop-preserved
loop-preserved g c =
    let first = c.args.source.now in
    let mid = c.loop.source in
    let last = c.step.new.self in
    let goes = c.in_ok-step.ensures.goes in
    record {
      preserved = g.M.Map.preserved_joined first mid last c.loop.invariant.preserved c.in_ok-step.ensures.preserved;
      reads = reads_joined (g.M.Map.state first) (g.M.Map.state mid) (g.M.Map.state last) c.loop.invariant.reads goes.only_reads;
      works = goes.failed ∙ c.loop.invariant.works;
      left = λ sound.
          one_counted _ _ _ c.in_ok-step.field-0 c.loop.leaves c.loop.used _ c.if-not-branch.false (c.loop.invariant.left sound)
          (λ later there. goes.answer (c.loop.invariant.reads.history.sound sound) later there)
          c.entry.result c.entry.ensures c.cell_size-cell.result c.cell_size-cell.ensures.size c.place_cell-begun.result c.place_cell-begun.ensures.placed;
      room = c.place_cell-begun.ensures.most;
      few = omega (arith, c.loop.invariant.few, c.place_cell-begun.ensures.one);
    }
