use Rattle.std.proofs.Common.{◌≡◌, IfErr, ◌∙◌}
use Rattle.store.specs.declared.fault.Fault.TheVariants.{Damaged}
use Rattle.copies.specs.RecordCopies.{HasOutsized}
use Rattle.store.proofs.Reading.{reads_joined}
use Rattle.copies.proofs.Taken.{answered_fault, one_more, outsized_later}
use Rattle.copies.proofs.taking.take_records.Goals as goal

pub loop-preserved : goal.loop-preserved
loop-preserved g c =
    let first = c.args.source.now in
    let mid = c.loop.source in
    let last = c.take_record.new.source in
    let read = c.in_ok-take_record.ensures.read in
    record {
      preserved = g.M.Map.preserved_joined first mid last c.loop.invariant.preserved c.in_ok-take_record.ensures.preserved;
      reads = reads_joined (g.M.Map.state first) (g.M.Map.state mid) (g.M.Map.state last) c.loop.invariant.reads read.only_reads;
      works = read.failed ∙ c.loop.invariant.works;
      filled = λ s records ahead.
          one_more _ _ c.in_ok-take_record.field-0 records c.args.batch.now c.loop.batch c.take_record.new.batch c.if-not-branch.false (c.loop.invariant.filled s records ahead)
          (λ later there. c.in_ok-take_record.ensures.taken (c.loop.invariant.reads.history.sound s) later there);
    }

pub returns-in_err-take_record-clause-damaged : goal.returns-in_err-take_record-clause-damaged
returns-in_err-take_record-clause-damaged g c = λ sound records ahead.
    answered_fault (λ r. IfErr r (λ f. f ≡ Damaged → HasOutsized records)) c.in_err-take_record.field-0.0 c.from_residual.result c.from_residual.ensures.1
    (λ is. outsized_later _ records c.args.batch.now c.loop.batch (c.loop.invariant.filled sound records ahead)
    (λ later there. c.in_err-take_record.ensures.damaged (c.loop.invariant.reads.history.sound sound) later there is))
