use Rattle.std.proofs.Common.{◌≡◌, IfErr, ◌∙◌}
use Rattle.store.proofs.Reading.{reads_joined}
use Rattle.store.specs.declared.fault.Fault.TheVariants.{Damaged}
use Rattle.copies.specs.RecordCopies.{HasOutsized, behind_mark}
use Rattle.copies.specs.declared.fault.CopyFault.TheVariants.{Read}
use Rattle.dumps.proofs.Heads.{answered}
use Rattle.copies.proofs.Progress.{outsized_of, read_given, rest_goes_on, some_filled}
use Rattle.database_dumps.proofs.counting.count_pages.Goals as goal

pub loop-preserved : goal.loop-preserved
loop-preserved g c =
    let first = g.M.Map.state c.args.source.now in
    let last = g.M.Map.state c.loop.source in
    let next = g.M.Map.state c.take_records.new.source in
    let so_far = c.loop.invariant in
    let read = c.in_ok-more.ensures.read in
    record {
      preserved = g.M.Map.preserved_joined c.args.source.now c.loop.source c.take_records.new.source so_far.preserved c.in_ok-more.ensures.preserved;
      reads = reads_joined first last next so_far.reads read.only_reads;
      works = read.failed ∙ so_far.works;
      rest = λ sound. rest_goes_on _ _ (behind_mark first.map) c.new-batch.result c.take_records.new.batch (so_far.rest sound)
          (λ later ahead. some_filled (g.M.Map.ahead c.take_records.new.source c.take_records.new.place) c.in_ok-more.more later c.new-batch.result c.take_records.new.batch c.if-not-more.false
          (c.in_ok-more.ensures.filled (so_far.reads.history.sound sound) later ahead));
    }

pub returns-in_err-more-clause-preserved : goal.returns-in_err-more-clause-preserved
returns-in_err-more-clause-preserved g c = g.M.Map.preserved_joined c.args.source.now c.loop.source c.take_records.new.source c.loop.invariant.preserved c.in_err-more.ensures.preserved

pub returns-in_err-more-clause-damaged : goal.returns-in_err-more-clause-damaged
returns-in_err-more-clause-damaged g c = λ sound.
    let records = behind_mark (g.M.Map.state c.args.source.now).map in
    answered (λ r. IfErr r (λ f. f ≡ Read Damaged → HasOutsized records)) (Read c.in_err-more.field-0.0) c.from_residual-in_err-more.result c.from_residual-in_err-more.ensures.1
    (λ is. outsized_of _ records (c.loop.invariant.rest sound)
    (λ later ahead. c.in_err-more.ensures.damaged (c.loop.invariant.reads.history.sound sound) later ahead (read_given c.in_err-more.field-0.0 is)))

pub returns-then-not-more-clause-preserved : goal.returns-then-not-more-clause-preserved
returns-then-not-more-clause-preserved g c = g.M.Map.preserved_joined c.args.source.now c.loop.source c.take_records.new.source c.loop.invariant.preserved c.in_ok-more.ensures.preserved

pub returns-in_err-count-clause-preserved : goal.returns-in_err-count-clause-preserved
returns-in_err-count-clause-preserved g c = g.M.Map.preserved_joined c.args.source.now c.loop.source c.take_records.new.source c.loop.invariant.preserved c.in_ok-more.ensures.preserved

pub returns-in_default-clause-preserved : goal.returns-in_default-clause-preserved
returns-in_default-clause-preserved g c = g.M.Map.preserved_joined c.args.source.now c.loop.source c.take_records.new.source c.loop.invariant.preserved c.in_ok-more.ensures.preserved
