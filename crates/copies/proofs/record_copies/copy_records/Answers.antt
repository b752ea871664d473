use Rattle.std.proofs.Common.{◌≡◌, IfErr, ap, arith, ◌∙◌}
use Rattle.store.proofs.Reading.{reads_joined, history_joined}
use Rattle.copies.specs.declared.fault.CopyFault.TheVariants.{Read, Write}
use Rattle.store.specs.declared.fault.Fault.TheVariants.{Damaged}
use Rattle.copies.specs.RecordCopies.{Copies, HasOutsized, whole, behind_mark}
use Rattle.copies.proofs.Copied.{marked_in_order}
use Rattle.copies.proofs.Progress.{grown_on, broken, finished, rest_goes_on, some_filled, some_put, all_put, answered, outsized_of, read_given}
use Rattle.copies.proofs.record_copies.copy_records.Goals as goal

pub returns-then-not-branch-clause-preserved : goal.returns-then-not-branch-clause-preserved
returns-then-not-branch-clause-preserved g c = g.M.Map.preserved_joined c.args.source.now c.loop.source c.take_records.new.source c.loop.invariant.preserved c.in_ok-take_records.ensures.preserved

pub returns-then-not-branch-clause-copies : goal.returns-then-not-branch-clause-copies
returns-then-not-branch-clause-copies g c = λ sound there works marked.
    finished _ (g.M.Map.state c.args.source.now).map (g.S.Map.state c.args.target.now) (g.S.Map.state c.loop.target) (g.S.Map.state c.finish.new.target) c.take_records.new.batch c.finish.result
    (marked_in_order (g.M.Map.state c.args.source.now).map (g.met.M.Map.ordered c.args.source.now sound))
    c.finish.ensures.finishes
    (λ fault is. ap g.S.Map.state (c.finish.ensures.refused fault is).0)
    (c.loop.invariant.grown sound there works marked)
    (λ later ahead. all_put _ c.in_ok-take_records.field-0 later c.new-batch.result c.take_records.new.batch c.if-not-branch.true c.new-batch.ensures (c.in_ok-take_records.ensures.filled (c.loop.invariant.reads.history.sound sound) later ahead))

pub returns-in_err-commit-clause-preserved : goal.returns-in_err-commit-clause-preserved
returns-in_err-commit-clause-preserved g c = g.M.Map.preserved_joined c.args.source.now c.loop.source c.take_records.new.source c.loop.invariant.preserved c.in_ok-take_records.ensures.preserved

pub returns-in_err-commit-clause-copies : goal.returns-in_err-commit-clause-copies
returns-in_err-commit-clause-copies g c = λ sound there works marked.
    answered (λ r. Copies r (whole (g.S.Map.state c.args.target.now).record_format (g.M.Map.state c.args.source.now).map) (g.S.Map.state c.args.target.now) (g.S.Map.state c.commit.new.self))
    (Write c.in_err-commit.field-0.0) c.from_residual-in_err-commit.result c.from_residual-in_err-commit.ensures.1
    (broken _ (behind_mark (g.M.Map.state c.args.source.now).map) _ (g.S.Map.state c.args.target.now) (g.S.Map.state c.loop.target) (g.S.Map.state c.commit.new.self) c.take_records.new.batch c.in_err-commit.field-0.0 _
    (marked_in_order (g.M.Map.state c.args.source.now).map (g.met.M.Map.ordered c.args.source.now sound)) c.in_err-commit.ensures.commits (c.loop.invariant.grown sound there works marked)
    (λ later ahead. some_put (g.M.Map.ahead c.take_records.new.source c.take_records.new.place) c.in_ok-take_records.field-0 later c.new-batch.result c.take_records.new.batch c.if-not-branch.false c.new-batch.ensures (c.in_ok-take_records.ensures.filled (c.loop.invariant.reads.history.sound sound) later ahead)))

pub returns-in_err-take_records-clause-preserved : goal.returns-in_err-take_records-clause-preserved
returns-in_err-take_records-clause-preserved g c =
    g.M.Map.preserved_joined c.args.source.now c.loop.source c.take_records.new.source c.loop.invariant.preserved c.in_err-take_records.ensures.preserved

pub returns-in_err-take_records-clause-damaged : goal.returns-in_err-take_records-clause-damaged
returns-in_err-take_records-clause-damaged g c = λ sound.
    let records = behind_mark (g.M.Map.state c.args.source.now).map in
    answered (λ r. IfErr r (λ f. f ≡ Read Damaged → HasOutsized records)) (Read c.in_err-take_records.field-0.0) c.from_residual-in_err-take_records.result c.from_residual-in_err-take_records.ensures.1
    (λ is. outsized_of _ records (c.loop.invariant.rest sound)
    (λ later ahead. c.in_err-take_records.ensures.damaged (c.loop.invariant.reads.history.sound sound) later ahead (read_given c.in_err-take_records.field-0.0 is)))

pub loop-preserved : goal.loop-preserved
loop-preserved g c =
    let read = c.in_ok-take_records.ensures.read in
    let commits = c.in_ok-commit.ensures.commits in
    record {
      preserved = g.M.Map.preserved_joined c.args.source.now c.loop.source c.take_records.new.source c.loop.invariant.preserved c.in_ok-take_records.ensures.preserved;
      reads = reads_joined (g.M.Map.state c.args.source.now) (g.M.Map.state c.loop.source) (g.M.Map.state c.take_records.new.source) c.loop.invariant.reads read.only_reads;
      works = read.failed ∙ c.loop.invariant.works;
      rest = λ sound. rest_goes_on _ _ (behind_mark (g.M.Map.state c.args.source.now).map) c.new-batch.result c.take_records.new.batch (c.loop.invariant.rest sound)
          (λ later ahead. some_filled (g.M.Map.ahead c.take_records.new.source c.take_records.new.place) c.in_ok-take_records.field-0 later c.new-batch.result c.take_records.new.batch c.if-not-branch.false
          (c.in_ok-take_records.ensures.filled (c.loop.invariant.reads.history.sound sound) later ahead));
      history = history_joined (g.S.Map.state c.args.target.now) (g.S.Map.state c.loop.target) (g.S.Map.state c.commit.new.self) c.loop.invariant.history commits.history;
      target_works = commits.failed ∙ c.loop.invariant.target_works;
      number = λ sound works.
          let one = (commits.at_once (c.loop.invariant.history.sound sound) (c.loop.invariant.target_works ∙ works)).committed.by_one in
          omega (arith, one, c.loop.invariant.number sound works);
      grown = λ sound there works marked.
          grown_on _ _ (behind_mark (g.M.Map.state c.args.source.now).map) (g.S.Map.state c.args.target.now) (g.S.Map.state c.loop.target) (g.S.Map.state c.commit.new.self) c.take_records.new.batch
          (marked_in_order (g.M.Map.state c.args.source.now).map (g.met.M.Map.ordered c.args.source.now sound)) commits (c.loop.invariant.grown sound there works marked)
          (λ later ahead. some_put (g.M.Map.ahead c.take_records.new.source c.take_records.new.place) c.in_ok-take_records.field-0 later c.new-batch.result c.take_records.new.batch c.if-not-branch.false c.new-batch.ensures (c.in_ok-take_records.ensures.filled (c.loop.invariant.reads.history.sound sound) later ahead));
    }
