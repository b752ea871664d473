use Rattle.std.proofs.Common.{◌≡◌, IfErr, arith, refl, ◌∙◌}
use Rattle.sector_device.specs.Device.{history_joined, history_none}
use Rattle.store.proofs.Reading.{reads_joined}
use Rattle.store.specs.declared.fault.Fault.TheVariants.{Damaged}
use Rattle.copies.specs.RecordCopies.{HasOutsized, behind_mark}
use Rattle.copies.specs.declared.fault.CopyFault.TheVariants.{Read, Write}
use Rattle.copies.proofs.Copied.{marked_in_order}
use Rattle.copies.proofs.Progress.{all_put as all_filled, answered, outsized_of, read_given, rest_begun, rest_goes_on, some_filled, some_put}
use Rattle.database_dumps.specs.Dumping.{HasDumpCause}
use Rattle.database_dumps.proofs.Dumped.{all_put, more_put, none_put, part_cause}
use Rattle.database_dumps.proofs.record_dumps.put_records.Goals as goal

pub loop-init : goal.loop-init
loop-init g c =
    let first = g.M.Map.state c.args.source.now in
    let old = g.E.Device.state c.args.target.now in
    let found = c.in_ok-at.ensures in
    record {
      preserved = found.preserved;
      reads = found.read.only_reads;
      works = found.read.failed;
      rest = λ sound. rest_begun _ (behind_mark first.map) (found.ahead sound);
      history = history_none old;
      further = omega arith;
      before = λ faithful s lt. refl;
      put = λ sound faithful before hashed inside. none_put (g.M.Map.ahead c.first_place.new.source c.in_ok-at.at) old.sectors old.content before (behind_mark first.map) c.args.place.now inside hashed (found.ahead sound);
    }

pub returns-then-not-more-clause-preserved : goal.returns-then-not-more-clause-preserved
returns-then-not-more-clause-preserved g c = g.M.Map.preserved_joined c.args.source.now c.loop.source c.take_records.new.source c.loop.invariant.preserved c.in_ok-more.ensures.preserved

pub returns-then-not-more-clause-before : goal.returns-then-not-more-clause-before
returns-then-not-more-clause-before g c = λ faithful s lt.
    c.put_list.ensures.before (c.loop.invariant.history.faithful faithful) s (omega (arith, lt, c.loop.invariant.further)) ∙ c.loop.invariant.before faithful s lt

pub returns-then-not-more-clause-put : goal.returns-then-not-more-clause-put
returns-then-not-more-clause-put g c = λ sound faithful before hashed inside.
    let first = g.M.Map.state c.args.source.now in
    let mid = g.E.Device.state c.loop.target in
    let new = g.E.Device.state c.put_list.new.device in
    let there = c.loop.invariant.history.faithful faithful in
    all_put (g.M.Map.ahead c.loop.source c.loop.at) (g.M.Map.ahead c.take_records.new.source c.take_records.new.place) mid.sectors new.sectors mid.content new.content before (behind_mark first.map) c.take_records.new.batch
    c.args.place.now c.loop.place c.put_list.new.place (marked_in_order first.map (g.met.M.Map.ordered c.args.source.now sound)).1 (c.loop.invariant.put sound faithful before hashed inside)
    c.put_list.ensures.history.sectors (λ s lt. c.put_list.ensures.before there s lt) (λ b holds. c.in_ok-put_list.ensures.written there b holds)
    (λ later ahead. all_filled _ c.in_ok-more.more later c.new-batch.result c.take_records.new.batch c.if-not-more.true c.new-batch.ensures (c.in_ok-more.ensures.filled (c.loop.invariant.reads.history.sound sound) later ahead))

pub loop-preserved : goal.loop-preserved
loop-preserved g c =
    let first = g.M.Map.state c.args.source.now in
    let last = g.M.Map.state c.loop.source in
    let next = g.M.Map.state c.take_records.new.source in
    let old = g.E.Device.state c.args.target.now in
    let mid = g.E.Device.state c.loop.target in
    let new = g.E.Device.state c.put_list.new.device in
    let so_far = c.loop.invariant in
    let read = c.in_ok-more.ensures.read in
    record {
      preserved = g.M.Map.preserved_joined c.args.source.now c.loop.source c.take_records.new.source so_far.preserved c.in_ok-more.ensures.preserved;
      reads = reads_joined first last next so_far.reads read.only_reads;
      works = read.failed ∙ so_far.works;
      rest = λ sound. rest_goes_on _ _ (behind_mark first.map) c.new-batch.result c.take_records.new.batch (so_far.rest sound)
          (λ later ahead. some_filled (g.M.Map.ahead c.take_records.new.source c.take_records.new.place) c.in_ok-more.more later c.new-batch.result c.take_records.new.batch c.if-not-more.false
          (c.in_ok-more.ensures.filled (so_far.reads.history.sound sound) later ahead));
      history = history_joined old mid new so_far.history c.put_list.ensures.history;
      further = omega (arith, so_far.further, c.put_list.ensures.later);
      before = λ faithful s lt. c.put_list.ensures.before (so_far.history.faithful faithful) s (omega (arith, lt, so_far.further)) ∙ so_far.before faithful s lt;
      put = λ sound faithful before hashed inside.
          let there = so_far.history.faithful faithful in
          more_put (g.M.Map.ahead c.loop.source c.loop.at) (g.M.Map.ahead c.take_records.new.source c.take_records.new.place) mid.sectors new.sectors mid.content new.content before (behind_mark first.map) c.take_records.new.batch
          c.args.place.now c.loop.place c.put_list.new.place (marked_in_order first.map (g.met.M.Map.ordered c.args.source.now sound)).1 (so_far.put sound faithful before hashed inside)
          c.put_list.ensures.history.sectors (λ s lt. c.put_list.ensures.before there s lt) (λ b holds. c.in_ok-put_list.ensures.written there b holds)
          (λ later ahead. some_put (g.M.Map.ahead c.take_records.new.source c.take_records.new.place) c.in_ok-more.more later c.new-batch.result c.take_records.new.batch c.if-not-more.false c.new-batch.ensures
          (c.in_ok-more.ensures.filled (so_far.reads.history.sound sound) later ahead));
    }

pub returns-then-not-more-clause-history : goal.returns-then-not-more-clause-history
returns-then-not-more-clause-history g c =
    history_joined (g.E.Device.state c.args.target.now) (g.E.Device.state c.loop.target) (g.E.Device.state c.put_list.new.device) c.loop.invariant.history c.put_list.ensures.history

pub returns-then-not-more-clause-reads : goal.returns-then-not-more-clause-reads
returns-then-not-more-clause-reads g c =
    reads_joined (g.M.Map.state c.args.source.now) (g.M.Map.state c.loop.source) (g.M.Map.state c.take_records.new.source) c.loop.invariant.reads c.in_ok-more.ensures.read.only_reads

pub returns-in_err-put_list-clause-preserved : goal.returns-in_err-put_list-clause-preserved
returns-in_err-put_list-clause-preserved g c = g.M.Map.preserved_joined c.args.source.now c.loop.source c.take_records.new.source c.loop.invariant.preserved c.in_ok-more.ensures.preserved

pub returns-in_err-put_list-clause-reads : goal.returns-in_err-put_list-clause-reads
returns-in_err-put_list-clause-reads g c =
    reads_joined (g.M.Map.state c.args.source.now) (g.M.Map.state c.loop.source) (g.M.Map.state c.take_records.new.source) c.loop.invariant.reads c.in_ok-more.ensures.read.only_reads

pub returns-in_err-put_list-clause-history : goal.returns-in_err-put_list-clause-history
returns-in_err-put_list-clause-history g c =
    history_joined (g.E.Device.state c.args.target.now) (g.E.Device.state c.loop.target) (g.E.Device.state c.put_list.new.device) c.loop.invariant.history c.put_list.ensures.history

pub returns-in_err-put_list-clause-before : goal.returns-in_err-put_list-clause-before
returns-in_err-put_list-clause-before g c = λ faithful s lt.
    c.put_list.ensures.before (c.loop.invariant.history.faithful faithful) s (omega (arith, lt, c.loop.invariant.further)) ∙ c.loop.invariant.before faithful s lt

pub returns-in_err-put_list-clause-cause : goal.returns-in_err-put_list-clause-cause
returns-in_err-put_list-clause-cause g c =
    let first = g.M.Map.state c.args.source.now in
    let next = g.M.Map.state c.take_records.new.source in
    let old = g.E.Device.state c.args.target.now in
    let mid = g.E.Device.state c.loop.target in
    let new = g.E.Device.state c.put_list.new.device in
    answered (λ r. IfErr r (λ fault. HasDumpCause fault first next old new)) (Write c.in_err-put_list.field-0.0) c.from_residual-in_err-put_list.result c.from_residual-in_err-put_list.ensures.1
    (part_cause (Unit {0}) c.in_err-put_list.field-0.0 first next old mid new c.loop.invariant.history c.put_list.ensures.history c.in_err-put_list.ensures.cause)

pub returns-in_err-more-clause-preserved : goal.returns-in_err-more-clause-preserved
returns-in_err-more-clause-preserved g c = g.M.Map.preserved_joined c.args.source.now c.loop.source c.take_records.new.source c.loop.invariant.preserved c.in_err-more.ensures.preserved

pub returns-in_err-more-clause-damaged : goal.returns-in_err-more-clause-damaged
returns-in_err-more-clause-damaged g c = λ sound.
    let records = behind_mark (g.M.Map.state c.args.source.now).map in
    answered (λ r. IfErr r (λ f. f ≡ Read Damaged → HasOutsized records)) (Read c.in_err-more.field-0.0) c.from_residual-in_err-more.result c.from_residual-in_err-more.ensures.1
    (λ is. outsized_of _ records (c.loop.invariant.rest sound)
    (λ later ahead. c.in_err-more.ensures.damaged (c.loop.invariant.reads.history.sound sound) later ahead (read_given c.in_err-more.field-0.0 is)))
