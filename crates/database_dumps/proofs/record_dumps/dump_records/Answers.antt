use Rattle.std.proofs.Common.{◌≡◌, ◌≤◌, ◌*◌, IfErr, arith}
use Rattle.sector_device.specs.Device.{history_joined, history_none}
use Rattle.store.specs.declared.fault.Fault.TheVariants.{Damaged}
use Rattle.copies.specs.RecordCopies.{HasOutsized, behind_mark}
use Rattle.copies.specs.declared.fault.CopyFault.TheVariants.{Read}
use Rattle.dumps.proofs.Heads.{answered}
use Rattle.dumps.specs.Form.{head}
use Rattle.dumps.specs.declared.place.DumpPlace.{DumpPlace}
use Rattle.database_dumps.specs.Dumping.{HasDumpCause}
use Rattle.database_dumps.proofs.Dumped.{cause_since, dumped, part_cause}
use Rattle.database_dumps.proofs.record_dumps.dump_records.Goals as goal

pub returns-in-Ok-end_dump-clause-dumped : goal.returns-in-Ok-end_dump-clause-dumped
returns-in-Ok-end_dump-clause-dumped g c = λ sound faithful zeros.
    let d0 = g.E.Device.state c.args.target.now in
    let d1 = g.E.Device.state c.begin_dump.new.device in
    let d2 = g.E.Device.state c.put_records.new.target in
    let d3 = g.E.Device.state c.end_dump.new.device in
    let f1 = c.begin_dump.ensures.history.faithful faithful in
    let f2 = c.put_records.ensures.history.faithful f1 in
    let begun = c.in-Ok.ensures.begun faithful zeros in
    let within : 8 * c.in-Ok.place.page ≤ d1.sectors = omega (arith, begun.some, begun.page) in
    dumped d1 d2 d3 c.args.number (g.M.Map.state c.args.source.now).map c.in-Ok.place c.put_records.new.place c.put_records.ensures.history.sectors c.end_dump.ensures.history.sectors begun
    (λ s lt. c.put_records.ensures.before f1 s lt) (c.in_ok-put_records.ensures.put sound f1 (head c.args.number) begun.hashed within)
    (λ s lt. c.end_dump.ensures.before f2 s lt) (λ b holds. c.in-Ok-end_dump.ensures.written f2 b holds) (c.in-Ok-end_dump.ensures.synced f2)

pub returns-in_err-put_records-clause-history : goal.returns-in_err-put_records-clause-history
returns-in_err-put_records-clause-history g c =
    history_joined (g.E.Device.state c.args.target.now) (g.E.Device.state c.begin_dump.new.device) (g.E.Device.state c.put_records.new.target) c.begin_dump.ensures.history c.put_records.ensures.history

pub returns-in_err-put_records-clause-cause : goal.returns-in_err-put_records-clause-cause
returns-in_err-put_records-clause-cause g c =
    let s = g.M.Map.state c.args.source.now in
    let t = g.M.Map.state c.put_records.new.source in
    let d0 = g.E.Device.state c.args.target.now in
    let d1 = g.E.Device.state c.begin_dump.new.device in
    let d2 = g.E.Device.state c.put_records.new.target in
    answered (λ r. IfErr r (λ fault. HasDumpCause fault s t d0 d2)) c.in_err-put_records.field-0.0 c.from_residual.result c.from_residual.ensures.1
    (cause_since c.in_err-put_records.field-0.0 s t d0 d1 d2 c.begin_dump.ensures.history c.put_records.ensures.history c.in_err-put_records.ensures.cause)

pub returns-in_err-put_records-clause-damaged : goal.returns-in_err-put_records-clause-damaged
returns-in_err-put_records-clause-damaged g c = λ sound.
    let records = behind_mark (g.M.Map.state c.args.source.now).map in
    answered (λ r. IfErr r (λ f. f ≡ Read Damaged → HasOutsized records)) c.in_err-put_records.field-0.0 c.from_residual.result c.from_residual.ensures.1 (c.in_err-put_records.ensures.damaged sound)

pub returns-in-Ok-end_dump-clause-history : goal.returns-in-Ok-end_dump-clause-history
returns-in-Ok-end_dump-clause-history g c =
    let d0 = g.E.Device.state c.args.target.now in
    let d1 = g.E.Device.state c.begin_dump.new.device in
    let d2 = g.E.Device.state c.put_records.new.target in
    let d3 = g.E.Device.state c.end_dump.new.device in
    history_joined d0 d2 d3 (history_joined d0 d1 d2 c.begin_dump.ensures.history c.put_records.ensures.history) c.end_dump.ensures.history

pub returns-in-Err-end_dump-clause-history : goal.returns-in-Err-end_dump-clause-history
returns-in-Err-end_dump-clause-history g c =
    let d0 = g.E.Device.state c.args.target.now in
    let d1 = g.E.Device.state c.begin_dump.new.device in
    let d2 = g.E.Device.state c.put_records.new.target in
    let d3 = g.E.Device.state c.end_dump.new.device in
    history_joined d0 d2 d3 (history_joined d0 d1 d2 c.begin_dump.ensures.history c.put_records.ensures.history) c.end_dump.ensures.history

pub returns-in-Err-clause-cause : goal.returns-in-Err-clause-cause
returns-in-Err-clause-cause g c =
    let s = g.M.Map.state c.args.source.now in
    let d0 = g.E.Device.state c.args.target.now in
    part_cause DumpPlace c.in-Err.fault s s d0 d0 (g.E.Device.state c.begin_dump.new.device) (history_none d0) c.begin_dump.ensures.history c.in-Err.ensures.cause

pub returns-in-Err-end_dump-clause-cause : goal.returns-in-Err-end_dump-clause-cause
returns-in-Err-end_dump-clause-cause g c =
    let s = g.M.Map.state c.args.source.now in
    let t = g.M.Map.state c.put_records.new.source in
    let d0 = g.E.Device.state c.args.target.now in
    let d1 = g.E.Device.state c.begin_dump.new.device in
    let d2 = g.E.Device.state c.put_records.new.target in
    part_cause (Unit {0}) c.in-Err-end_dump.fault s t d0 d2 (g.E.Device.state c.end_dump.new.device) (history_joined d0 d1 d2 c.begin_dump.ensures.history c.put_records.ensures.history) c.end_dump.ensures.history c.in-Err-end_dump.ensures.cause
