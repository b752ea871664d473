use Rattle.std.proofs.Common.{refl, sym, subst, ◌∙◌}
use Rattle.store.specs.Records.{Records}
use Rattle.store.specs.Store.{stored}
use Rattle.transactions.specs.Views.{applied_all}
use Rattle.copies.specs.RecordCopies.{HasOutsized, behind_mark}
use Rattle.copies.specs.DatabaseCopies.{IsRead}
use Rattle.copies.proofs.Copying.{no_outsized, undamaged}
use Rattle.std.specs.Prelude.{OnOk}
use Rattle.database_dumps.specs.Dumping.{HasDumpedRecords}
use Rattle.database_dumps.proofs.Stored.{dump_cause, dumped_store, read_refused, undamaged_answer}
use Rattle.database_dumps.proofs.database_dumps.dump_store.Goals as goal

pub returns-in-Err-clause-damaged : goal.returns-in-Err-clause-damaged
returns-in-Err-clause-damaged g c = λ sound db stands is. c.in-Err.ensures.damaged sound db stands (read_refused c.in-Err.fault is)

pub returns-in-Err-clause-cause : goal.returns-in-Err-clause-cause
returns-in-Err-clause-cause g c = c.in-Err.ensures.read.cause

pub returns-in-Err-clause-refused : goal.returns-in-Err-clause-refused
returns-in-Err-clause-refused g c = λ sound is. refl

pub returns-clause-dumped : goal.returns-clause-dumped
returns-clause-dumped g c = λ sound faithful zeros.
    let old = g.S.Map.state c.args.store.now in
    let lists = c.as_slice.result.now in
    let reads = c.in-Ok.ensures.read.only_reads in
    let there = reads.history.sound sound in
    let same = reads.unchanged sound in
    let result = c.dump_under.result in
    let new = g.E.Device.state c.dump_under.new.target in
    let is : IsRead (stored old) lists = subst (IsRead (stored old)) (sym c.as_slice.ensures) (c.in-Ok.ensures.found sound) in
    dumped_store c.copied_records_stand.ensures.all old lists c.number-number.result new result is (c.number-number.ensures ∙ same.number)
    (subst (λ (es : Records). OnOk result (HasDumpedRecords (applied_all lists es) c.number-number.result new)) same.map (c.dump_under.ensures.dumped there faithful zeros))

pub returns-clause-damaged : goal.returns-clause-damaged
returns-clause-damaged g c = λ sound db stands.
    let old = g.S.Map.state c.args.store.now in
    let lists = c.as_slice.result.now in
    let reads = c.in-Ok.ensures.read.only_reads in
    let same = (reads.unchanged sound).map in
    let all = c.copied_records_stand.ensures.all in
    let is : IsRead (stored old) lists = subst (IsRead (stored old)) (sym c.as_slice.ensures) (c.in-Ok.ensures.found sound) in
    undamaged (HasOutsized (behind_mark (applied_all lists (g.S.Map.state c.read_source.new.store).map))) c.dump_under.result (c.dump_under.ensures.damaged (reads.history.sound sound))
    (λ has. no_outsized c.copied_records_stand.ensures.sizes all (stored old) lists is (subst (λ (es : Records). HasOutsized (behind_mark (applied_all lists es))) same has))

pub returns-clause-refused : goal.returns-clause-refused
returns-clause-refused g c = λ sound answered.
    let old = g.S.Map.state c.args.store.now in
    let lists = c.as_slice.result.now in
    let reads = c.in-Ok.ensures.read.only_reads in
    let same = (reads.unchanged sound).map in
    let all = c.copied_records_stand.ensures.all in
    let is : IsRead (stored old) lists = subst (IsRead (stored old)) (sym c.as_slice.ensures) (c.in-Ok.ensures.found sound) in
    absurd (undamaged_answer c.dump_under.result
    (undamaged (HasOutsized (behind_mark (applied_all lists (g.S.Map.state c.read_source.new.store).map))) c.dump_under.result (c.dump_under.ensures.damaged (reads.history.sound sound))
    (λ has. no_outsized c.copied_records_stand.ensures.sizes all (stored old) lists is (subst (λ (es : Records). HasOutsized (behind_mark (applied_all lists es))) same has))) answered)

pub returns-clause-cause : goal.returns-clause-cause
returns-clause-cause g c =
    let old = g.S.Map.state c.args.store.now in
    let mid = g.S.Map.state c.read_source.new.store in
    let new = g.S.Map.state c.dump_under.new.map in
    dump_cause c.dump_under.result old mid new _ _ c.in-Ok.ensures.read.only_reads.history c.in-Ok.ensures.read.failed c.dump_under.ensures.history c.dump_under.ensures.cause
