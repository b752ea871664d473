use Rattle.std.proofs.Common.{sym, subst}
use Rattle.store.specs.Records.{Records}
use Rattle.store.specs.Store.{stored}
use Rattle.transactions.specs.Views.{applied_all}
use Rattle.copies.specs.RecordCopies.{HasOutsized, behind_mark}
use Rattle.copies.specs.DeviceCopies.{CopiesTo}
use Rattle.copies.specs.DatabaseCopies.{IsRead}
use Rattle.copies.proofs.Copying.{copies_read, copies_store, no_outsized, refused_read, source_cause, undamaged}
use Rattle.copies.proofs.database_copies.copy_store.Goals as goal

pub returns-in-Err-clause-copies : goal.returns-in-Err-clause-copies
returns-in-Err-clause-copies g c = λ sound.
    refused_read g.E.Device.state (stored (g.S.Map.state c.args.store.now)) c.in-Err.fault c.args.target (c.in-Err.ensures.damaged sound)

pub returns-in-Err-clause-cause : goal.returns-in-Err-clause-cause
returns-in-Err-clause-cause g c = c.in-Err.ensures.read.cause

pub returns-clause-copies : goal.returns-clause-copies
returns-clause-copies g c = λ sound.
    let old = g.S.Map.state c.args.store.now in
    let lists = c.as_slice.result.now in
    let result = c.copy_under.result.1 in
    let reads = c.in-Ok.ensures.read.only_reads in
    let there = reads.history.sound sound in
    let same = (reads.unchanged sound).map in
    let all = c.copied_records_stand.ensures.all in
    let is : IsRead (stored old) lists = subst (IsRead (stored old)) (sym c.as_slice.ensures) (c.in-Ok.ensures.found sound) in
    copies_store g.E.Device.state (stored old) result c.args.target c.copy_under.result.0
    (copies_read g.E.Device.state all (stored old) lists result c.args.target c.copy_under.result.0 is
    (subst (λ (es : Records). CopiesTo g.E.Device.state (applied_all lists es) result c.args.target c.copy_under.result.0) same (c.copy_under.ensures.copies there)))
    (undamaged (HasOutsized (behind_mark (applied_all lists (g.S.Map.state c.read_source.new.store).map))) result (c.copy_under.ensures.damaged there)
    (λ has. no_outsized c.copied_records_stand.ensures.sizes all (stored old) lists is (subst (λ (es : Records). HasOutsized (behind_mark (applied_all lists es))) same has)))

pub returns-clause-cause : goal.returns-clause-cause
returns-clause-cause g c =
    let old = g.S.Map.state c.args.store.now in
    let mid = g.S.Map.state c.read_source.new.store in
    let new = g.S.Map.state c.copy_under.new.map in
    source_cause c.copy_under.result.1 old mid new c.in-Ok.ensures.read.only_reads.history c.in-Ok.ensures.read.failed c.copy_under.ensures.history c.copy_under.ensures.cause
