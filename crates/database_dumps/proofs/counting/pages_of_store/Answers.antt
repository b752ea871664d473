use Rattle.std.proofs.Common.{sym, subst}
use Rattle.store.specs.Records.{Records}
use Rattle.store.specs.Store.{stored}
use Rattle.transactions.specs.Views.{applied_all}
use Rattle.copies.specs.RecordCopies.{HasOutsized, behind_mark}
use Rattle.copies.specs.DatabaseCopies.{IsRead}
use Rattle.copies.proofs.Copying.{no_outsized}
use Rattle.database_dumps.proofs.Counted.{full_cause, full_undamaged}
use Rattle.database_dumps.proofs.Stored.{read_refused}
use Rattle.database_dumps.proofs.counting.pages_of_store.Goals as goal

pub returns-in-Err-clause-damaged : goal.returns-in-Err-clause-damaged
returns-in-Err-clause-damaged g c = λ sound db stands is. c.in-Err.ensures.damaged sound db stands (read_refused c.in-Err.fault is)

pub returns-in-Err-clause-cause : goal.returns-in-Err-clause-cause
returns-in-Err-clause-cause g c = c.in-Err.ensures.read.cause

pub returns-in-Ok-count_under-clause-cause : goal.returns-in-Ok-count_under-clause-cause
returns-in-Ok-count_under-clause-cause g c =
    full_cause c.within_a_file.result c.in-Ok-count_under.pages (g.S.Map.state c.args.store.now) (g.S.Map.state c.count_under.new.map) c.within_a_file.ensures.cause

pub returns-in-Ok-count_under-clause-damaged : goal.returns-in-Ok-count_under-clause-damaged
returns-in-Ok-count_under-clause-damaged g c = λ sound db stands. full_undamaged c.within_a_file.result c.in-Ok-count_under.pages c.within_a_file.ensures.cause

pub returns-clause-damaged : goal.returns-clause-damaged
returns-clause-damaged g c = λ sound db stands damaged.
    let old = g.S.Map.state c.args.store.now in
    let lists = c.as_slice.result.now in
    let reads = c.in-Ok.ensures.read.only_reads in
    let same = (reads.unchanged sound).map in
    let is : IsRead (stored old) lists = subst (IsRead (stored old)) (sym c.as_slice.ensures) (c.in-Ok.ensures.found sound) in
    no_outsized c.copied_records_stand.ensures.sizes c.copied_records_stand.ensures.all (stored old) lists is
    (subst (λ (es : Records). HasOutsized (behind_mark (applied_all lists es))) same (c.in-Err-count_under.ensures.damaged (reads.history.sound sound) damaged))
