use Rattle.std.proofs.Common.{List, Err, sym, subst}
use Rattle.store.specs.Records.{Records, Changes}
use Rattle.store.specs.Store.{stored}
use Rattle.transactions.specs.Views.{applied_all}
use Rattle.catalogue_loading.specs.Found.{Finds}
use Rattle.recovery.specs.MigrationChanges.{AreMigrating}
use Rattle.recovery.specs.Openings.{AreOfDatabase}
use Rattle.copies.specs.DatabaseCopies.{IsRead}
use Rattle.copies.proofs.Reading.{all_there, no_lists, none_there}
use Rattle.copies.proofs.source.read_source.Goals as goal

pub returns-in-Err-clause-damaged : goal.returns-in-Err-clause-damaged
returns-in-Err-clause-damaged g c = λ sound db stands.
    no_lists c.in-Err.fault (stored (g.S.Map.state c.args.store.now)) db (c.in-Err.ensures.spelled sound) stands

pub returns-in-Err-read_under-clause-damaged : goal.returns-in-Err-read_under-clause-damaged
returns-in-Err-read_under-clause-damaged g c = λ sound db stands.
    let old = g.S.Map.state c.args.store.now in
    let fault = c.in-Err-read_under.fault in
    let lists = c.as_slice.result.now in
    let reads = c.in-Ok.ensures.read.only_reads in
    let are = subst (λ (ls : List Changes). AreMigrating old.record_format old.map ls) (sym c.as_slice.ensures) (c.in-Ok.ensures.spelled sound) in
    none_there fault (stored old) db lists are
    (subst (λ (es : Records). Finds (AreOfDatabase (applied_all lists es)) (Err fault)) (reads.unchanged sound).map (c.in-Err-read_under.ensures.found (reads.history.sound sound))) stands

pub returns-in-Ok-read_under-clause-found : goal.returns-in-Ok-read_under-clause-found
returns-in-Ok-read_under-clause-found g c = λ sound.
    let old = g.S.Map.state c.args.store.now in
    let lists = c.as_slice.result.now in
    let reads = c.in-Ok.ensures.read.only_reads in
    let are = subst (λ (ls : List Changes). AreMigrating old.record_format old.map ls) (sym c.as_slice.ensures) (c.in-Ok.ensures.spelled sound) in
    subst (IsRead (stored old)) c.as_slice.ensures
    (all_there (stored old) c.in-Ok-read_under._catalogue lists are
    (subst (λ (es : Records). AreOfDatabase (applied_all lists es) c.in-Ok-read_under._catalogue) (reads.unchanged sound).map (c.in-Ok-read_under.ensures.found (reads.history.sound sound))))
