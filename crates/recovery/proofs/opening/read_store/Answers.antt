use Rattle.std.proofs.Common.{List, Err, sym, subst}
use Rattle.store.specs.Records.{Records, Changes}
use Rattle.store.specs.Store.{stored}
use Rattle.transactions.specs.Views.{applied_all}
use Rattle.catalogue_loading.specs.Found.{Finds}
use Rattle.recovery.specs.MigrationChanges.{AreMigrating}
use Rattle.recovery.specs.Openings.{AreOfDatabase}
use Rattle.recovery.specs.Read.{AreRead}
use Rattle.recovery.proofs.Reading.{no_lists, none_there}
use Rattle.recovery.proofs.opening.read_store.Goals as goal

pub returns-in-Err-migration_lists-clause-found : goal.returns-in-Err-migration_lists-clause-found
returns-in-Err-migration_lists-clause-found g c = λ sound.
    let state = g.S.Map.state in
    let mid = c.check_store.new.store in
    let fault = c.in-Err-migration_lists.fault in
    subst (λ (s : _). AreRead (stored (state s)) (Err fault)) c.in-Ok.ensures.works.1
    (no_lists fault (stored (state mid)) (c.in-Err-migration_lists.ensures.spelled (c.in-Ok.ensures.read.only_reads.history.sound sound)))

pub returns-in-Err-read_under-clause-found : goal.returns-in-Err-read_under-clause-found
returns-in-Err-read_under-clause-found g c = λ sound.
    let state = g.S.Map.state in
    let mid = c.check_store.new.store in
    let fault = c.in-Err-read_under.fault in
    let lists = c.as_slice.result.now in
    let still = c.in-Ok.ensures.read.only_reads.history.sound sound in
    let reads = c.in-Ok-migration_lists.ensures.read.only_reads in
    let are = subst (λ (ls : List Changes). AreMigrating (state mid).record_format (state mid).map ls) (sym c.as_slice.ensures) (c.in-Ok-migration_lists.ensures.spelled still) in
    let finds =
    subst (λ (es : Records). Finds (AreOfDatabase (applied_all lists es)) (Err fault)) (reads.unchanged still).map
    (c.in-Err-read_under.ensures.found (reads.history.sound still)) in
    subst (λ (s : _). AreRead (stored (state s)) (Err fault)) c.in-Ok.ensures.works.1 (none_there fault (stored (state mid)) lists are finds)
