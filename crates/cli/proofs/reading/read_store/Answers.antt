use Rattle.std.proofs.Common.{List, sym, subst}
use Rattle.store.specs.Records.{Records, Changes}
use Rattle.store.specs.Store.{stored}
use Rattle.transactions.specs.Views.{applied_all}
use Rattle.catalogue_loading.specs.Found.{Finds}
use Rattle.recovery.specs.MigrationChanges.{AreMigrating}
use Rattle.recovery.specs.Openings.{AreOfDatabase}
use Rattle.cli.proofs.OnlyRead.{found_under}
use Rattle.cli.proofs.reading.read_store.Goals as goal

pub returns-clause-found : goal.returns-clause-found
returns-clause-found g c = λ sound.
    let state = g.S.Map.state in
    let old = c.args.store.now in
    let lists = c.as_slice.result.now in
    let reads = c.in-Ok.ensures.read.only_reads in
    let are = subst (λ (ls : List Changes). AreMigrating (state old).record_format (state old).map ls) (sym c.as_slice.ensures) (c.in-Ok.ensures.spelled sound) in
    let finds = subst (λ (es : Records). Finds (AreOfDatabase (applied_all lists es)) c.read_under.result) (reads.unchanged sound).map (c.read_under.ensures.found (reads.history.sound sound)) in
    found_under c.read_under.result (stored (state old)) lists are finds
