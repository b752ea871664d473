use Rattle.std.proofs.Common.{subst}
use Rattle.store.specs.Records.{Records}
use Rattle.catalogue_loading.specs.Found.{Finds}
use Rattle.catalogue_loading.specs.Held.{AreHeldOf}
use Rattle.catalogue_loading.proofs.TableLemmas.{tables_found}
use Rattle.catalogue_loading.proofs.tables.read_tables.Goals as goal

pub returns-in-Ok-clause-found : goal.returns-in-Ok-clause-found
returns-in-Ok-clause-found g c = λ s.
    let reads = c.in-Ok.ensures.read.only_reads in
    let found = subst (λ (es : Records). Finds (AreHeldOf es c.in-Ok.records) c.read_each.result) (reads.unchanged s).map (c.read_each.ensures.found (reads.history.sound s)) in
    tables_found (g.M.Map.state c.args.map.now).map c.in-Ok.records c.read_each.result (c.in-Ok.ensures.loaded s) found
