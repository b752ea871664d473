use Rattle.std.proofs.Common.{◌≡◌, true, List, Err, sym, subst}
use Rattle.store.specs.Records.{Records}
use Rattle.stored_database.specs.Definitions.{TableDefinition, ids_of}
use Rattle.catalogue.specs.Catalogues.{definitions_of}
use Rattle.catalogue_loading.specs.Found.{Finds}
use Rattle.catalogue_loading.specs.Held.{HasNoOrphan}
use Rattle.catalogue_loading.specs.Recorded.{AreRecorded}
use Rattle.catalogue_loading.proofs.DefinitionLemmas.{held_ordered, held_recorded}
use Rattle.catalogue_loading.proofs.OrphanLemmas.{parts_fault, orphans_fault}
use Rattle.catalogue_loading.proofs.definitions.read_definitions.Goals as goal

pub returns-in-Err-clause-defined : goal.returns-in-Err-clause-defined
returns-in-Err-clause-defined g c = λ s. parts_fault (g.M.Map.state c.args.map.now).map c.in-Err.fault (c.in-Err.ensures.found s)

pub returns-then-not-are_in_order-clause-defined : goal.returns-then-not-are_in_order-clause-defined
returns-then-not-are_in_order-clause-defined g c = λ s d defined.
    let ordered : c.are_in_order.result ≡ true = c.are_in_order.ensures.1
    (held_ordered (g.M.Map.state c.args.map.now).map (definitions_of c.in-Ok.parts) (c.in-Ok.ensures.found s) (g.met.M.Map.ordered c.args.map.now s)) in
    let not_ordered = c.if-not-are_in_order.true in
    cc

pub returns-in-Ok-new-clause-defined : goal.returns-in-Ok-new-clause-defined
returns-in-Ok-new-clause-defined g c = λ s.
    let reads = c.in-Ok.ensures.read.only_reads in
    let records = (g.M.Map.state c.args.map.now).map in
    let held = definitions_of c.in-Ok.parts in
    let found = subst (λ (es : Records). HasNoOrphan (ids_of c.as_slice.result.now) es) (reads.unchanged s).map (c.in-Ok-check_orphans.ensures.found (reads.history.sound s)) in
    let none = subst (λ (ts : List TableDefinition). HasNoOrphan (ids_of ts) records) c.as_slice.ensures found in
    subst (AreRecorded records) (sym c.in-Ok-new.ensures) (held_recorded records held (c.in-Ok.ensures.found s) (g.met.M.Map.ordered c.args.map.now s) none)

pub returns-in-Err-check_orphans-clause-defined : goal.returns-in-Err-check_orphans-clause-defined
returns-in-Err-check_orphans-clause-defined g c = λ s.
    let reads = c.in-Ok.ensures.read.only_reads in
    let records = (g.M.Map.state c.args.map.now).map in
    let found = subst (λ (es : Records). Finds (λ (x : Unit {0}). HasNoOrphan (ids_of c.as_slice.result.now) es) (Err c.in-Err-check_orphans.fault)) (reads.unchanged s).map
    (c.in-Err-check_orphans.ensures.found (reads.history.sound s)) in
    let orphans = subst (λ (ts : List TableDefinition). Finds (λ (x : Unit {0}). HasNoOrphan (ids_of ts) records) (Err c.in-Err-check_orphans.fault)) c.as_slice.ensures found in
    orphans_fault records (definitions_of c.in-Ok.parts) c.in-Err-check_orphans.fault (c.in-Ok.ensures.found s) orphans
