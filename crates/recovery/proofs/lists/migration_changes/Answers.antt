use Rattle.std.proofs.Common.{[], ◌∷◌, sym, subst}
use Rattle.store.specs.Records.{Record, Records}
use Rattle.catalogue_loading.specs.Walks.{AreHeld}
use Rattle.recovery.specs.MigrationChanges.{IsAnything}
use Rattle.recovery.proofs.Placing.{fault_of_reading, places_migrate}
use Rattle.recovery.proofs.lists.migration_changes.Goals as goal

pub returns-in-Err-clause-spelled : goal.returns-in-Err-clause-spelled
returns-in-Err-clause-spelled g c = λ s. fault_of_reading c.in-Err.fault (g.M.Map.state c.args.map.now).map (c.in-Err.ensures.loaded s)

pub returns-clause-spelled : goal.returns-clause-spelled
returns-clause-spelled g c = λ s.
    let records = (g.M.Map.state c.args.map.now).map in
    let held = subst (λ (items : Records). AreHeld IsAnything (λ (e : Record). e) records (4 ∷ []) items) (sym c.as_slice.ensures) (c.in-Ok.ensures.loaded s) in
    places_migrate c.place_changes.result records c.as_slice.result.now (g.met.M.Map.ordered c.args.map.now s) held c.place_changes.ensures.placed c.place_changes.ensures.undamaged
