use Rattle.std.proofs.Common.{◌≡◌, ℕ, List, ◌∙◌, subst}
use Rattle.stored_database.specs.Definitions.{ids_of}
use Rattle.catalogue_loading.specs.Found.{Finds}
use Rattle.catalogue_loading.specs.Held.{HasNoOrphan}
use Rattle.catalogue_loading.proofs.OrphanLemmas.{orphans_found}
use Rattle.catalogue_loading.proofs.orphans.check_orphans.Goals as goal

pub returns-clause-found : goal.returns-clause-found
returns-clause-found g c = λ s.
    let records = (g.M.Map.state c.args.map.now).map in
    let ids : c.deref.result.now ≡ ids_of c.args.tables.now = c.deref.ensures.value ∙ c.in_ok-ids.ensures in
    subst (λ (ns : List ℕ). Finds (λ (x : Unit {0}). HasNoOrphan ns records) c.check_prefixes.result) ids
    (orphans_found c.deref.result.now records c.check_prefixes.result (c.check_prefixes.ensures.checked s))
