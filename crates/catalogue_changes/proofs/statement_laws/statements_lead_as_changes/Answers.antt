use Rattle.std.proofs.Common.{sym, subst}
use Rattle.store.specs.Records.{Records, applied}
use Rattle.store.proofs.Changes.{ordered_applied}
use Rattle.stored_database.specs.Records.{Shows}
use Rattle.catalogue.specs.Changes.{changed}
use Rattle.catalogue_changes.proofs.ChangeLemmas.{change_leads}
use Rattle.catalogue_changes.proofs.statement_laws.statements_lead_as_changes.Goals as goal

pub returns-clause-changes : goal.returns-clause-changes
returns-clause-changes c = λ x records d db after o s makes whole. change_leads x records d db after o s makes.fits makes.is whole

pub returns-clause-batch : goal.returns-clause-batch
returns-clause-batch c = λ x records old new d db after o s adds makes whole.
    subst (λ (z : Records). Shows z (changed x d) after) (sym (adds records o))
    (change_leads x (applied old records) d db after (ordered_applied old records o) s makes.fits makes.is whole)
