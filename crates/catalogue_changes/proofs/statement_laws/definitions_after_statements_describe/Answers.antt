use Rattle.catalogue_changes.proofs.ChangeLemmas.{change_described, put_in_order}
use Rattle.catalogue_changes.proofs.statement_laws.definitions_after_statements_describe.Goals as goal

pub returns-clause-described : goal.returns-clause-described
returns-clause-described c = λ x d db after s makes whole. change_described d db after s x makes.fits makes.is whole

pub returns-clause-parts : goal.returns-clause-parts
returns-clause-parts c = λ d db after t s makes whole. put_in_order d db after s t makes.fits makes.is whole
