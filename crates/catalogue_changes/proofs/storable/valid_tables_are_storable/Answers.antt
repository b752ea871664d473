use Rattle.catalogue_changes.specs.SchemaChanges.{tables_named}
use Rattle.catalogue_changes.proofs.StorableLemmas.{valid_storable, put_storable, rows_sized}
use Rattle.catalogue_changes.proofs.storable.valid_tables_are_storable.Goals as goal

pub returns-clause-all : goal.returns-clause-all
returns-clause-all c = valid_storable

pub returns-clause-put : goal.returns-clause-put
returns-clause-put c = λ d db after t s makes whole. put_storable t d db after s makes.fits makes.is whole

pub returns-clause-rows : goal.returns-clause-rows
returns-clause-rows c = λ records d db name s. rows_sized records d db s (tables_named name d)
