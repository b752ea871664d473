use Rattle.catalogue_loading.proofs.laws.loaded_catalogues_are_the_prepared_ones.Goals as goal

pub returns-clause-same : goal.returns-clause-same
returns-clause-same c = λ records prepared loaded made found. c.one_catalogue.ensures records loaded prepared found made

pub returns-clause-undamaged : goal.returns-clause-undamaged
returns-clause-undamaged c = λ records prepared made none. none prepared made
