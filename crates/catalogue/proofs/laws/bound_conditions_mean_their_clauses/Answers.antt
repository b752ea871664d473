use Rattle.std.proofs.Common.{[], ◌∷◌}
use Rattle.abstract_database.specs.Expressions.{cell_in}
use Rattle.catalogue.proofs.ValidDefinitions.{one_binding}
use Rattle.catalogue.proofs.laws.bound_conditions_mean_their_clauses.Goals as goal

pub returns-clause-outcome : goal.returns-clause-outcome
returns-clause-outcome c t clause e bound users row = bound.means (cell_in (row ∷ [])) users

pub returns-clause-one : goal.returns-clause-one
returns-clause-one c t clause e f p q = one_binding t clause e f p q
