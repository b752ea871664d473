use Rattle.catalogue.proofs.ValidDefinitions.{in_order, parts_in_order, have_conditions}
use Rattle.catalogue.proofs.laws.valid_definitions_are_those_of_a_catalogue.Goals as goal

pub returns-clause-order : goal.returns-clause-order
returns-clause-order c d v = in_order d v

pub returns-clause-parts : goal.returns-clause-parts
returns-clause-parts c d v t among = parts_in_order d v t among

pub returns-clause-conditions : goal.returns-clause-conditions
returns-clause-conditions c d t p v among of = have_conditions d v t among p of
