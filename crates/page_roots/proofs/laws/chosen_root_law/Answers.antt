use Rattle.page_roots.proofs.Choosing.{chosen_where, chosen_once}
use Rattle.page_roots.proofs.laws.chosen_root_law.Goals as goal

pub returns-clause-chosen : goal.returns-clause-chosen
returns-clause-chosen c = chosen_where

pub returns-clause-once : goal.returns-clause-once
returns-clause-once c = chosen_once
