use Rattle.page_tree.proofs.Walk.{records_met}
use Rattle.page_tree.proofs.Represented.{one_map, map_rises, root_used, map_of_same}
use Rattle.page_tree.proofs.laws.represented_map.Goals as goal

pub returns-clause-walked : goal.returns-clause-walked
returns-clause-walked c = records_met

pub returns-clause-one : goal.returns-clause-one
returns-clause-one c = one_map

pub returns-clause-rising : goal.returns-clause-rising
returns-clause-rising c = map_rises

pub returns-clause-root : goal.returns-clause-root
returns-clause-root c = root_used

pub returns-clause-same : goal.returns-clause-same
returns-clause-same c = map_of_same
