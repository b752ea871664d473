use Rattle.expressions.proofs.OrderLaws.{compared_itself, compared_equal, compared_less, compared_greater, compared_onward}
use Rattle.expressions.proofs.laws.order_is_total.Goals as goal

pub returns-clause-same : goal.returns-clause-same
returns-clause-same c = compared_itself

pub returns-clause-equal : goal.returns-clause-equal
returns-clause-equal c = compared_equal

pub returns-clause-turned : goal.returns-clause-turned
returns-clause-turned c = compared_less

pub returns-clause-turned_back : goal.returns-clause-turned_back
returns-clause-turned_back c = compared_greater

pub returns-clause-transitive : goal.returns-clause-transitive
returns-clause-transitive c = compared_onward
