use Rattle.page_tree.proofs.CheckSteps.{marks_none}
use Rattle.page_tree.proofs.check.no_marks.Goals as goal

pub returns : goal.returns
returns c = marks_none c.args.count c.in_ok-marks.marks.items (c.in_ok-marks.ensures.items_if_clones_equal (λ y same. same))
