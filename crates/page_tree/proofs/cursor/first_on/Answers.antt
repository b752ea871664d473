use Rattle.page_tree.proofs.Faults.{fails, memory_is}
use Rattle.page_tree.proofs.Represented.{map_rises}
use Rattle.page_tree.proofs.cursor.first_on.Goals as goal

pub returns-in_err-step-clause-found : goal.returns-in_err-step-clause-found
returns-in_err-step-clause-found g c sound map represents keeps =
    let is = c.in_err-step.ensures.stepped map (map_rises (g.P.Pages.state c.args.pages.now).array map represents) keeps in
    (fails c.from_residual.result c.in_err-step.field-0.0 _ _ c.from_residual.ensures.1 (memory_is _ _ is.0), is.1)

pub returns-then-branch-clause-found : goal.returns-then-branch-clause-found
returns-then-branch-clause-found g c sound map represents keeps =
    let is = c.in_ok-step.ensures.stepped map (map_rises (g.P.Pages.state c.args.pages.now).array map represents) keeps in
    (is.0 c.if-branch.true, is.1)
