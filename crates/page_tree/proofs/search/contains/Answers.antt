use Rattle.std.proofs.Common.{List, [], sym, ap, ◌∙◌}
use Rattle.page_nodes.specs.Map.{Entry, value_for}
use Rattle.page_tree.proofs.Faults.{fails}
use Rattle.page_tree.proofs.Descent.{numbered_of, lent_as, has_value}
use Rattle.page_tree.proofs.Depth.{root_at}
use Rattle.page_tree.proofs.search.contains.Goals as goal

pub returns-in_err-leaf_below-clause-found : goal.returns-in_err-leaf_below-clause-found
returns-in_err-leaf_below-clause-found g c sound map represents =
    let at = root_at (g.P.Pages.state c.args.pages.now).array map c.args.key.now (numbered_of g.P.Pages c.args.pages.now sound) represents in
    fails c.from_residual.result c.in_err-leaf_below.field-0.0 _ _ c.from_residual.ensures.1 (c.in_err-leaf_below.ensures.found sound _ at)

pub returns-in_default-clause-found : goal.returns-in_default-clause-found
returns-in_default-clause-found g c sound map represents =
    let at = root_at (g.P.Pages.state c.args.pages.now).array map c.args.key.now (numbered_of g.P.Pages c.args.pages.now sound) represents in
    let found = c.in_ok-leaf_below.ensures.found sound _ at in
    absurd (c.in_default.ensures [] found.0 (lent_as c.fetched.ensures found.1))

pub returns-clause-found : goal.returns-clause-found
returns-clause-found g c sound map represents =
    let at = root_at (g.P.Pages.state c.args.pages.now).array map c.args.key.now (numbered_of g.P.Pages c.args.pages.now sound) represents in
    let found = c.in_ok-leaf_below.ensures.found sound _ at in
    let value = ap (λ (es : List Entry). value_for c.args.key.now es) (sym represents.entries_are) ∙ found.2 in
    c.is_some.ensures ∙ has_value (value_for c.args.key.now map) (value_for c.args.key.now found.0) c.in-Some.found value (c.in-Some.ensures [] found.0 (lent_as c.fetched.ensures found.1))
