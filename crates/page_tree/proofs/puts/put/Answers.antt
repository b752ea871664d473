use Rattle.std.proofs.Common.{◌∙◌, List, [], None, Some, ap, arith, ◌+◌, ◌*◌}
use Rattle.page_nodes.specs.Map.{Entry, with_entry}
use Rattle.page_tree.specs.Forest.{entries}
use Rattle.page_tree.proofs.Faults.{fails, gives_since}
use Rattle.page_tree.proofs.Descent.{numbered_of, present}
use Rattle.page_tree.proofs.Depth.{root_at}
use Rattle.page_tree.proofs.PutSteps.{root_put, root_met, at_made, represents_as}
use Rattle.page_tree.proofs.Taking.{grown, one_made, err_fails, taken_in_all}
use Rattle.page_tree.specs.Taking.{count_made}
use Rattle.page_tree.proofs.puts.put.Goals as goal

pub returns-in_err-put_below-clause-put : goal.returns-in_err-put_below-clause-put
returns-in_err-put_below-clause-put g c sound map represents =
    let at = root_at (g.P.Pages.state c.args.pages.now).array map c.args.key.now (numbered_of g.P.Pages c.args.pages.now sound) represents in
    fails c.from_residual.result c.in_err-put_below.field-0.0 _ _ c.from_residual.ensures.1 (c.in_err-put_below.ensures.put sound _ at)

pub returns-in-None-clause-put : goal.returns-in-None-clause-put
returns-in-None-clause-put g c sound map represents =
    let A = (g.P.Pages.state c.args.pages.now).array in
    let B = (g.P.Pages.state c.put_below.new.pages).array in
    let at = root_at A map c.args.key.now (numbered_of g.P.Pages c.args.pages.now sound) represents in
    let below = c.in_ok-put_below.ensures.put sound _ at in
    let separator = c.put_below.new.scratch.separator.items in
    let one = at_made A B c.args.key.now c.args.value.now represents.is_tree.depth [] None 0 represents.tree c.in_ok-put_below.field-0 None separator c.in-None.is below.1 in
    (below.0, root_put A B map c.args.key.now c.args.value.now separator represents one)

pub returns-in-Some-clause-put : goal.returns-in-Some-clause-put
returns-in-Some-clause-put g c sound map represents =
    let A = (g.P.Pages.state c.args.pages.now).array in
    let B = (g.P.Pages.state c.put_below.new.pages).array in
    let numbered = numbered_of g.P.Pages c.args.pages.now sound in
    let at = root_at A map c.args.key.now numbered represents in
    let below = c.in_ok-put_below.ensures.put sound _ at in
    let separator = c.put_below.new.scratch.separator.items in
    let two = at_made A B c.args.key.now c.args.value.now represents.is_tree.depth [] None 0 represents.tree c.in_ok-put_below.field-0 (Some c.in-Some.second) separator c.in-Some.is below.1 in
    let used = two.put.stays 0 (present A numbered represents.tree represents.is_tree.depth [] None 0 represents.is_tree.sound represents.is_tree.root (omega arith)) in
    let same = two.put.entries_are ∙ ap (λ (es : List Entry). with_entry c.args.key.now c.args.value.now es) represents.entries_are in
    gives_since g.P.Pages c.args.pages.now c.put_below.new.pages c.grow_root.new.pages c.grow_root.result _ _ c.in_ok-put_below.ensures.preserved
    (λ _ grown. let r = grown two.new represents.is_tree.depth two.put.sound two.put.full two.top (root_met A B map c.args.key.now c.args.value.now c.in-Some.second separator represents two) in
    (r.0, represents_as _ (entries two.new) _ same r.1))
    (c.grow_root.ensures.grown below.0 used)

pub returns-in_err-put_below-clause-takes : goal.returns-in_err-put_below-clause-takes
returns-in_err-put_below-clause-takes g c sound map represents =
    let at = root_at (g.P.Pages.state c.args.pages.now).array map c.args.key.now (numbered_of g.P.Pages c.args.pages.now sound) represents in
    let d = represents.is_tree.depth in
    err_fails c.from_residual.result c.in_err-put_below.field-0.0 _ c.from_residual.ensures.1
    (λ is. taken_in_all g.P.Pages c.args.pages.now c.put_below.new.pages [] (2 * d + 1) (2 * (d + 1)) (c.in_err-put_below.ensures.takes sound _ at is) (omega arith))

pub returns-in-Some-clause-takes : goal.returns-in-Some-clause-takes
returns-in-Some-clause-takes g c sound map represents =
    let at = root_at (g.P.Pages.state c.args.pages.now).array map c.args.key.now (numbered_of g.P.Pages c.args.pages.now sound) represents in
    let d = represents.is_tree.depth in
    let made = c.in_ok-put_below.field-0 in
    grown g.P.Pages c.args.pages.now c.put_below.new.pages c.grow_root.new.pages (2 * d + count_made made) (2 * (d + 1)) c.grow_root.result (c.in_ok-put_below.ensures.takes sound _ at)
    (omega (arith, one_made made)) c.grow_root.ensures.takes
