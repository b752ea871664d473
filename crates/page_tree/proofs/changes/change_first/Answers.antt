use Rattle.std.proofs.Common.{◌≡◌, Option, List, [], ap, ◌∙◌, arith, ◌+◌, ◌*◌, subst, take}
use Rattle.page_nodes.specs.Map.{Entry}
use Rattle.page_tree.specs.Forest.{entries}
use Rattle.page_tree.specs.Changed.{edited_in_turn}
use Rattle.page_tree.specs.Taking.{TakesPages, most_changed}
use Rattle.page_tree.specs.declared.changes.Changed.{Changed}
use Rattle.page_tree.proofs.Faults.{fails, caused_since, gives_since}
use Rattle.page_tree.proofs.Turning.{begun}
use Rattle.page_tree.proofs.PutSteps.{represents_as}
use Rattle.page_tree.proofs.RemovalPages.{only_still}
use Rattle.page_tree.proofs.Bounded.{still_represents}
use Rattle.page_tree.proofs.Made.{none_is, some_is, later_takes}
use Rattle.page_tree.proofs.Taking.{taken_in_all, err_fails}
use Rattle.page_tree.proofs.changes.change_first.Goals as goal

pub returns-in_err-changed-clause-changed : goal.returns-in_err-changed-clause-changed
returns-in_err-changed-clause-changed g c sound map represents =
    let b = begun g.P.Pages c.args.pages.now sound map represents c.args.changes.now c.requires.some in
    fails c.from_residual.result c.in_err-changed.field-0.0 _ _ c.from_residual.ensures.1 (c.in_err-changed.ensures.changed sound _ b.first b.rest b.whole b.at c.clear.ensures)

pub returns-in-None-clause-changed : goal.returns-in-None-clause-changed
returns-in-None-clause-changed g c sound map represents =
    let b = begun g.P.Pages c.args.pages.now sound map represents c.args.changes.now c.requires.some in
    let none = none_is _ _ _ c.in-None.is (c.in_ok-changed.ensures.changed sound _ b.first b.rest b.whole b.at c.clear.ensures) in
    gives_since g.P.Pages c.args.pages.now c.change_below.new.pages c.put_first.new.pages c.put_first.result _ _ c.in_ok-changed.ensures.preserved (λ made is. is)
    (c.put_first.ensures.put none.0.sound map (still_represents (g.P.Pages.state c.args.pages.now).array (g.P.Pages.state c.change_below.new.pages).array map none.0.same represents) b.first b.rest b.whole none.1)

pub returns-in_err-settle_root-in-Some-clause-changed : goal.returns-in_err-settle_root-in-Some-clause-changed
returns-in_err-settle_root-in-Some-clause-changed g c sound map represents =
    let b = begun g.P.Pages c.args.pages.now sound map represents c.args.changes.now c.requires.some in
    let made = some_is _ _ _ _ c.in-Some.is (c.in_ok-changed.ensures.changed sound _ b.first b.rest b.whole b.at c.clear.ensures) in
    let only = only_still (g.P.Pages.state c.args.pages.now).array (g.P.Pages.state c.change_below.new.pages).array represents.tree made.1.trees made.1.moves represents.is_tree.only in
    fails c.from_residual-in_err-settle_root-in-Some.result c.in_err-settle_root-in-Some.field-0.0 _ _ c.from_residual-in_err-settle_root-in-Some.ensures.1
    (caused_since g.P.Pages c.args.pages.now c.change_below.new.pages c.settle_root.new.pages c.in_err-settle_root-in-Some.field-0.0 c.in_ok-changed.ensures.preserved
    (c.in_err-settle_root-in-Some.ensures.settled made.1.sound represents.is_tree.depth made.1.trees made.1.result only))

pub returns-in_ok-settle_root-in-Some-clause-changed : goal.returns-in_ok-settle_root-in-Some-clause-changed
returns-in_ok-settle_root-in-Some-clause-changed g c sound map represents =
    let b = begun g.P.Pages c.args.pages.now sound map represents c.args.changes.now c.requires.some in
    let made = some_is _ _ _ _ c.in-Some.is (c.in_ok-changed.ensures.changed sound _ b.first b.rest b.whole b.at c.clear.ensures) in
    let only = only_still (g.P.Pages.state c.args.pages.now).array (g.P.Pages.state c.change_below.new.pages).array represents.tree made.1.trees made.1.moves represents.is_tree.only in
    let cs = take c.in-Some.changed.made c.args.changes.now in
    let same : entries made.1.trees ≡ edited_in_turn cs map = made.1.entries_are ∙ ap (λ (es : List Entry). edited_in_turn cs es) represents.entries_are in
    let r = c.in_ok-settle_root-in-Some.ensures.settled made.1.sound represents.is_tree.depth made.1.trees made.1.result only in
    (r.0, represents_as (g.P.Pages.state c.settle_root.new.pages).array (entries made.1.trees) (edited_in_turn cs map) same r.1)

pub returns-in_err-changed-clause-takes : goal.returns-in_err-changed-clause-takes
returns-in_err-changed-clause-takes g c sound map represents =
    let b = begun g.P.Pages c.args.pages.now sound map represents c.args.changes.now c.requires.some in
    let d = represents.is_tree.depth in
    err_fails c.from_residual.result c.in_err-changed.field-0.0 _ c.from_residual.ensures.1
    (λ is. taken_in_all g.P.Pages c.args.pages.now c.change_below.new.pages [] (2 * d + 2) (2 * (d + 1)) (c.in_err-changed.ensures.takes sound _ b.first b.rest b.whole b.at c.clear.ensures is) (omega arith))

pub returns-in-None-clause-takes : goal.returns-in-None-clause-takes
returns-in-None-clause-takes g c sound map represents =
    let b = begun g.P.Pages c.args.pages.now sound map represents c.args.changes.now c.requires.some in
    let d = represents.is_tree.depth in
    let none = none_is _ _ _ c.in-None.is (c.in_ok-changed.ensures.changed sound _ b.first b.rest b.whole b.at c.clear.ensures) in
    let taken = subst (λ (o : Option Changed). TakesPages g.P.Pages c.args.pages.now c.change_below.new.pages [] (most_changed d o)) c.in-None.is (c.in_ok-changed.ensures.takes sound _ b.first b.rest b.whole b.at c.clear.ensures) in
    later_takes g.P.Pages c.args.pages.now c.change_below.new.pages c.put_first.new.pages c.put_first.result (2 * (d + 1)) taken
    (c.put_first.ensures.takes none.0.sound map (still_represents (g.P.Pages.state c.args.pages.now).array (g.P.Pages.state c.change_below.new.pages).array map none.0.same represents))

pub returns-in_err-settle_root-in-Some-clause-takes : goal.returns-in_err-settle_root-in-Some-clause-takes
returns-in_err-settle_root-in-Some-clause-takes g c sound map represents =
    let b = begun g.P.Pages c.args.pages.now sound map represents c.args.changes.now c.requires.some in
    let d = represents.is_tree.depth in
    let taken = subst (λ (o : Option Changed). TakesPages g.P.Pages c.args.pages.now c.change_below.new.pages [] (most_changed d o)) c.in-Some.is (c.in_ok-changed.ensures.takes sound _ b.first b.rest b.whole b.at c.clear.ensures) in
    err_fails c.from_residual-in_err-settle_root-in-Some.result c.in_err-settle_root-in-Some.field-0.0 _ c.from_residual-in_err-settle_root-in-Some.ensures.1 (c.in_err-settle_root-in-Some.ensures.takes c.args.pages.now d taken)

pub returns-in-None-clause-preserved : goal.returns-in-None-clause-preserved
returns-in-None-clause-preserved g c =
    g.P.Pages.preserved_joined c.args.pages.now c.change_below.new.pages c.put_first.new.pages c.in_ok-changed.ensures.preserved c.put_first.ensures.preserved

pub returns-in_err-settle_root-in-Some-clause-preserved : goal.returns-in_err-settle_root-in-Some-clause-preserved
returns-in_err-settle_root-in-Some-clause-preserved g c =
    g.P.Pages.preserved_joined c.args.pages.now c.change_below.new.pages c.settle_root.new.pages c.in_ok-changed.ensures.preserved c.in_err-settle_root-in-Some.ensures.preserved

pub returns-in_ok-settle_root-in-Some-clause-preserved : goal.returns-in_ok-settle_root-in-Some-clause-preserved
returns-in_ok-settle_root-in-Some-clause-preserved g c =
    g.P.Pages.preserved_joined c.args.pages.now c.change_below.new.pages c.settle_root.new.pages c.in_ok-changed.ensures.preserved c.in_ok-settle_root-in-Some.ensures.preserved
