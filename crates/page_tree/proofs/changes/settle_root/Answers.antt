use Rattle.std.proofs.Common.{ℕ, Option, Some, None, [], ◌∷◌, ap, ◌∙◌, arith, ◌+◌, ◌*◌, ◌-◌, subst}
use Rattle.page_nodes.specs.Node.{four_bytes}
use Rattle.page_tree.specs.declared.removal.Underflow.{Underflow}
use Rattle.page_tree.specs.declared.removal.Underflow.TheVariants.{Nothing, Child, Trees, FewCells}
use Rattle.page_tree.specs.Taking.{TakesPages, most_left}
use Rattle.page_tree.proofs.Faults.{gives_as}
use Rattle.page_tree.proofs.Descent.{numbered_of}
use Rattle.page_tree.proofs.RemovalFollows.{left_as}
use Rattle.page_tree.proofs.RemovalBelow.{root_preserved, first_used}
use Rattle.page_tree.proofs.Taking.{full_since, grown_again}
use Rattle.page_tree.proofs.changes.settle_root.Goals as goal

pub returns-in_default-clause-settled : goal.returns-in_default-clause-settled
returns-in_default-clause-settled g c sound d f left only =
    let A = (g.P.Pages.state c.args.pages.now).array in
    let e = left_as A d [] None 0 c.args.scratch.now.separator.items f _ (Trees None) (c.in-Trees.is ∙ ap (λ (m : Option ℕ). Trees m) c.in_default.is) left in
    (sound, root_preserved A f d e only)

pub returns-in-FewCells-clause-settled : goal.returns-in-FewCells-clause-settled
returns-in-FewCells-clause-settled g c sound d f left only =
    let A = (g.P.Pages.state c.args.pages.now).array in
    let e = left_as A d [] None 0 c.args.scratch.now.separator.items f _ FewCells c.in-FewCells.is left in
    (sound, root_preserved A f d e.spells only)

pub returns-in-Nothing-clause-settled : goal.returns-in-Nothing-clause-settled
returns-in-Nothing-clause-settled g c sound d f left only =
    let A = (g.P.Pages.state c.args.pages.now).array in
    let e = left_as A d [] None 0 c.args.scratch.now.separator.items f _ Nothing c.in-Nothing.is left in
    gives_as g.P.Pages c.args.pages.now c.clear_root.new.pages c.clear_root.result _ _ (λ _ cleared. cleared d f e only) (c.clear_root.ensures.cleared sound e.there)

pub returns-in-Child-clause-settled : goal.returns-in-Child-clause-settled
returns-in-Child-clause-settled g c sound d f left only =
    let A = (g.P.Pages.state c.args.pages.now).array in
    let e = left_as A d [] None 0 c.args.scratch.now.separator.items f _ (Child c.in-Child.child) c.in-Child.is left in
    gives_as g.P.Pages c.args.pages.now c.collapse_root.new.pages c.collapse_root.result _ _ (λ _ collapsed. collapsed only) (c.collapse_root.ensures.collapsed sound d f e)

pub returns-in-Some-clause-settled : goal.returns-in-Some-clause-settled
returns-in-Some-clause-settled g c sound d f left only =
    let A = (g.P.Pages.state c.args.pages.now).array in
    let separator = c.args.scratch.now.separator.items in
    let e = left_as A d [] None 0 separator f _ (Trees (Some c.in-Some.second)) (c.in-Trees.is ∙ ap (λ (m : Option ℕ). Trees m) c.in-Some.is) left in
    let used = first_used A (numbered_of g.P.Pages c.args.pages.now sound) f d None 0 [] ((separator, four_bytes c.in-Some.second) ∷ []) (omega arith) e.sound e.spelled in
    gives_as g.P.Pages c.args.pages.now c.grow_root.new.pages c.grow_root.result _ _ (λ _ grown. grown f d e.sound e.full e.spelled only) (c.grow_root.ensures.grown sound used)

pub returns-in-Nothing-clause-takes : goal.returns-in-Nothing-clause-takes
returns-in-Nothing-clause-takes g c before d left =
    let taken = subst (λ (u : Underflow). TakesPages g.P.Pages before c.args.pages.now [] (most_left d u)) c.in-Nothing.is left in
    full_since g.P.Pages before c.args.pages.now c.clear_root.new.pages c.clear_root.result (λ _. 1) (2 * d) (2 * (d + 1)) taken (omega arith) c.clear_root.ensures.takes

pub returns-in-Child-clause-takes : goal.returns-in-Child-clause-takes
returns-in-Child-clause-takes g c before d left =
    let taken = subst (λ (u : Underflow). TakesPages g.P.Pages before c.args.pages.now [] (most_left d u)) c.in-Child.is left in
    full_since g.P.Pages before c.args.pages.now c.collapse_root.new.pages c.collapse_root.result (λ _. 1) (2 * d - 2) (2 * (d + 1)) taken (omega arith) c.collapse_root.ensures.takes

pub returns-in-Some-clause-takes : goal.returns-in-Some-clause-takes
returns-in-Some-clause-takes g c before d left =
    let taken = subst (λ (u : Underflow). TakesPages g.P.Pages before c.args.pages.now [] (most_left d u)) (c.in-Trees.is ∙ ap (λ (m : Option ℕ). Trees m) c.in-Some.is) left in
    grown_again g.P.Pages before c.args.pages.now c.grow_root.new.pages (2 * d + 1) (2 * (d + 1)) c.grow_root.result taken (omega arith) c.grow_root.ensures.takes
