use Rattle.std.proofs.Common.{◌≡◌, ◌++◌, ◌∷◌, [], List, ℕ, Bool, None, ap, sym, ◌∙◌, subst, refl}
use Rattle.page_nodes.specs.Map.{first_at, rest_entries}
use Rattle.page_tree.specs.Search.{IsFound, key_of, value_of}
use Rattle.page_tree.specs.Ahead.{IsSteppedInLeaf}
use Rattle.page_tree.specs.declared.tree_walk.TreeWalk.{TreeWalk}
use Rattle.page_tree.proofs.Faults.{fails}
use Rattle.page_tree.proofs.Represented.{map_rises}
use Rattle.page_tree.proofs.Stepping.{first_found, found_none, rest_none}
use Rattle.page_tree.proofs.tree_walk.step.Goals as goal

pub returns-then-branch-clause-found : goal.returns-then-branch-clause-found
returns-then-branch-clause-found g c sound map represents entries ahead =
    let is = c.in_ok-step_in_leaf.ensures map (map_rises (g.P.Pages.state c.args.pages.now).array map represents) entries ahead in
    subst (λ (b : Bool). IsSteppedInLeaf map b c.step_in_leaf.new.self entries) c.if-branch.true is

pub returns-in_err-first_from-clause-found : goal.returns-in_err-first_from-clause-found
returns-in_err-first_from-clause-found g c sound map represents =
    fails c.from_residual-in_err-first_from.result c.in_err-first_from.field-0.0 _ _ c.from_residual-in_err-first_from.ensures.1 (c.in_err-first_from.ensures.found sound map represents)

pub returns-then-not-branch-clause-found : goal.returns-then-not-branch-clause-found
returns-then-not-branch-clause-found g c sound map represents entries ahead =
    let is = c.in_ok-step_in_leaf.ensures map (map_rises (g.P.Pages.state c.args.pages.now).array map represents) entries ahead in
    let at_key : entries ≡ rest_entries c.step_in_leaf.new.self.next.items map = subst (λ (b : Bool). IsSteppedInLeaf map b c.step_in_leaf.new.self entries) c.if-branch.false is in
    let key = c.deref.result.now in
    let cursor = c.first_from.new.cursor in
    let none = found_none (first_at key map) (key_of cursor) (value_of cursor)
    (subst (λ (b : Bool). IsFound (first_at key map) b (key_of cursor) (value_of cursor)) c.if-not-branch.true (c.in_ok-first_from.ensures.found sound map represents)) in
    at_key ∙ (ap (λ (k : List ℕ). rest_entries k map) (sym c.deref.ensures.value) ∙ rest_none key map none)

pub returns-clause-found : goal.returns-clause-found
returns-clause-found g c sound map represents entries ahead =
    let rising = map_rises (g.P.Pages.state c.args.pages.now).array map represents in
    let is = c.in_ok-step_in_leaf.ensures map rising entries ahead in
    let at_key : entries ≡ rest_entries c.step_in_leaf.new.self.next.items map = subst (λ (b : Bool). IsSteppedInLeaf map b c.step_in_leaf.new.self entries) c.if-branch.false is in
    let key = c.deref.result.now in
    let cursor = c.first_from.new.cursor in
    let walk : TreeWalk = record { cursor = cursor; found = None; next = c.go_behind.new.next } in
    first_found map key walk rising (c.in_ok-first_from.ensures.place sound map represents)
    (λ none. c.in_ok-go_behind.ensures none ∙ ap (λ (k : List ℕ). k ++ (0 ∷ [])) c.key.ensures)
    entries (at_key ∙ ap (λ (k : List ℕ). rest_entries k map) (sym c.deref.ensures.value))
    (subst (λ (b : Bool). IsFound (first_at key map) b (key_of cursor) (value_of cursor)) c.if-not-branch.false (c.in_ok-first_from.ensures.found sound map represents)) refl
