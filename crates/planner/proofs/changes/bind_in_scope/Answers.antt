use Rattle.std.proofs.Common.{◌≡◌, ◌∙◌, sym, length, map, subst, Err, arith, rules}
use Rattle.std.proofs.lemmas.Grind.{common_steps}
use Rattle.std.proofs.lemmas.List.{length-map}
use Rattle.sql_ast.specs.Scope.{tables_of}
use Rattle.expressions.specs.Parts.{part_of, IsBound, Binds}
use Rattle.planner.specs.Changed.{change_parts}
use Rattle.planner.proofs.Changing.{changes_refused, changes_bound, within}
use Rattle.planner.proofs.changes.bind_in_scope.Goals as goal

pub returns-in_err-bound : goal.returns-in_err-bound
returns-in_err-bound c =
    let scope = tables_of c.args.scope.now in
    let long : length c.args.columns.now ≡ length (map (λ a. a.value) c.args.assignments.now) = c.requires ∙ sym (length-map c.args.assignments.now (λ a. a.value)) in
    let values = map (λ a. a.value) c.args.assignments.now in
    let same : map part_of c.as_slice.result.now ≡ change_parts scope c.args.layout.now c.args.columns.now values c.args.condition.now = grind (arith, common_steps) in
    let bound : IsBound (change_parts scope c.args.layout.now c.args.columns.now values c.args.condition.now) (Err c.in_err-bound.field-0.0) = subst (λ ps. IsBound ps (Err c.in_err-bound.field-0.0)) same c.in_err-bound.ensures in
    let m = changes_refused scope c.args.layout.now c.args.columns.now values c.args.condition.now long c.in_err-bound.field-0.0 bound in
    search rules

pub split-requires : goal.split-requires
split-requires c =
    let scope = tables_of c.args.scope.now in
    let long : length c.args.columns.now ≡ length (map (λ a. a.value) c.args.assignments.now) = c.requires ∙ sym (length-map c.args.assignments.now (λ a. a.value)) in
    let values = map (λ a. a.value) c.args.assignments.now in
    let same : map part_of c.as_slice.result.now ≡ change_parts scope c.args.layout.now c.args.columns.now values c.args.condition.now = grind (arith, common_steps) in
    within scope c.args.layout.now c.args.columns.now values c.args.condition.now long c.in_ok-bound.bound (subst (λ ps. Binds ps c.in_ok-bound.bound) same c.in_ok-bound.ensures)

pub returns : goal.returns
returns c =
    let scope = tables_of c.args.scope.now in
    let long : length c.args.columns.now ≡ length (map (λ a. a.value) c.args.assignments.now) = c.requires ∙ sym (length-map c.args.assignments.now (λ a. a.value)) in
    let values = map (λ a. a.value) c.args.assignments.now in
    let same : map part_of c.as_slice.result.now ≡ change_parts scope c.args.layout.now c.args.columns.now values c.args.condition.now = grind (arith, common_steps) in
    changes_bound scope c.args.layout.now c.args.columns.now values c.args.condition.now long c.in_ok-bound.bound c.split.result (subst (λ ps. Binds ps c.in_ok-bound.bound) same c.in_ok-bound.ensures) c.split.ensures.whole c.split.ensures.condition
