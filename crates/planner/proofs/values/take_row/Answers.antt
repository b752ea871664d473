use Rattle.std.proofs.Common.{◌≡◌, ◌≤◌, ◌∙◌, ◌∷◌, ◌++◌, [], length, ap, sym, arith}
use Rattle.std.proofs.lemmas.Grind.{common_steps}
use Rattle.std.proofs.lemmas.List.{nil_from_length}
use Rattle.std.specs.Vec.Iter.{into_iter_items}
use Rattle.planner.proofs.Adding.{one_taken, none_taken}
use Rattle.planner.proofs.values.take_row.Goals as goal

pub loop-at-preserved : goal.loop-at-preserved
loop-at-preserved c =
    let next : into_iter_items c.loop-at.values ≡ c.in-Some.value ∷ into_iter_items c.next.new.self = grind (arith, common_steps, c.in-Some.ensures.items, c.in-Some.ensures.cases) in
    let taken = one_taken c.loop-at._at (into_iter_items c.args.values.now) (into_iter_items c.next.new.self) c.in-Some.value (sym c.loop-at.invariant.1 ∙ next) in
    (c.in_ok-push.ensures.ok ∙ ap (λ l. l ++ c.in-Some.value ∷ []) c.loop-at.invariant.0 ∙ sym taken.0, sym taken.1)

pub returns-in_default-clause-taken : goal.returns-in_default-clause-taken
returns-in_default-clause-taken c =
    let empty : length (into_iter_items c.loop-at.values) ≡ 0 = grind (arith, c.in_default.ensures.cases.0, c.loop-at.values.rest.ok) in
    let none : into_iter_items c.loop-at.values ≡ [] = nil_from_length (into_iter_items c.loop-at.values) empty in
    let past : c.loop-at._at ≤ c.args.count = omega arith in
    let all = none_taken c.loop-at._at c.args.count (into_iter_items c.args.values.now) (sym c.loop-at.invariant.1 ∙ none) past in
    c.loop-at.invariant.0 ∙ all.0

pub returns-in_default-clause-left : goal.returns-in_default-clause-left
returns-in_default-clause-left c =
    let empty : length (into_iter_items c.loop-at.values) ≡ 0 = grind (arith, c.in_default.ensures.cases.0, c.loop-at.values.rest.ok) in
    let none : into_iter_items c.loop-at.values ≡ [] = nil_from_length (into_iter_items c.loop-at.values) empty in
    let past : c.loop-at._at ≤ c.args.count = omega arith in
    let all = none_taken c.loop-at._at c.args.count (into_iter_items c.args.values.now) (sym c.loop-at.invariant.1 ∙ none) past in
    sym c.in_default.ensures.items ∙ none ∙ sym all.1
