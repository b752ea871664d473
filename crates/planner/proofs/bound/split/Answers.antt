use Rattle.std.proofs.Common.{◌≡◌, ◌∙◌, ◌-◌, take, drop, length, List, refl, subst, arith}
use Rattle.std.proofs.lemmas.Grind.{common_steps}
use Rattle.std.proofs.lemmas.Result.{IfOk-weaker}
use Rattle.expressions.specs.Types.{TypedTerm}
use Rattle.abstract_database.specs.Queries.{keys_of}
use Rattle.gathering.specs.Queries.{terms}
use Rattle.gathering.specs.declared.query.Query.{Query}
use Rattle.planner.specs.Bound.{IsListOf, key_values, Begins}
use Rattle.planner.specs.Parts.{list_length, list_with, keys_with}
use Rattle.planner.proofs.Splits.{split_query, split_keys}
use Rattle.planner.proofs.bound.split.Goals as goal

pub returns-clause-widths : goal.returns-clause-widths
returns-clause-widths c = c.query_of.ensures.widths

pub returns-clause-list : goal.returns-clause-list
returns-clause-list c =
    let values : List TypedTerm = c.split_off.new.self.items in
    let values_are : values ≡ take (list_length c.args.list.now) c.args.bound = grind (arith, common_steps) in
    IfOk-weaker c.query_of.result _ _ (λ (q : Query) h. subst (IsListOf q.list) values_are h) c.query_of.ensures.list

pub returns-clause-keys : goal.returns-clause-keys
returns-clause-keys c =
    let l = c.args.list.now in
    let s = c.args.source.now in
    let middle : List TypedTerm = c.in_ok-conditions.conditions.items in
    let keys : List TypedTerm = c.in_ok-key_values.key_values.items in
    let middle_are : middle ≡ drop (list_length l) c.args.bound = grind (arith, common_steps) in
    let keys_are : keys ≡ drop (length middle - length (keys_of s)) middle = grind (arith, common_steps) in
    IfOk-weaker c.query_of.result _ _ (λ (q : Query) h. subst (Begins (key_values q.keys)) (split_keys l s c.args.bound middle keys c.requires middle_are keys_are) h) c.query_of.ensures.keys

pub returns-clause-query : goal.returns-clause-query
returns-clause-query c =
    let l = c.args.list.now in
    let s = c.args.source.now in
    let values : List TypedTerm = c.split_off.new.self.items in
    let middle : List TypedTerm = c.in_ok-conditions.conditions.items in
    let conditions : List TypedTerm = c.split_off-2.new.self.items in
    let keys : List TypedTerm = c.in_ok-key_values.key_values.items in
    let at = length middle - length (keys_of s) in
    let values_are : values ≡ take (list_length l) c.args.bound = grind (arith, common_steps) in
    let middle_are : middle ≡ drop (list_length l) c.args.bound = grind (arith, common_steps) in
    let conditions_are : conditions ≡ take at middle = grind (arith, common_steps) in
    let keys_are : keys ≡ drop at middle = grind (arith, common_steps) in
    let whole = split_query l s c.args.bound values conditions middle keys (list_with l (terms values)) (keys_with (keys_of s) (terms keys)) c.requires values_are middle_are conditions_are keys_are refl refl in
    IfOk-weaker c.query_of.result _ _ (λ (q : Query) h. h ∙ whole) c.query_of.ensures.query
