use Rattle.std.proofs.Common.{◌∙◌, ◌≤◌, ◌+◌, ℕ, None, Ok, Result, ap, arith, length, min, refl, sym}
use Rattle.sql_types.specs.declared.state.SqlState.{SqlState}
use Rattle.store.specs.Records.{Records}
use Rattle.store.specs.Walks.{count_to}
use Rattle.table_rows.proofs.Ranging.{whole_span}
use Rattle.table_rows.proofs.count.count_rows_to.Goals as goal

pub returns-clause-counts : goal.returns-clause-counts
returns-clause-counts g c = λ s.
    let map = (g.M.Map.state c.args.records.now).map in
    let all_is = whole_span c.args.table None c.as_slice-all.result.now map refl (c.as_slice-all.ensures.value ∙ c.in_ok-prefix.ensures) in
    ap (λ (n : ℕ). let r : Result ℕ SqlState = Ok n in r) (sym (c.in_ok-count.ensures.goes.answer s ∙ ap (λ (es : Records). count_to c.args.most es) all_is))

pub returns-in_err-prefix-clause-cost : goal.returns-in_err-prefix-clause-cost
returns-in_err-prefix-clause-cost g c = λ s. g.M.Map.cost_within c.args.records.now c.args.records.now 0 _ (omega arith) (g.M.Map.cost_none c.args.records.now)

pub returns-in_err-count-clause-cost : goal.returns-in_err-count-clause-cost
returns-in_err-count-clause-cost g c = λ s.
    let map = (g.M.Map.state c.args.records.now).map in
    let long = ap (λ (es : Records). length es) (whole_span c.args.table None c.as_slice-all.result.now map refl (c.as_slice-all.ensures.value ∙ c.in_ok-prefix.ensures)) in
    g.M.Map.cost_within c.args.records.now c.count_to.new.self _ _ (omega (arith, long)) (c.in_err-count.ensures.cost s)

pub returns-clause-cost : goal.returns-clause-cost
returns-clause-cost g c = λ s.
    let map = (g.M.Map.state c.args.records.now).map in
    let long = ap (λ (es : Records). length es) (whole_span c.args.table None c.as_slice-all.result.now map refl (c.as_slice-all.ensures.value ∙ c.in_ok-prefix.ensures)) in
    g.M.Map.cost_within c.args.records.now c.count_to.new.self _ _ (omega (arith, long)) (c.in_ok-count.ensures.cost s)
