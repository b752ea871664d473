use Rattle.std.proofs.Common.{◌≡◌, ◌∙◌, ◌≤◌, ℕ, arith, length, option_to_list, rules, subst}
use Rattle.store.specs.Records.{Records, entries_where, entry_at}
use Rattle.store.specs.Walks.{span}
use Rattle.key_ranges.specs.Spans.{is_in_spans}
use Rattle.table_rows.specs.Ranged.{records_of}
use Rattle.table_rows.specs.Walked.{WalksOn}
use Rattle.table_rows.specs.Costs.{walk_cost, cost_of}
use Rattle.table_rows.proofs.Ranging.{whole_span}
use Rattle.table_rows.proofs.Costs.{whole_cost}
use Rattle.table_rows.proofs.walk.visit_found.Goals as goal

pub returns-in_ok-prefix-in-None-clause-walked : goal.returns-in_ok-prefix-in-None-clause-walked
returns-in_ok-prefix-in-None-clause-walked g c = λ s.
    let target = c.args.target.now in
    let old = g.V.RowVisitor.after c.args.visitor.now target.id target.columns.now in
    let new = g.V.RowVisitor.after c.visit_rows.new.visitor target.id target.columns.now in
    let all_is = whole_span target.id target.range c.as_slice-all.result.now (g.M.Map.state c.args.records.now).map c.in-None.is (c.as_slice-all.ensures.value ∙ c.in_ok-prefix-in-None.ensures) in
    subst (λ (es : Records). WalksOn target.id target.columns.now es old new c.visit_rows.result) all_is (c.visit_rows.ensures.walked s target.id)

pub returns-in-Some-Point-clause-walked : goal.returns-in-Some-Point-clause-walked
returns-in-Some-Point-clause-walked g c = λ s.
    let target = c.args.target.now in
    let old = g.V.RowVisitor.after c.args.visitor.now target.id target.columns.now in
    let new = g.V.RowVisitor.after c.visit_key.new.visitor target.id target.columns.now in
    let all_is : option_to_list (entry_at c.as_slice.result.now (g.M.Map.state c.args.records.now).map) ≡ records_of c.args.target.now (g.M.Map.state c.args.records.now).map = search rules in
    subst (λ (es : Records). WalksOn target.id target.columns.now es old new c.visit_key.result) all_is (c.visit_key.ensures.walked s target.id)

pub returns-in-Some-Span-clause-walked : goal.returns-in-Some-Span-clause-walked
returns-in-Some-Span-clause-walked g c = λ s.
    let target = c.args.target.now in
    let old = g.V.RowVisitor.after c.args.visitor.now target.id target.columns.now in
    let new = g.V.RowVisitor.after c.visit_rows-in-Some-Span.new.visitor target.id target.columns.now in
    let all_is : span c.as_slice-start.result.now c.as_slice-stop.result.now (g.M.Map.state c.args.records.now).map ≡ records_of c.args.target.now (g.M.Map.state c.args.records.now).map = search rules in
    subst (λ (es : Records). WalksOn target.id target.columns.now es old new c.visit_rows-in-Some-Span.result) all_is (c.visit_rows-in-Some-Span.ensures.walked s target.id)

pub returns-in-Some-Several-clause-walked : goal.returns-in-Some-Several-clause-walked
returns-in-Some-Several-clause-walked g c = λ s.
    let target = c.args.target.now in
    let old = g.V.RowVisitor.after c.args.visitor.now target.id target.columns.now in
    let new = g.V.RowVisitor.after c.visit_spans.new.visitor target.id target.columns.now in
    let spans_are = c.as_slice-in-Some-Several.ensures.spans in
    let all_is : entries_where (is_in_spans c.as_slice-in-Some-Several.result.now) (g.M.Map.state c.args.records.now).map ≡ records_of c.args.target.now (g.M.Map.state c.args.records.now).map = search rules in
    subst (λ (es : Records). WalksOn target.id target.columns.now es old new c.visit_spans.result) all_is (c.visit_spans.ensures.walked s target.id)

pub returns-in_err-prefix-in-None-clause-cost : goal.returns-in_err-prefix-in-None-clause-cost
returns-in_err-prefix-in-None-clause-cost g c = λ s. g.M.Map.cost_within c.args.records.now c.args.records.now 0 _ (omega arith) (g.M.Map.cost_none c.args.records.now)

pub returns-in_ok-prefix-in-None-clause-cost : goal.returns-in_ok-prefix-in-None-clause-cost
returns-in_ok-prefix-in-None-clause-cost g c = λ s.
    let target = c.args.target.now in
    let same = whole_cost target c.as_slice-all.result.now (g.M.Map.state c.args.records.now).map c.in-None.is (c.as_slice-all.ensures.value ∙ c.in_ok-prefix-in-None.ensures) in
    subst (λ (n : ℕ). g.M.Map.cost c.args.records.now c.visit_rows.new.records n) same (c.visit_rows.ensures.cost s)

pub returns-in-Some-Point-clause-cost : goal.returns-in-Some-Point-clause-cost
returns-in-Some-Point-clause-cost g c = λ s.
    let same : 1 ≡ cost_of c.args.target.now (g.M.Map.state c.args.records.now).map = search rules in
    subst (λ (n : ℕ). g.M.Map.cost c.args.records.now c.visit_key.new.records n) same c.visit_key.ensures.cost

pub returns-in-Some-Span-clause-cost : goal.returns-in-Some-Span-clause-cost
returns-in-Some-Span-clause-cost g c = λ s.
    let same : walk_cost 1 (span c.as_slice-start.result.now c.as_slice-stop.result.now (g.M.Map.state c.args.records.now).map) ≡ cost_of c.args.target.now (g.M.Map.state c.args.records.now).map = search rules in
    subst (λ (n : ℕ). g.M.Map.cost c.args.records.now c.visit_rows-in-Some-Span.new.records n) same (c.visit_rows-in-Some-Span.ensures.cost s)

pub returns-in-Some-Several-clause-cost : goal.returns-in-Some-Several-clause-cost
returns-in-Some-Several-clause-cost g c = λ s.
    let spans_are = c.as_slice-in-Some-Several.ensures.spans in
    let same : walk_cost (length c.as_slice-in-Some-Several.result.now) (entries_where (is_in_spans c.as_slice-in-Some-Several.result.now) (g.M.Map.state c.args.records.now).map) ≡ cost_of c.args.target.now (g.M.Map.state c.args.records.now).map = search rules in
    subst (λ (n : ℕ). g.M.Map.cost c.args.records.now c.visit_spans.new.records n) same (c.visit_spans.ensures.cost s)
