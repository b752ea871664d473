use Rattle.std.proofs.Common.{ℕ, List, ◌∷◌, sym, subst}
use Rattle.std.proofs.lemmas.Result.{IfOk-weaker}
use Rattle.sql_types.specs.Value.{owned}
use Rattle.statement_explanations.specs.Keys.{AddsCells, AreOfColumns}
use Rattle.statement_explanations.proofs.KeyCells.{no_index, no_column, no_value, one_more}
use Rattle.statement_explanations.proofs.key_values.+push_cells.Goals as goal

pub returns-in_default : goal.returns-in_default
returns-in_default t c = no_index c.args.columns.now.columns c.args.cells.now c.if-is_empty.ensures c.args.key.now c.in_default.ensures.cases

pub returns-in_default-get : goal.returns-in_default-get
returns-in_default-get t c = λ more are is.
    let first : AreOfColumns c.args.columns.now.columns (c.in-Some.first.now ∷ c.in-Some.others.now) more = subst (λ (key : List ℕ). AreOfColumns c.args.columns.now.columns key more) c.in-Some.ensures.cases.0 are in
    no_column c.args.columns.now.columns c.args.cells.now c.if-is_empty.ensures c.in-Some.first.now c.in-Some.others.now c.in_default-get.ensures more first is

pub returns-in-None : goal.returns-in-None
returns-in-None t c = λ more are is.
    let first : AreOfColumns c.args.columns.now.columns (c.in-Some.first.now ∷ c.in-Some.others.now) more = subst (λ (key : List ℕ). AreOfColumns c.args.columns.now.columns key more) c.in-Some.ensures.cases.0 are in
    no_value c.args.columns.now.columns c.args.cells.now c.if-is_empty.ensures c.in-Some.first.now c.in-Some.others.now c.in-Some-get.column.now c.in-Some-get.ensures c.in-None.ensures.only more first is

pub returns-in_ok-push-in-Some-key_cell_at : goal.returns-in_ok-push-in-Some-key_cell_at
returns-in_ok-push-in-Some-key_cell_at t c =
    let columns = c.args.columns.now.columns in
    let cells = c.args.cells.now in
    let found = c.in-Some-key_cell_at.ensures in
    IfOk-weaker c.push_cells.result _ _ (λ whole h.
    subst (λ (key : List ℕ). AddsCells columns key c.args.values.now cells whole c.push_cells.new.values) (sym c.in-Some.ensures.cases.0)
    (one_more columns cells c.if-is_empty.ensures c.in-Some.first.now c.in-Some.others.now c.in-Some-get.column.now c.in-Some-get.ensures (owned c.in-Some-key_cell_at.value) c.in-Some-key_cell_at.rest.now
    c.args.values.now c.push.new.self c.push_cells.new.values whole found.found.0 found.found.1 found.only c.in_ok-push-in-Some-key_cell_at.ensures.ok h)) c.push_cells.ensures
