use Rattle.std.proofs.Common.{◌≡◌, ◌∙◌, ◌+◌, ◌≤◌, List, ap, arith, length, Some, Result, sym, subst, refl}
use Rattle.std.specs.Prelude.{IfErr}
use Rattle.sql_types.specs.declared.state.SqlState.{SqlState}
use Rattle.expressions.specs.Stages.{◌>>=◌, each}
use Rattle.abstract_database.specs.Changes.{Chosen, Changed, checked_rows, choose, condition_on_row, new_rows, other_rows, rows_updated}
use Rattle.store.specs.declared.stop.StatementError.TheVariants.{Refused}
use Rattle.table_rows.specs.Failures.{IsDamagedFor}
use Rattle.table_rows.specs.Costs.{cost_of}
use Rattle.table_rows.specs.Ranged.{FindsDamage}
use Rattle.table_rows.specs.Targets.{users_of, sees, admits, condition_in, assigned_by}
use Rattle.table_rows.specs.Choosing.{became}
use Rattle.table_rows.specs.NewRows.{MakesChanges}
use Rattle.table_rows.proofs.MapReads.{ended, no_damage}
use Rattle.table_rows.proofs.Statements.{counted, update_is, update_meant, updated_fit, picked, not_chosen, check_failed, put_failed, put_done}
use Rattle.table_rows.proofs.change.update_with_keys.Goals as goal

pub returns-in_err-chosen-clause-changes : goal.returns-in_err-chosen-clause-changes
returns-in_err-chosen-clause-changes g c = λ s rows checked is h i f l.
    let target = c.args.target.now in
    let records = (g.M.Map.state c.args.records.now).map in
    let condition = condition_on_row (users_of target) (condition_in c.args.condition) in
    let into = assigned_by target c.args.assignments.now in
    let becomes = became (users_of target) (Some c.args.assignments) in
    let go : List Chosen → Result Changed SqlState = λ cs. counted (length (new_rows cs)) (checked_rows target.columns.now (admits target) (other_rows cs) (new_rows cs)) in
    subst (λ (m : Result Changed SqlState). MakesChanges target.id target.columns.now records c.from_residual.result m) (sym (update_is target c.args.condition c.args.assignments.now checked (sees target) (admits target) rows i))
    (ended c.in_err-chosen.field-0.0 (λ r. MakesChanges target.id target.columns.now records r (each (choose (sees target) condition into) rows >>= go)) c.from_residual.result c.from_residual.ensures.1
    (not_chosen target.id target.columns.now (λ x. Some x) (sees target) condition into becomes (λ row. refl) rows records go c.in_err-chosen.field-0.0 (c.in_err-chosen.ensures.chosen s rows h l)))

pub returns-in_err-check_new_rows-clause-changes : goal.returns-in_err-check_new_rows-clause-changes
returns-in_err-check_new_rows-clause-changes g c = λ s rows checked is h i f l.
    let target = c.args.target.now in
    let records = (g.M.Map.state c.args.records.now).map in
    let condition = condition_on_row (users_of target) (condition_in c.args.condition) in
    let into = assigned_by target c.args.assignments.now in
    let becomes = became (users_of target) (Some c.args.assignments) in
    let chosen = c.in_ok-chosen.chosen in
    let p = picked target.id target.columns.now (λ x. Some x) (sees target) condition into becomes (λ row. refl) rows records chosen (g.met.M.Map.ordered c.args.records.now s) h (c.in_ok-chosen.ensures.chosen s rows h l) in
    let whole = rows_updated (sees target) (admits target) (users_of target) checked rows in
    let meant = update_is target c.args.condition c.args.assignments.now checked (sees target) (admits target) rows i ∙ update_meant target.columns.now (sees target) (admits target) condition into target.id rows records chosen p in
    let refused = rw (c.as_slice-new.ensures, c.in_ok-rows.ensures) at c.in_err-check_new_rows.ensures.checked in
    ended (Refused c.in_err-check_new_rows.field-0.0) (λ r. MakesChanges target.id target.columns.now records r whole) c.from_residual-in_err-check_new_rows.result c.from_residual-in_err-check_new_rows.ensures.1
    (check_failed target.id target.columns.now (admits target) (other_rows p.cs) chosen.rows records chosen.count whole meant c.in_err-check_new_rows.field-0.0 (sym refused))

pub returns-in_err-put_rows-clause-changes : goal.returns-in_err-put_rows-clause-changes
returns-in_err-put_rows-clause-changes g c = λ s rows checked is h i f l.
    let target = c.args.target.now in
    let records = (g.M.Map.state c.args.records.now).map in
    let condition = condition_on_row (users_of target) (condition_in c.args.condition) in
    let into = assigned_by target c.args.assignments.now in
    let becomes = became (users_of target) (Some c.args.assignments) in
    let chosen = c.in_ok-chosen.chosen in
    let p = picked target.id target.columns.now (λ x. Some x) (sees target) condition into becomes (λ row. refl) rows records chosen (g.met.M.Map.ordered c.args.records.now s) h (c.in_ok-chosen.ensures.chosen s rows h l) in
    let whole = rows_updated (sees target) (admits target) (users_of target) checked rows in
    let meant = update_is target c.args.condition c.args.assignments.now checked (sees target) (admits target) rows i ∙ update_meant target.columns.now (sees target) (admits target) condition into target.id rows records chosen p in
    let passed = rw (c.as_slice-new.ensures, c.in_ok-rows.ensures) at c.in_ok-check_new_rows.ensures.checked in
    let fit = updated_fit target.columns.now (sees target) (admits target) condition into target.id rows records chosen c.in_ok-check_new_rows.field-0 p f (sym passed) in
    let same = (c.in_ok-chosen.ensures.reads.only_reads.unchanged s).map in
    let put = rw (c.as_slice-new.ensures, c.in_ok-rows.ensures, same) at (c.in_err-put_rows.ensures.puts (c.in_ok-chosen.ensures.reads.only_reads.history.sound s) (other_rows p.cs) is p.ordered) in
    ended c.in_err-put_rows.field-0.0 (λ r. MakesChanges target.id target.columns.now records r whole) c.from_residual-in_err-put_rows.result c.from_residual-in_err-put_rows.ensures.1
    (put_failed target.id target.columns.now (admits target) (other_rows p.cs) chosen.rows records chosen.count whole meant c.in_ok-check_new_rows.field-0 c.in_err-put_rows.field-0.0 _ _ (sym passed) (put p.held fit))

pub returns-clause-changes : goal.returns-clause-changes
returns-clause-changes g c = λ s rows checked is h i f l.
    let target = c.args.target.now in
    let records = (g.M.Map.state c.args.records.now).map in
    let condition = condition_on_row (users_of target) (condition_in c.args.condition) in
    let into = assigned_by target c.args.assignments.now in
    let becomes = became (users_of target) (Some c.args.assignments) in
    let chosen = c.in_ok-chosen.chosen in
    let p = picked target.id target.columns.now (λ x. Some x) (sees target) condition into becomes (λ row. refl) rows records chosen (g.met.M.Map.ordered c.args.records.now s) h (c.in_ok-chosen.ensures.chosen s rows h l) in
    let whole = rows_updated (sees target) (admits target) (users_of target) checked rows in
    let meant = update_is target c.args.condition c.args.assignments.now checked (sees target) (admits target) rows i ∙ update_meant target.columns.now (sees target) (admits target) condition into target.id rows records chosen p in
    let passed = rw (c.as_slice-new.ensures, c.in_ok-rows.ensures) at c.in_ok-check_new_rows.ensures.checked in
    let fit = updated_fit target.columns.now (sees target) (admits target) condition into target.id rows records chosen c.in_ok-check_new_rows.field-0 p f (sym passed) in
    let same = (c.in_ok-chosen.ensures.reads.only_reads.unchanged s).map in
    let put = rw (c.as_slice-new.ensures, c.in_ok-rows.ensures, same) at (c.in_ok-put_rows.ensures.puts (c.in_ok-chosen.ensures.reads.only_reads.history.sound s) (other_rows p.cs) is p.ordered) in
    put_done target.id target.columns.now (admits target) (other_rows p.cs) chosen.rows records chosen.count whole meant c.in_ok-check_new_rows.field-0 _ (record { changes = c.put_rows.new.changes; count = chosen.count }) (sym passed) (put p.held fit) p.concern refl

pub returns-in_err-chosen-clause-damage : goal.returns-in_err-chosen-clause-damage
returns-in_err-chosen-clause-damage g c = λ s.
    let cause = FindsDamage c.args.target.now (g.M.Map.state c.args.records.now).map in
    ended c.in_err-chosen.field-0.0 (λ r. IfErr r (IsDamagedFor cause)) c.from_residual.result c.from_residual.ensures.1
    (c.in_err-chosen.ensures.damage s)

pub returns-in_err-check_new_rows-clause-damage : goal.returns-in_err-check_new_rows-clause-damage
returns-in_err-check_new_rows-clause-damage g c = λ s.
    let cause = FindsDamage c.args.target.now (g.M.Map.state c.args.records.now).map in
    ended (Refused c.in_err-check_new_rows.field-0.0) (λ r. IfErr r (IsDamagedFor cause)) c.from_residual-in_err-check_new_rows.result c.from_residual-in_err-check_new_rows.ensures.1 tt

pub returns-in_err-put_rows-clause-damage : goal.returns-in_err-put_rows-clause-damage
returns-in_err-put_rows-clause-damage g c = λ s.
    let cause = FindsDamage c.args.target.now (g.M.Map.state c.args.records.now).map in
    ended c.in_err-put_rows.field-0.0 (λ r. IfErr r (IsDamagedFor cause)) c.from_residual-in_err-put_rows.result c.from_residual-in_err-put_rows.ensures.1
    (no_damage c.in_err-put_rows.field-0.0 cause (c.in_err-put_rows.ensures.undamaged (c.in_ok-chosen.ensures.reads.only_reads.history.sound s)))

pub returns-in_err-chosen-clause-cost : goal.returns-in_err-chosen-clause-cost
returns-in_err-chosen-clause-cost g c = λ s of. g.M.Map.cost_within c.args.records.now c.choose.new.records (cost_of c.args.target.now (g.M.Map.state c.args.records.now).map) _ (omega arith) (c.in_err-chosen.ensures.cost s)

pub returns-in_err-rows-clause-cost : goal.returns-in_err-rows-clause-cost
returns-in_err-rows-clause-cost g c = λ s of. g.M.Map.cost_within c.args.records.now c.choose.new.records (cost_of c.args.target.now (g.M.Map.state c.args.records.now).map) _ (omega arith) (c.in_ok-chosen.ensures.cost s)

pub returns-in_err-check_new_rows-clause-cost : goal.returns-in_err-check_new_rows-clause-cost
returns-in_err-check_new_rows-clause-cost g c = λ s of. g.M.Map.cost_within c.args.records.now c.choose.new.records (cost_of c.args.target.now (g.M.Map.state c.args.records.now).map) _ (omega arith) (c.in_ok-chosen.ensures.cost s)

pub returns-in_err-put_rows-clause-cost : goal.returns-in_err-put_rows-clause-cost
returns-in_err-put_rows-clause-cost g c = λ s of.
    let first = cost_of c.args.target.now (g.M.Map.state c.args.records.now).map in
    let few = c.in_ok-chosen.ensures.few s of in
    let same = ap length (c.as_slice-new.ensures ∙ c.in_ok-rows.ensures) in
    g.M.Map.cost_within c.args.records.now c.put_rows.new.records (first + length c.as_slice-new.result.now) _ (omega (arith, few, same))
    (g.M.Map.cost_joined c.args.records.now c.choose.new.records c.put_rows.new.records first (length c.as_slice-new.result.now) (c.in_ok-chosen.ensures.cost s) c.in_err-put_rows.ensures.cost)

pub returns-clause-cost : goal.returns-clause-cost
returns-clause-cost g c = λ s of.
    let first = cost_of c.args.target.now (g.M.Map.state c.args.records.now).map in
    let few = c.in_ok-chosen.ensures.few s of in
    let same = ap length (c.as_slice-new.ensures ∙ c.in_ok-rows.ensures) in
    g.M.Map.cost_within c.args.records.now c.put_rows.new.records (first + length c.as_slice-new.result.now) _ (omega (arith, few, same))
    (g.M.Map.cost_joined c.args.records.now c.choose.new.records c.put_rows.new.records first (length c.as_slice-new.result.now) (c.in_ok-chosen.ensures.cost s) c.in_ok-put_rows.ensures.cost)
