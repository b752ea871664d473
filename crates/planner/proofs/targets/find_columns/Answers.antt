use Rattle.std.proofs.Common.{◌∙◌, arith, rules}
use Rattle.expressions.proofs.Each.{slice_refused, slice_ends}
use Rattle.abstract_database.specs.Checks.{found_column}
use Rattle.planner.proofs.Finding.{lent_refused}
use Rattle.planner.proofs.Stages.{each_map}
use Rattle.planner.proofs.targets.find_columns.Goals as goal

pub returns-in_err-find_column : goal.returns-in_err-find_column
returns-in_err-find_column c =
    let m = lent_refused (found_column c.args.columns.now) (λ n. n.now) c.args.names.now c.in_err-find_column.field-0.0
    (slice_refused (λ n. found_column c.args.columns.now n.now) c.args.names.now c.loop-name.name-index c.loop-name.found c.name-item.result c.in_err-find_column.field-0.0 c.loop-name.invariant c.name-item.is (omega arith) c.in_err-find_column.ensures) in
    search rules

pub returns : goal.returns
returns c =
    each_map (found_column c.args.columns.now) (λ n. n.now) c.args.names.now
    ∙ slice_ends (λ n. found_column c.args.columns.now n.now) c.args.names.now c.loop-name.name-index c.loop-name.found c.loop-name.invariant c.loop-name-test.false
