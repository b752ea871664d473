use Rattle.std.proofs.Common.{ℕ, List, refl, subst, sym}
use Rattle.executor.specs.declared.known_columns.KnownColumns.{KnownColumns}
use Rattle.executor.specs.Known.{KnowsMore}
use Rattle.executor.proofs.Known.{bounds_more, known_more, on_ok}
use Rattle.executor.proofs.known_columns.+push_known.Goals as goal

pub returns-in_default-shared_cell : goal.returns-in_default-shared_cell
returns-in_default-shared_cell t c =
    let columns = c.args.columns.now in
    let least = c.first_cell-known.result in
    let greatest = c.first_cell-known-in_default-shared_cell.result in
    let new : KnownColumns = record { columns = c.args.known.now.columns; least = least; greatest = greatest } in
    subst (λ (key : List ℕ). KnowsMore columns c.args.start.now c.args.stop.now key c.args.known.now new) (sym c.in-Some.ensures.cases.0)
    (bounds_more columns c.in-Some.first.now c.in-Some.others.now c.in-Some-get.column.now (sym c.in-Some-get.ensures) c.args.start.now c.args.stop.now c.args.known.now least greatest c.first_cell-known.ensures c.first_cell-known-in_default-shared_cell.ensures)

pub returns : goal.returns
returns t c =
    let columns = c.args.columns.now in
    on_ok _ _ c.push_known.result (λ later.
    subst (λ (key : List ℕ). KnowsMore columns c.args.start.now c.args.stop.now key c.args.known.now c.push_known.new.known) (sym c.in-Some.ensures.cases.0)
    (known_more columns c.in-Some.first.now c.in-Some.others.now c.in-Some-get.column.now (sym c.in-Some-get.ensures) c.args.start.now c.args.stop.now c.in-Some-shared_cell.cell c.args.known.now c.push_known.new.known c.push.new.self
    (record { index = c.in-Some.first.now; value = c.in-Some-shared_cell.cell.value }) c.in-Some-shared_cell.ensures refl refl c.in_ok-push.ensures.ok later))
    c.push_known.ensures
