use Rattle.std.proofs.Common.{◌∙◌, ap, sym}
use Rattle.expressions.specs.Rows.{names_of}
use Rattle.guards.specs.Guards.{Cells}
use Rattle.gathering.specs.Entries.{entry_in, is_behind, keys_on, worst_of}
use Rattle.gathering.specs.Found.{keys_of}
use Rattle.gathering.proofs.Sorting.{behind_answer}
use Rattle.gathering.proofs.sorted_rows.SortedRows.add.Goals as goal

pub returns-then-is_behind-clause-taken : goal.returns-then-is_behind-clause-taken
returns-then-is_behind-clause-taken g c = λ combination more at.
    behind_answer (names_of c.args.users.now) c.args.self.now combination more c.args.self.now.kept.ordered c.args.self.now.kept.within
    (ap (λ (cells : Cells). is_behind (keys_on (names_of c.args.users.now) (keys_of c.args.self.now) cells) (worst_of c.args.self.now.limit c.args.self.now.kept.sorted c.args.self.now.kept.rows.items)) (sym at)
    ∙ sym c.is_behind.ensures ∙ c.if-is_behind.true)

pub returns-in_ok-keep-in-Ok-clause-taken : goal.returns-in_ok-keep-in-Ok-clause-taken
returns-in_ok-keep-in-Ok-clause-taken g c = λ combination more at.
    c.in_ok-keep-in-Ok.ensures.taken (names_of c.args.users.now) (g.R.RowView.cell c.args.row.now) combination more at (ap entry_in (sym c.in-Ok.is) ∙ c.in_ok-keyed.ensures)
