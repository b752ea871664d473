use Rattle.std.proofs.Common.{take, length, ◌≡◌}
use Rattle.std.specs.Prelude.{All}
use Rattle.sql_parser.proofs.form_rules.have_length.Given as goal

abbrev pub invariant-loop-row : goal.invariant-loop-row
invariant-loop-row l = All (λ row. length row ≡ l.width) (take l.row-index l.rows)
