use Rattle.std.proofs.Common.{List, length, ap, arith}
use Rattle.sql_ast.specs.declared.columns.Column.{Column}
use Rattle.row_codec.proofs.Whole.{found_row, key_within, value_within}
use Rattle.row_codec.proofs.row.RowRef.read.Goals as goal
use Rattle.row_codec.proofs.row.RowRef.read.Goals.{then-key-gt-MAX_ROW_KEY_LENGTH-via-then-key-gt-MAX_ROW_KEY_LENGTH, then-key-gt-MAX_ROW_KEY_LENGTH-via-else-key-gt-MAX_ROW_KEY_LENGTH+then-value-gt-MAX_VALUE_LENGTH}

pub returns-then-key-gt-MAX_ROW_KEY_LENGTH-clause-only : goal.returns-then-key-gt-MAX_ROW_KEY_LENGTH-clause-only
returns-then-key-gt-MAX_ROW_KEY_LENGTH-clause-only c row spells =
    elim c.then-key-gt-MAX_ROW_KEY_LENGTH.branch [
      | then-key-gt-MAX_ROW_KEY_LENGTH-via-then-key-gt-MAX_ROW_KEY_LENGTH w ↦ absurd (omega (arith, key_within _ _ _ row spells, w.if-key-gt-MAX_ROW_KEY_LENGTH.true))
      | then-key-gt-MAX_ROW_KEY_LENGTH-via-else-key-gt-MAX_ROW_KEY_LENGTH+then-value-gt-MAX_VALUE_LENGTH w ↦ absurd (omega (arith, value_within _ _ _ row spells, w.if-value-gt-MAX_VALUE_LENGTH.true))
    ]

pub returns-clause-found : goal.returns-clause-found
returns-clause-found c =
    found_row _ _ _ _ _ _ (ap (λ (cs : List Column). length cs) c.as_slice.ensures.columns) c.as_slice.ensures.layout
    c.if-key-gt-MAX_ROW_KEY_LENGTH.false c.if-value-gt-MAX_VALUE_LENGTH.false c.in_ok-read_key.ensures.found c.in_ok-read_others.ensures.same_key c.in_ok-read_others.ensures.found
