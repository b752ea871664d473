use Rattle.std.proofs.Common.{◌≡◌, true, false}
use Rattle.catalogue_loading.proofs.Checking.{no_row}
use Rattle.catalogue_loading.proofs.row_records.is_row.Goals as goal

not_true : false ≡ true → ⊥
not_true h = cc

pub returns-in-None : goal.returns-in-None
returns-in-None c = (
  λ is. absurd (not_true is),
  λ row. absurd (no_row c.args.id c.args.columns.now (c.args.key.now, c.args.value.now) c.in-None.ensures row),
)
