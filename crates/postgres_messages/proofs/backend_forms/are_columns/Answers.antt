use Rattle.std.proofs.Common.{arith}
use Rattle.postgres_messages.specs.Backend.{TheColumn}
use Rattle.postgres_messages.specs.BackendViews.{viewed_column}
use Rattle.postgres_messages.specs.Fields.{HasNoZeroByte}
use Rattle.postgres_messages.proofs.Forms.{counted_view, each_viewed}
use Rattle.postgres_messages.proofs.backend_forms.are_columns.Goals as goal

pub returns-then-columns-le-MAX_ITEMS : goal.returns-then-columns-le-MAX_ITEMS
returns-then-columns-le-MAX_ITEMS c = (λ yes. counted_view (λ (x : TheColumn). HasNoZeroByte x.name) viewed_column c.args.columns.now (omega (arith, c.if-columns-le-MAX_ITEMS.true)) (c.have_no_zero.ensures.0 yes), λ counted. c.have_no_zero.ensures.1 (each_viewed (λ (x : TheColumn). HasNoZeroByte x.name) viewed_column c.args.columns.now counted))
