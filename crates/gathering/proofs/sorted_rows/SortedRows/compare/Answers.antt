use Rattle.std.proofs.Common.{◌∙◌, Result, ap}
use Rattle.std.specs.declared.cmp.Ordering.{Ordering}
use Rattle.sql_types.specs.declared.state.SqlState.{SqlState}
use Rattle.expressions.specs.Rows.{names_of}
use Rattle.gathering.specs.Entries.{both_compared, first_compared, key_on, keys_compared, keys_on, own_keys}
use Rattle.gathering.proofs.Comparing.{first_then_others}
use Rattle.gathering.proofs.sorted_rows.SortedRows.compare.Goals as goal

pub returns : goal.returns
returns g c =
    let cells = g.R.RowView.cell c.args.row.now in
    let users = names_of c.args.users.now in
    c.both.ensures
    ∙ ap (λ (r : Result Ordering SqlState). both_compared r c.compare_keys.result) c.compare_key-first.ensures
    ∙ ap (both_compared (first_compared (key_on users cells c.args.self.now.first.now) (own_keys c.args.kept.now)))
    (c.compare_keys.ensures ∙ ap (keys_compared (keys_on users c.args.self.now.others.now cells)) c.as_slice.ensures.value)
    ∙ first_then_others (key_on users cells c.args.self.now.first.now) (keys_on users c.args.self.now.others.now cells) (own_keys c.args.kept.now)
