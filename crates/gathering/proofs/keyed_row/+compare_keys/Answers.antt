use Rattle.std.proofs.Common.{◌∙◌, List, Result, ap, sym}
use Rattle.std.specs.declared.cmp.Ordering.{Ordering}
use Rattle.sql_types.specs.declared.state.SqlState.{SqlState}
use Rattle.expressions.specs.Rows.{names_of}
use Rattle.gathering.specs.declared.query.TypedSortKey.{TypedSortKey}
use Rattle.gathering.specs.Entries.{both_compared, first_compared, key_on, keys_compared, keys_on}
use Rattle.gathering.proofs.Comparing.{first_then_others}
use Rattle.gathering.proofs.keyed_row.+compare_keys.Goals as goal

pub returns : goal.returns
returns g t c =
    let cells = g.R.RowView.cell c.args.row.now in
    let users = names_of c.args.users.now in
    c.both.ensures
    ∙ ap (λ (r : Result Ordering SqlState). both_compared r c.compare_keys.result) c.compare_first-first.ensures
    ∙ ap (both_compared (first_compared (key_on users cells c.in-Some.key.now) c.args.kept.now))
    (c.compare_keys.ensures ∙ ap (keys_compared (keys_on users c.in-Some.others.now cells)) c.behind_first.ensures)
    ∙ first_then_others (key_on users cells c.in-Some.key.now) (keys_on users c.in-Some.others.now cells) c.args.kept.now
    ∙ ap (λ (keys : List TypedSortKey). keys_compared (keys_on users keys cells) c.args.kept.now) (sym c.in-Some.ensures.cases.0)
