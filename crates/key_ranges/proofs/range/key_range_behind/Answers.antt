use Rattle.std.proofs.Common.{◌≡◌, ℕ, List, [], ◌++◌, sym, subst, ap, ◌∙◌}
use Rattle.sql_ast.specs.Layout.{Layout}
use Rattle.expressions.specs.Meaning.{UserNames}
use Rattle.expressions.specs.Rows.{names_of}
use Rattle.expressions.specs.Types.{TypedTerm}
use Rattle.row_codec.specs.Rows.{row_prefix}
use Rattle.key_ranges.specs.declared.range.KeyRange.{KeyRange}
use Rattle.key_ranges.specs.Bounds.{Bounds, bounds_of}
use Rattle.key_ranges.specs.Ranges.{range_after, HasKeysBehind, IsRangeOf}
use Rattle.key_ranges.proofs.Within.{range_keys, range_prefix}
use Rattle.key_ranges.proofs.Infallibility.{all_infallible}
use Rattle.key_ranges.proofs.range.key_range_behind.Goals as goal

-- the range that was made, from the key of a layout and the bytes that were pushed
made_of : (bounds : Bounds) (key indices start front prefix : List ℕ) (range : KeyRange)
    → range ≡ range_after bounds indices front → indices ≡ key → front ≡ start ++ prefix → start ≡ [] → range ≡ range_after bounds key prefix
made_of bounds key indices start front prefix range made is_key is_front is_start =
    let f : front ≡ prefix = is_front ∙ ap (λ (xs : List ℕ). xs ++ prefix) is_start in
    made ∙ ap (λ ks. range_after bounds ks front) is_key ∙ ap (λ k. range_after bounds key k) f

pub returns-clause-keys : goal.returns-clause-keys
returns-clause-keys c =
    let layout : Layout = c.args.columns.now in
    let users : UserNames = names_of c.args.users.now in
    let conditions : List TypedTerm = c.args.conditions.now in
    let is = made_of (bounds_of c.args.table users c.args.front.now conditions) layout.key _ _ _ (row_prefix c.args.id) c.in_ok-range.range
    c.in_ok-range.ensures c.key-key.ensures.key c.in_ok-push_row_prefix.ensures.ok c.new-prefix.ensures.items in
    subst (HasKeysBehind c.args.id layout c.args.table c.args.front.now users conditions) (sym is) (range_keys c.args.id layout c.args.table c.args.front.now users conditions c.key-key.ensures.layout)

pub returns-clause-prefix : goal.returns-clause-prefix
returns-clause-prefix c =
    let bounds : Bounds = bounds_of c.args.table (names_of c.args.users.now) c.args.front.now c.args.conditions.now in
    let is = made_of bounds c.args.columns.now.key _ _ _ (row_prefix c.args.id) c.in_ok-range.range
    c.in_ok-range.ensures c.key-key.ensures.key c.in_ok-push_row_prefix.ensures.ok c.new-prefix.ensures.items in
    subst (IsRangeOf c.args.id) (sym is) (range_prefix c.args.id bounds c.args.columns.now.key)

pub returns-clause-infallible : goal.returns-clause-infallible
returns-clause-infallible c = all_infallible c.args.conditions.now (sym c.are_infallible.ensures.exact ∙ c.if-not-are_infallible.false)
