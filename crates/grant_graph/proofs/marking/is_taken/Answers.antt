use Rattle.std.proofs.Common.{◌||◌, Bool, None, sym, ap, ◌∙◌}
use Rattle.std.specs.List.{list_any}
use Rattle.grant_graph.specs.Keys.{Key, LentKey}
use Rattle.grant_graph.proofs.Marks.{same_lent_key, taken_by_key}
use Rattle.grant_graph.proofs.marking.is_taken.Goals as goal

abbrev on_whole : (k : Key) → Key
on_whole k = (k.0, k.1, None, k.3, k.4)

pub returns-then-has_own : goal.returns-then-has_own
returns-then-has_own c = λ named have.
    let keys = c.args.keys.now.keys in
    let own : LentKey = c.key-own.result in
    let whole : LentKey = (own.0, own.1, None, own.3, own.4) in
    let both = taken_by_key named c.args.descriptor.now keys own whole c.key-own.ensures (ap on_whole c.key-own.ensures) have in
    c.if-has_own.true
    ∙ ap (λ (b : Bool). b || list_any (same_lent_key whole) keys) (sym c.if-has_own.true ∙ c.contains-has_own.ensures) ∙ both

pub returns-else-has_own : goal.returns-else-has_own
returns-else-has_own c = λ named have.
    let keys = c.args.keys.now.keys in
    let own : LentKey = c.key-own.result in
    let whole : LentKey = (own.0, own.1, None, own.3, own.4) in
    let both = taken_by_key named c.args.descriptor.now keys own whole c.key-own.ensures (ap on_whole c.key-own.ensures) have in
    c.contains-has_whole.ensures
    ∙ ap (λ (b : Bool). b || list_any (same_lent_key whole) keys) (sym c.if-has_own.false ∙ c.contains-has_own.ensures) ∙ both
