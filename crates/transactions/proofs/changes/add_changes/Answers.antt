use Rattle.std.proofs.Common.{◌≡◌, ◌+◌, ℕ, List, Option, Some, ap, sym, ◌∙◌, subst}
use Rattle.store.specs.Records.{Changes, IsOrdered, lookup, changed}
use Rattle.store.proofs.Changes.{ordered_changed}
use Rattle.transactions.specs.Views.{or_earlier}
use Rattle.transactions.proofs.Joining.{one_change_more}
use Rattle.transactions.proofs.Pieces.{front_rises, front_names_none}
use Rattle.transactions.proofs.changes.add_changes.Goals as goal

pub loop-change-preserved : goal.loop-change-preserved
loop-change-preserved c =
    let change = c.change-item.result in
    let changes = c.args.changes.now in
    let next = c.loop-change.change-index + 1 in
    let was = c.loop-change.invariant in
    let is : c.add_change.new.joined ≡ changed change.0 (Some change.1) c.loop-change.joined = c.in_ok-add_change.ensures.ok in
    let added = λ (key : List ℕ).
    ap (λ (cs : Changes). lookup key cs) is
    ∙ one_change_more key changes c.loop-change.change-index change c.args.joined.now c.loop-change.joined
    (front_rises next changes c.requires.ordered) was.ordered c.loop-change-test.true c.change-item.is (was.added key) in
    record {
      ordered = subst IsOrdered (sym is) (ordered_changed change.0 (Some change.1) c.loop-change.joined was.ordered);
      added = added;
      elsewhere = λ key none. added key ∙ ap (λ (word : Option (Option (List ℕ))). or_earlier word (lookup key c.args.joined.now)) (front_names_none key next changes none);
    }
