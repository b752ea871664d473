use Rattle.std.proofs.Common.{ap, sym, ◌∙◌, List, ℕ}
use Rattle.std.specs.Option.{option_copied}
use Rattle.store.specs.Walks.{is_within}
use Rattle.transactions.proofs.Counting.{change_past, no_change}
use Rattle.transactions.proofs.view.changes_span.Goals as goal

pub returns-in-Some : goal.returns-in-Some
returns-in-Some c past es rise =
    change_past c.args.start.now c.args.stop.now c.args.lists.now (option_copied c.least_change.result) c.in-Some.change.now (ap option_copied c.in-Some.is) c.least_change.ensures
    (ap (λ (key : List ℕ). is_within c.args.stop.now key) (sym c.key.ensures) ∙ sym c.is_within.ensures ∙ past) es rise

pub returns-in-None : goal.returns-in-None
returns-in-None c none es rise =
    no_change c.args.start.now c.args.stop.now c.args.lists.now (option_copied c.least_change.result) (ap option_copied c.in-None.is) c.least_change.ensures es rise
