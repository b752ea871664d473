use Rattle.std.proofs.Common.{subst, sym, ◌∙◌}
use Rattle.std.specs.Option.{option_copied}
use Rattle.transactions.specs.Views.{HasLeast}
use Rattle.transactions.proofs.Least.{with_none, is_less, keys_compared, earlier_alone, earlier_first, later_first}
use Rattle.transactions.proofs.view.lesser.Goals as goal

pub returns-in_default : goal.returns-in_default
returns-in_default c from lists more first second =
    with_none from (option_copied c.args.later) lists more (subst (λ o. HasLeast from (option_copied o) lists) c.in_default.is first) second

pub returns-in_default-later : goal.returns-in_default-later
returns-in_default-later c from lists more first second =
    earlier_alone from c.in-Some.first.now lists more (subst (λ o. HasLeast from (option_copied o) lists) c.in-Some.is first) (subst (λ o. HasLeast from (option_copied o) more) c.in_default-later.is second)

pub returns-then-comes_before : goal.returns-then-comes_before
returns-then-comes_before c from lists more first second =
    earlier_first from c.in-Some.first.now c.in-Some-later.second.now lists more
    (subst (λ o. HasLeast from (option_copied o) lists) c.in-Some.is first) (subst (λ o. HasLeast from (option_copied o) more) c.in-Some-later.is second)
    (is_less _ (keys_compared c.key.ensures c.key-2.ensures (sym c.comes_before.ensures ∙ c.if-comes_before.true)))

pub returns-else-comes_before : goal.returns-else-comes_before
returns-else-comes_before c from lists more first second =
    later_first from c.in-Some.first.now c.in-Some-later.second.now lists more
    (subst (λ o. HasLeast from (option_copied o) lists) c.in-Some.is first) (subst (λ o. HasLeast from (option_copied o) more) c.in-Some-later.is second)
    (keys_compared c.key.ensures c.key-2.ensures (sym c.comes_before.ensures ∙ c.if-comes_before.false))
