use Rattle.std.proofs.Common.{◌<◌, ◌≤◌, refl, arith}
use Rattle.std.proofs.lemmas.Bool.{lt-ltb, le-ltb}
use Rattle.page_roots.proofs.Choosing.{chosen_of}
use Rattle.page_roots.proofs.choice.choose.Goals as goal

pub returns-in-Found-Empty-clause-chosen : goal.returns-in-Found-Empty-clause-chosen
returns-in-Found-Empty-clause-chosen c = chosen_of c.args.even c.args.odd _ (rw (c.in-Found-Empty.is-0, c.in-Found-Empty.is-1) refl)

pub returns-in-Empty-Found-clause-chosen : goal.returns-in-Empty-Found-clause-chosen
returns-in-Empty-Found-clause-chosen c = chosen_of c.args.even c.args.odd _ (rw (c.in-Empty-Found.is-0, c.in-Empty-Found.is-1) refl)

pub returns-then-number-clause-chosen : goal.returns-then-number-clause-chosen
returns-then-number-clause-chosen c =
    let less : c.in-Found-Found.next.number < c.in-Found-Found.root.number = omega (arith, c.if-number.true, c.number.ensures.number, c.number-in-Found-Found.ensures.number) in
    chosen_of c.args.even c.args.odd _ (rw (c.in-Found-Found.is-0, c.in-Found-Found.is-1, lt-ltb _ _ less) refl)

pub returns-else-number-clause-chosen : goal.returns-else-number-clause-chosen
returns-else-number-clause-chosen c =
    let not_less : c.in-Found-Found.root.number ≤ c.in-Found-Found.next.number = omega (arith, c.if-number.false, c.number.ensures.number, c.number-in-Found-Found.ensures.number) in
    chosen_of c.args.even c.args.odd _ (rw (c.in-Found-Found.is-0, c.in-Found-Found.is-1, le-ltb _ _ not_less) refl)
