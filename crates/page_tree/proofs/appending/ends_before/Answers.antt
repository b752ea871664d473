use Rattle.std.proofs.Common.{[], arith, refl}
use Rattle.std.proofs.lemmas.Bool.{false≢true}
use Rattle.page_tree.proofs.LeavesBehind.{comes_last, none_left, all_low}
use Rattle.page_tree.proofs.appending.ends_before.Goals as goal

pub returns-in_default : goal.returns-in_default
returns-in_default c es node = absurd (c.in_default.ensures.sought [] es node)

pub returns-then-place-gt0 : goal.returns-then-place-gt0
returns-then-place-gt0 c es node =
    let p = c.in-Some.ensures.sought [] es node in
    (λ no. absurd (false≢true no), λ last. absurd (let none = none_left c.args.key.now es last.1 in omega (arith, none, p.left_is, c.if-place-gt0.true)))

pub returns-then-place-eq0 : goal.returns-then-place-eq0
returns-then-place-eq0 c es node =
    let p = c.in-Some.ensures.sought [] es node in
    (λ no. absurd (false≢true no), λ last. absurd (let all = all_low c.args.key.now es last.1 in let some = last.0 in omega (arith, all, some, p.index_is, c.if-place-eq0.true)))

pub returns : goal.returns
returns c es node =
    let p = c.in-Some.ensures.sought [] es node in
    (λ is. comes_last c.args.key.now es (omega (arith, p.left_is, c.if-place-gt0.false)) (omega (arith, p.index_is, c.if-place-eq0.false)), λ last. refl)
