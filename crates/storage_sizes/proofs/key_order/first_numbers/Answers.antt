use Rattle.std.proofs.Common.{ℕ, ◌+◌, arith}
use Rattle.storage_sizes.proofs.Numbers.{word, fewer, up_to_lem, at_once}
use Rattle.storage_sizes.proofs.key_order.first_numbers.Goals as goal

pub returns-then-x-y : goal.returns-then-x-y
returns-then-x-y c =
    let xs = c.args.key.now in
    let ys = c.args.other.now in
    let front = word xs ys c.type_inv.key c.type_inv.other 0 8 _ _ (omega (arith, c.requires.long, c.requires.inside)) (omega (arith, c.requires.long, c.requires.inside)) c.number_at-x.ensures c.number_at-y.ensures (λ k l m. absurd (omega arith)) in
    at_once xs ys 8 _ _ _ front c.if-x-y.true

pub returns : goal.returns
returns c =
    let xs = c.args.key.now in
    let ys = c.args.other.now in
    let next : ℕ = c.min-next.result in
    let is = c.min-next.ensures in
    let read = word xs ys c.type_inv.key c.type_inv.other in
    let front = read 0 8 _ _ (omega (arith, c.requires.long, c.requires.inside)) (omega (arith, c.requires.long, c.requires.inside)) c.number_at-x.ensures c.number_at-y.ensures (λ k l m. absurd (omega arith)) in
    let seen = fewer xs ys next 8 (omega arith) (front.alike c.if-x-y.false) in
    up_to_lem xs ys (next + 8) _ _ _ (omega (arith, c.requires.long)) (read next 8 _ _ (omega (arith, c.requires.inside)) (omega (arith, c.requires.inside)) c.number_at.ensures c.number_at-2.ensures seen)
