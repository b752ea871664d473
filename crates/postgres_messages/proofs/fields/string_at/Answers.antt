use Rattle.std.proofs.Common.{◌≡◌, ◌+◌, ◌-◌, length, take, drop, add-one, arith}
use Rattle.std.proofs.lemmas.List.{take_all, length-drop}
use Rattle.postgres_messages.proofs.Loops.{string_found, string_missing}
use Rattle.postgres_messages.proofs.fields.string_at.Goals as goal

pub returns-then-byte-eq0 : goal.returns-then-byte-eq0
returns-then-byte-eq0 c =
    let found = string_found c.args.bytes.now c.loop-i.i c.loop-i-test.true c.if-byte-eq0.true c.loop-i.invariant in
    let whole : take (length c.args.bytes.now - (c.loop-i.i + 1)) (drop (c.loop-i.i + 1) c.args.bytes.now) ≡ drop (c.loop-i.i + 1) c.args.bytes.now =
    take_all (length c.args.bytes.now - (c.loop-i.i + 1)) (drop (c.loop-i.i + 1) c.args.bytes.now) (omega (arith, length-drop (c.loop-i.i + 1) c.args.bytes.now)) in
    rw (whole, add-one) found

pub returns : goal.returns
returns c = string_missing c.args.bytes.now (λ k below. c.loop-i.invariant k (omega (arith, below)))
