use Rattle.std.proofs.Common.{◌≡◌, ◌++◌, ◌∷◌, []}
use Rattle.std.proofs.lemmas.Result.{err_from_is_err_and}
use Rattle.std.specs.Int.{w16}
use Rattle.postgres_messages.specs.Reading.{number_at, parts_at}
use Rattle.postgres_messages.proofs.Loops.{goes_on, ends, is_done}
use Rattle.postgres_messages.proofs.lists.next_u16s.Goals as goal

pub returns-in_err-number : goal.returns-in_err-number
returns-in_err-number c =
    let p = err_from_is_err_and c.from_residual.result c.from_residual.ensures.1 in
    rw (p.1, p.2) (ends (number_at w16) c.in_err-number.field-0.0 c.loop.numbers.items c.args.count c.loop.counter c.loop.rest.now (parts_at (number_at w16) c.args.count c.args.bytes.now) c.loop-test.true c.in_err-number.ensures c.loop.invariant)

pub loop-preserved : goal.loop-preserved
loop-preserved c =
    let e : c.push.new.self.items ≡ c.loop.numbers.items ++ c.in_ok-number.number ∷ [] = c.in_ok-push.ensures.items in
    rw e (goes_on (number_at w16) c.loop.numbers.items c.args.count c.loop.counter c.loop.rest.now c.in_ok-number.number c.in_ok-number.after.now (parts_at (number_at w16) c.args.count c.args.bytes.now) c.loop-test.true c.in_ok-number.ensures c.loop.invariant)

pub returns : goal.returns
returns c = is_done (number_at w16) c.loop.numbers.items c.args.count c.loop.counter c.loop.rest.now (parts_at (number_at w16) c.args.count c.args.bytes.now) c.loop-test.false c.loop.invariant
