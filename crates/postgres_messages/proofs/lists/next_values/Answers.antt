use Rattle.std.proofs.Common.{◌≡◌, ◌++◌, ◌∷◌, [], map}
use Rattle.std.proofs.lemmas.Result.{err_from_is_err_and}
use Rattle.std.proofs.lemmas.List.{map_push}
use Rattle.postgres_messages.specs.Reading.{value_at, parts_at}
use Rattle.postgres_messages.specs.Views.{viewed_value}
use Rattle.postgres_messages.proofs.Loops.{goes_on, ends, is_done}
use Rattle.postgres_messages.proofs.lists.next_values.Goals as goal

pub returns-in_err-value : goal.returns-in_err-value
returns-in_err-value c =
    let p = err_from_is_err_and c.from_residual.result c.from_residual.ensures.1 in
    rw (p.1, p.2) (ends value_at c.in_err-value.field-0.0 (map viewed_value c.loop.values.items) c.args.count c.loop.counter c.loop.rest.now (parts_at value_at c.args.count c.args.bytes.now) c.loop-test.true c.in_err-value.ensures c.loop.invariant)

pub loop-preserved : goal.loop-preserved
loop-preserved c =
    let e : map viewed_value c.push.new.self.items ≡ map viewed_value c.loop.values.items ++ viewed_value c.in_ok-value.value ∷ [] = rw c.in_ok-push.ensures.items (map_push viewed_value c.loop.values.items c.in_ok-value.value) in
    rw e (goes_on value_at (map viewed_value c.loop.values.items) c.args.count c.loop.counter c.loop.rest.now (viewed_value c.in_ok-value.value) c.in_ok-value.after.now (parts_at value_at c.args.count c.args.bytes.now) c.loop-test.true c.in_ok-value.ensures c.loop.invariant)

pub returns : goal.returns
returns c = is_done value_at (map viewed_value c.loop.values.items) c.args.count c.loop.counter c.loop.rest.now (parts_at value_at c.args.count c.args.bytes.now) c.loop-test.false c.loop.invariant
