use Rattle.std.proofs.Common.{◌≡◌, ◌++◌, ◌∷◌, [], length, map, sym}
use Rattle.std.proofs.lemmas.Bool.{eqb-true, eqb-false}
use Rattle.std.proofs.lemmas.List.{map_push}
use Rattle.std.proofs.lemmas.Result.{err_from_is_err_and}
use Rattle.postgres_messages.specs.StartReading.{parameters_at, viewed_parameter}
use Rattle.postgres_messages.proofs.Loops.{one_parameter, no_name, no_value, last_parameter, no_end}
use Rattle.postgres_messages.proofs.start.parameters_at.Goals as goal

pub returns-in_err-name : goal.returns-in_err-name
returns-in_err-name c =
    let p = err_from_is_err_and c.from_residual.result c.from_residual.ensures.1 in
    rw (p.1, p.2) (no_name c.in_err-name.field-0.0 (map viewed_parameter c.loop.parameters.items) (length c.args.bytes.now) c.loop.counter c.loop.rest.now (parameters_at (length c.args.bytes.now) c.args.bytes.now) c.loop-test.true c.in_err-name.ensures c.loop.invariant)

pub returns-then-is_empty : goal.returns-then-is_empty
returns-then-is_empty c =
    last_parameter (map viewed_parameter c.loop.parameters.items) (length c.args.bytes.now) c.loop.counter c.loop.rest.now c.in_ok-name.name.now c.in_ok-name.behind.now (parameters_at (length c.args.bytes.now) c.args.bytes.now) c.loop-test.true c.in_ok-name.ensures
    (eqb-true (length c.in_ok-name.name.now) 0 (sym c.if-is_empty.ensures)) c.loop.invariant

pub returns-in_err-parameter : goal.returns-in_err-parameter
returns-in_err-parameter c =
    let p = err_from_is_err_and c.from_residual-in_err-parameter.result c.from_residual-in_err-parameter.ensures.1 in
    rw (p.1, p.2) (no_value c.in_err-parameter.field-0.0 (map viewed_parameter c.loop.parameters.items) (length c.args.bytes.now) c.loop.counter c.loop.rest.now c.in_ok-name.name.now c.in_ok-name.behind.now (parameters_at (length c.args.bytes.now) c.args.bytes.now)
    c.loop-test.true c.in_ok-name.ensures (eqb-false (length c.in_ok-name.name.now) 0 (sym c.if-is_empty.ensures)) c.in_err-parameter.ensures c.loop.invariant)

pub loop-preserved : goal.loop-preserved
loop-preserved c =
    let e : map viewed_parameter c.push.new.self.items ≡ map viewed_parameter c.loop.parameters.items ++ viewed_parameter c.in_ok-parameter.parameter ∷ [] = rw c.in_ok-push.ensures.items (map_push viewed_parameter c.loop.parameters.items c.in_ok-parameter.parameter) in
    rw e (one_parameter (map viewed_parameter c.loop.parameters.items) (length c.args.bytes.now) c.loop.counter c.loop.rest.now c.in_ok-name.name.now c.in_ok-name.behind.now c.in_ok-parameter.after.now (viewed_parameter c.in_ok-parameter.parameter)
    (parameters_at (length c.args.bytes.now) c.args.bytes.now) c.loop-test.true c.in_ok-name.ensures (eqb-false (length c.in_ok-name.name.now) 0 (sym c.if-is_empty.ensures)) c.in_ok-parameter.ensures c.loop.invariant)

pub returns : goal.returns
returns c = no_end (map viewed_parameter c.loop.parameters.items) (length c.args.bytes.now) c.loop.counter c.loop.rest.now (parameters_at (length c.args.bytes.now) c.args.bytes.now) c.loop-test.false c.loop.invariant
