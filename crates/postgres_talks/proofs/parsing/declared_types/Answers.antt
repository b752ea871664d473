use Rattle.std.proofs.Common.{arith}
use Rattle.postgres_talks.proofs.Bindings.{more_types}
use Rattle.postgres_talks.proofs.parsing.declared_types.Goals as goal

pub loop-left-preserved : goal.loop-left-preserved
loop-left-preserved c = record {
  whole = more_types _ c.args.template.now c.args.oids.now _ _ _ _ c.loop-left.index _ c.loop-left.left c.loop-left-test.true (omega arith) c.loop-left.invariant.whole c.declared_type.ensures c.in-Some.is c.in_ok-push.ensures.ok;
  place = omega (arith, c.loop-left.invariant.place, c.loop-left-test.true);
}
