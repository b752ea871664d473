use Rattle.std.proofs.Common.{refl, ap, bytes_eq}
use Rattle.abstract_database.specs.Lists.{TheName, has_name, has_double}
use Rattle.role_membership.proofs.Names.{found_more, found_all, among_of_test}
use Rattle.role_membership.proofs.role_set.named.Goals as goal

pub loop-name-init : goal.loop-name-init
loop-name-init c = record { test = λ s. ap (has_name s) c.none-set.ensures; distinct = ap has_double c.none-set.ensures }

pub loop-name-preserved : goal.loop-name-preserved
loop-name-preserved c = record {
  test = λ s. found_more (bytes_eq s) c.args.names.now c.loop-name.name-index c.name-item.result _ _ _ c.loop-name-test.true c.name-item.is refl (c.in_ok-insert_if.ensures.test s) (c.loop-name.invariant.test s);
  distinct = c.in_ok-insert_if.ensures.distinct c.loop-name.invariant.distinct;
}

pub returns : goal.returns
returns c =
    let test = λ (s : TheName). found_all (bytes_eq s) c.args.names.now c.loop-name.name-index _ c.loop-name-test.false (c.loop-name.invariant.test s) in
    record { among = among_of_test _ c.args.names.now test; test = test; distinct = c.loop-name.invariant.distinct }
