use Rattle.catalogue.proofs.OwnParts.{ordered_parts}
use Rattle.catalogue.proofs.table.TableParts.are_in_order.Goals as goal

pub returns : goal.returns
returns c =
    let descriptors = c.as_slice-descriptors.ensures in
    let policies = c.as_slice-policies.ensures in
    rw (c.both-2.ensures, c.both.ensures, c.both-order.ensures)
    (ordered_parts c.args.self.now c.descriptors_name-own_descriptors.result c.policies_name-own_policies.result c.descriptors_rise.result c.policies_rise.result
    (rw (← descriptors) c.descriptors_name-own_descriptors.ensures) (rw (← policies) c.policies_name-own_policies.ensures)
    (rw (← descriptors) c.descriptors_rise.ensures) (rw (← policies) c.policies_rise.ensures))
