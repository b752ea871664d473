use Rattle.std.proofs.Common.{◌≡◌, ◌≤◌, length, drop}
use Rattle.catalogue.specs.Grants.{mask_given}
use Rattle.catalogue.proofs.descriptor_edit.mask_given.Given as goal

abbrev pub invariant-loop-left : goal.invariant-loop-left
invariant-loop-left l = record {
  inside : l.left ≤ length l.descriptors;
  mask : l.mask ≡ mask_given l.action l.grantee (drop l.left l.descriptors);
}

abbrev pub decreases-loop-left : goal.decreases-loop-left
decreases-loop-left l = l.left
