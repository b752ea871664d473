use Rattle.std.proofs.Common.{◌≡◌, map, take}
use Rattle.catalogue.specs.Grants.{entry_of, AreNamed}
use Rattle.catalogue.proofs.grants.entries.Given as goal

abbrev pub invariant-loop-descriptor : goal.invariant-loop-descriptor
invariant-loop-descriptor l = record {
  entries : l.entries.items ≡ map entry_of (take l.descriptor-index l.descriptors);
  named : AreNamed (take l.descriptor-index l.descriptors);
}
