use Rattle.std.proofs.Common.{◌∙◌, List, length, map, subst, ap, arith}
use Rattle.sql_ast.specs.declared.privilege.Descriptor.{Descriptor}
use Rattle.catalogue.specs.Grants.{AreNamed, entry_of}
use Rattle.catalogue.proofs.reservation.Reservation.new.Goals as goal

pub returns : goal.returns
returns c =
    let added = c.added-added.ensures.added in
    let same = ap (λ (l : List Descriptor). length l) added in
    record {
      no_descriptors = c.in_ok-descriptors.ensures.items;
      no_entries = c.in_ok-granted.ensures.items;
      descriptors = omega (arith, same, c.in_ok-descriptors.ensures.capacity);
      granted = omega (arith, same, c.in_ok-granted.ensures.capacity);
      entries = c.in_ok-entries.ensures.entries ∙ ap (map entry_of) added;
      named = subst AreNamed added c.in_ok-entries.ensures.named;
    }
