-- The memory that a change of the privilege descriptors of a table needs.
use Rattle.std.specs.Prelude.{◌≡◌, ◌≤◌, ◌+◌, List, [], map, length, vec_capacity}
use Rattle.sql_ast.specs.declared.privilege.Descriptor.{Descriptor}
use Rattle.catalogue.specs.declared.reservation.Reservation.{Reservation}
use Rattle.catalogue.specs.Descriptors.{DescriptorsChanged}
use Rattle.catalogue.specs.Grants.{AreNamed, entry_of}

-- there is room for these descriptors and those that come, and for as many entries of an index; and those of what comes are made
pub record HasRoomFor (c : DescriptorsChanged) (ds : List Descriptor) (reservation : Reservation) : Type 0 where
  pub no_descriptors : reservation.descriptors.items ≡ []
  pub no_entries : reservation.granted.items ≡ []
  pub descriptors : length ds + length c.added ≤ vec_capacity reservation.descriptors
  pub granted : length ds + length c.added ≤ vec_capacity reservation.granted
  pub entries : reservation.entries.items ≡ map entry_of c.added
  pub named : AreNamed c.added
