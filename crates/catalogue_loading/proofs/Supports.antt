-- Supports stay within one table.
use Rattle.std.proofs.Common.{◌≡◌, Bool, true, false, ◌&&◌, List, bytes_eq, refl, ◌∙◌}
use Rattle.sql_ast.specs.declared.privilege.Descriptor.{Descriptor}
use Rattle.abstract_database.specs.Lists.{TheName, Among}
use Rattle.abstract_database.specs.Chains.{by_start, by_step}
use Rattle.abstract_database.specs.Database.{same_action}
use Rattle.abstract_database.specs.Privileges.{IsSupported, supports, is_for, privilege_of, is_same_role, covers}
use Rattle.abstract_database.proofs.ListLemmas.{bytes_same}

first_of : (a b : Bool) → (a && b) ≡ true → a ≡ true
first_of true b e = refl
first_of false b e = e

supports_within : (p q : Descriptor) → supports p q ≡ true → p.table ≡ q.table
supports_within p q h =
    let grants = first_of (is_for q.table (privilege_of q) p && p.grantable) (is_same_role p.grantee q.grantor) h in
    let for_it = first_of (is_for q.table (privilege_of q) p) p.grantable grants in
    bytes_same p.table q.table (first_of (bytes_eq p.table q.table) (same_action p.action q.action) (first_of (bytes_eq p.table q.table && same_action p.action q.action) (covers p.column q.column) for_it))

-- a chain among some descriptors is one among more
pub supported_by_more : (few many : List Descriptor) → ((d : Descriptor) → Among d few → Among d many) → (d : Descriptor) → IsSupported few d → IsSupported many d
supported_by_more few many into d (by_start x among start) = by_start x (into x among) start
supported_by_more few many into d (by_step p x led among step) = by_step p x (supported_by_more few many into p led) (into x among) step

-- a chain to a descriptor for a table is one among those for this table
pub supported_within : (name : TheName) (many few : List Descriptor) → ((d : Descriptor) → Among d many → d.table ≡ name → Among d few) → (d : Descriptor) → d.table ≡ name → IsSupported many d → IsSupported few d
supported_within name many few within d is (by_start x among start) = by_start x (within x among is) start
supported_within name many few within d is (by_step p x led among step) =
    by_step p x (supported_within name many few within p (supports_within p x step ∙ is) led) (within x among is) step
