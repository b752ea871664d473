-- Who grants, and what a statement names.
use Rattle.std.proofs.Common.{◌≡◌, ◌⊎◌, ◌&&◌, Bool, true, false, cond, List, filter, map, bytes_eq, Option, Some, None, refl, sym, ap, ◌∙◌, subst, inl, inr, Equal}
use Rattle.std.specs.List.{list_any}
use Rattle.std.specs.Cmp.{Equal-is}
use Rattle.std.proofs.lemmas.Bool.{and_parts, or_left, or_right}
use Rattle.std.proofs.lemmas.Option.{same_Some}
use Rattle.sql_ast.specs.declared.privilege.Privilege.{Privilege}
use Rattle.sql_ast.specs.declared.privilege.Grantor.TheVariants as grantor
use Rattle.sql_ast.specs.declared.privilege.Grantee.{Grantee}
use Rattle.sql_ast.specs.declared.privilege.Grantee.TheVariants as grantee
use Rattle.sql_ast.specs.declared.privilege.Descriptor.{Descriptor}
use Rattle.abstract_database.specs.Lists.{TheName, Among, least}
use Rattle.abstract_database.specs.Database.{TableOf, Table, Database, descriptor_cmp}
use Rattle.abstract_database.specs.Roles.{IsIn, is_in, is_superuser, acts_as_owner}
use Rattle.abstract_database.specs.Privileges.{privilege_of, covers, is_for, role_of, grant_option_holders, holder_for, acting_grantor, descriptors_by, granted_by, same_key, takes}
use Rattle.abstract_database.specs.Whole.{Each, IsRoleOf, IsGrantorOf, IsGranteeOf, IsWhole}
use Rattle.abstract_database.specs.Checks.{grantee_roles}
use Rattle.abstract_database.proofs.ElementLemmas.{any_found, of_filter}
use Rattle.abstract_database.proofs.ListLemmas.{bytes_same}
use Rattle.abstract_database.proofs.ChainLemmas.{found_role, role_found}
use Rattle.database_laws.specs.Rights.{ActsAs}
use Rattle.database_laws.specs.Grants.{HoldsGrantOption, IsNamed, IsTaken}
use Rattle.database_laws.proofs.HoldingLemmas.{is_one_for, by_covering}
use Rattle.database_laws.proofs.RightLemmas.{acts_as, superuser_told}
use Rattle.database_laws.proofs.WholeLists.{of_map, of_flat_map, into_flat_map}
use Rattle.database_laws.proofs.WholeSets.{descriptors_same, key_of_equal}
use Rattle.database_laws.proofs.WholePrivileges.{least_among, role_of_is, in_map, in_grantee_roles, grantor_backed, backer_is_role}

-- ---- the acting grantor

module _ (db : Database) (role : TheName) (t : TableOf) (p : Privilege) where
  abbrev holders : List TheName
  holders = grant_option_holders db.descriptors t.name p

  pub holder_of : (n : TheName) → Among n holders → HoldsGrantOption db n t.name p
  holder_of n h =
      let from = of_flat_map (λ (d : Descriptor). role_of d.grantee) (filter (λ d. is_for t.name p d && d.grantable) db.descriptors) n h in
      let passed = of_filter (λ (d : Descriptor). is_for t.name p d && d.grantable) db.descriptors from.0 from.1 in
      let parts = and_parts (is_for t.name p from.0) from.0.grantable passed.1 in
      (from.0, passed.0, is_one_for t.name p from.0 parts.0, parts.1, role_of_is from.0.grantee n from.2)

  abbrev MayGrant : TheName → Type 0
  MayGrant n = IsIn db.memberships role n × HoldsGrantOption db n t.name p

  holding_at : (b : Bool) → list_any (bytes_eq role) holders ≡ b → (n : TheName) → cond b (Some role) (least (filter (is_in db.memberships role) holders)) ≡ Some n → MayGrant n
  holding_at true found n is =
      let own = any_found (bytes_eq role) holders found in
      subst MayGrant (same_Some role n is) (inl refl, subst (λ x. HoldsGrantOption db x t.name p) (sym (bytes_same role own.0 own.2)) (holder_of own.0 own.1))
  holding_at false found n is =
      let from = of_filter (is_in db.memberships role) holders n (least_among (filter (is_in db.memberships role) holders) n is) in
      (found_role db.memberships role n from.1, holder_of n from.0)

  acting_at : (b : Bool) → acts_as_owner db role t.owner ≡ b → (n : TheName) → cond b (Some t.owner) (holder_for db role holders) ≡ Some n → (ActsAs db role t.owner × (n ≡ t.owner)) ⊎ MayGrant n
  acting_at true acts n is = inl (acts_as db role t.owner acts, sym (same_Some t.owner n is))
  acting_at false acts n is = inr (holding_at (list_any (bytes_eq role) holders) refl n is)

  pub acting_may_grant : (n : TheName) → acting_grantor db role t p ≡ Some n → (ActsAs db role t.owner × (n ≡ t.owner)) ⊎ MayGrant n
  acting_may_grant n is = acting_at (acts_as_owner db role t.owner) refl n is

  pub acts_told : (other : TheName) → ActsAs db role other → acts_as_owner db role other ≡ true
  acts_told other (inl s) = or_left (is_superuser db role) (is_in db.memberships role other) (superuser_told db role role s)
  acts_told other (inr i) = or_right (is_superuser db role) (is_in db.memberships role other) (role_found db.memberships role other i)

  pub owner_acts : ActsAs db role t.owner → acting_grantor db role t p ≡ Some t.owner
  owner_acts acts = ap (λ (b : Bool). cond b (Some t.owner) (holder_for db role holders)) (acts_told t.owner acts)

-- ---- what a statement names

module _ (db : Database) (role : TheName) (t : TableOf) (privileges : List Privilege) (grantees : List Grantee) (option : Bool) where
  abbrev Given : Descriptor → Type 0
  Given d = IsNamed db role t privileges grantees d × (d.grantable ≡ option)

  named_at : (p : Privilege) → Among p privileges → (o : Option TheName) → acting_grantor db role t p ≡ o → (d : Descriptor) → Among d (descriptors_by t.name grantees option p o) → Given d
  named_at p h None e d k = absurd k
  named_at p h (Some n) e d k =
      let at = of_map (λ (g : Grantee). record { grantor = grantor.Role n; grantee = g; table = t.name; action = p.action; column = p.column; grantable = option }) grantees d k in
      subst Given at.2 (record { for_table = refl; for_privilege = h; to_grantee = at.1; by = n; acting = e; by_grantor = refl }, refl)

  pub named_from : (d : Descriptor) → Among d (granted_by db role t privileges grantees option) → Given d
  named_from d h =
      let at = of_flat_map (λ p. descriptors_by t.name grantees option p (acting_grantor db role t p)) privileges d h in
      named_at at.0 at.1 (acting_grantor db role t at.0) refl d at.2

  pub named_into : (d : Descriptor) → IsNamed db role t privileges grantees d → d.grantable ≡ option → Among d (granted_by db role t privileges grantees option)
  named_into d k o =
      let made : Grantee → Descriptor = λ g. record { grantor = grantor.Role k.by; grantee = g; table = t.name; action = d.action; column = d.column; grantable = option } in
      let same : made d.grantee ≡ d = descriptors_same d (made d.grantee) (record { table = sym k.for_table; action = refl; column = refl; grantor = sym k.by_grantor; grantee = refl }) (sym o) in
      into_flat_map (λ p. descriptors_by t.name grantees option p (acting_grantor db role t p)) privileges (privilege_of d) d k.for_privilege
      (subst (λ (n : Option TheName). Among d (descriptors_by t.name grantees option (privilege_of d) n)) (sym k.acting)
      (subst (λ (x : Descriptor). Among x (map made grantees)) same (in_map made grantees d.grantee k.to_grantee)))

privileges_same : (d y : Descriptor) → y.action ≡ d.action → y.column ≡ d.column → privilege_of y ≡ privilege_of d
privileges_same d y a c = ap (λ x. record { action = x; column = y.column }) a ∙ ap (λ x. record { action = d.action; column = x }) c

-- what has the key of a named descriptor, in a whole database, is named
module _ (db : Database) (w : IsWhole db) (role : TheName) (t : Table) (there : Among t db.tables) (privileges : List Privilege) (grantees : List Grantee) (known : Each (IsRoleOf db.roles) (grantee_roles grantees)) where
  known_grantee : (g : Grantee) → Among g grantees → IsGranteeOf db.roles false g
  known_grantee grantee.Public h = refl
  known_grantee (grantee.Role n) h = known n (in_grantee_roles grantees n h)

  named_grantor : (d : Descriptor) → IsNamed db role t.definition privileges grantees d → IsGrantorOf db.roles d.grantor
  named_grantor d k =
      let back = grantor_backed db w role t there (privilege_of d) k.by k.acting in
      subst (IsGrantorOf db.roles) (sym k.by_grantor) (backer_is_role db w t (privilege_of d) k.by back.0 back.1)

  pub named_alike : (d y : Descriptor) → IsNamed db role t.definition privileges grantees d → Among y db.descriptors → descriptor_cmp d y ≡ Equal → IsNamed db role t.definition privileges grantees y
  named_alike d y k h e =
      let was = w.definitions.descriptors.descriptors y h in
      let key = key_of_equal db.roles w.definitions.roles.roles (record d { grantable = false }) y (named_grantor d k) was.grantor (known_grantee d.grantee k.to_grantee) was.grantee e in
      let same : privilege_of y ≡ privilege_of d = privileges_same d y key.action key.column in
      record {
        for_table = key.table ∙ k.for_table;
        for_privilege = subst (λ p. Among p privileges) (sym same) k.for_privilege;
        to_grantee = subst (λ g. Among g grantees) (sym key.grantee) k.to_grantee;
        by = k.by;
        acting = ap (acting_grantor db role t.definition) same ∙ k.acting;
        by_grantor = key.grantor ∙ k.by_grantor;
      }

  -- and what a named descriptor takes is taken
  pub taken_alike : (d y : Descriptor) → IsNamed db role t.definition privileges grantees d → Among y db.descriptors → takes d y ≡ true → IsTaken db role t.definition privileges grantees y
  taken_alike d y k h e =
      let parts = and_parts (same_key (record d { column = y.column }) y) (covers d.column y.column) e in
      let was = w.definitions.descriptors.descriptors y h in
      let there : Descriptor = record d { column = y.column; grantable = false } in
      let key = key_of_equal db.roles w.definitions.roles.roles there y (named_grantor d k) was.grantor (known_grantee d.grantee k.to_grantee) was.grantee ((Equal-is (descriptor_cmp there y)).0 parts.0) in
      record {
        for_table = key.table ∙ k.for_table;
        privilege = privilege_of d;
        named = k.for_privilege;
        action = sym key.action;
        covered = parts.1;
        to_grantee = subst (λ g. Among g grantees) (sym key.grantee) k.to_grantee;
        by = k.by;
        acting = k.acting;
        by_grantor = key.grantor ∙ k.by_grantor;
      }

-- what a statement names is taken by it
pub taken_named : (db : Database) (role : TheName) (t : TableOf) (privileges : List Privilege) (grantees : List Grantee) (d : Descriptor) → IsNamed db role t privileges grantees d → IsTaken db role t privileges grantees d
taken_named db role t privileges grantees d k = record {
  for_table = k.for_table;
  privilege = privilege_of d;
  named = k.for_privilege;
  action = refl;
  covered = by_covering d.column d.column (inr refl);
  to_grantee = k.to_grantee;
  by = k.by;
  acting = k.acting;
  by_grantor = k.by_grantor;
}
