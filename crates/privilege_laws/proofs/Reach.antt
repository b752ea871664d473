-- What a tenant reaches after a statement, it reached before.
use Rattle.std.proofs.Common.{◌≡◌, ◌⊎◌, ◌&&◌, ◌||◌, Bool, true, bytes_eq, List, refl, sym, ap, ◌∙◌, subst, inl, inr}
use Rattle.std.specs.List.{list_any}
use Rattle.std.proofs.lemmas.Bool.{or_cases, or_left, or_right, and_parts, and_from}
use Rattle.sql_ast.specs.declared.role.Role.{Role}
use Rattle.sql_ast.specs.declared.role.Membership.{Membership}
use Rattle.sql_ast.specs.declared.privilege.Grantee.{Grantee}
use Rattle.sql_ast.specs.declared.privilege.Grantee.TheVariants as grantee
use Rattle.sql_ast.specs.declared.privilege.Descriptor.{Descriptor}
use Rattle.abstract_database.specs.Lists.{TheName, Among}
use Rattle.abstract_database.specs.Database.{Database, is_role_named, without_rows}
use Rattle.abstract_database.specs.Roles.{IsIn, is_in as is_in_role, is_superuser, may_set_role}
use Rattle.abstract_database.specs.Privileges.{reaches, has_some_privilege}
use Rattle.abstract_database.specs.Statements.{UserPair}
use Rattle.abstract_database.proofs.ElementLemmas.{any_found, any_holds}
use Rattle.abstract_database.proofs.ChainLemmas.{found_role, role_found}
use Rattle.database_laws.specs.HiddenRuns.{MayActAs}
use Rattle.privilege_laws.specs.Reached.{IsReachedTable}
use Rattle.privilege_laws.proofs.Chains.{through}

-- ---- it goes by definitions alone

pub reached_there : (pairs : UserPair → Bool) (d e : Database) → without_rows d ≡ without_rows e → (name : TheName) → IsReachedTable pairs d name → IsReachedTable pairs e name
reached_there pairs d e same name r = record {
  pair = r.pair;
  acts = (r.acts.0, sym (ap (λ (db : Database). may_set_role db r.pair.session r.pair.current) same) ∙ r.acts.1);
  role = r.role;
  in_role = sym (ap (λ (db : Database). is_in_role db.memberships r.pair.current r.role) same) ∙ r.in_role;
  has = sym (ap (λ (db : Database). has_some_privilege db r.role name) same) ∙ r.has;
}

-- a role reaches what it has a privilege on
pub reached_itself : (pairs : UserPair → Bool) (db : Database) (pair : UserPair) → MayActAs db pairs pair → (name : TheName) → has_some_privilege db pair.current name ≡ true → IsReachedTable pairs db name
reached_itself pairs db pair acts name has = record { pair = pair; acts = acts; role = pair.current; in_role = role_found db.memberships pair.current pair.current (inl refl); has = has }

-- ---- a privilege on some table, by who is a superuser and by descriptors

module _ (d a : Database) (roles : a.roles ≡ d.roles) where
  super_before : (role : TheName) → is_superuser a role ≡ true → is_superuser d role ≡ true
  super_before role e = sym (ap (λ (rs : List Role). list_any (λ r. is_role_named role r && r.attributes.superuser) rs) roles) ∙ e

  abbrev concerns : Database → TheName → TheName → Descriptor → Bool
  concerns db role name x = bytes_eq x.table name && reaches db.memberships role x.grantee

  -- a descriptor for the table that was there with this grantee
  abbrev pub WasFor : TheName → Descriptor → Type 0
  WasFor name x = (y : Descriptor) × Among y d.descriptors × (y.table ≡ x.table) × (y.grantee ≡ x.grantee)

  module _ (memberships : a.memberships ≡ d.memberships) (name : TheName) (were : (x : Descriptor) → Among x a.descriptors → bytes_eq x.table name ≡ true → WasFor name x) where
    had : (role : TheName) → has_some_privilege a role name ≡ true → has_some_privilege d role name ≡ true
    had role e = elim (or_cases (is_superuser a role) (list_any (concerns a role name) a.descriptors) e) [
      | inl super ↦ or_left (is_superuser d role) (list_any (concerns d role name) d.descriptors) (super_before role super)
      | inr some ↦
          let found = any_found (concerns a role name) a.descriptors some in
          let parts = and_parts (bytes_eq found.0.table name) (reaches a.memberships role found.0.grantee) found.2 in
          let was = were found.0 found.1 parts.0 in
          or_right (is_superuser d role) (list_any (concerns d role name) d.descriptors)
          (any_holds (concerns d role name) d.descriptors was.0 was.1
          (and_from (bytes_eq was.0.table name) (reaches d.memberships role was.0.grantee)
          (ap (λ (n : TheName). bytes_eq n name) was.2 ∙ parts.0)
          (ap (reaches d.memberships role) was.3 ∙ sym (ap (λ (ms : List Membership). reaches ms role found.0.grantee) memberships) ∙ parts.1)))
    ]

    -- with the same roles and memberships
    pub reached_before : (pairs : UserPair → Bool) → IsReachedTable pairs a name → IsReachedTable pairs d name
    reached_before pairs r = record {
      pair = r.pair;
      acts = (
        r.acts.0,
        sym (ap (λ (rs : List Role). list_any (λ x. is_role_named r.pair.session x && x.attributes.superuser) rs || is_in_role a.memberships r.pair.session r.pair.current) roles
            ∙ ap (λ (ms : List Membership). is_superuser d r.pair.session || is_in_role ms r.pair.session r.pair.current) memberships)
            ∙ r.acts.1,
      );
      role = r.role;
      in_role = sym (ap (λ (ms : List Membership). is_in_role ms r.pair.current r.role) memberships) ∙ r.in_role;
      has = had r.role r.has;
    }

  -- ---- other memberships, of roles that one acting role was in

  module _ (descriptors : a.descriptors ≡ d.descriptors) (c : TheName)
      (was_in : (x y : TheName) → IsIn a.memberships x y → IsIn d.memberships x y ⊎ IsIn d.memberships c y) (pairs : UserPair → Bool) (acting : UserPair) (acts : MayActAs d pairs acting) (is : acting.current ≡ c) where
    abbrev Held : TheName → Type 0
    Held role = (q : UserPair) × MayActAs d pairs q × IsIn d.memberships q.current role

    by_acting : (role : TheName) → IsIn d.memberships c role → Held role
    by_acting role within = (acting, acts, subst (λ (n : TheName). IsIn d.memberships n role) (sym is) within)

    acted : (pair : UserPair) → MayActAs a pairs pair → MayActAs d pairs pair ⊎ IsIn d.memberships c pair.current
    acted pair may = elim (or_cases (is_superuser a pair.session) (is_in_role a.memberships pair.session pair.current) may.1) [
      | inl super ↦ inl (may.0, or_left (is_superuser d pair.session) (is_in_role d.memberships pair.session pair.current) (super_before pair.session super))
      | inr within ↦ elim (was_in pair.session pair.current (found_role a.memberships pair.session pair.current within)) [
        | inl old ↦ inl (may.0, or_right (is_superuser d pair.session) (is_in_role d.memberships pair.session pair.current) (role_found d.memberships pair.session pair.current old))
        | inr new ↦ inr new
      ]
    ]

    held : (pair : UserPair) → MayActAs a pairs pair → (role : TheName) → IsIn a.memberships pair.current role → Held role
    held pair may role within = elim (was_in pair.current role within) [
      | inr new ↦ by_acting role new
      | inl old ↦ elim (acted pair may) [
        | inl acted_so ↦ (pair, acted_so, old)
        | inr new ↦ by_acting role (through d.memberships c pair.current role new old)
      ]
    ]

    of_role : (name role : TheName) → Held role → has_some_privilege d role name ≡ true → IsReachedTable pairs d name
    of_role name role h has = record { pair = h.0; acts = h.1; role = role; in_role = role_found d.memberships h.0.current role h.2; has = has }

    has_by : (name role : TheName) (x : Descriptor) → Among x d.descriptors → bytes_eq x.table name ≡ true → reaches d.memberships role x.grantee ≡ true → has_some_privilege d role name ≡ true
    has_by name role x among for_table to =
        or_right (is_superuser d role) (list_any (concerns d role name) d.descriptors)
        (any_holds (concerns d role name) d.descriptors x among (and_from (bytes_eq x.table name) (reaches d.memberships role x.grantee) for_table to))

    by_grantee : (name role : TheName) → Held role → (x : Descriptor) → Among x d.descriptors → bytes_eq x.table name ≡ true → (g : Grantee) → x.grantee ≡ g → reaches a.memberships role g ≡ true → IsReachedTable pairs d name
    by_grantee name role h x among for_table grantee.Public to reached = of_role name role h (has_by name role x among for_table (ap (reaches d.memberships role) to))
    by_grantee name role h x among for_table (grantee.Role n) to reached = elim (was_in role n (found_role a.memberships role n reached)) [
      | inl old ↦ of_role name role h (has_by name role x among for_table (ap (reaches d.memberships role) to ∙ role_found d.memberships role n old))
      | inr new ↦ of_role name n (by_acting n new) (has_by name n x among for_table (ap (reaches d.memberships n) to ∙ role_found d.memberships n n (inl refl)))
    ]

    pub reached_with_roles : (name : TheName) → IsReachedTable pairs a name → IsReachedTable pairs d name
    reached_with_roles name r =
        let h = held r.pair r.acts r.role (found_role a.memberships r.pair.current r.role r.in_role) in
        elim (or_cases (is_superuser a r.role) (list_any (concerns a r.role name) a.descriptors) r.has) [
          | inl super ↦ of_role name r.role h (or_left (is_superuser d r.role) (list_any (concerns d r.role name) d.descriptors) (super_before r.role super))
          | inr some ↦
              let found = any_found (concerns a r.role name) a.descriptors some in
              let parts = and_parts (bytes_eq found.0.table name) (reaches a.memberships r.role found.0.grantee) found.2 in
              by_grantee name r.role h found.0 (subst (λ (ds : List Descriptor). Among found.0 ds) descriptors found.1) parts.0 found.0.grantee refl parts.1
        ]
