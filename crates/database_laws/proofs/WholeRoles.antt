-- Databases stay whole where roles and memberships come and go.
use Rattle.std.proofs.Common.{◌≡◌, ◌⊎◌, Bool, true, false, not, ◌||◌, List, [], ◌∷◌, ◌++◌, map, bytes_eq, Ok, Err, refl, sym, ap, ◌∙◌, subst, inl, inr, Equal, arith, cond, fold}
use Rattle.std.specs.List.{list_any, list_all}
use Rattle.std.proofs.lemmas.Map.Lookups.{exact_bytes}
use Rattle.std.proofs.lemmas.Bool.{or_parts, or_left, or_right, not-true, both_ways, false_from_ne_true}
use Rattle.sql_types.specs.Name.{IsUtf8Name}
use Rattle.sql_types.specs.declared.state.SqlState.TheVariants.{UndefinedObject, InsufficientPrivilege, InvalidGrantOperation, DependentObjects}
use Rattle.sql_types.specs.declared.tag.Tag.TheVariants as tag
use Rattle.sql_ast.specs.declared.role.Role.{Role}
use Rattle.sql_ast.specs.declared.role.Membership.{Membership}
use Rattle.sql_ast.specs.declared.privilege.Grantor.{Grantor}
use Rattle.sql_ast.specs.declared.privilege.Grantor.TheVariants as grantor
use Rattle.sql_ast.specs.declared.privilege.Grantee.{Grantee}
use Rattle.sql_ast.specs.declared.privilege.Grantee.TheVariants as grantee
use Rattle.sql_ast.specs.declared.privilege.Descriptor.{Descriptor}
use Rattle.sql_ast.specs.declared.policy.Policy.{Policy}
use Rattle.sql_ast.specs.declared.policy.PolicyRoles.{PolicyRoles}
use Rattle.sql_ast.specs.declared.policy.PolicyRoles.TheVariants as roles
use Rattle.sql_ast.specs.declared.statement.CreateRole.{CreateRole}
use Rattle.sql_ast.specs.declared.statement.DropRole.{DropRole}
use Rattle.sql_ast.specs.declared.statement.GrantRole.{GrantRole}
use Rattle.sql_ast.specs.declared.statement.RevokeRole.{RevokeRole}
use Rattle.sql_ast.specs.Read.{IsReadCreateRole}
use Rattle.expressions.specs.Meaning.{UserNames}
use Rattle.abstract_database.specs.Lists.{TheName, Among, name_cmp, put, the_new, drop_where}
use Rattle.abstract_database.specs.Chains.{IsLedTo, by_start, by_step}
use Rattle.abstract_database.specs.Database.{Table, Database, new_database, is_role_named, has_role, role_cmp, membership_cmp, grantor_name, grantee_name}
use Rattle.abstract_database.specs.Roles.{IsIn, is_in, is_of_member, leads_on, raised, memberships_of, with_memberships, without_memberships, is_named_by, may_grant_role}
use Rattle.abstract_database.specs.Definitions.{with_role, without_role, with_attribute, no_attributes, is_in_use, names_role}
use Rattle.abstract_database.specs.Statements.{done, create_role, drop_role, grant_role, revoke_role}
use Rattle.abstract_database.specs.Whole.{Each, IsInOrder, IsRoleOf, IsWholeRole, IsWholeMembership, IsGrantorOf, IsGranteeOf, ConcernsRoles, HasWholeRoles, IsWhole}
use Rattle.abstract_database.proofs.ListLemmas.{bytes_same, same_bytes}
use Rattle.abstract_database.proofs.ResultLemmas.{Every, every_bind, every_ok, every_err, require_ok}
use Rattle.abstract_database.proofs.ElementLemmas.{any_found, any_holds}
use Rattle.abstract_database.proofs.ChainLemmas.{role_found}
use Rattle.abstract_database.specs.Checks.{require_roles, require_superuser, checked_create_role, checked_drop_role, checked_grant_role, checked_revoke_role}
use Rattle.expressions.specs.Stages.{require}
use Rattle.database_laws.proofs.WholeLists.{PutFrom, fresh, there, merged, of_put, put_old, of_drop, into_drop, of_change_where, into_left, into_right, of_map, of_flat_map, each_passes}
use Rattle.database_laws.proofs.Defining.{IsWholeAside, WholeAfter}

-- ---- whole databases, and the order of their lists

pub whole_of : (db : Database) → IsInOrder db → IsWholeAside db → IsWhole db
whole_of db o w = record { definitions = record { order = o; roles = w.roles; tables = w.tables; descriptors = w.descriptors; policies = w.policies }; rows = w.rows }

pub aside_of : (db : Database) → IsWhole db → IsWholeAside db
aside_of db w = record { roles = w.definitions.roles; tables = w.definitions.tables; descriptors = w.definitions.descriptors; policies = w.definitions.policies; rows = w.rows }

-- ---- names of roles

pub names_same : (a b : TheName) → name_cmp a b ≡ Equal → a ≡ b
names_same a b e = exact_bytes a b e

pub role_named : (all : List Role) (name : TheName) → IsRoleOf all name → (r : Role) × Among r all × (r.name ≡ name)
role_named all name is = let found = any_found (is_role_named name) all is in (found.0, found.1, bytes_same found.0.name name found.2)

pub named_role : (all : List Role) (r : Role) → Among r all → IsRoleOf all r.name
named_role all r h = any_holds (is_role_named r.name) all r h (same_bytes r.name r.name refl)

pub role_is_name : (all : List Role) → Each IsWholeRole all → (name : TheName) → IsRoleOf all name → IsUtf8Name name
role_is_name all w name is = let found = role_named all name is in subst IsUtf8Name found.2 (w found.0 found.1)

-- the name of a role is not empty
pub no_empty_role : (all : List Role) → Each IsWholeRole all → IsRoleOf all [] → ⊥
no_empty_role all w is = let name : IsUtf8Name [] = role_is_name all w [] is in omega (arith, name.name.some_byte)

-- ---- what stands where roles change

grantor_with : (old new : List Role) (g : Grantor) → ((n : TheName) → g ≡ grantor.Role n → IsRoleOf old n → IsRoleOf new n) → IsGrantorOf old g → IsGrantorOf new g
grantor_with old new grantor.System f is = tt
grantor_with old new (grantor.Role n) f is = f n refl is

grantee_with : (old new : List Role) (option : Bool) (g : Grantee) → ((n : TheName) → g ≡ grantee.Role n → IsRoleOf old n → IsRoleOf new n) → IsGranteeOf old option g → IsGranteeOf new option g
grantee_with old new option grantee.Public f is = is
grantee_with old new option (grantee.Role n) f is = f n refl is

concerns_with : (old new : List Role) (p : PolicyRoles) → ((n : TheName) → names_role p n ≡ true → IsRoleOf old n → IsRoleOf new n) → ConcernsRoles old p → ConcernsRoles new p
concerns_with old new roles.Public f is = tt
concerns_with old new (roles.Only names) f is = record {
  some = is.some;
  few = is.few;
  known = λ n h. f n (any_holds (bytes_eq n) names n h (same_bytes n n refl)) (is.known n h);
  rising = is.rising;
}

-- the names of roles that a database needs, its memberships aside, are those of roles still
record StillRoles (db : Database) (new : List Role) : Type 0 where
  owner : (t : Table) → Among t db.tables → IsRoleOf db.roles t.definition.owner → IsRoleOf new t.definition.owner
  grantor : (d : Descriptor) → Among d db.descriptors → (n : TheName) → d.grantor ≡ grantor.Role n → IsRoleOf db.roles n → IsRoleOf new n
  grantee : (d : Descriptor) → Among d db.descriptors → (n : TheName) → d.grantee ≡ grantee.Role n → IsRoleOf db.roles n → IsRoleOf new n
  policy : (p : Policy) → Among p db.policies → (n : TheName) → names_role p.roles n ≡ true → IsRoleOf db.roles n → IsRoleOf new n

with_roles : (db : Database) (all : List Role) (ms : List Membership) → IsWhole db → StillRoles db all → HasWholeRoles (record db { roles = all; memberships = ms }) → IsWholeAside (record db { roles = all; memberships = ms })
with_roles db all ms w s r = record {
  roles = r;
  tables = record {
    tables = λ t h. let is = w.definitions.tables.tables t h in record { name = is.name; owner = s.owner t h is.owner; layout = is.layout; columns = is.columns };
    few = w.definitions.tables.few;
  };
  descriptors = record {
    descriptors = λ d h. let is = w.definitions.descriptors.descriptors d h in record {
      grantor = grantor_with db.roles all d.grantor (s.grantor d h) is.grantor;
      grantee = grantee_with db.roles all d.grantable d.grantee (s.grantee d h) is.grantee;
      supported = is.supported;
    };
    for_tables = w.definitions.descriptors.for_tables;
    owners = w.definitions.descriptors.owners;
  };
  policies = record {
    policies = λ p h. let is = w.definitions.policies.policies p h in record {
      name = is.name;
      roles = concerns_with db.roles all p.roles (s.policy p h) is.roles;
      using = is.using;
      check = is.check;
      clauses = is.clauses;
      size = is.size;
    };
    of_tables = w.definitions.policies.of_tables;
  };
  rows = w.rows;
}

-- ---- chains of memberships

pub one_more : (ms : List Membership) (r : TheName) (x : Membership) → IsIn ms r x.member → Among x ms → IsIn ms r x.role
one_more ms r x (inl same) h = inr (x, by_start x h (same_bytes x.member r (sym same)), refl)
one_more ms r x (inr c) h = inr (x, by_step c.0 x c.1 h (same_bytes x.member c.0.role (sym c.2)), refl)

chain_by : (ms : List Membership) (r : TheName) (P : TheName → Type 0) → P r → ((x : Membership) → Among x ms → P x.member → P x.role) → (m : Membership) → IsLedTo (is_of_member r) leads_on ms m → P m.role
chain_by ms r P start step m (by_start x h e) = step m h (subst P (sym (bytes_same m.member r e)) start)
chain_by ms r P start step m (by_step p x c h e) = step m h (subst P (sym (bytes_same m.member p.role e)) (chain_by ms r P start step p c))

-- what holds of the role itself, and goes from a member to its role, holds of each role that it is in
in_by : (ms : List Membership) (r : TheName) (P : TheName → Type 0) → P r → ((x : Membership) → Among x ms → P x.member → P x.role) → (s : TheName) → IsIn ms r s → P s
in_by ms r P start step s (inl same) = subst P same start
in_by ms r P start step s (inr c) = subst P c.2 (chain_by ms r P start step c.0 c.1)

in_trans : (ms : List Membership) (a b c : TheName) → IsIn ms a b → IsIn ms b c → IsIn ms a c
in_trans ms a b c ab bc = in_by ms b (λ s. IsIn ms a s) ab (λ x h k. one_more ms a x k h) c bc

-- the memberships of one list are in another, their options aside
abbrev IsCovered : List Membership → List Membership → Type 0
IsCovered xs ys = (x : Membership) → Among x xs → (y : Membership) × Among y ys × (y.role ≡ x.role) × (y.member ≡ x.member)

in_covered : (xs ys : List Membership) → IsCovered xs ys → (r s : TheName) → IsIn xs r s → IsIn ys r s
in_covered xs ys f r s is = in_by xs r (λ n. IsIn ys r n) (inl refl)
    (λ x h k. let at = f x h in subst (λ n. IsIn ys r n) at.2 (one_more ys r at.0 (subst (λ n. IsIn ys r n) (sym at.3) k) at.1)) s is

-- fewer memberships, or such with other options, make no cycle
fewer_whole : (all new : List Role) (xs ys : List Membership) → IsCovered xs ys → Each (IsWholeMembership all ys) ys →
    ((m : Membership) → Among m xs → (IsRoleOf all m.role → IsRoleOf new m.role) × (IsRoleOf all m.member → IsRoleOf new m.member)) → Each (IsWholeMembership new xs) xs
fewer_whole all new xs ys f w still x h =
    let at = f x h in
    let is = w at.0 at.1 in
    record {
      role = (still x h).0 (subst (IsRoleOf all) at.2 is.role);
      member = (still x h).1 (subst (IsRoleOf all) at.3 is.member);
      no_cycle = λ c. is.no_cycle (subst (λ n. IsIn ys at.0.role n) (sym at.3) (subst (λ n. IsIn ys n x.member) (sym at.2) (in_covered xs ys f x.role x.member c)));
    }

-- ---- one more membership

-- a chain of the old memberships, or one to the new member and one on from the new role
abbrev Through : List Membership → Membership → TheName → TheName → Type 0
Through ms m r s = IsIn ms r s ⊎ (IsIn ms r m.member × IsIn ms m.role s)

over_old : (ms : List Membership) (m : Membership) (r : TheName) (y : Membership) → Among y ms → Through ms m r y.member → Through ms m r y.role
over_old ms m r y h (inl k) = inl (one_more ms r y k h)
over_old ms m r y h (inr k) = inr (k.0, one_more ms m.role y k.1 h)

over_new : (ms : List Membership) (m : Membership) (r : TheName) → Through ms m r m.member → Through ms m r m.role
over_new ms m r (inl k) = inr (k, inl refl)
over_new ms m r (inr k) = inr (k.0, inl refl)

over_put : (ms : List Membership) (m : Membership) (r : TheName) (x : Membership) → PutFrom membership_cmp raised m ms x → Through ms m r x.member → Through ms m r x.role
over_put ms m r x (fresh is) k = subst (λ (y : Membership). Through ms m r y.role) is (over_new ms m r (subst (λ (y : Membership). Through ms m r y.member) (sym is) k))
over_put ms m r x (there h) k = over_old ms m r x h k
over_put ms m r x (merged y h e is) k =
    subst (λ (z : Membership). Through ms m r z.role) is (over_old ms m r y h (subst (λ (z : Membership). Through ms m r z.member) (sym is) k))

in_put : (ms : List Membership) (m : Membership) (r s : TheName) → IsIn (put membership_cmp raised m ms) r s → Through ms m r s
in_put ms m r s is = in_by (put membership_cmp raised m ms) r (λ n. Through ms m r n) (inl (inl refl))
    (λ x h k. over_put ms m r x (of_put membership_cmp raised m ms x h) k) s is

no_cycle_old : (ms : List Membership) (m : Membership) → (IsIn ms m.role m.member → ⊥) → (y : Membership) → Among y ms → (IsIn ms y.role y.member → ⊥) → Through ms m y.role y.member → ⊥
no_cycle_old ms m apart y h none (inl k) = none k
no_cycle_old ms m apart y h none (inr k) = apart (in_trans ms m.role y.role m.member (one_more ms m.role y k.1 h) k.0)

no_cycle_new : (ms : List Membership) (m : Membership) → (IsIn ms m.role m.member → ⊥) → Through ms m m.role m.member → ⊥
no_cycle_new ms m apart (inl k) = apart k
no_cycle_new ms m apart (inr k) = apart k.0

module _ (all : List Role) (ms : List Membership) (w : Each (IsWholeMembership all ms) ms) (m : Membership) (role : IsRoleOf all m.role) (member : IsRoleOf all m.member) (apart : IsIn ms m.role m.member → ⊥) where
  put_whole_from : (x : Membership) → PutFrom membership_cmp raised m ms x → IsWholeMembership all (put membership_cmp raised m ms) x
  put_whole_from x (fresh is) = subst (λ (z : Membership). IsWholeMembership all (put membership_cmp raised m ms) z) is (record {
    role = role;
    member = member;
    no_cycle = λ c. no_cycle_new ms m apart (in_put ms m m.role m.member c);
  })
  put_whole_from x (there h) = record {
    role = (w x h).role;
    member = (w x h).member;
    no_cycle = λ c. no_cycle_old ms m apart x h (w x h).no_cycle (in_put ms m x.role x.member c);
  }
  put_whole_from x (merged y h e is) = subst (λ (z : Membership). IsWholeMembership all (put membership_cmp raised m ms) z) is (record {
    role = (w y h).role;
    member = (w y h).member;
    no_cycle = λ c. no_cycle_old ms m apart y h (w y h).no_cycle (in_put ms m y.role y.member c);
  })

  put_whole : Each (IsWholeMembership all (put membership_cmp raised m ms)) (put membership_cmp raised m ms)
  put_whole x h = put_whole_from x (of_put membership_cmp raised m ms x h)

-- ---- GRANT of roles

abbrev AreWholeMemberships : List Role → List Membership → Type 0
AreWholeMemberships all ms = Each (IsWholeMembership all ms) ms

abbrev AreMembershipsOf : List Role → List Membership → Type 0
AreMembershipsOf all ms = Each (λ (m : Membership). IsRoleOf all m.role × IsRoleOf all m.member) ms

not_in : (ms : List Membership) (r s : TheName) → is_in ms r s ≡ false → IsIn ms r s → ⊥
not_in ms r s e is = both_ways (is_in ms r s) e (role_found ms r s is)

granted_step : (all : List Role) (m : Membership) (new ms : List Membership) (b : Bool) → is_in ms m.role m.member ≡ b →
    ((is_in ms m.role m.member ≡ false) → Every (AreWholeMemberships all) (with_memberships new (put membership_cmp raised m ms))) →
    Every (AreWholeMemberships all) (cond b (Err InvalidGrantOperation) (with_memberships new (put membership_cmp raised m ms)))
granted_step all m new ms true e go = every_err (AreWholeMemberships all) InvalidGrantOperation
granted_step all m new ms false e go = go e

granted_whole : (all : List Role) (new ms : List Membership) → AreMembershipsOf all new → AreWholeMemberships all ms → Every (AreWholeMemberships all) (with_memberships new ms)
granted_whole all [] ms are w = every_ok (AreWholeMemberships all) ms w
granted_whole all (m ∷ new) ms are w = granted_step all m new ms (is_in ms m.role m.member) refl
    (λ e. granted_whole all new (put membership_cmp raised m ms) (λ x h. are x (inr h))
    (put_whole all ms w m (are m (inl refl)).0 (are m (inl refl)).1 (not_in ms m.role m.member e)))

named_memberships : (all : List Role) (roles members : List TheName) (admin : Bool) → Each (IsRoleOf all) (roles ++ members) → AreMembershipsOf all (memberships_of roles members admin)
named_memberships all roles members admin known x h =
    let at = of_flat_map (λ role. map (λ member. record { role = role; member = member; admin = admin }) members) roles x h in
    let by = of_map (λ member. record { role = at.0; member = member; admin = admin }) members x at.2 in
    subst (λ (m : Membership). IsRoleOf all m.role × IsRoleOf all m.member) by.2 (known at.0 (into_left roles members at.0 at.1), known by.0 (into_right roles members by.0 by.1))

-- the names that a statement needs are those of roles
pub roles_required : (db : Database) (names : List TheName) (u : Unit {0}) → require_roles db names ≡ Ok u → Each (IsRoleOf db.roles) names
roles_required db names u e = each_passes (has_role db) names (require_ok (list_all (has_role db) names) UndefinedObject u e)

same_roles : (db : Database) → StillRoles db db.roles
same_roles db = record { owner = λ t h is. is; grantor = λ d h n e is. is; grantee = λ d h n e is. is; policy = λ p h n e is. is }

granted_checked : (db : Database) (users : UserNames) (s : GrantRole) → IsWhole db → Every (AreWholeMemberships db.roles) (checked_grant_role db users s)
granted_checked db users s w =
    every_bind (AreWholeMemberships db.roles) (require_roles db (s.roles ++ s.members)) _ (λ named named-is.
    every_bind (AreWholeMemberships db.roles) (require (list_all (may_grant_role db users.current) s.roles) InsufficientPrivilege) _ (λ allowed allowed-is.
    granted_whole db.roles (memberships_of s.roles s.members s.with_admin_option) db.memberships
    (named_memberships db.roles s.roles s.members s.with_admin_option (roles_required db (s.roles ++ s.members) named named-is)) w.definitions.roles.memberships))

pub grant_role_whole : (db : Database) (users : UserNames) (s : GrantRole) → IsWhole db → Every WholeAfter (grant_role db users s)
grant_role_whole db users s w =
    every_bind WholeAfter (checked_grant_role db users s) _ (λ memberships memberships-is.
    every_ok WholeAfter (done tag.GrantRole (record db { memberships = memberships }))
    (with_roles db db.roles memberships w (same_roles db) (record { roles = w.definitions.roles.roles; memberships = granted_checked db users s w memberships memberships-is })))

-- ---- REVOKE of roles

without_covered : (option : Bool) (roles members : List TheName) (ms : List Membership) → IsCovered (without_memberships option roles members ms) ms
without_covered false roles members ms x h = let at = of_drop (is_named_by roles members) ms x h in (x, at.0, refl, refl)
without_covered true roles members ms x h =
    let at = of_change_where (is_named_by roles members) (λ (m : Membership). record m { admin = false }) ms x h in
    option_aside at.0 at.1 (is_named_by roles members at.0) at.2 where
      option_aside : (m : Membership) → Among m ms → (b : Bool) → cond b (record m { admin = false }) m ≡ x → (y : Membership) × Among y ms × (y.role ≡ x.role) × (y.member ≡ x.member)
      option_aside m k true is = (m, k, ap (λ (z : Membership). z.role) is, ap (λ (z : Membership). z.member) is)
      option_aside m k false is = (m, k, ap (λ (z : Membership). z.role) is, ap (λ (z : Membership). z.member) is)

pub revoke_role_whole : (db : Database) (users : UserNames) (s : RevokeRole) → IsWhole db → Every WholeAfter (revoke_role db users s)
revoke_role_whole db users s w =
    every_bind WholeAfter (checked_revoke_role db users s) _ (λ free free-is.
    every_ok WholeAfter (done tag.RevokeRole (record db { memberships = without_memberships s.admin_option_for s.roles s.members db.memberships }))
    (with_roles db db.roles (without_memberships s.admin_option_for s.roles s.members db.memberships) w (same_roles db) (record {
      roles = w.definitions.roles.roles;
      memberships = fewer_whole db.roles db.roles (without_memberships s.admin_option_for s.roles s.members db.memberships) db.memberships
          (without_covered s.admin_option_for s.roles s.members db.memberships) w.definitions.roles.memberships (λ m h. (λ is. is, λ is. is));
    })))

-- ---- CREATE ROLE

kept_role : (r : Role) (all : List Role) (name : TheName) → IsRoleOf all name → IsRoleOf (put role_cmp the_new r all) name
kept_role r all name is =
    let found = role_named all name is in
    elim (put_old role_cmp the_new r all found.0 found.1) [
      | inl stays ↦ subst (IsRoleOf (put role_cmp the_new r all)) found.2 (named_role (put role_cmp the_new r all) found.0 stays)
      | inr joins ↦ subst (IsRoleOf (put role_cmp the_new r all)) (names_same r.name found.0.name joins.0 ∙ found.2) (named_role (put role_cmp the_new r all) r joins.1)
    ]

new_role_whole : (r : Role) (all : List Role) → IsUtf8Name r.name → Each IsWholeRole all → Each IsWholeRole (put role_cmp the_new r all)
new_role_whole r all name w x h = from (of_put role_cmp the_new r all x h) where
  from : PutFrom role_cmp the_new r all x → IsUtf8Name x.name
  from (fresh is) = subst (λ (y : Role). IsUtf8Name y.name) is name
  from (there k) = w x k
  from (merged y k e is) = subst (λ (z : Role). IsUtf8Name z.name) is name

with_role_whole : (db : Database) (r : Role) → IsUtf8Name r.name → IsWhole db → IsWholeAside (record db { roles = put role_cmp the_new r db.roles })
with_role_whole db r name w =
    with_roles db (put role_cmp the_new r db.roles) db.memberships w
    (record { owner = λ t h is. kept_role r db.roles t.definition.owner is; grantor = λ d h n e is. kept_role r db.roles n is; grantee = λ d h n e is. kept_role r db.roles n is; policy = λ p h n e is. kept_role r db.roles n is })
    (record {
      roles = new_role_whole r db.roles name w.definitions.roles.roles;
      memberships = fewer_whole db.roles (put role_cmp the_new r db.roles) db.memberships db.memberships (λ x h. (x, h, refl, refl)) w.definitions.roles.memberships (λ m h. (λ is. kept_role r db.roles m.role is, λ is. kept_role r db.roles m.member is));
    })

pub create_role_whole : (db : Database) (users : UserNames) (s : CreateRole) → IsReadCreateRole s → IsWhole db → Every WholeAfter (create_role db users s)
create_role_whole db users s read w =
    every_bind WholeAfter (checked_create_role db users s) _ (λ free free-is.
    every_ok WholeAfter (done tag.CreateRole (with_role s db))
    (with_role_whole db (record { name = s.role; attributes = fold with_attribute no_attributes s.attributes }) read.role w))

-- ---- DROP ROLE

other_name : (a b : TheName) → (a ≡ b → ⊥) → bytes_eq a b ≡ false
other_name a b apart = false_from_ne_true (bytes_eq a b) (λ e. apart (bytes_same a b e))

other_role : (gone : TheName) (all : List Role) (name : TheName) → (name ≡ gone → ⊥) → IsRoleOf all name → IsRoleOf (drop_where (is_role_named gone) all) name
other_role gone all name apart is =
    let found = role_named all name is in
    subst (IsRoleOf (drop_where (is_role_named gone) all)) found.2
    (named_role (drop_where (is_role_named gone) all) found.0 (into_drop (is_role_named gone) all found.0 found.1 (other_name found.0.name gone (λ same. apart (sym found.2 ∙ same)))))

none_passes : {X : Type 0} (test : X → Bool) (xs : List X) → list_any test xs ≡ false → (x : X) → Among x xs → test x ≡ true → ⊥
none_passes test xs e x h t = both_ways (list_any test xs) e (any_holds test xs x h t)

unused_roles : (db : Database) (role : TheName) → is_in_use db role ≡ false → StillRoles db (drop_where (is_role_named role) db.roles)
unused_roles db role unused =
    let last = or_parts (list_any (λ (t : Table). bytes_eq t.definition.owner role) db.tables || list_any (λ (d : Descriptor). bytes_eq (grantor_name d.grantor) role || bytes_eq (grantee_name d.grantee) role) db.descriptors) (list_any (λ (p : Policy). names_role p.roles role) db.policies) unused in
    let first = or_parts (list_any (λ (t : Table). bytes_eq t.definition.owner role) db.tables) (list_any (λ (d : Descriptor). bytes_eq (grantor_name d.grantor) role || bytes_eq (grantee_name d.grantee) role) db.descriptors) last.0 in
    record {
      owner = λ t h is. other_role role db.roles t.definition.owner (λ same. none_passes (λ (u : Table). bytes_eq u.definition.owner role) db.tables first.0 t h (same_bytes t.definition.owner role same)) is;
      grantor = λ d h n e is. other_role role db.roles n (λ same. none_passes (λ (c : Descriptor). bytes_eq (grantor_name c.grantor) role || bytes_eq (grantee_name c.grantee) role) db.descriptors first.1 d h
          (or_left (bytes_eq (grantor_name d.grantor) role) (bytes_eq (grantee_name d.grantee) role) (same_bytes (grantor_name d.grantor) role (ap grantor_name e ∙ same)))) is;
      grantee = λ d h n e is. other_role role db.roles n (λ same. none_passes (λ (c : Descriptor). bytes_eq (grantor_name c.grantor) role || bytes_eq (grantee_name c.grantee) role) db.descriptors first.1 d h
          (or_right (bytes_eq (grantor_name d.grantor) role) (bytes_eq (grantee_name d.grantee) role) (same_bytes (grantee_name d.grantee) role (ap grantee_name e ∙ same)))) is;
      policy = λ p h n e is. other_role role db.roles n (λ same. none_passes (λ (q : Policy). names_role q.roles role) db.policies last.1 p h (subst (λ m. names_role p.roles m ≡ true) same e)) is;
    }

without_role_whole : (db : Database) (role : TheName) → is_in_use db role ≡ false → IsWhole db → IsWholeAside (without_role role db)
without_role_whole db role unused w =
    with_roles db (drop_where (is_role_named role) db.roles) (drop_where (λ (m : Membership). bytes_eq m.role role || bytes_eq m.member role) db.memberships) w
    (unused_roles db role unused)
    (record {
      roles = λ r h. w.definitions.roles.roles r (of_drop (is_role_named role) db.roles r h).0;
      memberships = fewer_whole db.roles (drop_where (is_role_named role) db.roles) (drop_where (λ (m : Membership). bytes_eq m.role role || bytes_eq m.member role) db.memberships) db.memberships
          (λ x h. (x, (of_drop (λ (m : Membership). bytes_eq m.role role || bytes_eq m.member role) db.memberships x h).0, refl, refl)) w.definitions.roles.memberships
          (λ m h. let neither = or_parts (bytes_eq m.role role) (bytes_eq m.member role) (of_drop (λ (x : Membership). bytes_eq x.role role || bytes_eq x.member role) db.memberships m h).1 in (
            λ is. other_role role db.roles m.role (λ same. both_ways (bytes_eq m.role role) neither.0 (same_bytes m.role role same)) is,
            λ is. other_role role db.roles m.member (λ same. both_ways (bytes_eq m.member role) neither.1 (same_bytes m.member role same)) is,
          ));
    })

unused_checked : (db : Database) (users : UserNames) (s : DropRole) → Every (λ u. is_in_use db s.role ≡ false) (checked_drop_role db users s)
unused_checked db users s =
    every_bind (λ u. is_in_use db s.role ≡ false) (require_roles db (s.role ∷ [])) _ (λ named named-is.
    every_bind (λ u. is_in_use db s.role ≡ false) (require_superuser db users) _ (λ allowed allowed-is.
    λ unused unused-is. (or_parts (is_in_use db s.role) (bytes_eq users.current s.role)
    (or_parts (is_in_use db s.role || bytes_eq users.current s.role) (bytes_eq users.session s.role)
    (not-true (is_in_use db s.role || bytes_eq users.current s.role || bytes_eq users.session s.role) (require_ok (not (is_in_use db s.role || bytes_eq users.current s.role || bytes_eq users.session s.role)) DependentObjects unused unused-is))).0).0))

pub drop_role_whole : (db : Database) (users : UserNames) (s : DropRole) → IsWhole db → Every WholeAfter (drop_role db users s)
drop_role_whole db users s w =
    every_bind WholeAfter (checked_drop_role db users s) _ (λ free free-is.
    every_ok WholeAfter (done tag.DropRole (without_role s.role db))
    (without_role_whole db s.role (unused_checked db users s free free-is) w))

-- ---- a new database

pub new_is_whole : (admin : TheName) → IsUtf8Name admin → IsWhole (new_database admin)
new_is_whole admin name = whole_of (new_database admin)
    (record { roles = (λ r h. absurd h, tt); memberships = tt; tables = tt; descriptors = tt; policies = tt })
    (record {
      roles = record { roles = λ r h. elim h [ inl is ↦ subst (λ (x : Role). IsUtf8Name x.name) is name | inr later ↦ absurd later ]; memberships = λ m h. absurd h };
      tables = record { tables = λ t h. absurd h; few = omega arith };
      descriptors = record { descriptors = λ d h. absurd h; for_tables = λ d h. absurd h; owners = λ t h. absurd h };
      policies = record { policies = λ p h. absurd h; of_tables = λ p h. absurd h };
      rows = λ t h. absurd h;
    })
