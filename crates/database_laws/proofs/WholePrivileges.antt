-- What is proved of GRANT and REVOKE of privileges: databases stay whole, among the rest.
use Rattle.abstract_database.proofs.CheckLemmas.{found_definition, found_rows}
use Rattle.std.proofs.Common.{◌≡◌, ◌⊎◌, ◌<◌, ℕ, length, Bool, true, false, not, cond, ◌&&◌, List, [], ◌∷◌, filter, map, bytes_eq, Option, Some, None, IfSome, Ok, refl, sym, ap, ◌∙◌, subst, inl, inr, Equal, is_lt}
use Rattle.std.specs.List.{list_any}
use Rattle.std.specs.Cmp.{Equal-is}
use Rattle.std.proofs.lemmas.Bool.{and_from, and_parts, both_ways, false_from_ne_true, not-true}
use Rattle.sql_types.specs.declared.state.SqlState.TheVariants.{InsufficientPrivilege, InvalidGrantOperation}
use Rattle.sql_types.specs.declared.tag.Tag.TheVariants as tag
use Rattle.sql_types.specs.declared.warning.Warning.TheVariants as warning
use Rattle.sql_ast.specs.declared.role.Role.{Role}
use Rattle.sql_ast.specs.declared.privilege.Action.{Action}
use Rattle.sql_ast.specs.declared.privilege.Action.TheVariants as action
use Rattle.sql_ast.specs.declared.privilege.Privilege.{Privilege}
use Rattle.sql_ast.specs.declared.privilege.Grantor.TheVariants as grantor
use Rattle.sql_ast.specs.declared.privilege.Grantee.{Grantee}
use Rattle.sql_ast.specs.declared.privilege.Grantee.TheVariants as grantee
use Rattle.sql_ast.specs.declared.privilege.Descriptor.{Descriptor}
use Rattle.sql_ast.specs.Read.{IsReadGrant}
use Rattle.sql_ast.specs.declared.statement.Grant.{Grant}
use Rattle.sql_ast.specs.declared.statement.Revoke.{Revoke}
use Rattle.expressions.specs.Meaning.{UserNames}
use Rattle.abstract_database.specs.Lists.{TheName, Among, least, lesser, name_cmp, Rising}
use Rattle.abstract_database.specs.Chains.{by_start}
use Rattle.abstract_database.specs.Database.{TableOf, Table, Database, grantor_name, table_named, is_table_named, descriptor_cmp, rows_named}
use Rattle.abstract_database.specs.Roles.{is_in, acts_as_owner}
use Rattle.abstract_database.specs.Privileges.{is_of_system, is_for, is_same_role, owner_descriptor, owner_descriptors, all_actions, role_of, grant_option_holders, holder_for, acting_grantor, privileges_of, leaves_out, columns_named, descriptors_by, granted_by, with_descriptors, same_key, covers, takes, is_taken_by, without_option, without_named, revoked, has_some_privilege, is_cascade}
use Rattle.abstract_database.specs.Statements.{grant, revoke, warned}
use Rattle.abstract_database.specs.Whole.{Each, OneOf, IsRoleOf, IsGrantorOf, IsGranteeOf, IsDescriptorOf, HasOwnerDescriptors, IsWhole}
use Rattle.abstract_database.proofs.ListLemmas.{bytes_same, same_bytes}
use Rattle.abstract_database.proofs.ResultLemmas.{Every, every_bind, every_ok, require_ok}
use Rattle.abstract_database.proofs.ElementLemmas.{any_found, any_holds, of_filter}
use Rattle.database_laws.proofs.PrivilegeLemmas.{Leaves, revoked_leaves, left_supported}
use Rattle.abstract_database.proofs.ChainLemmas.{support_found}
use Rattle.database_laws.proofs.HoldingLemmas.{one_for}
use Rattle.database_laws.proofs.UndoLemmas.{warned_database}
use Rattle.database_laws.proofs.WholeLists.{of_drop, into_drop, of_change_where, into_change_where, of_map, of_flat_map, find_found}
use Rattle.database_laws.proofs.WholeRoles.{no_empty_role, roles_required}
use Rattle.abstract_database.specs.Checks.{find_definition, found_column, grantee_roles, is_public, require_roles, CheckedRevoke, checked_grant, checked_revoke}
use Rattle.expressions.specs.Stages.{require, each}
use Rattle.database_laws.proofs.WholeSets.{HasKeyOf, own_key, option_key, system_like, systems_grantor, owners_grantable, owners_system, descriptors_same, same_grantor_name, IsCoveredIn, IsWholeSet, MayBeGranted, all_granted, all_for_tables}
use Rattle.database_laws.proofs.UnitLemmas.{IsUnit, units_named}
use Rattle.sql_ast.specs.declared.statement.DefiningStatement.TheVariants as defining
use Rattle.database_laws.specs.Rights.{HasSomePrivilege}
use Rattle.database_laws.proofs.Defining.{IsWholeAside, WholeAfter, IsDefinition, definition, warned_lawful}
use Rattle.database_laws.proofs.EffectLemmas.{done_answers}
use Rattle.database_laws.proofs.RisingLemmas.{with_descriptors_rise, left_rise}
use Rattle.database_laws.proofs.TableLemmas.{same_tables}
use Rattle.database_laws.proofs.RightLemmas.{Always, then, at_once, privilege_checked}
use Rattle.database_laws.proofs.NotRefusedLemmas.{Spares, spares_ok, spares_bind, spares_other, spares_table, spares_roles, spares_columns, spares_some, spares_revoked, invalid}
use Rattle.database_laws.proofs.StageLemmas.{found_same, warned_bare}

-- ---- descriptors in place of others

-- each descriptor is for one of the tables
abbrev AreForTables : List Table → List Descriptor → Type 0
AreForTables tables set = Each (λ (d : Descriptor). OneOf (λ (t : Table). IsDescriptorOf t.definition d) tables) set

pub with_set : (db : Database) (after : List Descriptor) → IsWhole db → IsWholeSet db.roles after → AreForTables db.tables after → ((t : Table) → Among t db.tables → HasOwnerDescriptors after t.definition) → IsWholeAside (record db { descriptors = after })
with_set db after w s f o = record {
  roles = record { roles = w.definitions.roles.roles; memberships = w.definitions.roles.memberships };
  tables = record { tables = w.definitions.tables.tables; few = w.definitions.tables.few };
  descriptors = record { descriptors = s; for_tables = f; owners = o };
  policies = record { policies = w.definitions.policies.policies; of_tables = w.definitions.policies.of_tables };
  rows = w.rows;
}

-- the owners' descriptors stay where each descriptor is covered
pub owners_stay : (old new : List Descriptor) → ((p : Descriptor) → Among p old → IsCoveredIn new p) → (t : TableOf) → HasOwnerDescriptors old t → HasOwnerDescriptors new t
owners_stay old new f t o d h =
    let at = f d (o d h) in
    let option : d.grantable ≡ true = owners_grantable t.name t.owner d h in
    subst (λ (x : Descriptor). Among x new) (descriptors_same d at.0 at.2.key (at.2.option option ∙ sym option)) at.1

-- ---- tables that are found

-- the table of a definition that was found is there, and has the name
pub record IsFound (db : Database) (name : TheName) (d : TableOf) : Type 0 where
  pub table : Table
  pub there : Among table db.tables
  pub named : table_named db name ≡ Some table
  pub is : table.definition ≡ d
  pub own : d.name ≡ name
  pub rows : rows_named db d.name ≡ table.rows

pub table_found : (db : Database) (name : TheName) (d : TableOf) → find_definition db name ≡ Ok d → IsFound db name d
table_found db name d e =
    let f = found_definition db name d e in
    record { table = f.table; there = (find_found (is_table_named name) db.tables f.table f.named).0; named = f.named; is = f.is; own = f.own; rows = found_rows db name d f }

-- ---- who grants

some_same : (a b : TheName) → ◌≡◌ {A = Option TheName} (Some a) (Some b) → a ≡ b
some_same a b e = cc

least_at : (x : TheName) (xs : List TheName) (o : Option TheName) (n : TheName) → least xs ≡ o → ((m : TheName) → least xs ≡ Some m → Among m xs) → lesser x o ≡ n → Among n (x ∷ xs)
least_at x xs None n e go is = inl is
least_at x xs (Some m) n e go is = at (is_lt (name_cmp m x)) is where
  at : (b : Bool) → cond b m x ≡ n → Among n (x ∷ xs)
  at true same = inr (subst (λ y. Among y xs) same (go m e))
  at false same = inl same

pub least_among : (xs : List TheName) (n : TheName) → least xs ≡ Some n → Among n xs
least_among [] n e = cc
least_among (x ∷ xs) n e = least_at x xs (least xs) n refl (least_among xs) (some_same (lesser x (least xs)) n e)

holder_among : (db : Database) (role : TheName) (holders : List TheName) (n : TheName) → holder_for db role holders ≡ Some n → Among n holders
holder_among db role holders n e = at (list_any (bytes_eq role) holders) refl e where
  at : (b : Bool) → list_any (bytes_eq role) holders ≡ b → cond b (Some role) (least (filter (is_in db.memberships role) holders)) ≡ Some n → Among n holders
  at true found is = let by = any_found (bytes_eq role) holders found in subst (λ x. Among x holders) (sym (bytes_same role by.0 by.2) ∙ some_same role n is) by.1
  at false found is = (of_filter (is_in db.memberships role) holders n (least_among (filter (is_in db.memberships role) holders) n is)).0

-- the acting grantor is the owner, or holds a grant option
acting_is : (db : Database) (role : TheName) (t : Table) (p : Privilege) (n : TheName) → acting_grantor db role t.definition p ≡ Some n → (t.definition.owner ≡ n) ⊎ Among n (grant_option_holders db.descriptors t.definition.name p)
acting_is db role t p n e = at (acts_as_owner db role t.definition.owner) e where
  at : (b : Bool) → cond b (Some t.definition.owner) (holder_for db role (grant_option_holders db.descriptors t.definition.name p)) ≡ Some n → (t.definition.owner ≡ n) ⊎ Among n (grant_option_holders db.descriptors t.definition.name p)
  at true is = inl (some_same t.definition.owner n is)
  at false is = inr (holder_among db role (grant_option_holders db.descriptors t.definition.name p) n is)

pub role_of_is : (g : Grantee) (n : TheName) → Among n (role_of g) → g ≡ grantee.Role n
role_of_is grantee.Public n h = absurd h
role_of_is (grantee.Role m) n (inl is) = ap grantee.Role is
role_of_is (grantee.Role m) n (inr later) = absurd later

-- a descriptor by which this role may grant the privilege
pub record Backs (db : Database) (t : Table) (p : Privilege) (n : TheName) (d : Descriptor) : Type 0 where
  pub there : Among d db.descriptors
  pub fits : (is_for t.definition.name p d && d.grantable) ≡ true
  pub to : d.grantee ≡ grantee.Role n

all_there : (a : Action) → Among a all_actions
all_there action.Select = inl refl
all_there action.Insert = inr (inl refl)
all_there action.Update = inr (inr (inl refl))
all_there action.Delete = inr (inr (inr (inl refl)))

pub in_map : {X Y : Type 0} (f : X → Y) (xs : List X) (x : X) → Among x xs → Among (f x) (map f xs)
in_map f [] x h = absurd h
in_map f (y ∷ ys) x (inl is) = inl (ap f is)
in_map f (y ∷ ys) x (inr later) = inr (in_map f ys x later)

owner_backs : (db : Database) → IsWhole db → (t : Table) → Among t db.tables → (p : Privilege) → Backs db t p t.definition.owner (owner_descriptor t.definition.name t.definition.owner p.action)
owner_backs db w t h p =
    let own = owner_descriptor t.definition.name t.definition.owner p.action in
    record {
      there = w.definitions.descriptors.owners t h own (in_map (owner_descriptor t.definition.name t.definition.owner) all_actions p.action (all_there p.action));
      fits = and_from (is_for t.definition.name p own) true (one_for t.definition.name p own (record { table = refl; action = refl; column = inl refl })) refl;
      to = refl;
    }

pub grantor_backed : (db : Database) → IsWhole db → (role : TheName) (t : Table) → Among t db.tables → (p : Privilege) (n : TheName) → acting_grantor db role t.definition p ≡ Some n → (d : Descriptor) × Backs db t p n d
grantor_backed db w role t h p n e = elim (acting_is db role t p n e) [
  | inl owner ↦ (owner_descriptor t.definition.name t.definition.owner p.action, subst (λ m. Backs db t p m (owner_descriptor t.definition.name t.definition.owner p.action)) owner (owner_backs db w t h p))
  | inr holds ↦
      let from = of_flat_map (λ (d : Descriptor). role_of d.grantee) (filter (λ d. is_for t.definition.name p d && d.grantable) db.descriptors) n holds in
      let passed = of_filter (λ (d : Descriptor). is_for t.definition.name p d && d.grantable) db.descriptors from.0 from.1 in
      (from.0, record { there = passed.0; fits = passed.1; to = role_of_is from.0.grantee n from.2 })
]

pub backer_is_role : (db : Database) → IsWhole db → (t : Table) (p : Privilege) (n : TheName) (d : Descriptor) → Backs db t p n d → IsRoleOf db.roles n
backer_is_role db w t p n d b = subst (IsGranteeOf db.roles d.grantable) b.to (w.definitions.descriptors.descriptors d b.there).grantee

-- ---- what a statement names

-- a descriptor that a statement names: its grantor is the acting one
pub record IsNamed (db : Database) (role : TheName) (t : Table) (privileges : List Privilege) (grantees : List Grantee) (option : Bool) (d : Descriptor) : Type 0 where
  pub privilege : Privilege
  pub one_of : Among privilege privileges
  pub by : TheName
  pub acting : acting_grantor db role t.definition privilege ≡ Some by
  pub to : Grantee
  pub among : Among to grantees
  pub is : record { grantor = grantor.Role by; grantee = to; table = t.definition.name; action = privilege.action; column = privilege.column; grantable = option } ≡ d

named_at : (db : Database) (role : TheName) (t : Table) (privileges : List Privilege) (grantees : List Grantee) (option : Bool) (p : Privilege) → Among p privileges → (o : Option TheName) (d : Descriptor) → acting_grantor db role t.definition p ≡ o → Among d (descriptors_by t.definition.name grantees option p o) → IsNamed db role t privileges grantees option d
named_at db role t privileges grantees option p one None d e h = absurd h
named_at db role t privileges grantees option p one (Some n) d e h =
    let at = of_map (λ (g : Grantee). record { grantor = grantor.Role n; grantee = g; table = t.definition.name; action = p.action; column = p.column; grantable = option }) grantees d h in
    record { privilege = p; one_of = one; by = n; acting = e; to = at.0; among = at.1; is = at.2 }

pub named_of : (db : Database) (role : TheName) (t : Table) (privileges : List Privilege) (grantees : List Grantee) (option : Bool) (d : Descriptor) → Among d (granted_by db role t.definition privileges grantees option) → IsNamed db role t privileges grantees option d
named_of db role t privileges grantees option d h =
    let at = of_flat_map (λ p. descriptors_by t.definition.name grantees option p (acting_grantor db role t.definition p)) privileges d h in
    named_at db role t privileges grantees option at.0 at.1 (acting_grantor db role t.definition at.0) d refl at.2

-- ---- GRANT

pub in_grantee_roles : (gs : List Grantee) (n : TheName) → Among (grantee.Role n) gs → Among n (grantee_roles gs)
in_grantee_roles [] n h = absurd h
in_grantee_roles (grantee.Public ∷ gs) n (inl is) = cc
in_grantee_roles (grantee.Public ∷ gs) n (inr later) = in_grantee_roles gs n later
in_grantee_roles (grantee.Role m ∷ gs) n (inl is) = let same : m ≡ n = cc in inl same
in_grantee_roles (grantee.Role m ∷ gs) n (inr later) = inr (in_grantee_roles gs n later)

pub grantee_fits : (all : List Role) (gs : List Grantee) (option : Bool) → Each (IsRoleOf all) (grantee_roles gs) → not (option && list_any is_public gs) ≡ true → (g : Grantee) → Among g gs → IsGranteeOf all option g
grantee_fits all gs option known fine grantee.Public h =
    false_from_ne_true option (λ on. both_ways (option && list_any is_public gs) (not-true (option && list_any is_public gs) fine) (and_from option (list_any is_public gs) on (any_holds is_public gs grantee.Public h refl)))
grantee_fits all gs option known fine (grantee.Role n) h = known n (in_grantee_roles gs n h)

same_named : (g : Grantee) (by : TheName) → g ≡ grantee.Role by → is_same_role g (grantor.Role by) ≡ true
same_named g by e = subst (λ x. is_same_role x (grantor.Role by) ≡ true) (sym e) (same_bytes by by refl)

pub may_be_granted : (db : Database) → IsWhole db → (role : TheName) (t : Table) → Among t db.tables → (privileges : List Privilege) (grantees : List Grantee) (option : Bool) → ((g : Grantee) → Among g grantees → IsGranteeOf db.roles option g) →
    (d : Descriptor) → IsNamed db role t privileges grantees option d → MayBeGranted db.roles db.descriptors d
may_be_granted db w role t h privileges grantees option fine d n =
    let back = grantor_backed db w role t h n.privilege n.by n.acting in
    subst (MayBeGranted db.roles db.descriptors) n.is (record {
      grantor = backer_is_role db w t n.privilege n.by back.0 back.1;
      grantee = fine n.to n.among;
      backed = inr (
        back.0,
        (w.definitions.descriptors.descriptors back.0 back.1.there).supported,
        and_from (is_for t.definition.name n.privilege back.0 && back.0.grantable) (is_same_role back.0.grantee (grantor.Role n.by)) back.1.fits (same_named back.0.grantee n.by back.1.to),
      );
    })

-- what a statement grants is for its table, where it names units of it
named_for_table : (db : Database) (role : TheName) (t : Table) → Among t db.tables → (privileges : List Privilege) (grantees : List Grantee) (option : Bool) → ((p : Privilege) → Among p privileges → IsUnit t.definition.layout p) →
    AreForTables db.tables (granted_by db role t.definition privileges grantees option)
named_for_table db role t h privileges grantees option units d k =
    let n = named_of db role t privileges grantees option d k in
    let unit = units n.privilege n.one_of in
    subst (λ (x : Descriptor). OneOf (λ (t : Table). IsDescriptorOf t.definition x) db.tables) n.is
    (t, h, record { table = refl; column = unit.column; action = unit.action; system = λ e. cc })

pub descriptors_granted : (db : Database) → IsWhole db → (ds : List Descriptor) → Each (MayBeGranted db.roles db.descriptors) ds → AreForTables db.tables ds → IsWholeAside (record db { descriptors = with_descriptors ds db.descriptors })
descriptors_granted db w ds n f =
    let after = all_granted db.roles w.definitions.roles.roles ds db.descriptors w.definitions.descriptors.descriptors n in
    with_set db (with_descriptors ds db.descriptors) w after.whole (all_for_tables db.tables ds db.descriptors w.definitions.descriptors.for_tables f)
    (λ t h. owners_stay db.descriptors (with_descriptors ds db.descriptors) after.old t.definition (w.definitions.descriptors.owners t h))

-- what GRANT was checked for
pub record GrantFacts (db : Database) (s : Grant) (c : TableOf) : Type 0 where
  pub found : find_definition db s.table ≡ Ok c
  pub known : Each (IsRoleOf db.roles) (grantee_roles s.grantees)
  pub fine : not (s.with_grant_option && list_any is_public s.grantees) ≡ true

pub grant_facts : (db : Database) (users : UserNames) (s : Grant) → Every (GrantFacts db s) (checked_grant db users s)
grant_facts db users s =
    every_bind (GrantFacts db s) (find_definition db s.table) _ (λ table table-is.
    every_bind (GrantFacts db s) (require_roles db (grantee_roles s.grantees)) _ (λ named named-is.
    every_bind (GrantFacts db s) (each (found_column table.layout) (columns_named s.privileges)) _ (λ columns columns-is.
    every_bind (GrantFacts db s) (require (has_some_privilege db users.current s.table) InsufficientPrivilege) _ (λ allowed allowed-is.
    every_bind (GrantFacts db s) (require (not (s.with_grant_option && list_any is_public s.grantees)) InvalidGrantOperation) _ (λ not_public not_public-is.
    every_ok (GrantFacts db s) table (record {
      found = table-is;
      known = roles_required db (grantee_roles s.grantees) named named-is;
      fine = require_ok (not (s.with_grant_option && list_any is_public s.grantees)) InvalidGrantOperation not_public not_public-is;
    }))))))

-- the descriptors that GRANT names
abbrev granted_from : Database → TheName → Grant → TableOf → List Descriptor
granted_from db role s t = granted_by db role t (privileges_of t.layout s.privileges) s.grantees s.with_grant_option

granted_after : (db : Database) → IsWhole db → (role : TheName) (s : Grant) → IsReadGrant s → (c : TableOf) → GrantFacts db s c → IsWholeAside (record db { descriptors = with_descriptors (granted_from db role s c) db.descriptors })
granted_after db w role s read c f =
    let at = table_found db s.table c f.found in
    let named = privileges_of at.table.definition.layout s.privileges in
    subst (λ d. IsWholeAside (record db { descriptors = with_descriptors (granted_from db role s d) db.descriptors })) at.is
    (descriptors_granted db w (granted_from db role s at.table.definition)
    (λ d h. may_be_granted db w role at.table at.there named s.grantees s.with_grant_option (grantee_fits db.roles s.grantees s.with_grant_option f.known f.fine)
    d (named_of db role at.table named s.grantees s.with_grant_option d h))
    (named_for_table db role at.table at.there named s.grantees s.with_grant_option (units_named at.table.definition.layout s.privileges read.privileges)))

pub grant_whole : (db : Database) (users : UserNames) (s : Grant) → IsReadGrant s → IsWhole db → Every WholeAfter (grant db users s)
grant_whole db users s read w =
    every_bind WholeAfter (checked_grant db users s) _ (λ c c-is.
    every_ok WholeAfter _
    (subst IsWholeAside (sym (warned_database tag.Grant (leaves_out db users.current c s.privileges) warning.PrivilegeNotGranted (record db { descriptors = with_descriptors (granted_from db users.current s c) db.descriptors })))
    (granted_after db w users.current s read c (grant_facts db users s c c-is))))

-- ---- REVOKE

-- where a descriptor comes from after the named ones were taken, or their options
record IsLeftOf (set : List Descriptor) (x : Descriptor) : Type 0 where
  old : Descriptor
  there : Among old set
  key : HasKeyOf old x
  option : (x.grantable ≡ old.grantable) ⊎ (x.grantable ≡ false)
  system : is_of_system old ≡ true → x ≡ old

abbrev NoneOfSystem : List Descriptor → List Descriptor → Type 0
NoneOfSystem set named = (y : Descriptor) → Among y set → is_of_system y ≡ true → is_taken_by named y ≡ true → ⊥

left_at : (named set : List Descriptor) → NoneOfSystem set named → (y : Descriptor) → Among y set → (x : Descriptor) (b : Bool) → is_taken_by named y ≡ b → cond b (record y { grantable = false }) y ≡ x → IsLeftOf set x
left_at named set none y h x true e is = record {
  old = y;
  there = h;
  key = subst (HasKeyOf y) is (option_key y y false (own_key y));
  option = inr (sym (ap (λ (z : Descriptor). z.grantable) is));
  system = λ s. absurd (none y h s e);
}
left_at named set none y h x false e is = record { old = y; there = h; key = subst (HasKeyOf y) is (own_key y); option = inl (sym (ap (λ (z : Descriptor). z.grantable) is)); system = λ s. sym is }

left_of : (option : Bool) (named set : List Descriptor) → NoneOfSystem set named → (x : Descriptor) → Among x (without_named option named set) → IsLeftOf set x
left_of false named set none x h = let at = of_drop (is_taken_by named) set x h in record { old = x; there = at.0; key = own_key x; option = inl refl; system = λ s. refl }
left_of true named set none x h =
    let at = of_change_where (is_taken_by named) without_option set x h in
    left_at named set none at.0 at.1 x (is_taken_by named at.0) refl at.2

-- what is not named stays as it is
unnamed_stays : (option : Bool) (named set : List Descriptor) (y : Descriptor) → Among y set → is_taken_by named y ≡ false → Among y (without_named option named set)
unnamed_stays false named set y h e = into_drop (is_taken_by named) set y h e
unnamed_stays true named set y h e =
    subst (λ (z : Descriptor). Among z (without_named true named set)) (ap (λ b. cond b (record y { grantable = false }) y) e)
    (into_change_where (is_taken_by named) without_option set y h)

grantee_left : (all : List Role) (g : Grantee) (a b : Bool) → (b ≡ a) ⊎ (b ≡ false) → IsGranteeOf all a g → IsGranteeOf all b g
grantee_left all grantee.Public a b (inl e) p = e ∙ p
grantee_left all grantee.Public a b (inr e) p = e
grantee_left all (grantee.Role n) a b e p = p

-- no descriptor of the system is named, since its grantor is no role
named_not_system : (db : Database) → IsWhole db → (role : TheName) (t : Table) → Among t db.tables → (privileges : List Privilege) (grantees : List Grantee) → NoneOfSystem db.descriptors (granted_by db role t.definition privileges grantees false)
named_not_system db w role t h privileges grantees y k system e =
    let found = any_found (λ n. takes n y) (granted_by db role t.definition privileges grantees false) e in
    let named = named_of db role t privileges grantees false found.0 found.1 in
    let back = grantor_backed db w role t h named.privilege named.by named.acting in
    let there : Descriptor = record found.0 { column = y.column } in
    let key : descriptor_cmp there y ≡ Equal = (Equal-is (descriptor_cmp there y)).0 (and_parts (same_key there y) (covers found.0.column y.column) found.2).0 in
    no_empty_role db.roles w.definitions.roles.roles
    (subst (IsRoleOf db.roles)
    (ap grantor_name (ap (λ (z : Descriptor). z.grantor) named.is) ∙ same_grantor_name there y key ∙ ap grantor_name (systems_grantor y system))
    (backer_is_role db w t named.privilege named.by back.0 back.1))

module _ (db : Database) (w : IsWhole db) (option : Bool) (named after : List Descriptor) (none : NoneOfSystem db.descriptors named) (l : Leaves (without_named option named db.descriptors) after) where
  revoked_set : IsWholeSet db.roles after
  revoked_set x h =
      let from = left_of option named db.descriptors none x (l.left x h).0 in
      let was = w.definitions.descriptors.descriptors from.old from.there in
      record {
        grantor = subst (IsGrantorOf db.roles) (sym from.key.grantor) was.grantor;
        grantee = grantee_left db.roles x.grantee from.old.grantable x.grantable from.option (subst (IsGranteeOf db.roles from.old.grantable) (sym from.key.grantee) was.grantee);
        supported = left_supported (without_named option named db.descriptors) after l x h;
      }

  revoked_for_tables : AreForTables db.tables after
  revoked_for_tables x h =
      let from = left_of option named db.descriptors none x (l.left x h).0 in
      let at = w.definitions.descriptors.for_tables from.old from.there in (
        at.0,
        at.1,
        record {
          table = from.key.table ∙ at.2.table;
          column = subst (λ (c : Option ℕ). IfSome c (λ index. index < length at.0.definition.layout.columns)) (sym from.key.column) at.2.column;
          action = λ e. from.key.column ∙ at.2.action (sym from.key.action ∙ e);
          system = λ s. let was : is_of_system from.old ≡ true = system_like x from.old (sym from.key.grantor) s in
              subst (λ (z : Descriptor). Among z (owner_descriptors at.0.definition.name at.0.definition.owner)) (sym (from.system was)) (at.2.system was);
        },
      )

  revoked_owners : (t : Table) → Among t db.tables → HasOwnerDescriptors after t.definition
  revoked_owners t h d k =
      let there = w.definitions.descriptors.owners t h d k in
      let system = owners_system t.definition.name t.definition.owner d k in
      let stays = unnamed_stays option named db.descriptors d there (false_from_ne_true (is_taken_by named d) (none d there system)) in
      l.kept d stays (support_found (without_named option named db.descriptors) d (by_start d stays system))

  revoked_whole : IsWholeAside (record db { descriptors = after })
  revoked_whole = with_set db after w revoked_set revoked_for_tables revoked_owners

-- the descriptors that REVOKE names
abbrev revoked_from : Database → TheName → Revoke → TableOf → List Descriptor
revoked_from db role s t = granted_by db role t (privileges_of t.layout s.privileges) s.grantees false

-- what REVOKE was checked for
record RevokeFacts (db : Database) (users : UserNames) (s : Revoke) (c : CheckedRevoke) : Type 0 where
  found : find_definition db s.table ≡ Ok c.table
  after : revoked s.grant_option_for s.behavior (revoked_from db users.current s c.table) db.descriptors ≡ Ok c.descriptors

revoke_facts : (db : Database) (users : UserNames) (s : Revoke) → Every (RevokeFacts db users s) (checked_revoke db users s)
revoke_facts db users s =
    every_bind (RevokeFacts db users s) (find_definition db s.table) _ (λ table table-is.
    every_bind (RevokeFacts db users s) (require_roles db (grantee_roles s.grantees)) _ (λ named named-is.
    every_bind (RevokeFacts db users s) (each (found_column table.layout) (columns_named s.privileges)) _ (λ columns columns-is.
    every_bind (RevokeFacts db users s) (require (has_some_privilege db users.current s.table) InsufficientPrivilege) _ (λ allowed allowed-is.
    every_bind (RevokeFacts db users s) (revoked s.grant_option_for s.behavior (revoked_from db users.current s table) db.descriptors) _ (λ descriptors descriptors-is.
    every_ok (RevokeFacts db users s) (record { table = table; descriptors = descriptors }) (record { found = table-is; after = descriptors-is }))))))

revoked_after : (db : Database) → IsWhole db → (users : UserNames) (s : Revoke) (c : CheckedRevoke) → RevokeFacts db users s c → IsWholeAside (record db { descriptors = c.descriptors })
revoked_after db w users s c f =
    let at = table_found db s.table c.table f.found in
    let none : NoneOfSystem db.descriptors (revoked_from db users.current s c.table) =
    subst (λ d. NoneOfSystem db.descriptors (revoked_from db users.current s d)) at.is (named_not_system db w users.current at.table at.there (privileges_of at.table.definition.layout s.privileges) s.grantees) in
    revoked_whole db w s.grant_option_for (revoked_from db users.current s c.table) c.descriptors none
    (revoked_leaves s.grant_option_for s.behavior (revoked_from db users.current s c.table) db.descriptors c.descriptors f.after)

pub revoke_whole : (db : Database) (users : UserNames) (s : Revoke) → IsWhole db → Every WholeAfter (revoke db users s)
revoke_whole db users s w =
    every_bind WholeAfter (checked_revoke db users s) _ (λ c c-is.
    every_ok WholeAfter _
    (subst IsWholeAside (sym (warned_database tag.Revoke (leaves_out db users.current c.table s.privileges) warning.PrivilegeNotRevoked (record db { descriptors = c.descriptors })))
    (revoked_after db w users s c (revoke_facts db users s c c-is))))

-- ---- what is proved of these statements

-- the descriptors after REVOKE
abbrev DescriptorsRise : CheckedRevoke → Type 0
DescriptorsRise c = Rising descriptor_cmp c.descriptors

revoked_in_order : (db : Database) (users : UserNames) (s : Revoke) → Rising descriptor_cmp db.descriptors → Every DescriptorsRise (checked_revoke db users s)
revoked_in_order db users s r =
    every_bind DescriptorsRise (find_definition db s.table) _ (λ table table-is.
    every_bind DescriptorsRise (require_roles db (grantee_roles s.grantees)) _ (λ named named-is.
    every_bind DescriptorsRise (each (found_column table.layout) (columns_named s.privileges)) _ (λ columns columns-is.
    every_bind DescriptorsRise (require (has_some_privilege db users.current s.table) InsufficientPrivilege) _ (λ allowed allowed-is.
    every_bind DescriptorsRise (revoked s.grant_option_for s.behavior (revoked_from db users.current s table) db.descriptors) _ (λ descriptors descriptors-is.
    every_ok DescriptorsRise (record { table = table; descriptors = descriptors })
    (left_rise s.grant_option_for s.behavior (revoked_from db users.current s table) db.descriptors descriptors descriptors-is r))))))

module _ (db : Database) (users : UserNames) where
  grant_may : (s : Grant) → Always (HasSomePrivilege db users.current s.table) (checked_grant db users s)
  grant_may s =
      then _ (find_definition db s.table) _ (λ t t-is.
      then _ (require_roles db (grantee_roles s.grantees)) _ (λ named named-is.
      then _ (each (found_column t.layout) (columns_named s.privileges)) _ (λ columns columns-is.
      at_once _ (require (has_some_privilege db users.current s.table) InsufficientPrivilege) _ (privilege_checked db users s.table))))

  revoke_may : (s : Revoke) → Always (HasSomePrivilege db users.current s.table) (checked_revoke db users s)
  revoke_may s =
      then _ (find_definition db s.table) _ (λ t t-is.
      then _ (require_roles db (grantee_roles s.grantees)) _ (λ named named-is.
      then _ (each (found_column t.layout) (columns_named s.privileges)) _ (λ columns columns-is.
      at_once _ (require (has_some_privilege db users.current s.table) InsufficientPrivilege) _ (privilege_checked db users s.table))))

  spares_grant : (s : Grant) → HasSomePrivilege db users.current s.table → Spares (checked_grant db users s)
  spares_grant s may =
      spares_bind (find_definition db s.table) _ (spares_table db users s.table) (λ t t-is.
      spares_bind (require_roles db (grantee_roles s.grantees)) _ (spares_roles db users (grantee_roles s.grantees)) (λ named named-is.
      spares_bind (each (found_column t.layout) (columns_named s.privileges)) _ (spares_columns t.layout (columns_named s.privileges)) (λ columns columns-is.
      spares_bind (require (has_some_privilege db users.current s.table) InsufficientPrivilege) _ (spares_some db users s.table may) (λ allowed allowed-is.
      spares_bind (require (not (s.with_grant_option && list_any is_public s.grantees)) InvalidGrantOperation) _ (spares_other _ InvalidGrantOperation invalid) (λ not_public not_public-is.
      spares_ok t)))))

  spares_revoke : (s : Revoke) → HasSomePrivilege db users.current s.table → Spares (checked_revoke db users s)
  spares_revoke s may =
      spares_bind (find_definition db s.table) _ (spares_table db users s.table) (λ t t-is.
      spares_bind (require_roles db (grantee_roles s.grantees)) _ (spares_roles db users (grantee_roles s.grantees)) (λ named named-is.
      spares_bind (each (found_column t.layout) (columns_named s.privileges)) _ (spares_columns t.layout (columns_named s.privileges)) (λ columns columns-is.
      spares_bind (require (has_some_privilege db users.current s.table) InsufficientPrivilege) _ (spares_some db users s.table may) (λ allowed allowed-is.
      spares_bind (revoked s.grant_option_for s.behavior (revoked_from db users.current s t) db.descriptors) _
      (spares_revoked (is_cascade s.behavior) _ _) (λ left left-is.
      spares_ok _)))))

  pub grant_definition : (s : Grant) → IsDefinition db users (defining.Grant s)
  grant_definition s = definition db users (defining.Grant s) (λ d. checked_grant d users s)
      (λ d t. warned tag.Grant (leaves_out d users.current t s.privileges) warning.PrivilegeNotGranted (record d { descriptors = with_descriptors (granted_from d users.current s t) d.descriptors })) (record {
        is = λ d. refl;
        lawful = λ t t-is.
            warned_lawful db (defining.Grant s) tag.Grant (leaves_out db users.current t s.privileges) warning.PrivilegeNotGranted (record db { descriptors = with_descriptors (granted_from db users.current s t) db.descriptors }) (record {
              answers = done_answers tag.Grant (record db { descriptors = with_descriptors (granted_from db users.current s t) db.descriptors });
              ordered = λ o. record {
                roles = o.roles;
                memberships = o.memberships;
                tables = o.tables;
                descriptors = with_descriptors_rise (granted_from db users.current s t) db.descriptors o.descriptors;
                policies = o.policies;
              };
              tables = same_tables db;
              known = λ c h. inl h;
            });
        whole = λ read w are. grant_whole db users s read w;
        may = grant_may s;
        spared = spares_grant s;
        same_checks = found_same db s.table _;
        same_effect = λ t. warned_bare tag.Grant (leaves_out db users.current t s.privileges) warning.PrivilegeNotGranted (record db { descriptors = with_descriptors (granted_from db users.current s t) db.descriptors });
      })

  pub revoke_definition : (s : Revoke) → IsDefinition db users (defining.Revoke s)
  revoke_definition s = definition db users (defining.Revoke s) (λ d. checked_revoke d users s)
      (λ d c. warned tag.Revoke (leaves_out d users.current c.table s.privileges) warning.PrivilegeNotRevoked (record d { descriptors = c.descriptors })) (record {
        is = λ d. refl;
        lawful = λ c c-is.
            warned_lawful db (defining.Revoke s) tag.Revoke (leaves_out db users.current c.table s.privileges) warning.PrivilegeNotRevoked (record db { descriptors = c.descriptors }) (record {
              answers = done_answers tag.Revoke (record db { descriptors = c.descriptors });
              ordered = λ o. record {
                roles = o.roles;
                memberships = o.memberships;
                tables = o.tables;
                descriptors = revoked_in_order db users s o.descriptors c c-is;
                policies = o.policies;
              };
              tables = same_tables db;
              known = λ k h. inl h;
            });
        whole = λ read w are. revoke_whole db users s w;
        may = revoke_may s;
        spared = spares_revoke s;
        same_checks = found_same db s.table _;
        same_effect = λ c. warned_bare tag.Revoke (leaves_out db users.current c.table s.privileges) warning.PrivilegeNotRevoked (record db { descriptors = c.descriptors });
      })
