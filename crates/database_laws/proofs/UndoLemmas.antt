-- GRANT, and then REVOKE of the same.
use Rattle.std.proofs.Common.{◌≡◌, ℕ, ◌&&◌, ◌||◌, Bool, true, false, not, List, [], ◌∷◌, ◌++◌, map, Option, Some, None, Ok, refl, sym, ap, ◌∙◌, inl, inr}
use Rattle.std.specs.List.{list_any}
use Rattle.std.specs.Cmp.{Equal-is}
use Rattle.std.proofs.lemmas.List.{map-append}
use Rattle.std.proofs.lemmas.Simd.{map-map}
use Rattle.sql_types.specs.declared.state.SqlState.TheVariants.{UndefinedTable, InsufficientPrivilege, InvalidGrantOperation}
use Rattle.sql_types.specs.declared.tag.Tag.{Tag}
use Rattle.sql_types.specs.declared.tag.Tag.TheVariants as tag
use Rattle.sql_types.specs.declared.warning.Warning.{Warning}
use Rattle.sql_types.specs.declared.warning.Warning.TheVariants as warning
use Rattle.sql_ast.specs.declared.privilege.Privilege.{Privilege}
use Rattle.sql_ast.specs.declared.privilege.Grantor.TheVariants as grantor
use Rattle.sql_ast.specs.declared.privilege.Grantee.{Grantee}
use Rattle.sql_ast.specs.declared.privilege.Descriptor.{Descriptor}
use Rattle.sql_ast.specs.declared.statement.Privileges.{Privileges}
use Rattle.sql_ast.specs.declared.statement.DropBehavior.{DropBehavior}
use Rattle.sql_ast.specs.declared.statement.Grant.{Grant}
use Rattle.sql_ast.specs.declared.statement.Revoke.{Revoke}
use Rattle.expressions.specs.Meaning.{UserNames}
use Rattle.abstract_database.specs.Lists.{TheName, Among, found_or, drop_where}
use Rattle.expressions.specs.Stages.{require, each}
use Rattle.abstract_database.specs.Database.{TableOf, Database, definition_named, descriptor_cmp}
use Rattle.abstract_database.specs.Privileges.{IsSupported, is_supported, same_key, covers, takes, is_taken_by, columns_named, has_some_privilege, acting_grantor, privileges_of, leaves_out, granted, with_option_of, descriptors_by, granted_by, with_descriptors, without_option, without_named, revoked, abandoned, held_or_refused, is_cascade}
use Rattle.abstract_database.specs.Checks.{find_definition, found_column, require_roles, grantee_roles, is_public, checked_grant}
use Rattle.abstract_database.specs.Statements.{Effect, warned, grant}
use Rattle.database_laws.specs.Privileges.{IsUndoing}
use Rattle.std.proofs.lemmas.Bool.{and_from, or_left, or_right}
use Rattle.abstract_database.proofs.ResultLemmas.{ok_inside, bind_ok, Every, every_bind, every_ok}
use Rattle.abstract_database.proofs.ChainLemmas.{support_found}
use Rattle.database_laws.proofs.HoldingLemmas.{by_covering}
use Rattle.database_laws.proofs.PrivilegeLemmas.{drop_none, drop_put, descriptor_itself}
use Rattle.database_laws.proofs.WholeSets.{same_column}
use Rattle.abstract_database.proofs.ElementLemmas.{drop_all, keep_all}

-- what has the key of a descriptor is taken by it
takes_same : (d y : Descriptor) → same_key d y ≡ true → takes d y ≡ true
takes_same d y e =
    ap (λ (c : Option ℕ). same_key (record d { column = c }) y && covers d.column c) (sym (same_column d y ((Equal-is (descriptor_cmp d y)).0 e)))
    ∙ and_from (same_key d y) (covers d.column d.column) e (by_covering d.column d.column (inr refl))

-- the names of what was granted
named_itself : (ds : List Descriptor) (d y : Descriptor) → Among d ds → same_key d y ≡ true → is_taken_by (map without_option ds) y ≡ true
named_itself [] d y h e = absurd h
named_itself (x ∷ ds) d y (inl is) e = or_left (takes x y) (is_taken_by (map without_option ds) y) (ap (λ (z : Descriptor). takes z y) is ∙ takes_same d y e)
named_itself (x ∷ ds) d y (inr later) e = or_right (takes x y) (is_taken_by (map without_option ds) y) (named_itself ds d y later e)

pub named_none : (ds : List Descriptor) (y : Descriptor) → ((d : Descriptor) → Among d ds → takes d y ≡ false) → is_taken_by (map without_option ds) y ≡ false
named_none [] y h = refl
named_none (x ∷ ds) y h = ap (λ b. b || is_taken_by (map without_option ds) y) (h x (inl refl)) ∙ named_none ds y (λ d k. h d (inr k))

dropped : (all ds set : List Descriptor) → ((d : Descriptor) → Among d ds → Among d all) →
    drop_where (is_taken_by (map without_option all)) (with_descriptors ds set) ≡ drop_where (is_taken_by (map without_option all)) set
dropped all [] set h = refl
dropped all (d ∷ ds) set h =
    dropped all ds (granted d set) (λ e k. h e (inr k))
    ∙ drop_put (is_taken_by (map without_option all)) descriptor_cmp with_option_of d (named_itself all d d (h d (inl refl)) (descriptor_itself d))
    (λ y e. (named_itself all d y (h d (inl refl)) e, named_itself all d (with_option_of y d) (h d (inl refl)) e)) set

kept_whole : (cascade : Bool) (set : List Descriptor) → ((e : Descriptor) → Among e set → IsSupported set e) → held_or_refused cascade set (abandoned set) ≡ Ok set
kept_whole true set supported = ap (λ (l : List Descriptor). Ok l) (keep_all (is_supported set) set (λ e h. support_found set e (supported e h)))
kept_whole false set supported = ap (λ (l : List Descriptor). held_or_refused false set l) (drop_all (is_supported set) set (λ e h. support_found set e (supported e h)))

-- what was granted goes, and nothing else
pub taken_back : (ds set : List Descriptor) → ((d e : Descriptor) → Among d ds → Among e set → takes d e ≡ false) → drop_where (is_taken_by (map without_option ds)) (with_descriptors ds set) ≡ set
taken_back ds set others = dropped ds ds set (λ d h. h) ∙ drop_none (is_taken_by (map without_option ds)) set (λ e h. named_none ds e (λ d k. others d e k h))

pub undone : (behavior : Option DropBehavior) (ds set : List Descriptor) →
    ((d e : Descriptor) → Among d ds → Among e set → takes d e ≡ false) →
    ((e : Descriptor) → Among e set → IsSupported set e) →
    revoked false behavior (map without_option ds) (with_descriptors ds set) ≡ Ok set
undone behavior ds set others supported =
    let back : without_named false (map without_option ds) (with_descriptors ds set) ≡ set = taken_back ds set others in
    ap (λ s. held_or_refused (is_cascade behavior) s (abandoned s)) back ∙ kept_whole (is_cascade behavior) set supported

-- ---- the statements

module _ (before after : Database) (role : TheName) (table : TableOf) (grantees : List Grantee) (option : Bool) where
  named_by : (p : Privilege) (by : Option TheName) → descriptors_by table.name grantees false p by ≡ map without_option (descriptors_by table.name grantees option p by)
  named_by p None = refl
  named_by p (Some by) = sym (map-map without_option (λ (g : Grantee). record { grantor = grantor.Role by; grantee = g; table = table.name; action = p.action; column = p.column; grantable = option }) grantees)

  named_again : (all : List Privilege) → ((p : Privilege) → Among p all → acting_grantor after role table p ≡ acting_grantor before role table p) →
      granted_by after role table all grantees false ≡ map without_option (granted_by before role table all grantees option)
  named_again [] h = refl
  named_again (p ∷ ps) h =
      ap (λ (by : Option TheName). descriptors_by table.name grantees false p by ++ granted_by after role table ps grantees false) (h p (inl refl))
      ∙ ap (λ (l : List Descriptor). l ++ granted_by after role table ps grantees false) (named_by p (acting_grantor before role table p))
      ∙ ap (λ (l : List Descriptor). map without_option (descriptors_by table.name grantees option p (acting_grantor before role table p)) ++ l) (named_again ps (λ q k. h q (inr k)))
      ∙ sym (map-append without_option (descriptors_by table.name grantees option p (acting_grantor before role table p)) (granted_by before role table ps grantees option))

pub warned_database : (t : Tag) (b : Bool) (w : Warning) (db : Database) → (warned t b w db).database ≡ db
warned_database t true w db = refl
warned_database t false w db = refl

-- the table that a GRANT was checked for
abbrev IsOf : Database → TheName → TableOf → Type 0
IsOf db name table = find_definition db name ≡ Ok table

granted_of : (db : Database) (users : UserNames) (g : Grant) → Every (IsOf db g.table) (checked_grant db users g)
granted_of db users g =
    let P = IsOf db g.table in
    every_bind P (find_definition db g.table) _ (λ table table-is.
    every_bind P (require_roles db (grantee_roles g.grantees)) _ (λ named named-is.
    every_bind P (each (found_column table.layout) (columns_named g.privileges)) _ (λ columns columns-is.
    every_bind P (require (has_some_privilege db users.current g.table) InsufficientPrivilege) _ (λ allowed allowed-is.
    every_bind P (require (not (g.with_grant_option && list_any is_public g.grantees)) InvalidGrantOperation) _ (λ not_public not_public-is.
    every_ok P table table-is)))))

-- what a GRANT that was not refused leaves
pub granted_database : (db : Database) (users : UserNames) (g : Grant) (table : TableOf) → definition_named db g.table ≡ Some table →
    Every (λ (e : Effect). e.database ≡ record db { descriptors = with_descriptors (granted_by db users.current table (privileges_of table.layout g.privileges) g.grantees g.with_grant_option) db.descriptors }) (grant db users g)
granted_database db users g table t e is =
    let c = bind_ok (checked_grant db users g) _ e is in
    let same : c.0 ≡ table = ok_inside c.0 table (sym (granted_of db users g c.0 c.1) ∙ ap (found_or UndefinedTable) t) in
    ap (λ (x : Effect). x.database) (sym (ok_inside _ e c.2))
    ∙ warned_database tag.Grant (leaves_out db users.current c.0 g.privileges) warning.PrivilegeNotGranted _
    ∙ ap (λ (x : TableOf). record db { descriptors = with_descriptors (granted_by db users.current x (privileges_of x.layout g.privileges) g.grantees g.with_grant_option) db.descriptors }) same

abbrev pub with_set : Database → List Descriptor → Database
with_set db set = record db { descriptors = set }

-- what the REVOKE of the same leaves, where the acting grantors are the same
pub undone_set : (db after : Database) (users : UserNames) (g : Grant) (r : Revoke) (table : TableOf) →
    IsUndoing g r → after ≡ with_set db (with_descriptors (granted_by db users.current table (privileges_of table.layout g.privileges) g.grantees g.with_grant_option) db.descriptors) →
    ((p : Privilege) → Among p (privileges_of table.layout g.privileges) → acting_grantor after users.current table p ≡ acting_grantor db users.current table p) →
    ((d e : Descriptor) → Among d (granted_by db users.current table (privileges_of table.layout g.privileges) g.grantees g.with_grant_option) → Among e db.descriptors → takes d e ≡ false) →
    ((e : Descriptor) → Among e db.descriptors → IsSupported db.descriptors e) →
    revoked r.grant_option_for r.behavior (granted_by after users.current table (privileges_of table.layout r.privileges) r.grantees false) after.descriptors ≡ Ok db.descriptors
undone_set db after users g r table u is grantors others supported =
    let ds = granted_by db users.current table (privileges_of table.layout g.privileges) g.grantees g.with_grant_option in
    let names : granted_by after users.current table (privileges_of table.layout r.privileges) r.grantees false ≡ map without_option ds =
    ap (λ (p : Privileges). granted_by after users.current table (privileges_of table.layout p) r.grantees false) u.privileges
    ∙ ap (λ (to : List Grantee). granted_by after users.current table (privileges_of table.layout g.privileges) to false) u.grantees
    ∙ named_again db after users.current table g.grantees g.with_grant_option (privileges_of table.layout g.privileges) grantors in
    ap (λ (b : Bool). revoked b r.behavior (granted_by after users.current table (privileges_of table.layout r.privileges) r.grantees false) after.descriptors) u.whole
    ∙ ap (λ (l : List Descriptor). revoked false r.behavior l after.descriptors) names
    ∙ ap (λ (x : Database). revoked false r.behavior (map without_option ds) x.descriptors) is
    ∙ undone r.behavior ds db.descriptors others supported
