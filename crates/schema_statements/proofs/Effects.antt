-- What GRANT and REVOKE on a table of a database answer and leave.
use Rattle.std.proofs.Common.{◌≡◌, ◌&&◌, ◌||◌, ℕ, Bool, true, false, not, cond, List, [], ◌∷◌, Option, None, Result, Ok, Err, refl, sym, ap, subst, ◌∙◌}
use Rattle.std.specs.List.{list_any}
use Rattle.std.specs.Option.{option_map}
use Rattle.std.specs.Prelude.{IfErr}
use Rattle.std.specs.Result.{IsErrAnd}
use Rattle.sql_types.specs.declared.state.SqlState.{SqlState}
use Rattle.sql_types.specs.declared.state.SqlState.TheVariants.{UndefinedTable, InsufficientPrivilege, InvalidGrantOperation}
use Rattle.sql_types.specs.declared.state.Refusal.{Refusal}
use Rattle.sql_types.specs.declared.tag.Tag.{Tag}
use Rattle.sql_types.specs.declared.tag.Tag.TheVariants as tag
use Rattle.sql_types.specs.declared.warning.Warning.{Warning}
use Rattle.sql_types.specs.declared.warning.Warning.TheVariants.{PrivilegeNotGranted, PrivilegeNotRevoked}
use Rattle.sql_ast.specs.declared.role.Role.{Role}
use Rattle.sql_ast.specs.declared.role.Membership.{Membership}
use Rattle.sql_ast.specs.declared.policy.Policy.{Policy}
use Rattle.sql_ast.specs.declared.privilege.Grantee.{Grantee}
use Rattle.sql_ast.specs.declared.privilege.Descriptor.{Descriptor}
use Rattle.sql_ast.specs.declared.statement.DropBehavior.{DropBehavior}
use Rattle.sql_ast.specs.declared.statement.Privileges.{Privileges}
use Rattle.sql_ast.specs.declared.statement.Privileges.TheVariants.{All, Actions}
use Rattle.sql_ast.specs.declared.statement.Grant.{Grant}
use Rattle.sql_ast.specs.declared.statement.Revoke.{Revoke}
use Rattle.expressions.specs.Stages.{◌>>=◌, require, each}
use Rattle.abstract_database.specs.Lists.{TheName, Rising, change_where, drop_where, found_or}
use Rattle.abstract_database.specs.Database.{Database, Table, TableOf, descriptor_cmp}
use Rattle.abstract_database.specs.Privileges.{has_some_privilege, columns_named, privileges_of, leaves_out, granted_by, with_descriptors, is_named_in, is_taken_by, without_named, without_option, abandoned, is_cascade, held_or_refused, revoked}
use Rattle.abstract_database.specs.Checks.{CheckedRevoke, found_column, require_roles, grantee_roles, is_public}
use Rattle.abstract_database.specs.Statements.{Effect, warned, grant, revoke}
use Rattle.grant_graph.proofs.Marks.{taken_is}
use Rattle.schema_statements.specs.declared.named_descriptors.Named.{Named}
use Rattle.schema_statements.specs.NamedDescriptors.{IsNamed}
use Rattle.schema_statements.specs.PrivilegeDescriptors.{Around, database_in, carried_out, checked, grant_checked, warning_where}
use Rattle.schema_statements.proofs.Orders.{all_rise, same_named, found_in_order, granted_in_order}

-- ---- lists of which the same are named

drop_same : (p q : Descriptor → Bool) → ((d : Descriptor) → p d ≡ q d) → (set : List Descriptor) → drop_where p set ≡ drop_where q set
drop_same p q same [] = refl
drop_same p q same (d ∷ ds) =
    ap (λ (b : Bool). cond (not b) (d ∷ drop_where p ds) (drop_where p ds)) (same d)
    ∙ ap (λ (l : List Descriptor). cond (not (q d)) (d ∷ l) l) (drop_same p q same ds)

change_same : (p q : Descriptor → Bool) → ((d : Descriptor) → p d ≡ q d) → (set : List Descriptor) → change_where p without_option set ≡ change_where q without_option set
change_same p q same [] = refl
change_same p q same (d ∷ ds) =
    ap (λ (b : Bool). cond b (without_option d) d ∷ change_where p without_option ds) (same d)
    ∙ ap (λ (l : List Descriptor). cond (q d) (without_option d) d ∷ l) (change_same p q same ds)

-- what the same are named takes the same
same_taken : (xs ys : List Descriptor) → ((d : Descriptor) → is_named_in xs d ≡ is_named_in ys d) → (d : Descriptor) → is_taken_by xs d ≡ is_taken_by ys d
same_taken xs ys same d =
    let whole : Descriptor = record d { column = None } in
    taken_is xs d
    ∙ ap (λ (b : Bool). b || is_named_in xs whole) (same d)
    ∙ ap (λ (b : Bool). is_named_in ys d || b) (same whole)
    ∙ sym (taken_is ys d)

without_same : (option_alone : Bool) (xs ys set : List Descriptor) → ((d : Descriptor) → is_taken_by xs d ≡ is_taken_by ys d) → without_named option_alone xs set ≡ without_named option_alone ys set
without_same false xs ys set same = drop_same (is_taken_by xs) (is_taken_by ys) same set
without_same true xs ys set same = change_same (is_taken_by xs) (is_taken_by ys) same set

same_revoked : (option_alone : Bool) (behavior : Option DropBehavior) (xs ys set : List Descriptor) → ((d : Descriptor) → is_taken_by xs d ≡ is_taken_by ys d) → revoked option_alone behavior xs set ≡ revoked option_alone behavior ys set
same_revoked option_alone behavior xs ys set same =
    ap (λ (left : List Descriptor). held_or_refused (is_cascade behavior) left (abandoned left)) (without_same option_alone xs ys set same)

abbrev checked_record : TableOf → List Descriptor → CheckedRevoke
checked_record t ds = record { table = t; descriptors = ds }

-- ---- answers

warned_is : (t : Tag) (b : Bool) (w : Warning) (db : Database) → warned t b w db ≡ carried_out t (warning_where b w) db
warned_is t true w db = refl
warned_is t false w db = refl

leaves_out_here : (roles : List Role) (memberships : List Membership) (tables others : List Table) (descriptors : List Descriptor) (policies more : List Policy) (role : TheName) (t : TableOf) (privileges : Privileges)
    → leaves_out (record { roles = roles; memberships = memberships; tables = tables; descriptors = descriptors; policies = policies }) role t privileges ≡ leaves_out (record { roles = roles; memberships = memberships; tables = others; descriptors = descriptors; policies = more }) role t privileges
leaves_out_here roles memberships tables others descriptors policies more role t (All columns) = refl
leaves_out_here roles memberships tables others descriptors policies more role t (Actions actions) = refl

pub same_warning : (t : Tag) (w : Warning) (db : Database) (given out : Bool) → given ≡ out → warned t out w db ≡ carried_out t (warning_where given w) db
same_warning t w db given out is = warned_is t out w db ∙ ap (λ (b : Bool). carried_out t (warning_where b w) db) (sym is)

module _ (roles : List Role) (memberships : List Membership) (descriptors : List Descriptor) where
  -- what is asked of roles, memberships and descriptors alone
  abbrev here : Database
  here = record { roles = roles; memberships = memberships; tables = []; descriptors = descriptors; policies = [] }

  module _ (name : TheName) (t : TableOf) (current : TheName) (around : Around name t current) where
    abbrev db : Database
    db = database_in around roles memberships descriptors

    abbrev db_with : List Descriptor → Database
    db_with ds = database_in around roles memberships ds

    -- ---- GRANT

    module _ (privileges : Privileges) (grantees : List Grantee) (grantable : Bool) where
      abbrev statement : Grant
      statement = record { privileges = privileges; table = name; grantees = grantees; with_grant_option = grantable }

      abbrev those : TheName → TableOf → List Descriptor
      those role u = granted_by here role u (privileges_of u.layout privileges) grantees grantable

      abbrev effect_of : TheName → TableOf → Effect
      effect_of role u = warned tag.Grant (leaves_out here role u privileges) PrivilegeNotGranted (db_with (with_descriptors (those role u) descriptors))

      abbrev free : Bool
      free = not (grantable && list_any is_public grantees)

      grant_stages : (a : Result (Unit {0}) SqlState) (c : Result (List ℕ) SqlState) (b : Result (Unit {0}) SqlState) (n : Bool) (code : SqlState) (u : TableOf) (e : TableOf → Effect) →
          ((a >>= λ named. c >>= λ columns. b >>= λ allowed. require n code >>= λ not_public. Ok u) >>= λ table. Ok (e table)) ≡ (((a >>= λ named. c >>= λ columns. b) >>= λ allowed. require n code) >>= λ checked. Ok (e u))
      grant_stages (Ok x) (Ok y) (Ok v) true code u e = refl
      grant_stages (Ok x) (Ok y) (Ok v) false code u e = refl
      grant_stages (Ok x) (Ok y) (Err v) n code u e = refl
      grant_stages (Ok x) (Err y) b n code u e = refl
      grant_stages (Err x) c b n code u e = refl

      abbrev in_stages : TheName → TableOf → Result Effect SqlState
      in_stages role u = grant_checked here role u.layout statement >>= λ checked. Ok (effect_of role u)

      abbrev effect_at : TableOf → Effect
      effect_at u = warned tag.Grant (leaves_out db around.users.current u privileges) PrivilegeNotGranted (record db { descriptors = with_descriptors (granted_by db around.users.current u (privileges_of u.layout privileges) grantees grantable) descriptors })

      abbrev at_table : Option Table → Result Effect SqlState
      at_table o = (found_or UndefinedTable (option_map (λ x. x.definition) o) >>= λ table. require_roles db (grantee_roles grantees) >>= λ named. each (found_column table.layout) (columns_named privileges) >>= λ columns. require (has_some_privilege db around.users.current name) InsufficientPrivilege >>= λ allowed. require free InvalidGrantOperation >>= λ not_public. Ok table) >>= λ table. Ok (effect_at table)

      effect_parts : (u : TableOf) → effect_at u ≡ effect_of around.users.current u
      effect_parts u = ap (λ (b : Bool). warned tag.Grant b PrivilegeNotGranted (db_with (with_descriptors (those around.users.current u) descriptors))) (leaves_out_here roles memberships around.tables [] descriptors around.policies [] around.users.current u privileges)

      grant_is : grant db around.users statement ≡ in_stages current t
      grant_is =
          let u = around.table.definition in
          ap at_table around.found
          ∙ grant_stages (require_roles db (grantee_roles grantees)) (each (found_column u.layout) (columns_named privileges)) (require (has_some_privilege db around.users.current name) InsufficientPrivilege) free InvalidGrantOperation u effect_at
          ∙ ap (λ (e : Effect). grant_checked here around.users.current u.layout statement >>= λ checked. Ok e) (effect_parts u)
          ∙ ap (λ (r : TheName). in_stages r u) around.runs
          ∙ ap (λ (v : TableOf). in_stages current v) around.is

      pub grant_refused : (code : SqlState) → grant_checked here current t.layout statement ≡ Err code → grant db around.users statement ≡ Err code
      grant_refused code e = grant_is ∙ ap (λ (r : Result (Unit {0}) SqlState). r >>= λ checked. Ok (effect_of current t)) e

      pub grant_passes : grant_checked here current t.layout statement ≡ Ok tt → grant db around.users statement ≡ Ok (effect_of current t)
      grant_passes e = grant_is ∙ ap (λ (r : Result (Unit {0}) SqlState). r >>= λ checked. Ok (effect_of current t)) e

      pub grant_done : (n : Named) (new : List Descriptor) → IsNamed here current t privileges grantees grantable n → grant_checked here current t.layout statement ≡ Ok tt → Rising descriptor_cmp descriptors → new ≡ with_descriptors n.descriptors.items descriptors →
          grant db around.users statement ≡ Ok (carried_out tag.Grant (warning_where n.leaves_out PrivilegeNotGranted) (db_with new))
      grant_done n new is e r made =
          grant_passes e
          ∙ ap Ok (
          same_warning tag.Grant PrivilegeNotGranted (db_with (with_descriptors (those current t) descriptors)) n.leaves_out (leaves_out here current t privileges) is.leaves_out
          ∙ ap (λ (ds : List Descriptor). carried_out tag.Grant (warning_where n.leaves_out PrivilegeNotGranted) (db_with ds))
          (sym (made ∙ ap (λ (ds : List Descriptor). with_descriptors ds descriptors) is.descriptors ∙ granted_in_order (those current t) descriptors r))
          )

    -- ---- REVOKE

    module _ (option_alone : Bool) (privileges : Privileges) (grantees : List Grantee) (behavior : Option DropBehavior) where
      abbrev revocation : Revoke
      revocation = record { grant_option_for = option_alone; privileges = privileges; table = name; grantees = grantees; behavior = behavior }

      abbrev taken : TheName → TableOf → List Descriptor
      taken role u = granted_by here role u (privileges_of u.layout privileges) grantees false

      abbrev left_by : TheName → TableOf → List Descriptor → Effect
      left_by role u ds = warned tag.Revoke (leaves_out here role u privileges) PrivilegeNotRevoked (db_with ds)

      revoke_stages : (a : Result (Unit {0}) SqlState) (l : Result (List ℕ) SqlState) (b : Result (Unit {0}) SqlState) (r : Result (List Descriptor) SqlState) (u : TableOf) (e : TableOf → List Descriptor → Effect) →
          ((a >>= λ named. l >>= λ columns. b >>= λ allowed. r >>= λ ds. Ok (checked_record u ds)) >>= λ c. Ok (e c.table c.descriptors)) ≡ ((a >>= λ named. l >>= λ columns. b) >>= λ checked. r >>= λ ds. Ok (e u ds))
      revoke_stages (Ok x) (Ok y) (Ok v) (Ok ds) u e = refl
      revoke_stages (Ok x) (Ok y) (Ok v) (Err z) u e = refl
      revoke_stages (Ok x) (Ok y) (Err v) r u e = refl
      revoke_stages (Ok x) (Err y) b r u e = refl
      revoke_stages (Err x) l b r u e = refl

      abbrev revoke_in_stages : TheName → TableOf → Result Effect SqlState
      revoke_in_stages role u = checked here role name u.layout privileges grantees >>= λ checked. revoked option_alone behavior (taken role u) descriptors >>= λ ds. Ok (left_by role u ds)

      abbrev left_at : TableOf → List Descriptor → Effect
      left_at u ds = warned tag.Revoke (leaves_out db around.users.current u privileges) PrivilegeNotRevoked (record db { descriptors = ds })

      abbrev revoke_at_table : Option Table → Result Effect SqlState
      revoke_at_table o = (found_or UndefinedTable (option_map (λ x. x.definition) o) >>= λ table. require_roles db (grantee_roles grantees) >>= λ named. each (found_column table.layout) (columns_named privileges) >>= λ columns. require (has_some_privilege db around.users.current name) InsufficientPrivilege >>= λ allowed. revoked option_alone behavior (granted_by db around.users.current table (privileges_of table.layout privileges) grantees false) descriptors >>= λ ds. Ok (checked_record table ds)) >>= λ c. Ok (left_at c.table c.descriptors)

      left_parts : (u : TableOf) (r : Result (List Descriptor) SqlState) → (r >>= λ ds. Ok (left_at u ds)) ≡ (r >>= λ ds. Ok (left_by around.users.current u ds))
      left_parts u (Err x) = refl
      left_parts u (Ok ds) = ap (λ (b : Bool). Ok (warned tag.Revoke b PrivilegeNotRevoked (db_with ds))) (leaves_out_here roles memberships around.tables [] descriptors around.policies [] around.users.current u privileges)

      revoke_is : revoke db around.users revocation ≡ revoke_in_stages current t
      revoke_is =
          let u = around.table.definition in
          let r = revoked option_alone behavior (taken around.users.current u) descriptors in
          ap revoke_at_table around.found
          ∙ revoke_stages (require_roles db (grantee_roles grantees)) (each (found_column u.layout) (columns_named privileges)) (require (has_some_privilege db around.users.current name) InsufficientPrivilege) r u left_at
          ∙ ap (λ (x : Result Effect SqlState). checked here around.users.current name u.layout privileges grantees >>= λ checked. x) (left_parts u r)
          ∙ ap (λ (r : TheName). revoke_in_stages r u) around.runs
          ∙ ap (λ (v : TableOf). revoke_in_stages current v) around.is

      pub revoke_refused : (code : SqlState) → checked here current name t.layout privileges grantees ≡ Err code → revoke db around.users revocation ≡ Err code
      revoke_refused code e =
          revoke_is ∙ ap (λ (x : Result (Unit {0}) SqlState). x >>= λ checked. revoked option_alone behavior (taken current t) descriptors >>= λ ds. Ok (left_by current t ds)) e

      revoke_passes : (x : Result (List Descriptor) SqlState) → checked here current name t.layout privileges grantees ≡ Ok tt → revoked option_alone behavior (taken current t) descriptors ≡ x →
          revoke db around.users revocation ≡ (x >>= λ ds. Ok (left_by current t ds))
      revoke_passes x e is =
          revoke_is
          ∙ ap (λ (x : Result (Unit {0}) SqlState). x >>= λ checked. revoked option_alone behavior (taken current t) descriptors >>= λ ds. Ok (left_by current t ds)) e
          ∙ ap (λ (y : Result (List Descriptor) SqlState). y >>= λ ds. Ok (left_by current t ds)) is

      revoked_same : (n : Named) → IsNamed here current t privileges grantees false n → revoked option_alone behavior n.descriptors.items descriptors ≡ revoked option_alone behavior (taken current t) descriptors
      revoked_same n is =
          ap (λ (ds : List Descriptor). revoked option_alone behavior ds descriptors) is.descriptors
          ∙ same_revoked option_alone behavior (with_descriptors (taken current t) []) (taken current t) descriptors (same_taken _ _ (same_named _ _ (λ k. found_in_order k (taken current t))))

      pub revoke_depends : (n : Named) (code : SqlState) → IsNamed here current t privileges grantees false n → checked here current name t.layout privileges grantees ≡ Ok tt → revoked option_alone behavior n.descriptors.items descriptors ≡ Err code →
          revoke db around.users revocation ≡ Err code
      revoke_depends n code is e r = revoke_passes (Err code) e (sym (revoked_same n is) ∙ r)

      pub revoke_done : (n : Named) (new : List Descriptor) → IsNamed here current t privileges grantees false n → checked here current name t.layout privileges grantees ≡ Ok tt → revoked option_alone behavior n.descriptors.items descriptors ≡ Ok new →
          revoke db around.users revocation ≡ Ok (carried_out tag.Revoke (warning_where n.leaves_out PrivilegeNotRevoked) (db_with new))
      revoke_done n new is e r =
          revoke_passes (Ok new) e (sym (revoked_same n is) ∙ r)
          ∙ ap Ok (same_warning tag.Revoke PrivilegeNotRevoked (db_with new) n.leaves_out (leaves_out here current t privileges) is.leaves_out)

-- ---- what is named stands in order

pub named_rise : (db : Database) (role : TheName) (t : TableOf) (privileges : Privileges) (grantees : List Grantee) (grantable : Bool) (n : Named) → IsNamed db role t privileges grantees grantable n → Rising descriptor_cmp n.descriptors.items
named_rise db role t privileges grantees grantable n is =
    rw is.descriptors (all_rise (granted_by db role t (privileges_of t.layout privileges) grantees grantable) [] tt)

-- ---- what is passed on

pub fails : {T : Type 0} (r : Result T Refusal) (e : Refusal) (Q : Refusal → Type 0) → IsErrAnd r (λ y. y ≡ e) → Q e → IfErr r Q
fails (Ok x) e Q is q = tt
fails (Err y) e Q is q = subst Q (sym is) q
