-- When GRANT and REVOKE warn.
use Rattle.std.proofs.Common.{◌≡◌, ◌∙◌, ◌&&◌, is_some, Bool, true, false, not, List, [], ◌∷◌, Option, Some, None, Ok, refl, ap, subst, inl, inr}
use Rattle.std.specs.List.{list_any, list_all}
use Rattle.std.proofs.lemmas.Bool.{both_ways, not-true, false_from_ne_true}
use Rattle.sql_types.specs.declared.state.SqlState.TheVariants.{InsufficientPrivilege}
use Rattle.sql_types.specs.declared.tag.Tag.{Tag}
use Rattle.sql_types.specs.declared.tag.Tag.TheVariants as tag
use Rattle.sql_types.specs.declared.warning.Warning.{Warning}
use Rattle.sql_types.specs.declared.warning.Warning.TheVariants as warning
use Rattle.sql_ast.specs.declared.privilege.Privilege.{Privilege}
use Rattle.sql_ast.specs.declared.statement.Privileges.{Privileges}
use Rattle.sql_ast.specs.declared.statement.Privileges.TheVariants as privileges
use Rattle.sql_ast.specs.declared.statement.Revoke.{Revoke}
use Rattle.expressions.specs.Meaning.{UserNames}
use Rattle.expressions.specs.Stages.{require, each}
use Rattle.abstract_database.specs.Lists.{TheName, Among}
use Rattle.abstract_database.specs.Database.{TableOf, Database}
use Rattle.abstract_database.specs.Privileges.{privileges_of, columns_named, has_some_privilege, acting_grantor, leaves_out, granted_by, with_descriptors, revoked}
use Rattle.abstract_database.specs.Checks.{CheckedRevoke, find_definition, found_column, require_roles, grantee_roles, checked_grant, checked_revoke}
use Rattle.abstract_database.specs.Statements.{Effect, warned}
use Rattle.abstract_database.proofs.ElementLemmas.{any_found, any_holds}
use Rattle.abstract_database.proofs.ResultLemmas.{bind_ok, ok_inside}
use Rattle.database_laws.specs.Grants.{LeavesOut, WarnsWhere, with_warning, without_one, grants_warn, revokes_warn}
use Rattle.database_laws.proofs.WholeLists.{each_passes}
use Rattle.database_laws.proofs.WholePrivileges.{grant_facts}
use Rattle.database_laws.proofs.WriteLemmas.{same_definition}

none_is : {X : Type 0} (o : Option X) → is_some o ≡ false → o ≡ None
none_is None e = refl
none_is (Some x) e = cc

some_is_not : {X : Type 0} (o : Option X) → is_some o ≡ true → o ≡ None → ⊥
some_is_not None e n = cc
some_is_not (Some x) e n = cc

not_false : (b : Bool) → not b ≡ false → b ≡ true
not_false true e = refl
not_false false e = cc

-- where not all pass a test, one does not
one_fails_at : {X : Type 0} (test : X → Bool) (x : X) (xs : List X) (b : Bool) → test x ≡ b → (b && list_all test xs) ≡ false → (list_all test xs ≡ false → (y : X) × Among y xs × (test y ≡ false)) → (y : X) × Among y (x ∷ xs) × (test y ≡ false)
one_fails_at test x xs true is e go = let found = go e in (found.0, inr found.1, found.2)
one_fails_at test x xs false is e go = (x, inl refl, is)

one_fails : {X : Type 0} (test : X → Bool) (xs : List X) → list_all test xs ≡ false → (y : X) × Among y xs × (test y ≡ false)
one_fails test [] e = cc
one_fails test (x ∷ xs) e = one_fails_at test x xs (test x) refl e (one_fails test xs)

module _ (db : Database) (role : TheName) (t : TableOf) where
  abbrev has_grantor : Privilege → Bool
  has_grantor p = is_some (acting_grantor db role t p)

  left_out : (named : Privileges) → leaves_out db role t named ≡ true → LeavesOut db role t named
  left_out (privileges.All columns) e = λ p h.
      let named = privileges_of t.layout (privileges.All columns) in
      none_is (acting_grantor db role t p)
      (false_from_ne_true (has_grantor p) (λ k. both_ways (list_any has_grantor named) (not-true (list_any has_grantor named) e) (any_holds has_grantor named p h k)))
  left_out (privileges.Actions actions) e =
      let named = privileges_of t.layout (privileges.Actions actions) in
      let p = one_fails has_grantor named (not-true (list_all has_grantor named) e) in
      (p.0, p.1, none_is (acting_grantor db role t p.0) p.2)

  nothing_left_out : (named : Privileges) → leaves_out db role t named ≡ false → LeavesOut db role t named → ⊥
  nothing_left_out (privileges.All columns) e = λ none.
      let named = privileges_of t.layout (privileges.All columns) in
      let p = any_found has_grantor named (not_false (list_any has_grantor named) e) in
      some_is_not (acting_grantor db role t p.0) p.2 (none p.0 p.1)
  nothing_left_out (privileges.Actions actions) e = λ l.
      let named = privileges_of t.layout (privileges.Actions actions) in
      some_is_not (acting_grantor db role t l.0) (each_passes has_grantor named (not_false (list_all has_grantor named) e) l.0 l.1) l.2

warned_at : (done : Tag) (w : Warning) (LeftOut : Type 0) (db : Database) (b : Bool) → (b ≡ true → LeftOut) → (b ≡ false → LeftOut → ⊥) → WarnsWhere done w LeftOut (warned done b w db).answer
warned_at done w LeftOut db true out in_all = with_warning (out refl) refl
warned_at done w LeftOut db false out in_all = without_one (in_all refl) refl

pub grant_warns : grants_warn
grant_warns db users g t e s =
    let after : TableOf → Database = λ c. record db { descriptors = with_descriptors (granted_by db users.current c (privileges_of c.layout g.privileges) g.grantees g.with_grant_option) db.descriptors } in
    let c = bind_ok (checked_grant db users g) (λ (c : TableOf). Ok (warned tag.Grant (leaves_out db users.current c g.privileges) warning.PrivilegeNotGranted (after c))) e s.succeeds in
    let same = same_definition db g.table t c.0 s.table_is (grant_facts db users g c.0 c.1).found in
    subst (λ (x : TableOf). WarnsWhere tag.Grant warning.PrivilegeNotGranted (LeavesOut db users.current x g.privileges) e.answer) same
    (subst (λ (x : Effect). WarnsWhere tag.Grant warning.PrivilegeNotGranted (LeavesOut db users.current c.0 g.privileges) x.answer)
    (ok_inside (warned tag.Grant (leaves_out db users.current c.0 g.privileges) warning.PrivilegeNotGranted (after c.0)) e c.2)
    (warned_at tag.Grant warning.PrivilegeNotGranted (LeavesOut db users.current c.0 g.privileges) (after c.0) (leaves_out db users.current c.0 g.privileges)
    (left_out db users.current c.0 g.privileges) (nothing_left_out db users.current c.0 g.privileges)))

revoke_found : (db : Database) (users : UserNames) (r : Revoke) (c : CheckedRevoke) → checked_revoke db users r ≡ Ok c → find_definition db r.table ≡ Ok c.table
revoke_found db users r c is =
    let table = bind_ok (find_definition db r.table) _ c is in
    let named = bind_ok (require_roles db (grantee_roles r.grantees)) _ c table.2 in
    let columns = bind_ok (each (found_column table.0.layout) (columns_named r.privileges)) _ c named.2 in
    let allowed = bind_ok (require (has_some_privilege db users.current r.table) InsufficientPrivilege) _ c columns.2 in
    let left = bind_ok (revoked r.grant_option_for r.behavior (granted_by db users.current table.0 (privileges_of table.0.layout r.privileges) r.grantees false) db.descriptors) (λ l. Ok (record { table = table.0; descriptors = l })) c allowed.2 in
    table.1 ∙ ap (λ (x : CheckedRevoke). Ok x.table) (ok_inside (record { table = table.0; descriptors = left.0 }) c left.2)

pub revoke_warns : revokes_warn
revoke_warns db users r t e s =
    let c = bind_ok (checked_revoke db users r) (λ (c : CheckedRevoke). Ok (warned tag.Revoke (leaves_out db users.current c.table r.privileges) warning.PrivilegeNotRevoked (record db { descriptors = c.descriptors }))) e s.succeeds in
    let same = same_definition db r.table t c.0.table s.table_is (revoke_found db users r c.0 c.1) in
    subst (λ (x : TableOf). WarnsWhere tag.Revoke warning.PrivilegeNotRevoked (LeavesOut db users.current x r.privileges) e.answer) same
    (subst (λ (x : Effect). WarnsWhere tag.Revoke warning.PrivilegeNotRevoked (LeavesOut db users.current c.0.table r.privileges) x.answer)
    (ok_inside (warned tag.Revoke (leaves_out db users.current c.0.table r.privileges) warning.PrivilegeNotRevoked (record db { descriptors = c.0.descriptors })) e c.2)
    (warned_at tag.Revoke warning.PrivilegeNotRevoked (LeavesOut db users.current c.0.table r.privileges) (record db { descriptors = c.0.descriptors }) (leaves_out db users.current c.0.table r.privileges)
    (left_out db users.current c.0.table r.privileges) (nothing_left_out db users.current c.0.table r.privileges)))
