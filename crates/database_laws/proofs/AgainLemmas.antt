-- A GRANT of what was not there, and then the REVOKE of it: who grants stays who grants.
use Rattle.std.proofs.Common.{◌≡◌, ℕ, ◌&&◌, ◌||◌, Bool, true, false, not, cond, List, [], ◌∷◌, ◌++◌, filter, map, flat_map, bytes_eq, Option, Some, Result, Ok, refl, sym, ap, ◌∙◌, subst, inl, inr}
use Rattle.std.specs.List.{list_any}
use Rattle.std.proofs.lemmas.Bool.{or_cases, or_left, or_right, false_from_ne_true}
use Rattle.std.proofs.lemmas.List.Elements.{filter-append}
use Rattle.sql_types.specs.declared.state.SqlState.{SqlState}
use Rattle.sql_types.specs.declared.state.SqlState.TheVariants.{UndefinedTable, InsufficientPrivilege, InvalidGrantOperation}
use Rattle.sql_types.specs.declared.tag.Tag.TheVariants as tag
use Rattle.sql_types.specs.declared.warning.Warning.TheVariants as warning
use Rattle.sql_ast.specs.declared.privilege.Privilege.{Privilege}
use Rattle.sql_ast.specs.declared.privilege.Grantee.{Grantee}
use Rattle.sql_ast.specs.declared.privilege.Grantee.TheVariants as grantee
use Rattle.sql_ast.specs.declared.privilege.Descriptor.{Descriptor}
use Rattle.sql_ast.specs.declared.statement.Privileges.{Privileges}
use Rattle.sql_ast.specs.declared.statement.Grant.{Grant}
use Rattle.sql_ast.specs.declared.statement.Revoke.{Revoke}
use Rattle.expressions.specs.Meaning.{UserNames}
use Rattle.expressions.specs.Stages.{◌>>=◌, require, each}
use Rattle.abstract_database.specs.Lists.{TheName, Among, found_or, drop_where, least}
use Rattle.abstract_database.specs.Database.{TableOf, Database}
use Rattle.abstract_database.specs.Roles.{is_in, is_superuser, acts_as_owner}
use Rattle.abstract_database.specs.Privileges.{is_for, reaches, role_of, grant_option_holders, acting_grantor, privileges_of, columns_named, leaves_out, has_some_privilege, granted_by, with_descriptors, takes, is_taken_by, revoked, without_option}
use Rattle.abstract_database.specs.Checks.{find_definition, found_column, require_roles, grantee_roles, is_public, checked_grant, checked_revoke}
use Rattle.abstract_database.specs.Statements.{Effect, warned, revoke}
use Rattle.abstract_database.proofs.ResultLemmas.{ok_inside, bind_ok, require_ok, Every, every_bind, every_ok}
use Rattle.abstract_database.proofs.ElementLemmas.{any_found, any_holds}
use Rattle.abstract_database.proofs.ListLemmas.{bytes_same}
use Rattle.abstract_database.proofs.ChainLemmas.{found_role, role_found}
use Rattle.database_laws.specs.Privileges.{IsUndoing}
use Rattle.database_laws.specs.Grants.{IsTaken, Grants, IsNamedByGrant, IsAfterGrant, was_there, is_given, is_raised, IsHeld, IsNewGrant}
use Rattle.database_laws.proofs.UndoLemmas.{with_set, named_none, taken_back, undone_set, warned_database}
use Rattle.database_laws.proofs.GrantorLemmas.{acts_told, taken_named}
use Rattle.database_laws.proofs.GrantLemmas.{now, taken_exactly, gives, nothing_taken}

-- ---- steps

step : {A B : Type 0} (r : Result A SqlState) (go : A → Result B SqlState) (a : A) (b : Result B SqlState) → r ≡ Ok a → go a ≡ b → (r >>= go) ≡ b
step r go a b e f = ap (λ x. x >>= go) e ∙ f

required : (t : Bool) (code : SqlState) → t ≡ true → require t code ≡ Ok tt
required t code e = ap (λ (b : Bool). require b code) e

-- ---- who holds an option

module _ (P : TheName → Bool) (table : TheName) (p : Privilege) where
  abbrev grantable_for : Descriptor → Bool
  grantable_for d = is_for table p d && d.grantable

  -- the roles that P says and that the descriptor makes holders
  abbrev holder_in : Descriptor → List TheName
  holder_in d = filter P (cond (grantable_for d) (role_of d.grantee) [])

  abbrev holders_in : List Descriptor → List TheName
  holders_in set = filter P (grant_option_holders set table p)

  holders_first : (d : Descriptor) (ds : List Descriptor) (b : Bool) → grantable_for d ≡ b → holders_in (d ∷ ds) ≡ holder_in d ++ holders_in ds
  holders_first d ds true e =
      ap (λ (b : Bool). filter P (flat_map (λ (x : Descriptor). role_of x.grantee) (cond b (d ∷ filter grantable_for ds) (filter grantable_for ds)))) e
      ∙ filter-append P (role_of d.grantee) (grant_option_holders ds table p)
      ∙ ap (λ (b : Bool). filter P (cond b (role_of d.grantee) []) ++ holders_in ds) (sym e)
  holders_first d ds false e =
      ap (λ (b : Bool). filter P (flat_map (λ (x : Descriptor). role_of x.grantee) (cond b (d ∷ filter grantable_for ds) (filter grantable_for ds)))) e
      ∙ ap (λ (b : Bool). filter P (cond b (role_of d.grantee) []) ++ holders_in ds) (sym e)

  without_infallible_at : (N : Descriptor → Bool) (d : Descriptor) (ds : List Descriptor) (b : Bool) → N d ≡ b → (b ≡ true → holder_in d ≡ []) → holders_in ds ≡ holders_in (drop_where N ds) →
      holders_in (d ∷ ds) ≡ holders_in (cond (not b) (d ∷ drop_where N ds) (drop_where N ds))
  without_infallible_at N d ds true e infallible go = holders_first d ds (grantable_for d) refl ∙ ap (λ l. l ++ holders_in ds) (infallible refl) ∙ go
  without_infallible_at N d ds false e infallible go = holders_first d ds (grantable_for d) refl ∙ ap (λ l. holder_in d ++ l) go ∙ sym (holders_first d (drop_where N ds) (grantable_for d) refl)

  -- descriptors that make no holder may go
  pub without_infallible : (N : Descriptor → Bool) (ds : List Descriptor) → ((d : Descriptor) → Among d ds → N d ≡ true → holder_in d ≡ []) → holders_in ds ≡ holders_in (drop_where N ds)
  without_infallible N [] h = refl
  without_infallible N (d ∷ ds) h = without_infallible_at N d ds (N d) refl (h d (inl refl)) (without_infallible N ds (λ x k. h x (inr k)))

  infallible_name : (name : TheName) → P name ≡ false → (b : Bool) → filter P (cond b (name ∷ []) []) ≡ []
  infallible_name name e true = ap (λ (b : Bool). cond {A = List TheName} b (name ∷ []) []) e
  infallible_name name e false = refl

  infallible_public : (b : Bool) → filter P (cond {A = List TheName} b [] []) ≡ []
  infallible_public true = refl
  infallible_public false = refl

  pub infallible_grantee : (g : Grantee) → ((name : TheName) → g ≡ grantee.Role name → P name ≡ false) → (b : Bool) → filter P (cond b (role_of g) []) ≡ []
  infallible_grantee grantee.Public h b = infallible_public b
  infallible_grantee (grantee.Role name) h b = infallible_name name (h name refl) b

  and_false : (b c : Bool) → c ≡ false → (b && c) ≡ false
  and_false true c e = e
  and_false false c e = refl

  pub infallible_plain : (d : Descriptor) → d.grantable ≡ false → holder_in d ≡ []
  infallible_plain d e = ap (λ (b : Bool). filter P (cond b (role_of d.grantee) [])) (and_false (is_for table p d) d.grantable e)

-- a test that is made within P finds the same in what P lets pass
any_within_at : (P f : TheName → Bool) → ((n : TheName) → f n ≡ true → P n ≡ true) → (n : TheName) (ns : List TheName) (b : Bool) → P n ≡ b → list_any f ns ≡ list_any f (filter P ns) →
    list_any f (n ∷ ns) ≡ list_any f (cond b (n ∷ filter P ns) (filter P ns))
any_within_at P f h n ns true e go = ap (λ (b : Bool). f n || b) go
any_within_at P f h n ns false e go =
    let none : f n ≡ false = false_from_ne_true (f n) (λ yes. let contrary : true ≡ false = sym (h n yes) ∙ e in cc) in
    ap (λ (b : Bool). b || list_any f ns) none ∙ go

any_within : (P f : TheName → Bool) → ((n : TheName) → f n ≡ true → P n ≡ true) → (ns : List TheName) → list_any f ns ≡ list_any f (filter P ns)
any_within P f h [] = refl
any_within P f h (n ∷ ns) = any_within_at P f h n ns (P n) refl (any_within P f h ns)

-- ---- the acting grantor stays

module _ (db : Database) (users : UserNames) (g : Grant) (t : TableOf) (e : Effect) (r : Revoke) (s : Grants db users g t e) (n : IsNewGrant db users g r t) (u : IsUndoing g r) where
  abbrev ds : List Descriptor
  ds = granted_by db users.current t (privileges_of t.layout g.privileges) g.grantees g.with_grant_option

  abbrev after : List Descriptor
  after = with_descriptors ds db.descriptors

  -- what the REVOKE would take before the GRANT
  abbrev Taken : Descriptor → Type 0
  Taken y = IsTaken db users.current t (privileges_of t.layout g.privileges) g.grantees y

  none_taken : (y : Descriptor) → Among y db.descriptors → Taken y → ⊥
  none_taken y h k =
      n.is_new y h
      (subst (λ p. IsTaken db users.current t (privileges_of t.layout p) r.grantees y) (sym u.privileges)
      (subst (λ to. IsTaken db users.current t (privileges_of t.layout g.privileges) to y) (sym u.grantees) k))

  others : (d y : Descriptor) → Among d ds → Among y db.descriptors → takes d y ≡ false
  others d y h k = false_from_ne_true (takes d y) (λ yes. none_taken y k (taken_exactly db users g t e s d y h k yes))

  abbrev mine : TheName → Bool
  mine = is_in db.memberships users.current

  -- a new descriptor makes no role a holder that this one is in
  given_infallible : acts_as_owner db users.current t.owner ≡ false → (p : Privilege) (d : Descriptor) → IsNamedByGrant db users g t d → d.grantable ≡ g.with_grant_option → (b : Bool) → g.with_grant_option ≡ b → holder_in mine t.name p d ≡ []
  given_infallible plain p d k o true on =
      infallible_grantee mine t.name p d.grantee
      (λ name is. false_from_ne_true (mine name) (λ yes.
      let acts = n.to_others on name (subst (λ x. Among x g.grantees) is k.to_grantee) (found_role db.memberships users.current name yes) in
      let contrary : true ≡ false = sym (acts_told db users.current t p t.owner acts) ∙ plain in cc))
      (grantable_for mine t.name p d)
  given_infallible plain p d k o false off = infallible_plain mine t.name p d (o ∙ off)

  after_infallible : acts_as_owner db users.current t.owner ≡ false → (p : Privilege) (y : Descriptor) → IsAfterGrant db (IsNamedByGrant db users g t) g.with_grant_option y → is_taken_by (map without_option ds) y ≡ true → holder_in mine t.name p y ≡ []
  after_infallible plain p y (was_there h) e =
      let contrary : true ≡ false = sym e ∙ named_none ds y (λ d k. others d y k h) in cc
  after_infallible plain p y (is_given k o) e = given_infallible plain p y k o g.with_grant_option refl
  after_infallible plain p y (is_raised old h k on is) e = absurd (none_taken old h (taken_named db users.current t (privileges_of t.layout g.privileges) g.grantees old k))

  holders_stay : acts_as_owner db users.current t.owner ≡ false → (p : Privilege) → holders_in mine t.name p after ≡ holders_in mine t.name p db.descriptors
  holders_stay plain p =
      without_infallible mine t.name p (is_taken_by (map without_option ds)) after (λ y h k. after_infallible plain p y (gives db users g t e s y h) k)
      ∙ ap (holders_in mine t.name p) (taken_back ds db.descriptors others)

  mine_itself : (x : TheName) → bytes_eq users.current x ≡ true → mine x ≡ true
  mine_itself x is = role_found db.memberships users.current x (inl (bytes_same users.current x is))

  own_stays : acts_as_owner db users.current t.owner ≡ false → (p : Privilege) →
      list_any (bytes_eq users.current) (grant_option_holders after t.name p) ≡ list_any (bytes_eq users.current) (grant_option_holders db.descriptors t.name p)
  own_stays plain p =
      any_within mine (bytes_eq users.current) mine_itself (grant_option_holders after t.name p)
      ∙ ap (list_any (bytes_eq users.current)) (holders_stay plain p)
      ∙ sym (any_within mine (bytes_eq users.current) mine_itself (grant_option_holders db.descriptors t.name p))

  abbrev chosen : Bool → Bool → List TheName → Option TheName
  chosen owner own holders = cond owner (Some t.owner) (cond own (Some users.current) (least holders))

  stays_at : (p : Privilege) (b : Bool) → acts_as_owner db users.current t.owner ≡ b →
      chosen b (list_any (bytes_eq users.current) (grant_option_holders after t.name p)) (holders_in mine t.name p after)
      ≡ chosen b (list_any (bytes_eq users.current) (grant_option_holders db.descriptors t.name p)) (holders_in mine t.name p db.descriptors)
  stays_at p true is = refl
  stays_at p false plain =
      ap (λ (b : Bool). chosen false b (holders_in mine t.name p after)) (own_stays plain p)
      ∙ ap (chosen false (list_any (bytes_eq users.current) (grant_option_holders db.descriptors t.name p))) (holders_stay plain p)

  grantor_stays : (p : Privilege) → acting_grantor e.database users.current t p ≡ acting_grantor db users.current t p
  grantor_stays p = ap (λ (x : Database). acting_grantor x users.current t p) (now db users g t e s) ∙ stays_at p (acts_as_owner db users.current t.owner) refl

  -- ---- the checks of the REVOKE

  record GrantChecks (table : TableOf) : Type 0 where
    found : find_definition db g.table ≡ Ok table
    roles : require_roles db (grantee_roles g.grantees) ≡ Ok tt
    columns : (l : List ℕ) × (each (found_column table.layout) (columns_named g.privileges) ≡ Ok l)
    privilege : has_some_privilege db users.current g.table ≡ true

  checks_of : Every GrantChecks (checked_grant db users g)
  checks_of =
      every_bind GrantChecks (find_definition db g.table) _ (λ table table-is.
      every_bind GrantChecks (require_roles db (grantee_roles g.grantees)) _ (λ named named-is.
      every_bind GrantChecks (each (found_column table.layout) (columns_named g.privileges)) _ (λ columns columns-is.
      every_bind GrantChecks (require (has_some_privilege db users.current g.table) InsufficientPrivilege) _ (λ allowed allowed-is.
      every_bind GrantChecks (require (not (g.with_grant_option && list_any is_public g.grantees)) InvalidGrantOperation) _ (λ not_public not_public-is.
      every_ok GrantChecks table (record {
        found = table-is;
        roles = named-is;
        columns = (columns, columns-is);
        privilege = require_ok (has_some_privilege db users.current g.table) InsufficientPrivilege allowed allowed-is;
      }))))))

  checks : GrantChecks t
  checks =
      let c = bind_ok (checked_grant db users g) _ e s.succeeds in
      let found = checks_of c.0 c.1 in
      subst GrantChecks (ok_inside c.0 t (sym found.found ∙ ap (found_or UndefinedTable) s.table_is)) found

  abbrev tests : TheName → Descriptor → Bool
  tests table d = bytes_eq d.table table && reaches db.memberships users.current d.grantee

  held_test : (table : TheName) (d : Descriptor) → IsHeld (with_set db after) d → tests table d ≡ true → list_any (tests table) after ≡ true
  held_test table d (inl h) k = any_holds (tests table) after d h k
  held_test table d (inr h) k = any_holds (tests table) after (record d { grantable = true }) h k

  some_still : (table : TheName) → has_some_privilege db users.current table ≡ true → has_some_privilege (with_set db after) users.current table ≡ true
  some_still table k = elim (or_cases (is_superuser db users.current) (list_any (tests table) db.descriptors) k) [
    | inl yes_it_is ↦ or_left (is_superuser db users.current) (list_any (tests table) after) yes_it_is
    | inr some ↦ let d = any_found (tests table) db.descriptors some in
        or_right (is_superuser db users.current) (list_any (tests table) after)
        (held_test table d.0 (subst (λ (x : Database). IsHeld x d.0) (now db users g t e s) ((nothing_taken db users g t e s).0 d.0 d.1)) d.2)
  ]

  -- ---- the REVOKE

  abbrev then_done : Effect
  then_done = warned tag.Revoke (leaves_out e.database users.current t r.privileges) warning.PrivilegeNotRevoked (record e.database { descriptors = db.descriptors })

  table_there : find_definition e.database r.table ≡ Ok t
  table_there =
      ap (λ (x : Database). find_definition x r.table) (now db users g t e s)
      ∙ ap (λ (name : TheName). find_definition db name) u.table
      ∙ ap (found_or UndefinedTable) s.table_is

  roles_there : require_roles e.database (grantee_roles r.grantees) ≡ Ok tt
  roles_there =
      ap (λ (x : Database). require_roles x (grantee_roles r.grantees)) (now db users g t e s)
      ∙ ap (λ (to : List Grantee). require_roles db (grantee_roles to)) u.grantees
      ∙ checks.roles

  columns_there : each (found_column t.layout) (columns_named r.privileges) ≡ Ok checks.columns.0
  columns_there = ap (λ (p : Privileges). each (found_column t.layout) (columns_named p)) u.privileges ∙ checks.columns.1

  privilege_there : has_some_privilege e.database users.current r.table ≡ true
  privilege_there =
      ap (λ (x : Database). has_some_privilege x users.current r.table) (now db users g t e s)
      ∙ ap (has_some_privilege (with_set db after) users.current) u.table
      ∙ some_still g.table checks.privilege

  set_back : revoked r.grant_option_for r.behavior (granted_by e.database users.current t (privileges_of t.layout r.privileges) r.grantees false) e.database.descriptors ≡ Ok db.descriptors
  set_back = undone_set db e.database users g r t u (now db users g t e s) (λ p k. grantor_stays p) others (λ y h. (s.whole.definitions.descriptors.descriptors y h).supported)

  checked_again : checked_revoke e.database users r ≡ Ok (record { table = t; descriptors = db.descriptors })
  checked_again =
      step (find_definition e.database r.table) _ t _ table_there
      (step (require_roles e.database (grantee_roles r.grantees)) _ tt _ roles_there
      (step (each (found_column t.layout) (columns_named r.privileges)) _ checks.columns.0 _ columns_there
      (step (require (has_some_privilege e.database users.current r.table) InsufficientPrivilege) _ tt _ (required (has_some_privilege e.database users.current r.table) InsufficientPrivilege privilege_there)
      (step (revoked r.grant_option_for r.behavior (granted_by e.database users.current t (privileges_of t.layout r.privileges) r.grantees false) e.database.descriptors) _ db.descriptors _ set_back refl))))

  succeeds_again : revoke e.database users r ≡ Ok then_done
  succeeds_again = step (checked_revoke e.database users r) _ (record { table = t; descriptors = db.descriptors }) _ checked_again refl

  leaves_the_old : then_done.database ≡ db
  leaves_the_old =
      warned_database tag.Revoke (leaves_out e.database users.current t r.privileges) warning.PrivilegeNotRevoked (record e.database { descriptors = db.descriptors })
      ∙ ap (λ (x : Database). with_set x db.descriptors) (now db users g t e s)

pub undoes : (db : Database) (users : UserNames) (g : Grant) (t : TableOf) (after : Effect) (r : Revoke) → Grants db users g t after → IsNewGrant db users g r t → IsUndoing g r →
    (end : Effect) × (revoke after.database users r ≡ Ok end) × (end.database ≡ db)
undoes db users g t e r s n u = (then_done db users g t e r s n u, succeeds_again db users g t e r s n u, leaves_the_old db users g t e r s n u)
