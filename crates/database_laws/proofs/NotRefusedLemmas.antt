-- Checks that refuse no statement for want of a privilege, where its role may issue it.
use Rattle.std.proofs.Common.{◌≡◌, ℕ, ◌&&◌, position, Bool, true, false, not, cond, List, [], ◌∷◌, bytes_eq, Result, Ok, Err, Option, Some, None, refl, sym, ap, ◌∙◌, inl, inr}
use Rattle.std.specs.List.{list_any, list_all}
use Rattle.std.proofs.lemmas.Bool.{or_left, or_right, and_from, false_from_ne_true}
use Rattle.sql_types.specs.declared.state.SqlState.{SqlState}
use Rattle.sql_types.specs.declared.state.SqlState.TheVariants.{DuplicateObject, DuplicateTable, DuplicateColumn, UndefinedObject, UndefinedTable, UndefinedColumn, DatatypeMismatch, InsufficientPrivilege, InvalidGrantOperation, DependentObjects, ProgramLimitExceeded}
use Rattle.sql_ast.specs.declared.columns.ColumnType.{ColumnType}
use Rattle.sql_ast.specs.declared.expression.ColumnName.{ColumnName}
use Rattle.sql_ast.specs.declared.scope.ColumnIndex.{ColumnIndex}
use Rattle.sql_ast.specs.Layout.{Layout}
use Rattle.sql_ast.specs.Scope.{Table as ScopeTable, found_in, found_from, only_index, type_at}
use Rattle.sql_ast.specs.Term.{Term, literal, column, current_user, session_user, comparison, operation, minus, conjunction, disjunction, negation, null_test, not_null_test, member_test}
use Rattle.sql_ast.specs.declared.role.Membership.{Membership}
use Rattle.sql_ast.specs.declared.privilege.Descriptor.{Descriptor}
use Rattle.expressions.specs.Meaning.{UserNames}
use Rattle.expressions.specs.Names.{resolved}
use Rattle.expressions.specs.Types.{ValueType, type_of, typed_if, names_then_types}
use Rattle.expressions.specs.Parts.{Part, is_expected, check_type}
use Rattle.expressions.specs.Stages.{◌>>=◌, require, each}
use Rattle.abstract_database.specs.Lists.{TheName, Among, found_or, put}
use Rattle.abstract_database.specs.Database.{TableOf, Database, has_role, definition_named, membership_cmp}
use Rattle.abstract_database.specs.Roles.{IsSuperuser, is_in, is_superuser, acts_as_owner, administers, may_grant_role, raised, with_memberships}
use Rattle.abstract_database.specs.Privileges.{by_superuser, by_descriptor, reaches, is_column_named, has_some_privilege, held_or_refused}
use Rattle.abstract_database.specs.Checks.{find_definition, found_column, require_roles, require_owner, require_superuser}
use Rattle.abstract_database.proofs.ElementLemmas.{any_holds}
use Rattle.abstract_database.proofs.ListLemmas.{same_bytes}
use Rattle.abstract_database.proofs.ChainLemmas.{role_found}
use Rattle.database_laws.specs.Rights.{ActsAs, ActsAsOwnerOf, HasAdminOption, MayGrantRole, HasSomePrivilege}
use Rattle.database_laws.proofs.HoldingLemmas.{reaching}
use Rattle.database_laws.proofs.RightLemmas.{a_superuser, superuser_told, defined_as}

-- ---- steps that are not refused so

-- this is not refused for want of a privilege
abbrev pub Spares : {A : Type 0} → Result A SqlState → Type 0
Spares r = r ≡ Err InsufficientPrivilege → ⊥

code_inside : {B : Type 0} (a b : SqlState) → ◌≡◌ {A = Result B SqlState} (Err a) (Err b) → a ≡ b
code_inside a b e = cc

module _ {A : Type 0} where
  pub spares_ok : (a : A) → Spares (Ok a)
  spares_ok a e = cc

  pub spares_bind : {B : Type 0} (r : Result A SqlState) (go : A → Result B SqlState) → Spares r → ((a : A) → r ≡ Ok a → Spares (go a)) → Spares (r >>= go)
  spares_bind (Ok a) go s h = h a refl
  spares_bind (Err code) go s h = λ e. s (ap (λ (c : SqlState). Err c) (code_inside code InsufficientPrivilege e))

  spares_found : (o : Option A) → Spares (found_or UndefinedTable o)
  spares_found None e = cc
  spares_found (Some x) e = cc

spares_column : (o : Option ℕ) → Spares (found_or UndefinedColumn o)
spares_column None e = cc
spares_column (Some i) e = cc

spares_true : (t : Bool) → t ≡ true → Spares (require t InsufficientPrivilege)
spares_true true h e = cc
spares_true false h e = cc

abbrev pub IsOther : SqlState → Type 0
IsOther code = code ≡ InsufficientPrivilege → ⊥

pub spares_other : (t : Bool) (code : SqlState) → IsOther code → Spares (require t code)
spares_other true code o e = cc
spares_other false code o e = o (code_inside code InsufficientPrivilege e)

pub spares_each : {A B : Type 0} (f : A → Result B SqlState) → ((a : A) → Spares (f a)) → (xs : List A) → Spares (each f xs)
spares_each f h [] = spares_ok []
spares_each f h (x ∷ xs) = spares_bind (f x) _ (h x) (λ y is. spares_bind (each f xs) _ (spares_each f h xs) (λ ys at. spares_ok (y ∷ ys)))

pub spares_columns : (layout : Layout) (names : List TheName) → Spares (each (found_column layout) names)
spares_columns layout names = spares_each (found_column layout) (λ name. spares_column (position (is_column_named name) layout.columns)) names

-- ---- expressions

spares_index : (l : List ColumnIndex) → Spares (only_index l)
spares_index [] e = cc
spares_index (p ∷ []) e = cc
spares_index (p ∷ q ∷ rest) e = cc

spares_both : {S T : Type 0} (a b : Result S SqlState) (go : S → S → Result T SqlState) → Spares a → Spares b → ((x y : S) → Spares (go x y)) → Spares (a >>= λ x. b >>= λ y. go x y)
spares_both a b go s t h = spares_bind a _ s (λ x is. spares_bind b _ t (λ y at. h x y))

pub spares_names : (tables : List ScopeTable) (e : Term ColumnName) → Spares (resolved tables e)
spares_names tables (literal v) = spares_ok (literal v)
spares_names tables (column name) = spares_bind (found_in tables name) _ (spares_index (found_from 0 tables name)) (λ i is. spares_ok (column i))
spares_names tables current_user = spares_ok current_user
spares_names tables session_user = spares_ok session_user
spares_names tables (comparison op a b) = spares_both (resolved tables a) (resolved tables b) _ (spares_names tables a) (spares_names tables b) (λ x y. spares_ok (comparison op x y))
spares_names tables (operation op a b) = spares_both (resolved tables a) (resolved tables b) _ (spares_names tables a) (spares_names tables b) (λ x y. spares_ok (operation op x y))
spares_names tables (minus a) = spares_bind (resolved tables a) _ (spares_names tables a) (λ x is. spares_ok (minus x))
spares_names tables (conjunction a b) = spares_both (resolved tables a) (resolved tables b) _ (spares_names tables a) (spares_names tables b) (λ x y. spares_ok (conjunction x y))
spares_names tables (disjunction a b) = spares_both (resolved tables a) (resolved tables b) _ (spares_names tables a) (spares_names tables b) (λ x y. spares_ok (disjunction x y))
spares_names tables (negation a) = spares_bind (resolved tables a) _ (spares_names tables a) (λ x is. spares_ok (negation x))
spares_names tables (null_test a) = spares_bind (resolved tables a) _ (spares_names tables a) (λ x is. spares_ok (null_test x))
spares_names tables (not_null_test a) = spares_bind (resolved tables a) _ (spares_names tables a) (λ x is. spares_ok (not_null_test x))
spares_names tables (member_test a) = spares_bind (resolved tables a) _ (spares_names tables a) (λ x is. spares_ok (member_test x))

spares_fitting : (b : Bool) (t : ColumnType) → Spares (typed_if b t)
spares_fitting true t e = cc
spares_fitting false t e = cc

module _ (of_column : ColumnIndex → ValueType) where
  spares_types : (e : Term ColumnIndex) → Spares (type_of of_column e)
  spares_types (literal v) = spares_ok _
  spares_types (column c) = spares_ok _
  spares_types current_user = spares_ok _
  spares_types session_user = spares_ok _
  spares_types (comparison op a b) = spares_both (type_of of_column a) (type_of of_column b) _ (spares_types a) (spares_types b) (λ t u. spares_fitting _ _)
  spares_types (operation op a b) = spares_both (type_of of_column a) (type_of of_column b) _ (spares_types a) (spares_types b) (λ t u. spares_fitting _ _)
  spares_types (minus a) = spares_bind (type_of of_column a) _ (spares_types a) (λ t is. spares_fitting _ _)
  spares_types (conjunction a b) = spares_both (type_of of_column a) (type_of of_column b) _ (spares_types a) (spares_types b) (λ t u. spares_fitting _ _)
  spares_types (disjunction a b) = spares_both (type_of of_column a) (type_of of_column b) _ (spares_types a) (spares_types b) (λ t u. spares_fitting _ _)
  spares_types (negation a) = spares_bind (type_of of_column a) _ (spares_types a) (λ t is. spares_fitting _ _)
  spares_types (null_test a) = spares_bind (type_of of_column a) _ (spares_types a) (λ t is. spares_ok _)
  spares_types (not_null_test a) = spares_bind (type_of of_column a) _ (spares_types a) (λ t is. spares_ok _)
  spares_types (member_test a) = spares_bind (type_of of_column a) _ (spares_types a) (λ t is. spares_fitting _ _)

mismatch : IsOther DatatypeMismatch
mismatch e = cc

pub spares_part : (p : Part) → Spares (check_type p)
spares_part p =
    spares_bind (names_then_types p.scope p.term) _
    (spares_bind (resolved p.scope p.term) _ (spares_names p.scope p.term) (λ t is. spares_bind (type_of (type_at p.scope) t) _ (spares_types (type_at p.scope) t) (λ u at. spares_ok (record { term = t; value_type = u }))))
    (λ u is. spares_other (is_expected p.expected u.value_type) DatatypeMismatch mismatch)

-- ---- the tests of who may

module _ (db : Database) (role : TheName) where
  owner_told : (t : TableOf) → ActsAs db role t.owner → acts_as_owner db role t.owner ≡ true
  owner_told t (inl s) = or_left (is_superuser db role) (is_in db.memberships role t.owner) (superuser_told db role role s)
  owner_told t (inr i) = or_right (is_superuser db role) (is_in db.memberships role t.owner) (role_found db.memberships role t.owner i)

  administers_told : (granted : TheName) → HasAdminOption db role granted → administers db role granted ≡ true
  administers_told granted (m, h, is, admin, within) =
      any_holds (λ (x : Membership). bytes_eq x.role granted && x.admin && is_in db.memberships role x.member) db.memberships m h
      (and_from (bytes_eq m.role granted && m.admin) (is_in db.memberships role m.member) (and_from (bytes_eq m.role granted) m.admin (same_bytes m.role granted is) admin) (role_found db.memberships role m.member within))

  grants_told : (granted : TheName) → MayGrantRole db role granted → may_grant_role db role granted ≡ true
  grants_told granted (inl s) = or_left (is_superuser db role) (not (is_superuser db granted) && administers db role granted) (superuser_told db role role s)
  grants_told granted (inr (none, option)) =
      or_right (is_superuser db role) (not (is_superuser db granted) && administers db role granted)
      (and_from (not (is_superuser db granted)) (administers db role granted)
      (ap not (false_from_ne_true (is_superuser db granted) (λ s. none (a_superuser db role granted s))))
      (administers_told granted option))

  all_told : (roles : List TheName) → ((granted : TheName) → Among granted roles → MayGrantRole db role granted) → list_all (may_grant_role db role) roles ≡ true
  all_told [] h = refl
  all_told (r ∷ rs) h = and_from (may_grant_role db role r) (list_all (may_grant_role db role) rs) (grants_told r (h r (inl refl))) (all_told rs (λ x k. h x (inr k)))

  abbrev tests : TheName → Descriptor → Bool
  tests table d = bytes_eq d.table table && reaches db.memberships role d.grantee

  privilege_told : (table : TheName) → HasSomePrivilege db role table → has_some_privilege db role table ≡ true
  privilege_told table (p, by_superuser s) = or_left (is_superuser db role) (list_any (tests table) db.descriptors) (superuser_told db role role s)
  privilege_told table (p, by_descriptor d h is to) =
      or_right (is_superuser db role) (list_any (tests table) db.descriptors)
      (any_holds (tests table) db.descriptors d h
      (and_from (bytes_eq d.table table) (reaches db.memberships role d.grantee) (same_bytes d.table table is.table) (reaching db.memberships role d.grantee to)))

some_inside : (a b : TableOf) → Some a ≡ Some b → a ≡ b
some_inside a b e = cc

spares_cycle : (b : Bool) (r : Result (List Membership) SqlState) → Spares r → Spares (cond b (Err InvalidGrantOperation) r)
spares_cycle true r s e = cc
spares_cycle false r s e = s e

pub spares_memberships : (ms memberships : List Membership) → Spares (with_memberships ms memberships)
spares_memberships [] memberships = spares_ok memberships
spares_memberships (m ∷ ms) memberships = spares_cycle (is_in memberships m.role m.member) (with_memberships ms (put membership_cmp raised m memberships)) (spares_memberships ms (put membership_cmp raised m memberships))

pub spares_revoked : (cascade : Bool) (set lost : List Descriptor) → Spares (held_or_refused cascade set lost)
spares_revoked true set lost e = cc
spares_revoked false set [] e = cc
spares_revoked false set (d ∷ ds) e = cc

-- ---- the codes of other checks

pub duplicate : IsOther DuplicateObject
duplicate e = cc

pub undefined : IsOther UndefinedObject
undefined e = cc

pub in_use : IsOther DependentObjects
in_use e = cc

pub limited : IsOther ProgramLimitExceeded
limited e = cc

pub invalid : IsOther InvalidGrantOperation
invalid e = cc

pub doubled : IsOther DuplicateColumn
doubled e = cc

pub lost_column : IsOther UndefinedColumn
lost_column e = cc

pub there_already : IsOther DuplicateTable
there_already e = cc

module _ (db : Database) (users : UserNames) where
  pub spares_superuser : IsSuperuser db users.current → Spares (require_superuser db users)
  spares_superuser s = spares_true (is_superuser db users.current) (superuser_told db users.current users.current s)

  pub spares_roles : (names : List TheName) → Spares (require_roles db names)
  spares_roles names = spares_other (list_all (has_role db) names) UndefinedObject undefined

  pub spares_table : (name : TheName) → Spares (find_definition db name)
  spares_table name = spares_found (definition_named db name)

  pub spares_owner : (name : TheName) → ActsAsOwnerOf db users.current name → (t : TableOf) → find_definition db name ≡ Ok t → Spares (require_owner db users t)
  spares_owner name (o, at, acts) t is =
      let same : o ≡ t = some_inside o t (sym at ∙ defined_as UndefinedTable (definition_named db name) t is) in
      spares_true (acts_as_owner db users.current t.owner) (ap (λ (x : TableOf). acts_as_owner db users.current x.owner) (sym same) ∙ owner_told db users.current o acts)

  pub spares_grants : (roles : List TheName) → ((granted : TheName) → Among granted roles → MayGrantRole db users.current granted) → Spares (require (list_all (may_grant_role db users.current) roles) InsufficientPrivilege)
  spares_grants roles h = spares_true (list_all (may_grant_role db users.current) roles) (all_told db users.current roles h)

  pub spares_some : (table : TheName) → HasSomePrivilege db users.current table → Spares (require (has_some_privilege db users.current table) InsufficientPrivilege)
  spares_some table h = spares_true (has_some_privilege db users.current table) (privilege_told db users.current table h)
