-- What REVOKE takes.
use Rattle.std.proofs.Common.{◌≡◌, ◌↔◌, ◌⊎◌, ℕ, position, inl, inr, Bool, true, false, cond, List, [], ◌∷◌, Ok, refl, sym, ap, ◌∙◌, subst, Result, Option, Err, Some, None}
use Rattle.std.proofs.lemmas.Bool.{and_from}
use Rattle.sql_ast.specs.Layout.{Layout}
use Rattle.sql_ast.specs.declared.privilege.Privilege.{Privilege}
use Rattle.sql_ast.specs.declared.privilege.Grantor.TheVariants as grantor
use Rattle.sql_ast.specs.declared.privilege.Grantee.{Grantee}
use Rattle.sql_ast.specs.declared.privilege.Descriptor.{Descriptor}
use Rattle.sql_ast.specs.declared.statement.Revoke.{Revoke}
use Rattle.sql_types.specs.declared.tag.Tag.TheVariants as tag
use Rattle.sql_types.specs.declared.warning.Warning.TheVariants as warning
use Rattle.sql_types.specs.declared.state.SqlState.{SqlState}
use Rattle.sql_types.specs.declared.state.SqlState.TheVariants.{UndefinedTable, UndefinedObject, UndefinedColumn, InsufficientPrivilege, DependentPrivileges}
use Rattle.expressions.specs.Meaning.{UserNames}
use Rattle.expressions.specs.Stages.{◌>>=◌, require, each}
use Rattle.abstract_database.specs.Lists.{TheName, Among, found_or}
use Rattle.abstract_database.specs.Chains.{IsLedTo, by_start, by_step}
use Rattle.abstract_database.specs.Database.{TableOf, Table, Database, definition_named}
use Rattle.abstract_database.specs.Privileges.{IsSupported, is_supported, is_column_named, columns_named, privileges_of, leaves_out, granted_by, same_key, covers, takes, is_taken_by, without_named, abandoned, held, held_or_refused, is_cascade, has_some_privilege, revoked, without_option}
use Rattle.abstract_database.specs.Statements.{Effect, revoke}
use Rattle.abstract_database.specs.Checks.{find_definition, found_column, require_roles, grantee_roles, CheckedRevoke, checked_revoke}
use Rattle.abstract_database.specs.Whole.{Each, IsRoleOf, IsWhole}
use Rattle.abstract_database.proofs.ResultLemmas.{ok_inside, bind_ok, Every, every_bind, every_ok}
use Rattle.abstract_database.proofs.ElementLemmas.{any_found, any_holds, of_filter, into_filter}
use Rattle.abstract_database.proofs.ChainLemmas.{found_support, support_found}
use Rattle.database_laws.specs.Grants.{IsTaken, Revokes, Remains, is_unnamed, loses_option, RemainsAfter}
use Rattle.database_laws.proofs.PrivilegeLemmas.{refused_by, descriptor_itself, revoked_leaves, left_supported}
use Rattle.database_laws.proofs.UndoLemmas.{warned_database}
use Rattle.database_laws.proofs.WholeLists.{of_drop, into_drop, of_change_where, into_change_where}
use Rattle.database_laws.proofs.WholeRoles.{roles_required}
use Rattle.database_laws.proofs.WholePrivileges.{IsFound, table_found}
use Rattle.database_laws.proofs.GrantorLemmas.{named_from, named_into, taken_alike}
use Rattle.database_laws.proofs.WholeSets.{descriptors_same}

-- ---- what remains

module _ (db : Database) (w : IsWhole db) (role : TheName) (t : Table) (at : Among t db.tables) (privileges : List Privilege) (grantees : List Grantee) (known : Each (IsRoleOf db.roles) (grantee_roles grantees)) where
  abbrev Named : Descriptor → Type 0
  Named d = IsTaken db role t.definition privileges grantees d

  abbrev names : List Descriptor
  names = granted_by db role t.definition privileges grantees false

  named_there : (y : Descriptor) → Among y db.descriptors → is_taken_by names y ≡ true → Named y
  named_there y h e =
      let found = any_found (λ n. takes n y) names e in
      taken_alike db w role t at privileges grantees known found.0 y (named_from db role t.definition privileges grantees false found.0 found.1).0 h found.2

  there_named : (y : Descriptor) → Named y → is_taken_by names y ≡ true
  there_named y k =
      let name : Descriptor = record { grantor = grantor.Role k.by; grantee = y.grantee; table = t.definition.name; action = k.privilege.action; column = k.privilege.column; grantable = false } in
      let same : record name { column = y.column } ≡ without_option y =
      descriptors_same (without_option y) (record name { column = y.column }) (record { table = sym k.for_table; action = k.action; column = refl; grantor = sym k.by_grantor; grantee = refl }) refl in
      any_holds (λ n. takes n y) names name
      (named_into db role t.definition privileges grantees false name (record { for_table = refl; for_privilege = k.named; to_grantee = k.to_grantee; by = k.by; acting = k.acting; by_grantor = refl }) refl)
      (and_from (same_key (record name { column = y.column }) y) (covers k.privilege.column y.column) (ap (λ (x : Descriptor). same_key x y) same ∙ descriptor_itself y) k.covered)

  not_named : (y : Descriptor) → is_taken_by names y ≡ false → Named y → ⊥
  not_named y e k = let contrary : true ≡ false = sym (there_named y k) ∙ e in cc

  named_false : (y : Descriptor) → (Named y → ⊥) → Among y db.descriptors → (b : Bool) → is_taken_by names y ≡ b → b ≡ false
  named_false y none h true e = absurd (none (named_there y h e))
  named_false y none h false e = refl

  changed_remains : (z d : Descriptor) → Among z db.descriptors → (b : Bool) → is_taken_by names z ≡ b → cond b (without_option z) z ≡ d → Remains db Named true d
  changed_remains z d h true e is = loses_option z refl h (named_there z h e) (sym is)
  changed_remains z d h false e is = subst (Remains db Named true) is (is_unnamed h (not_named z e))

  remains_of : (option_for : Bool) (d : Descriptor) → Among d (without_named option_for names db.descriptors) → Remains db Named option_for d
  remains_of false d h = let k = of_drop (is_taken_by names) db.descriptors d h in is_unnamed k.0 (not_named d k.1)
  remains_of true d h = let k = of_change_where (is_taken_by names) without_option db.descriptors d h in changed_remains k.0 d k.1 (is_taken_by names k.0) refl k.2

  unnamed_stays : (option_for : Bool) (d : Descriptor) → Among d db.descriptors → (Named d → ⊥) → Among d (without_named option_for names db.descriptors)
  unnamed_stays false d h none = into_drop (is_taken_by names) db.descriptors d h (named_false d none h (is_taken_by names d) refl)
  unnamed_stays true d h none =
      subst (λ x. Among x (without_named true names db.descriptors)) (ap (λ (b : Bool). cond b (without_option d) d) (named_false d none h (is_taken_by names d) refl))
      (into_change_where (is_taken_by names) without_option db.descriptors d h)

  of_remains : (option_for : Bool) (d : Descriptor) → Remains db Named option_for d → Among d (without_named option_for names db.descriptors)
  of_remains option_for d (is_unnamed h none) = unnamed_stays option_for d h none
  of_remains true d (loses_option old on h k is) =
      subst (λ x. Among x (without_named true names db.descriptors)) (ap (λ (b : Bool). cond b (without_option old) old) (there_named old k) ∙ sym is)
      (into_change_where (is_taken_by names) without_option db.descriptors old h)
  of_remains false d (loses_option old on h k is) = cc

  pub remaining : (option_for : Bool) (d : Descriptor) → Among d (without_named option_for names db.descriptors) ↔ Remains db Named option_for d
  remaining option_for d = (remains_of option_for d, of_remains option_for d)

-- ---- RESTRICT and CASCADE

restrict_by : (S lost after : List Descriptor) → held_or_refused false S lost ≡ Ok after → S ≡ after
restrict_by S [] after e = ok_inside S after e
restrict_by S (d ∷ ds) after e = cc

restrict_leaves : (option : Bool) (cascade : Bool) (S after : List Descriptor) → cascade ≡ false → held_or_refused cascade S (abandoned S) ≡ Ok after → S ≡ after
restrict_leaves option cascade S after c e = restrict_by S (abandoned S) after (ap (λ (b : Bool). held_or_refused b S (abandoned S)) (sym c) ∙ e)

cascade_leaves : (cascade : Bool) (S after : List Descriptor) → cascade ≡ true → held_or_refused cascade S (abandoned S) ≡ Ok after → held S ≡ after
cascade_leaves cascade S after c e = ok_inside (held S) after (ap (λ (b : Bool). held_or_refused b S (abandoned S)) (sym c) ∙ e)

-- a chain within one list is one within another that has its elements
chain_within : {X : Type 0} (is_start : X → Bool) (is_step : X → X → Bool) (S T : List X) → ((x : X) → Among x S → Among x T) → (x : X) → IsLedTo is_start is_step S x → IsLedTo is_start is_step T x
chain_within is_start is_step S T f x (by_start y h e) = by_start x (f x h) e
chain_within is_start is_step S T f x (by_step p y c h e) = by_step p x (chain_within is_start is_step S T f p c) (f x h) e

-- ---- the statement

record RevokeFacts (db : Database) (users : UserNames) (r : Revoke) (c : CheckedRevoke) : Type 0 where
  of : find_definition db r.table ≡ Ok c.table
  known : Each (IsRoleOf db.roles) (grantee_roles r.grantees)
  left : revoked r.grant_option_for r.behavior (granted_by db users.current c.table (privileges_of c.table.layout r.privileges) r.grantees false) db.descriptors ≡ Ok c.descriptors

revoke_facts : (db : Database) (users : UserNames) (r : Revoke) → Every (RevokeFacts db users r) (checked_revoke db users r)
revoke_facts db users r =
    let P = RevokeFacts db users r in
    every_bind P (find_definition db r.table) _ (λ table table-is.
    every_bind P (require_roles db (grantee_roles r.grantees)) _ (λ named named-is.
    every_bind P (each (found_column table.layout) (columns_named r.privileges)) _ (λ columns columns-is.
    every_bind P (require (has_some_privilege db users.current r.table) InsufficientPrivilege) _ (λ allowed allowed-is.
    every_bind P (revoked r.grant_option_for r.behavior (granted_by db users.current table (privileges_of table.layout r.privileges) r.grantees false) db.descriptors) _ (λ left left-is.
    every_ok P (record { table = table; descriptors = left }) (record { of = table-is; known = roles_required db (grantee_roles r.grantees) named named-is; left = left-is }))))))

module _ (db : Database) (users : UserNames) (r : Revoke) (t : TableOf) (e : Effect) (s : Revokes db users r t e) where
  abbrev names_by : TableOf → List Descriptor
  names_by x = granted_by db users.current x (privileges_of x.layout r.privileges) r.grantees false

  abbrev rest_by : TableOf → List Descriptor
  rest_by x = without_named r.grant_option_for (names_by x) db.descriptors

  checked : (c : CheckedRevoke) × RevokeFacts db users r c × (e.database ≡ record db { descriptors = c.descriptors })
  checked =
      let c = bind_ok (checked_revoke db users r) _ e s.succeeds in (
        c.0,
        revoke_facts db users r c.0 c.1,
        ap (λ (x : Effect). x.database) (sym (ok_inside _ e c.2)) ∙ warned_database tag.Revoke (leaves_out db users.current c.0.table r.privileges) warning.PrivilegeNotRevoked (record db { descriptors = c.0.descriptors }),
      )

  same_table : checked.0.table ≡ t
  same_table = ok_inside checked.0.table t (sym checked.1.of ∙ ap (found_or UndefinedTable) s.table_is)

  now : e.database ≡ record db { descriptors = checked.0.descriptors }
  now = checked.2

  left : revoked r.grant_option_for r.behavior (names_by t) db.descriptors ≡ Ok checked.0.descriptors
  left = ap (λ (x : TableOf). revoked r.grant_option_for r.behavior (names_by x) db.descriptors) (sym same_table) ∙ checked.1.left

  found : IsFound db r.table t
  found = table_found db r.table t (ap (found_or UndefinedTable) s.table_is)

  abbrev RemainsBy : TableOf → Type 0
  RemainsBy x = (d : Descriptor) → Among d (rest_by x) ↔ Remains db (IsTaken db users.current x (privileges_of x.layout r.privileges) r.grantees) r.grant_option_for d

  rest_remains : RemainsBy t
  rest_remains = subst RemainsBy found.is (remaining db s.whole users.current found.table found.there (privileges_of found.table.definition.layout r.privileges) r.grantees checked.1.known r.grant_option_for)

  after_of : (d : Descriptor) (S : List Descriptor) → S ≡ checked.0.descriptors → Among d e.database.descriptors ↔ Among d S
  after_of d S is = (
    λ h. subst (λ l. Among d l) (sym is) (subst (λ (x : Database). Among d x.descriptors) now h),
    λ h. subst (λ (x : Database). Among d x.descriptors) (sym now) (subst (λ l. Among d l) is h),
  )

  pub restricted : is_cascade r.behavior ≡ false → (d : Descriptor) → Among d e.database.descriptors ↔ RemainsAfter db users r t d
  restricted c d =
      let same = restrict_leaves r.grant_option_for (is_cascade r.behavior) (rest_by t) checked.0.descriptors c left in
      let there = after_of d (rest_by t) same in
      let rest = rest_remains d in
      (λ h. rest.0 (there.0 h), λ k. there.1 (rest.1 k))

  pub cascaded : is_cascade r.behavior ≡ true → (rest : List Descriptor) → ((d : Descriptor) → Among d rest ↔ RemainsAfter db users r t d) →
      (d : Descriptor) → Among d e.database.descriptors ↔ (Among d rest × IsSupported rest d)
  cascaded c rest f d =
      let same = cascade_leaves (is_cascade r.behavior) (rest_by t) checked.0.descriptors c left in
      let there = after_of d (held (rest_by t)) same in
      let to : (x : Descriptor) → Among x (rest_by t) → Among x rest = λ x h. (f x).1 ((rest_remains x).0 h) in
      let from : (x : Descriptor) → Among x rest → Among x (rest_by t) = λ x h. (rest_remains x).1 ((f x).0 h) in (
        λ h. let k = of_filter (is_supported (rest_by t)) (rest_by t) d (there.0 h) in
            (to d k.0, chain_within _ _ (rest_by t) rest to d (found_support (rest_by t) d k.0 k.1)),
        λ k. there.1 (into_filter (is_supported (rest_by t)) (rest_by t) d (from d k.0) (support_found (rest_by t) d (chain_within _ _ rest (rest_by t) from d k.1))),
      )

  pub left_support : ((d : Descriptor) → Among d e.database.descriptors → IsSupported e.database.descriptors d) × (e.database ≡ record db { descriptors = e.database.descriptors })
  left_support = (
    λ d h.
        let leaves = revoked_leaves r.grant_option_for r.behavior (names_by t) db.descriptors checked.0.descriptors left in
        subst (λ (x : Database). IsSupported x.descriptors d) (sym now) (left_supported (rest_by t) checked.0.descriptors leaves d (subst (λ (x : Database). Among d x.descriptors) now h)),
    now ∙ ap (λ (x : Database). record db { descriptors = x.descriptors }) (sym now),
  )

-- ---- a REVOKE that is refused

code_same : {A : Type 0} (a b : SqlState) → ◌≡◌ {A = Result A SqlState} (Err a) (Err b) → a ≡ b
code_same a b e = cc

ok_no_err : {A : Type 0} (a : A) (code : SqlState) → ◌≡◌ {A = Result A SqlState} (Ok a) (Err code) → ⊥
ok_no_err a code e = cc

bind_err : {A B : Type 0} (r : Result A SqlState) (go : A → Result B SqlState) (code : SqlState) → (r >>= go) ≡ Err code → (r ≡ Err code) ⊎ ((a : A) × (r ≡ Ok a) × (go a ≡ Err code))
bind_err (Ok a) go code e = inr (a, refl, e)
bind_err (Err c) go code e = inl (ap (λ (x : SqlState). Err x) (code_same c code e))

-- refused for dependents, after a step that is not refused so
after_step : {A B : Type 0} (r : Result A SqlState) (go : A → Result B SqlState) → (r ≡ Err DependentPrivileges → ⊥) → (r >>= go) ≡ Err DependentPrivileges → (a : A) × (r ≡ Ok a) × (go a ≡ Err DependentPrivileges)
after_step r go h e = elim (bind_err r go DependentPrivileges e) [ inl f ↦ absurd (h f) | inr k ↦ k ]

not_found : {A : Type 0} (o : Option A) → found_or UndefinedTable o ≡ Err DependentPrivileges → ⊥
not_found None e = cc
not_found (Some x) e = cc

not_required : (t : Bool) (code : SqlState) → (code ≡ DependentPrivileges → ⊥) → require t code ≡ Err DependentPrivileges → ⊥
not_required true code h e = cc
not_required false code h e = h (code_same code DependentPrivileges e)

not_column : (o : Option ℕ) → found_or UndefinedColumn o ≡ Err DependentPrivileges → ⊥
not_column None e = cc
not_column (Some i) e = cc

not_columns : (layout : Layout) (names : List TheName) → each (found_column layout) names ≡ Err DependentPrivileges → ⊥
not_columns layout [] e = cc
not_columns layout (n ∷ ns) e =
    let first = after_step (found_column layout n) _ (not_column (position (is_column_named n) layout.columns)) e in
    let rest = after_step (each (found_column layout) ns) _ (not_columns layout ns) first.2 in
    ok_no_err _ DependentPrivileges rest.2

other_object : UndefinedObject ≡ DependentPrivileges → ⊥
other_object e = cc

other_privilege : InsufficientPrivilege ≡ DependentPrivileges → ⊥
other_privilege e = cc

module _ (db : Database) (users : UserNames) (r : Revoke) (t : TableOf) (w : IsWhole db) (at : definition_named db r.table ≡ Some t) (e : revoke db users r ≡ Err DependentPrivileges) where
  abbrev names_of : TableOf → List Descriptor
  names_of x = granted_by db users.current x (privileges_of x.layout r.privileges) r.grantees false

  abbrev rest_of : TableOf → List Descriptor
  rest_of x = without_named r.grant_option_for (names_of x) db.descriptors

  checks_refused : checked_revoke db users r ≡ Err DependentPrivileges
  checks_refused = elim (bind_err (checked_revoke db users r) _ DependentPrivileges e) [ inl f ↦ f | inr k ↦ absurd (ok_no_err _ DependentPrivileges k.2) ]

  record IsRefused : Type 0 where
    known : Each (IsRoleOf db.roles) (grantee_roles r.grantees)
    set : revoked r.grant_option_for r.behavior (names_of t) db.descriptors ≡ Err DependentPrivileges

  refused_at : IsRefused
  refused_at =
      let table = after_step (find_definition db r.table) _ (not_found (definition_named db r.table)) checks_refused in
      let roles = after_step (require_roles db (grantee_roles r.grantees)) _ (not_required _ UndefinedObject other_object) table.2 in
      let columns = after_step (each (found_column table.0.layout) (columns_named r.privileges)) _ (not_columns table.0.layout (columns_named r.privileges)) roles.2 in
      let allowed = after_step (require (has_some_privilege db users.current r.table) InsufficientPrivilege) _ (not_required (has_some_privilege db users.current r.table) InsufficientPrivilege other_privilege) columns.2 in
      let same : table.0 ≡ t = ok_inside table.0 t (sym table.1 ∙ ap (found_or UndefinedTable) at) in
      record {
        known = roles_required db (grantee_roles r.grantees) roles.0 roles.1;
        set = ap (λ (x : TableOf). revoked r.grant_option_for r.behavior (names_of x) db.descriptors) (sym same)
            ∙ elim (bind_err (revoked r.grant_option_for r.behavior (names_of table.0) db.descriptors) _ DependentPrivileges allowed.2) [ inl f ↦ f | inr k ↦ absurd (ok_no_err _ DependentPrivileges k.2) ];
      }

  of_table : IsFound db r.table t
  of_table = table_found db r.table t (ap (found_or UndefinedTable) at)

  abbrev RemainsOf : TableOf → Type 0
  RemainsOf x = (d : Descriptor) → Among d (rest_of x) ↔ Remains db (IsTaken db users.current x (privileges_of x.layout r.privileges) r.grantees) r.grant_option_for d

  remains_there : RemainsOf t
  remains_there = subst RemainsOf of_table.is (remaining db w users.current of_table.table of_table.there (privileges_of of_table.table.definition.layout r.privileges) r.grantees refused_at.known r.grant_option_for)

  pub dependents : (is_cascade r.behavior ≡ false) × ((rest : List Descriptor) → ((d : Descriptor) → Among d rest ↔ RemainsAfter db users r t d) → (d : Descriptor) × Among d rest × (IsSupported rest d → ⊥))
  dependents =
      let by = refused_by (is_cascade r.behavior) (rest_of t) (abandoned (rest_of t)) DependentPrivileges refl refused_at.set in (
        by.1,
        λ rest f.
            let from : (x : Descriptor) → Among x rest → Among x (rest_of t) = λ x h. (remains_there x).1 ((f x).0 h) in
            (by.2.0, (f by.2.0).1 ((remains_there by.2.0).0 by.2.1), λ c. by.2.2 (chain_within _ _ rest (rest_of t) from by.2.0 c)),
      )
