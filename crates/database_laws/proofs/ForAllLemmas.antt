-- Guards of a table whose policies are all for all commands: one condition, of rows that stand and of new ones.
use Rattle.std.proofs.Common.{◌≡◌, ◌&&◌, Bool, true, false, not, cond, if◌then◌else◌, filter, flat_map, bytes_eq, List, [], ◌∷◌, ◌++◌, Option, Some, None, Result, Ok, Err, refl, sym, ap, ◌∙◌, inl, inr}
use Rattle.std.proofs.lemmas.Bool.{and_parts}
use Rattle.sql_types.specs.Row.{Row}
use Rattle.sql_types.specs.declared.state.SqlState.{SqlState}
use Rattle.sql_types.specs.declared.value.Value.TheVariants.{Null, Int, Text, Bool as Boolean}
use Rattle.sql_ast.specs.declared.expression.ColumnName.{ColumnName}
use Rattle.sql_ast.specs.declared.policy.Policy.{Policy}
use Rattle.sql_ast.specs.declared.policy.PolicyClause.{PolicyClause}
use Rattle.sql_ast.specs.declared.policy.PolicyCommand.{PolicyCommand}
use Rattle.sql_ast.specs.declared.privilege.Action.{Action}
use Rattle.sql_ast.specs.declared.privilege.Action.TheVariants as action
use Rattle.sql_ast.specs.Term.{Term}
use Rattle.expressions.specs.Outcome.{Outcome}
use Rattle.expressions.specs.Meaning.{UserNames}
use Rattle.expressions.specs.Stages.{◌>>=◌}
use Rattle.abstract_database.specs.Lists.{TheName, Among}
use Rattle.abstract_database.specs.Database.{TableOf, Database}
use Rattle.abstract_database.specs.Expressions.{own_scope, value_on, when_true}
use Rattle.abstract_database.specs.Guards.{is_guarded, is_for_action, is_for_role, applicable, using_clause, check_clause, is_permissive, condition_of, conditions, guard_formula, formula, Guard, guard, new_guard}
use Rattle.abstract_database.specs.Changes.{Chosen}
use Rattle.abstract_database.proofs.ElementLemmas.{of_filter}
use Rattle.abstract_database.proofs.ListLemmas.{bytes_same}
use Rattle.database_laws.specs.Worlds.{is_unmet, is_silent}
use Rattle.database_laws.specs.OnePolicy.{Concerns, HasPoliciesForAll}
use Rattle.database_laws.proofs.AlikeLemmas.{PassesOver, silent_not_deleted, silent_not_updated}
use Rattle.database_laws.proofs.AlikeSelectLemmas.{silent_is_unmet}

-- ---- lists by tests and parts that agree

filter_as_at : {X : Type 0} (f g : X → Bool) (x : X) (xs ys : List X) → f x ≡ g x → filter f xs ≡ ys → cond (f x) (x ∷ filter f xs) (filter f xs) ≡ cond (g x) (x ∷ ys) ys
filter_as_at f g x xs ys e go = ap (λ l. cond (f x) (x ∷ l) l) go ∙ ap (λ b. cond b (x ∷ ys) ys) e

pub filter_as : {X : Type 0} (f g : X → Bool) (xs : List X) → ((x : X) → Among x xs → f x ≡ g x) → filter f xs ≡ filter g xs
filter_as f g [] h = refl
filter_as f g (x ∷ xs) h = filter_as_at f g x xs (filter g xs) (h x (inl refl)) (filter_as f g xs (λ y k. h y (inr k)))

pub flat_map_as : {X Y : Type 0} (f g : X → List Y) (xs : List X) → ((x : X) → Among x xs → f x ≡ g x) → flat_map f xs ≡ flat_map g xs
flat_map_as f g [] h = refl
flat_map_as f g (x ∷ xs) h = ap (λ l. l ++ flat_map f xs) (h x (inl refl)) ∙ ap (λ l. g x ++ l) (flat_map_as f g xs (λ y k. h y (inr k)))

-- ---- policies that apply

clause_at : (p : Policy) (o : Option PolicyClause) → o ≡ None → check_clause (record p { check = o }) ≡ p.using
clause_at p None e = refl
clause_at p (Some c) e = cc

no_role : (b : Bool) → (b && false) ≡ false
no_role true = refl
no_role false = refl

module _ (db : Database) (role : TheName) (t : TableOf) (one : HasPoliciesForAll db role t.name) where
  abbrev applies : Action → Policy → Bool
  applies a p = bytes_eq p.table t.name && is_for_action a p.command && is_for_role db.memberships role p.roles

  abbrev applies_by : Bool → Bool → Action → PolicyCommand → Bool
  applies_by own to_role a c = own && is_for_action a c && to_role

  same_test : (a b : Action) (p : Policy) → Among p db.policies → (own to_role : Bool) → bytes_eq p.table t.name ≡ own → is_for_role db.memberships role p.roles ≡ to_role →
      applies_by own to_role a p.command ≡ applies_by own to_role b p.command
  same_test a b p h false to_role e f = refl
  same_test a b p h true false e f = no_role (is_for_action a p.command) ∙ sym (no_role (is_for_action b p.command))
  same_test a b p h true true e f =
      let all = one.command p (record { among = h; of_table = bytes_same p.table t.name e; for_role = f }) in
      ap (λ (c : PolicyCommand). applies_by true true a c) all ∙ sym (ap (λ (c : PolicyCommand). applies_by true true b c) all)

  pub applicable_alike : (a b : Action) → applicable db role t a ≡ applicable db role t b
  applicable_alike a b = filter_as (applies a) (applies b) db.policies (λ p h. same_test a b p h (bytes_eq p.table t.name) (is_for_role db.memberships role p.roles) refl refl)

  -- a policy that applies is one of the table's, for the role
  own_policy : (a : Action) (p : Policy) → Among p (applicable db role t a) → Concerns db role t.name p
  own_policy a p h =
      let of = of_filter (applies a) db.policies p h in
      let tests = and_parts (bytes_eq p.table t.name && is_for_action a p.command) (is_for_role db.memberships role p.roles) of.1 in
      record { among = of.0; of_table = bytes_same p.table t.name (and_parts (bytes_eq p.table t.name) (is_for_action a p.command) tests.0).0; for_role = tests.1 }

  one_clause : (a : Action) (p : Policy) → Among p (applicable db role t a) → condition_of (check_clause p) ≡ condition_of (using_clause p)
  one_clause a p h = ap condition_of (clause_at p p.check (one.check p (own_policy a p h)))

  one_formula : (a : Action) → guard_formula check_clause (applicable db role t a) ≡ guard_formula using_clause (applicable db role t a)
  one_formula a =
      let ps = applicable db role t a in
      let permissive = flat_map_as (λ p. condition_of (check_clause p)) (λ p. condition_of (using_clause p)) (filter is_permissive ps) (λ p h. one_clause a p (of_filter is_permissive ps p h).0) in
      let others = flat_map_as (λ p. condition_of (check_clause p)) (λ p. condition_of (using_clause p)) (filter (λ p. not (is_permissive p)) ps) (λ p h. one_clause a p (of_filter (λ q. not (is_permissive q)) ps p h).0) in
      ap (λ l. formula l (conditions check_clause (filter (λ p. not (is_permissive p)) ps))) permissive ∙ ap (formula (conditions using_clause (filter is_permissive ps))) others

-- ---- one guard

module _ (db : Database) (users : UserNames) (t : TableOf) (one : HasPoliciesForAll db users.current t.name) where
  abbrev guarded_with : Term ColumnName → Guard
  guarded_with e row = if is_guarded db users.current t then value_on (own_scope t) users (row ∷ []) e else Ok (Boolean true)

  pub one_guard : (a b : Action) (row : Row) → guard db users t a using_clause row ≡ guard db users t b using_clause row
  one_guard a b row = ap (λ (ps : List Policy). guarded_with (guard_formula using_clause ps) row) (applicable_alike db users.current t one a b)

  pub check_is_using : (a b : Action) (row : Row) → guard db users t a check_clause row ≡ guard db users t b using_clause row
  check_is_using a b row = ap (λ (e : Term ColumnName). guarded_with e row) (one_formula db users.current t one a) ∙ one_guard a b row

  abbrev unchosen : Row → Result Chosen SqlState
  unchosen row = Ok (record { row = row; new = None })

  abbrev choose_on : (Row → Outcome) → (Row → Result Row SqlState) → Row → Outcome → Result Chosen SqlState
  choose_on condition becomes row o = o >>= λ visible.
      when_true visible (condition row) (Ok (Boolean false)) >>= λ chosen.
      when_true chosen (becomes row >>= λ r. Ok (Some r)) (Ok None) >>= λ new.
      Ok (record { row = row; new = new })

  unmet_not_chosen : (condition : Row → Outcome) (becomes : Row → Result Row SqlState) (row : Row) (o : Outcome) → is_unmet o ≡ true → choose_on condition becomes row o ≡ unchosen row
  unmet_not_chosen condition becomes row (Ok (Boolean true)) e = cc
  unmet_not_chosen condition becomes row (Ok (Boolean false)) e = refl
  unmet_not_chosen condition becomes row (Ok Null) e = refl
  unmet_not_chosen condition becomes row (Ok (Int n)) e = refl
  unmet_not_chosen condition becomes row (Ok (Text x)) e = refl
  unmet_not_chosen condition becomes row (Err code) e = cc

  unmet_for : (a : Action) (row : Row) → is_silent db users t row ≡ true → is_unmet (guard db users t a using_clause row) ≡ true
  unmet_for a row h = ap is_unmet (one_guard a action.Select row) ∙ silent_is_unmet db users t row h

  -- no command chooses a row that says nothing, whether it reads a column or not
  pub delete_passes : (reads : Bool) → PassesOver db users t action.Delete reads
  delete_passes true = silent_not_deleted db users t
  delete_passes false = λ condition becomes row h. unmet_not_chosen condition becomes row (guard db users t action.Delete using_clause row) (unmet_for action.Delete row h)

  pub update_passes : (reads : Bool) → PassesOver db users t action.Update reads
  update_passes true = silent_not_updated db users t
  update_passes false = λ condition becomes row h. unmet_not_chosen condition becomes row (guard db users t action.Update using_clause row) (unmet_for action.Update row h)

  -- ---- new rows that are admitted pass the guard of SELECT

  both_met : (o p : Outcome) → (o >>= λ v. when_true v p (Ok v)) ≡ Ok (Boolean true) → o ≡ Ok (Boolean true)
  both_met (Ok (Boolean true)) p e = refl
  both_met (Ok (Boolean false)) p e = cc
  both_met (Ok Null) p e = cc
  both_met (Ok (Int n)) p e = cc
  both_met (Ok (Text x)) p e = cc
  both_met (Err code) p e = cc

  pub inserted_is_seen : (row : Row) → new_guard db users t action.Insert false row ≡ Ok (Boolean true) → guard db users t action.Select using_clause row ≡ Ok (Boolean true)
  inserted_is_seen row e = sym (check_is_using action.Insert action.Select row) ∙ e

  pub updated_is_seen : (reads : Bool) (row : Row) → new_guard db users t action.Update reads row ≡ Ok (Boolean true) → guard db users t action.Select using_clause row ≡ Ok (Boolean true)
  updated_is_seen false row e = sym (check_is_using action.Update action.Select row) ∙ e
  updated_is_seen true row e = sym (check_is_using action.Update action.Select row)
      ∙ both_met (guard db users t action.Update check_clause row) (guard db users t action.Select using_clause row) e
