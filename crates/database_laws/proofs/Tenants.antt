-- Tables with policies that let each role see rows of its own.
use Rattle.std.proofs.Common.{◌≡◌, ◌&&◌, Bool, true, false, not, cond, filter, if◌then◌else◌, bytes_eq, List, [], ◌∷◌, ◌++◌, Option, Ok, Err, refl, sym, ap, ◌∙◌, subst, inl, inr}
use Rattle.std.specs.Ordering.{is_eq}
use Rattle.std.proofs.lemmas.Map.Text.{is_eq-slice_cmp}
use Rattle.sql_types.specs.Row.{Row}
use Rattle.sql_types.specs.declared.value.Value.{Value}
use Rattle.sql_types.specs.declared.value.Value.TheVariants.{Null, Int, Text, Bool as Boolean}
use Rattle.sql_ast.specs.declared.expression.ColumnName.{ColumnName}
use Rattle.sql_ast.specs.declared.expression.Comparison.TheVariants as comparing
use Rattle.sql_ast.specs.declared.policy.Policy.{Policy}
use Rattle.sql_ast.specs.declared.policy.PolicyClause.{PolicyClause}
use Rattle.sql_ast.specs.declared.privilege.Action.{Action}
use Rattle.sql_ast.specs.declared.privilege.Action.TheVariants as action
use Rattle.sql_ast.specs.Term.{Term}
use Rattle.expressions.specs.Outcome.{Outcome}
use Rattle.expressions.specs.Operators.{compared}
use Rattle.expressions.specs.Meaning.{UserNames}
use Rattle.expressions.specs.Names.{cell_named}
use Rattle.abstract_database.specs.Lists.{TheName, name_cmp, Among}
use Rattle.abstract_database.specs.Database.{TableOf, Database}
use Rattle.abstract_database.specs.Expressions.{own_scope, cell_in, value_on}
use Rattle.abstract_database.specs.Guards.{is_guarded, is_for_action, is_for_role, applicable, using_clause, is_permissive, condition_of, conditions, formula, guard_formula, guard}
use Rattle.abstract_database.proofs.ElementLemmas.{into_filter}
use Rattle.abstract_database.proofs.ListLemmas.{bytes_same, same_bytes}
use Rattle.abstract_database.proofs.ResultLemmas.{ok_inside}
use Rattle.database_laws.specs.OnePolicy.{HasPoliciesForAll}
use Rattle.database_laws.specs.Writes.{Passes}
use Rattle.database_laws.specs.Worlds.{has_value, is_unmet, is_silent}
use Rattle.database_laws.specs.OutOfSight.{MayWrite, inserts, makes, changes, removes, AreApart, apart_is_out_of_sight, IsOfTenants, tenants_are_out_of_sight}
use Rattle.database_laws.proofs.ForAllLemmas.{one_guard, check_is_using}

-- ---- policies for all commands

unmet_has_value : (o : Outcome) → is_unmet o ≡ true → has_value o ≡ true
unmet_has_value (Ok v) e = refl
unmet_has_value (Err code) e = cc

all_three : (a b c : Bool) → a ≡ true → b ≡ true → c ≡ true → (a && (b && c)) ≡ true
all_three true true true e f g = refl
all_three false b c e f g = cc
all_three true false c e f g = cc
all_three true true false e f g = cc

module _ (db : Database) (users others : UserNames) (t : TableOf) (one : HasPoliciesForAll db users.current t.name) (other : HasPoliciesForAll db others.current t.name) (apart : AreApart db users others t) where
  -- what they may write they see
  seen_by_writer : (row : Row) → MayWrite db users t row → Passes (guard db users t action.Select using_clause) row
  seen_by_writer row (inserts h) = sym (check_is_using db users t one action.Insert action.Select row) ∙ h
  seen_by_writer row (makes h) = sym (check_is_using db users t one action.Update action.Select row) ∙ h
  seen_by_writer row (changes h) = sym (one_guard db users t one action.Update action.Select row) ∙ h
  seen_by_writer row (removes h) = sym (one_guard db users t one action.Delete action.Select row) ∙ h

  hidden_from_others : (row : Row) → MayWrite db users t row → is_silent db others t row ≡ true
  hidden_from_others row may =
      let unmet = apart row (seen_by_writer row may) in
      let valued = λ (a : Action). ap has_value (one_guard db others t other a action.Select row) ∙ unmet_has_value (guard db others t action.Select using_clause row) unmet in
      all_three (is_unmet (guard db others t action.Select using_clause row)) (has_value (guard db others t action.Update using_clause row)) (has_value (guard db others t action.Delete using_clause row))
      unmet (valued action.Update) (valued action.Delete)

pub apart_unseen : apart_is_out_of_sight
apart_unseen db users others t one other apart = hidden_from_others db users others t one other apart

-- ---- one policy

-- a text is the name of one role alone
one_owner : (v : Value) (mine yours : TheName) → (mine ≡ yours → ⊥) → compared comparing.Equal v (Text mine) ≡ Boolean true → is_unmet (Ok (compared comparing.Equal v (Text yours))) ≡ true
one_owner Null mine yours differ e = cc
one_owner (Int n) mine yours differ e = cc
one_owner (Boolean b) mine yours differ e = cc
one_owner (Text s) mine yours differ e = at (is_eq (name_cmp s yours)) refl where
  truth : (b : Bool) → ◌≡◌ {A = Value} (Boolean b) (Boolean true) → b ≡ true
  truth true f = refl
  truth false f = cc

  named : (n : TheName) → is_eq (name_cmp s n) ≡ true → s ≡ n
  named n f = bytes_same s n (sym (is_eq-slice_cmp s n) ∙ f)

  at : (b : Bool) → is_eq (name_cmp s yours) ≡ b → is_unmet (Ok (Boolean b)) ≡ true
  at true f = absurd (differ (sym (named mine (truth (is_eq (name_cmp s mine)) e)) ∙ named yours f))
  at false f = refl

module _ (own x y : Policy → Bool) where
  abbrev all_tests : Policy → Bool
  all_tests p = own p && x p && y p

  abbrev other_tests : Policy → Bool
  other_tests p = x p && y p

  own_first_at : (p : Policy) (ps : List Policy) (b : Bool) → own p ≡ b → filter all_tests ps ≡ filter other_tests (filter own ps) → filter all_tests (p ∷ ps) ≡ filter other_tests (filter own (p ∷ ps))
  own_first_at p ps true e go =
      ap (λ (m : Bool). cond (m && x p && y p) (p ∷ filter all_tests ps) (filter all_tests ps)) e
      ∙ ap (λ (l : List Policy). cond (x p && y p) (p ∷ l) l) go
      ∙ sym (ap (λ (m : Bool). filter other_tests (cond m (p ∷ filter own ps) (filter own ps))) e)
  own_first_at p ps false e go =
      ap (λ (m : Bool). cond (m && x p && y p) (p ∷ filter all_tests ps) (filter all_tests ps)) e
      ∙ go
      ∙ sym (ap (λ (m : Bool). filter other_tests (cond m (p ∷ filter own ps) (filter own ps))) e)

  -- of three tests the first may be made first
  own_first : (ps : List Policy) → filter all_tests ps ≡ filter other_tests (filter own ps)
  own_first [] = refl
  own_first (p ∷ ps) = own_first_at p ps (own p) refl (own_first ps)

module _ (db : Database) (t : TableOf) (c : ColumnName) (of : IsOfTenants db t c) where
  abbrev cell : Row → Value
  cell row = cell_named (own_scope t) (cell_in (row ∷ [])) c

  abbrev is_own : Policy → Bool
  is_own p = bytes_eq p.table t.name

  abbrev applies_to : UserNames → Policy → Bool
  applies_to users p = is_for_action action.Select p.command && is_for_role db.memberships users.current p.roles

  -- what the guard says of a row, by whether the policy applies and is permissive
  abbrev told : Bool → Bool → UserNames → Row → Outcome
  told true true users row = Ok (compared comparing.Equal (cell row) (Text users.current))
  told true false users row = Ok (Boolean false)
  told false permissive users row = Ok (Boolean false)

  abbrev on_row : UserNames → Row → Term ColumnName → Outcome
  on_row users row e = value_on (own_scope t) users (row ∷ []) e

  abbrev by_parts : UserNames → Row → Bool → Outcome
  by_parts users row permissive = on_row users row (formula (conditions using_clause (cond permissive (of.policy ∷ []) [])) (conditions using_clause (cond (not permissive) (of.policy ∷ []) [])))

  abbrev clause_term : Option PolicyClause → List (Term ColumnName)
  clause_term o = condition_of o ++ []

  of_permissive : (users : UserNames) (row : Row) → by_parts users row true ≡ told true true users row
  of_permissive users row =
      ap (λ (o : Option PolicyClause). on_row users row (formula (clause_term o) [])) of.using
      ∙ ap (λ (e : Term ColumnName). on_row users row e) of.condition

  of_restrictive : (users : UserNames) (row : Row) → by_parts users row false ≡ told true false users row
  of_restrictive users row = ap (λ (o : Option PolicyClause). on_row users row (formula [] (clause_term o))) of.using

  of_one : (users : UserNames) (row : Row) (b : Bool) (permissive : Bool) → is_permissive of.policy ≡ permissive →
      on_row users row (guard_formula using_clause (cond b (of.policy ∷ []) [])) ≡ told b permissive users row
  of_one users row true true e = ap (by_parts users row) e ∙ of_permissive users row
  of_one users row true false e = ap (by_parts users row) e ∙ of_restrictive users row
  of_one users row false permissive e = refl

  guard_is : (users : UserNames) → is_guarded db users.current t ≡ true → (row : Row) → guard db users t action.Select using_clause row ≡ told (applies_to users of.policy) (is_permissive of.policy) users row
  guard_is users guarded row =
      let ps = applicable db users.current t action.Select in
      let one : ps ≡ filter (applies_to users) (of.policy ∷ []) =
      own_first is_own (λ (p : Policy). is_for_action action.Select p.command) (λ (p : Policy). is_for_role db.memberships users.current p.roles) db.policies ∙ ap (filter (applies_to users)) of.only in
      ap (λ (b : Bool). if b then on_row users row (guard_formula using_clause ps) else Ok (Boolean true)) guarded
      ∙ ap (λ (l : List Policy). on_row users row (guard_formula using_clause l)) one
      ∙ of_one users row (applies_to users of.policy) (is_permissive of.policy) refl

  one_for_all : (role : TheName) → HasPoliciesForAll db role t.name
  one_for_all role = record {
    command = λ p own. ap (λ (q : Policy). q.command) (sym (only_one p own.among own.of_table)) ∙ of.command;
    check = λ p own. ap (λ (q : Policy). q.check) (sym (only_one p own.among own.of_table)) ∙ of.check;
  } where
    only_one : (p : Policy) → Among p db.policies → p.table ≡ t.name → of.policy ≡ p
    only_one p h own = elim (subst (λ (l : List Policy). Among p l) of.only (into_filter is_own db.policies p h (same_bytes p.table t.name own))) [ inl is ↦ is | inr never ↦ absurd never ]

  module _ (users others : UserNames) (differ : users.current ≡ others.current → ⊥) where
    never_both : (row : Row) (a b permissive : Bool) → told a permissive users row ≡ Ok (Boolean true) → is_unmet (told b permissive others row) ≡ true
    never_both row true true true e = one_owner (cell row) users.current others.current differ (ok_inside (compared comparing.Equal (cell row) (Text users.current)) (Boolean true) e)
    never_both row false true true e = cc
    never_both row a true false e = refl
    never_both row a false permissive e = refl

    tenants_apart : is_guarded db users.current t ≡ true → is_guarded db others.current t ≡ true → AreApart db users others t
    tenants_apart mine yours row passes =
        ap is_unmet (guard_is others yours row)
        ∙ never_both row (applies_to users of.policy) (applies_to others of.policy) (is_permissive of.policy) (sym (guard_is users mine row) ∙ passes)

pub tenants_unseen : tenants_are_out_of_sight
tenants_unseen db users others t c of mine yours differ = apart_unseen db users others t (one_for_all db t c of users.current) (one_for_all db t c of others.current) (tenants_apart db t c of users others differ mine yours)
