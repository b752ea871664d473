-- Row security: which policies guard a table's rows from a role, and what a guard says of a row.
use Rattle.std.specs.Prelude.{Bool, true, false, not, ◌&&◌, ◌||◌, if◌then◌else◌, List, [], ◌∷◌, fold, filter, flat_map, bytes_eq, Option, Some, None, Ok}
use Rattle.std.specs.List.{list_any}
use Rattle.sql_types.specs.declared.value.Value.TheVariants.{Bool as Boolean}
use Rattle.sql_ast.specs.declared.expression.ColumnName.{ColumnName}
use Rattle.sql_ast.specs.declared.role.Membership.{Membership}
use Rattle.sql_ast.specs.declared.privilege.Action.{Action}
use Rattle.sql_ast.specs.declared.privilege.Action.TheVariants as action
use Rattle.sql_ast.specs.declared.policy.Policy.{Policy}
use Rattle.sql_ast.specs.declared.policy.PolicyClause.{PolicyClause}
use Rattle.sql_ast.specs.declared.policy.PolicyKind.{PolicyKind}
use Rattle.sql_ast.specs.declared.policy.PolicyKind.TheVariants.{Permissive, Restrictive}
use Rattle.sql_ast.specs.declared.policy.PolicyCommand.{PolicyCommand}
use Rattle.sql_ast.specs.declared.policy.PolicyCommand.TheVariants as command
use Rattle.sql_ast.specs.declared.policy.PolicyRoles.{PolicyRoles}
use Rattle.sql_ast.specs.declared.policy.PolicyRoles.TheVariants as roles
use Rattle.sql_ast.specs.Term.{Term, literal, conjunction, disjunction}
use Rattle.expressions.specs.Outcome.{Outcome}
use Rattle.expressions.specs.Meaning.{UserNames}
use Rattle.abstract_database.specs.Lists.{TheName}
use Rattle.expressions.specs.Stages.{◌>>=◌}
use Rattle.abstract_database.specs.Database.{TableOf, Database, same_action}
use Rattle.sql_types.specs.Row.{Row}
use Rattle.abstract_database.specs.Roles.{is_in, is_superuser, bypasses_row_security}
use Rattle.abstract_database.specs.Expressions.{own_scope, value_on, when_true}

-- row security concerns every role but superusers, those with BYPASSRLS and, unless it is forced, those in the owner
abbrev pub is_guarded : Database → TheName → TableOf → Bool
is_guarded db role table =
    table.row_security
    && not (is_superuser db role || bypasses_row_security db role)
    && (table.forced || not (is_in db.memberships role table.owner))

-- ---- the policies that apply

abbrev pub is_for_action : Action → PolicyCommand → Bool
is_for_action a command.All = true
is_for_action a (command.Only b) = same_action a b

abbrev pub is_for_role : List Membership → TheName → PolicyRoles → Bool
is_for_role memberships role roles.Public = true
is_for_role memberships role (roles.Only names) = list_any (is_in memberships role) names

abbrev pub applicable : Database → TheName → TableOf → Action → List Policy
applicable db role table a =
    filter (λ p. bytes_eq p.table table.name && is_for_action a p.command && is_for_role db.memberships role p.roles) db.policies

-- ---- their conditions

abbrev pub Clauses : Type 0
Clauses = Policy → Option PolicyClause

-- what an existing row must meet
abbrev pub using_clause : Clauses
using_clause p = p.using

-- what a new row must meet: WITH CHECK, and where it is missing USING
abbrev pub check_clause : Clauses
check_clause p = first_of p.check p.using where
  first_of : Option PolicyClause → Option PolicyClause → Option PolicyClause
  first_of (Some c) other = Some c
  first_of None other = other

abbrev pub is_permissive : Policy → Bool
is_permissive p = is_kind p.kind where
  is_kind : PolicyKind → Bool
  is_kind Permissive = true
  is_kind Restrictive = false

abbrev pub condition_of : Option PolicyClause → List (Term ColumnName)
condition_of None = []
condition_of (Some c) = c.expression ∷ []

abbrev pub conditions : Clauses → List Policy → List (Term ColumnName)
conditions clause policies = flat_map (λ p. condition_of (clause p)) policies

-- p1 OR p2 .., grouped to the left: false where there is none
abbrev pub any_of : {C : Type 0} → List (Term C) → Term C
any_of [] = literal (Boolean false)
any_of (p ∷ ps) = fold disjunction p ps

-- (p1 OR p2 ..) AND r1 AND r2 ..
abbrev pub formula : {C : Type 0} → List (Term C) → List (Term C) → Term C
formula permissive restrictive = fold conjunction (any_of permissive) restrictive

-- the formula of a table's policies for a role and a command, each sort in the order of the policies' names
abbrev pub guard_formula : Clauses → List Policy → Term ColumnName
guard_formula clause policies =
    formula (conditions clause (filter is_permissive policies)) (conditions clause (filter (λ p. not (is_permissive p)) policies))

-- ---- guards

-- what a guard says of a row: only true lets it pass
abbrev pub Guard : Type 0
Guard = Row → Outcome

abbrev pub lets_all : Guard
lets_all row = Ok (Boolean true)

abbrev pub guard : Database → UserNames → TableOf → Action → Clauses → Guard
guard db users table a clause row =
    if is_guarded db users.current table
    then value_on (own_scope table) users (row ∷ []) (guard_formula clause (applicable db users.current table a))
    else Ok (Boolean true)

-- row by row: the second guard is evaluated only on a row that passes the first
abbrev pub both_guards : Guard → Guard → Guard
both_guards first second row = first row >>= λ value. when_true value (second row) (Ok value)

-- where the statement needs SELECT, the SELECT policies guard too
abbrev pub with_select : Database → UserNames → TableOf → Bool → Guard → Guard
with_select db users table false first = first
with_select db users table true first = both_guards first (guard db users table action.Select using_clause)

-- the guard of the existing rows of a command, which may need SELECT as well
abbrev pub existing_guard : Database → UserNames → TableOf → Action → Bool → Guard
existing_guard db users table action.Select reads = guard db users table action.Select using_clause
existing_guard db users table action.Insert reads = lets_all
existing_guard db users table action.Update reads = with_select db users table reads (guard db users table action.Update using_clause)
existing_guard db users table action.Delete reads = with_select db users table reads (guard db users table action.Delete using_clause)

-- the guard of its new rows
abbrev pub new_guard : Database → UserNames → TableOf → Action → Bool → Guard
new_guard db users table action.Insert reads = guard db users table action.Insert check_clause
new_guard db users table action.Update reads = with_select db users table reads (guard db users table action.Update check_clause)
new_guard db users table action.Select reads = lets_all
new_guard db users table action.Delete reads = lets_all
