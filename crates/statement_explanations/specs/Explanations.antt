-- What is told of a statement over rows before it reads one: how it looks for the rows of its tables, and which policies and conditions they are asked.
use Rattle.std.specs.Prelude.{◌≡◌, ℕ, ◌+◌, Bool, true, false, not, ◌&&◌, is_some, List, [], ◌∷◌, ◌++◌, map, filter, Option, Some, None}
use Rattle.std.specs.Option.{option_copied}
use Rattle.sql_ast.specs.declared.policy.PolicyKind.{PolicyKind}
use Rattle.sql_ast.specs.declared.policy.PolicyKind.TheVariants.{Permissive, Restrictive}
use Rattle.sql_ast.specs.declared.privilege.Action.{Action}
use Rattle.sql_ast.specs.declared.privilege.Action.TheVariants as action
use Rattle.sql_ast.specs.Layout.{Layout}
use Rattle.expressions.specs.Infallible.{has_no_arithmetic}
use Rattle.expressions.specs.Meaning.{UserNames}
use Rattle.expressions.specs.Types.{TypedTerm}
use Rattle.abstract_database.specs.Lists.{TheName}
use Rattle.abstract_database.specs.Guards.{is_guarded}
use Rattle.stored_database.specs.Definitions.{Definitions, TableDefinition}
use Rattle.catalogue.specs.declared.policy.CataloguePolicy.{CataloguePolicy}
use Rattle.catalogue.specs.Policies.{policies_in}
use Rattle.catalogue.specs.Tables.{HasBoundPolicies}
use Rattle.policy_composer.specs.Formulas.{applies, bound_condition}
use Rattle.policy_composer.specs.declared.policies.GuardedRows.TheVariants as rows
use Rattle.descriptions.specs.Descriptions.{InEach}
use Rattle.key_ranges.specs.declared.range.KeyRange.{KeyRange}
use Rattle.key_ranges.specs.Boxes.{AreRolesFor}
use Rattle.key_ranges.specs.TableRanges.{range_of_table}
use Rattle.planner.specs.declared.sources.Source.{Source}
use Rattle.planner.specs.declared.plans.Plan.{Plan}
use Rattle.row_statements.specs.Ranges.{is_looked_up}
use Rattle.row_statements.specs.Users.{roles_of, seen_users}
use Rattle.statement_explanations.specs.declared.explanation.Bounding.{Bounding}
use Rattle.statement_explanations.specs.declared.explanation.ConditionExplanation.{ConditionExplanation}
use Rattle.statement_explanations.specs.declared.explanation.PolicyExplanation.{PolicyExplanation}
use Rattle.statement_explanations.specs.declared.explanation.TableExplanation.{TableExplanation}
use Rattle.statement_explanations.specs.declared.explanation.TableReading.{TableReading}
use Rattle.statement_explanations.specs.declared.explanation.TableReading.TheVariants.{Whole, Within, BehindRows, NewKeys}
use Rattle.statement_explanations.specs.Asking.{action_of, conditions_of, inserts, reads_too, sources_of, ranges_of}

-- ---- conditions

-- what a condition does for the keys of a table of this number and of this index in FROM, for a current role that is in these roles
abbrev pub bounding : ℕ → Layout → UserNames → List (List ℕ) → ℕ → TypedTerm → Bounding
bounding id layout users roles index c = record { bounds = is_some (range_of_table id layout index users roles [] (c ∷ [])); may_fail = not (has_no_arithmetic c.term) }

-- a condition with what is told of it
abbrev pub condition_told : ConditionExplanation → TypedTerm × Bounding
condition_told e = (e.condition.now, e.bounding)

abbrev pub conditions_explained : ℕ → Layout → UserNames → List (List ℕ) → ℕ → List TypedTerm → List (TypedTerm × Bounding)
conditions_explained id layout users roles index conditions = map (λ c. (c, bounding id layout users roles index c)) conditions

-- ---- policies

abbrev pub same_kind : PolicyKind → PolicyKind → Bool
same_kind Permissive Permissive = true
same_kind Restrictive Restrictive = true
same_kind _ _ = false

-- the policies of a kind that apply to an action of one who is in these roles, in the order of their names
abbrev pub policies_of : List TheName → Action → PolicyKind → List CataloguePolicy → List CataloguePolicy
policies_of set a k policies = filter (λ p. applies set a p.policy && same_kind k p.policy.kind) policies

-- those of both kinds, in the order in which they are asked
abbrev pub policies_asked : List TheName → Action → List CataloguePolicy → List CataloguePolicy
policies_asked set a policies = policies_of set a Permissive policies ++ policies_of set a Restrictive policies

-- what the condition of a policy does for the keys of its table
abbrev pub existing_bounding : ℕ → Layout → UserNames → List (List ℕ) → Option TypedTerm → Bounding
existing_bounding id layout users roles None = record { bounds = false; may_fail = false }
existing_bounding id layout users roles (Some c) = bounding id layout users roles 0 c

-- one for new rows bounds nothing
abbrev pub new_bounding : Option TypedTerm → Bounding
new_bounding None = record { bounds = false; may_fail = false }
new_bounding (Some c) = record { bounds = false; may_fail = not (has_no_arithmetic c.term) }

-- the condition is that of existing rows, and of an INSERT that of new ones
abbrev pub policy_bounding : ℕ → Layout → UserNames → List (List ℕ) → Action → CataloguePolicy → Bounding
policy_bounding id layout users roles action.Select p = existing_bounding id layout users roles (bound_condition rows.Existing p)
policy_bounding id layout users roles action.Insert p = new_bounding (bound_condition rows.New p)
policy_bounding id layout users roles action.Update p = existing_bounding id layout users roles (bound_condition rows.Existing p)
policy_bounding id layout users roles action.Delete p = existing_bounding id layout users roles (bound_condition rows.Existing p)

-- a policy with what is told of it
abbrev pub policy_told : PolicyExplanation → CataloguePolicy × Action × Bounding
policy_told e = (e.policy.now, e.action, e.bounding)

-- of each of these for an action
abbrev pub policies_told : ℕ → Layout → UserNames → List (List ℕ) → Action → List CataloguePolicy → List (CataloguePolicy × Action × Bounding)
policies_told id layout users roles a policies = map (λ p. (p, a, policy_bounding id layout users roles a p)) policies

-- of those for an action, and then of those for SELECT where the statement reads too
abbrev pub policies_explained : ℕ → Layout → UserNames → List (List ℕ) → List TheName → Action → Bool → List CataloguePolicy → List (CataloguePolicy × Action × Bounding)
policies_explained id layout users roles set a false policies = policies_told id layout users roles a (policies_asked set a policies)
policies_explained id layout users roles set a true policies =
    policies_told id layout users roles a (policies_asked set a policies) ++ policies_told id layout users roles action.Select (policies_asked set action.Select policies)

-- none where row security does not guard the rows
abbrev pub guarded_policies : Bool → List (CataloguePolicy × Action × Bounding) → List (CataloguePolicy × Action × Bounding)
guarded_policies false told = []
guarded_policies true told = told

-- what is told of the policies of a table, whose conditions are bound to its columns
pub record ArePoliciesExplained (users : UserNames) (roles : List (List ℕ)) (set : List TheName) (a : Action) (reads : Bool) (t : TableDefinition) (guarded : Bool) (told : List PolicyExplanation) : Type 0 where
  pub bound : List CataloguePolicy
  pub of_table : policies_in bound ≡ t.policies
  pub are_bound : HasBoundPolicies t.definition bound
  pub told_of : map policy_told told ≡ guarded_policies guarded (policies_explained t.id t.definition.layout users roles set a reads bound)

-- ---- tables

-- how the rows of a table are looked for, whose keys may be looked up behind rows of the tables before or not, and of which this range is left
abbrev pub IsReadingOf : Bool → Bool → Option KeyRange → TableReading → Type 0
IsReadingOf new behind range NewKeys = new ≡ true
IsReadingOf new behind range (BehindRows r) = (new ≡ false) × (behind ≡ true) × (range ≡ option_copied r)
IsReadingOf new behind range Whole = (new ≡ false) × (behind ≡ false) × (range ≡ None)
IsReadingOf new behind range (Within r) = (new ≡ false) × (behind ≡ false) × (range ≡ Some r.now)

-- what is told of a table of a plan that has this index in FROM and of which this range is left
pub record IsTableExplained (d : Definitions) (users : UserNames) (roles : List (List ℕ)) (p : Plan) (index : ℕ) (s : Source) (range : Option KeyRange) (e : TableExplanation) : Type 0 where
  pub table : e.table.now ≡ s.table.now
  pub guarded : InEach d s.table.now (λ db. e.is_guarded ≡ is_guarded db users.current s.table.now.definition)
  pub policies : ArePoliciesExplained users roles (roles_of p) (action_of p) (reads_too p) s.table.now e.is_guarded e.policies
  pub conditions : map condition_told e.conditions ≡ conditions_explained s.table.now.id s.table.now.definition.layout users roles index (conditions_of p)
  pub reading : IsReadingOf (inserts p) (is_looked_up users (conditions_of p) index s.table.now.definition.layout.key) range e.reading

-- the same of each of the tables that come from this index in FROM on
abbrev pub AreTablesExplained : Definitions → UserNames → List (List ℕ) → Plan → ℕ → List Source → List (Option KeyRange) → List TableExplanation → Type 0
AreTablesExplained d users roles p index [] [] [] = Unit {0}
AreTablesExplained d users roles p index (s ∷ sources) (range ∷ ranges) (e ∷ es) = IsTableExplained d users roles p index s range e × AreTablesExplained d users roles p (index + 1) sources ranges es
AreTablesExplained d users roles p index _ _ _ = ⊥

-- a plan is explained by this: its tables in the order of FROM, with the ranges by which it is carried out
abbrev pub IsExplainedBy : Definitions → UserNames → List (List ℕ) → Plan → List TableExplanation → Type 0
IsExplainedBy d users roles p told = AreTablesExplained d users roles p 0 (sources_of p) (ranges_of users roles p) told

-- what is told of a plan that was made of these definitions for this current role, in a session of this login role
pub record IsExplanation (d : Definitions) (current session : TheName) (p : Plan) (told : List TableExplanation) : Type 0 where
  pub roles : List (List ℕ)
  pub are_roles : AreRolesFor (seen_users d.memberships current session) roles
  pub explained : IsExplainedBy d (seen_users d.memberships current session) roles p told
