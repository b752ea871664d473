-- Which bound conditions of a table's policies make the formulas of a guard.
use Rattle.std.specs.Prelude.{◌≡◌, Bool, true, false, not, ◌&&◌, if◌then◌else◌, List, [], ◌∷◌, ◌++◌, flat_map, Option, Some, None}
use Rattle.std.specs.List.{list_any}
use Rattle.sql_ast.specs.declared.policy.Policy.{Policy}
use Rattle.sql_ast.specs.declared.policy.PolicyKind.{PolicyKind}
use Rattle.sql_ast.specs.declared.policy.PolicyKind.TheVariants.{Permissive, Restrictive}
use Rattle.sql_ast.specs.declared.policy.PolicyRoles.{PolicyRoles}
use Rattle.sql_ast.specs.declared.policy.PolicyRoles.TheVariants as roles
use Rattle.sql_ast.specs.declared.privilege.Action.{Action}
use Rattle.sql_ast.specs.declared.privilege.Action.TheVariants as action
use Rattle.sql_ast.specs.declared.scope.ColumnIndex.{ColumnIndex}
use Rattle.sql_ast.specs.Term.{Term}
use Rattle.expressions.specs.Types.{TypedTerm}
use Rattle.abstract_database.specs.Lists.{TheName, has_name}
use Rattle.abstract_database.specs.Guards.{is_for_action, is_permissive}
use Rattle.catalogue.specs.declared.policy.CataloguePolicy.{CataloguePolicy}
use Rattle.guards.specs.declared.guard.Formula.{Formula}
use Rattle.guards.specs.Guards.{terms}
use Rattle.policy_composer.specs.declared.policies.GuardedRows.{GuardedRows}
use Rattle.policy_composer.specs.declared.policies.GuardedRows.TheVariants.{Existing, New}

-- ---- which policies apply

-- the policy is for every role, or for one of these
abbrev pub is_for_one : List TheName → PolicyRoles → Bool
is_for_one set roles.Public = true
is_for_one set (roles.Only names) = list_any (λ name. has_name name set) names

-- the policy is for the action, and for one of these roles
abbrev pub applies : List TheName → Action → Policy → Bool
applies set a p = is_for_action a p.command && is_for_one set p.roles

-- ---- their conditions

-- WITH CHECK, and where it is missing USING
abbrev pub first_of : Option TypedTerm → Option TypedTerm → Option TypedTerm
first_of (Some check) using = Some check
first_of None using = using

abbrev pub bound_condition : GuardedRows → CataloguePolicy → Option TypedTerm
bound_condition Existing p = p.using
bound_condition New p = first_of p.check p.using

abbrev pub term_in : Option TypedTerm → List (Term ColumnIndex)
term_in None = []
term_in (Some e) = e.term ∷ []

-- the conditions for these rows of the policies that pass the test, in their order
abbrev pub terms_where : GuardedRows → (Policy → Bool) → List CataloguePolicy → List (Term ColumnIndex)
terms_where rows test policies = flat_map (λ (p : CataloguePolicy). if test p.policy then term_in (bound_condition rows p) else []) policies

-- ---- formulas

-- the formula has the conditions of the policies that apply, each kind in their order
pub record IsFormulaOf (set : List TheName) (a : Action) (rows : GuardedRows) (policies : List CataloguePolicy) (f : Formula) : Type 0 where
  pub permissive : terms f.permissive ≡ terms_where rows (λ p. applies set a p && is_permissive p) policies
  pub restrictive : terms f.restrictive ≡ terms_where rows (λ p. applies set a p && not (is_permissive p)) policies

-- the formula of the action, and behind it that of SELECT for existing rows where the statement reads
abbrev pub AreFormulasOf : List TheName → Action → GuardedRows → Bool → List CataloguePolicy → List Formula → Type 0
AreFormulasOf set a rows false policies fs = (f : Formula) × IsFormulaOf set a rows policies f × (fs ≡ f ∷ [])
AreFormulasOf set a rows true policies fs =
    (f : Formula) × (g : Formula) × IsFormulaOf set a rows policies f × IsFormulaOf set action.Select Existing policies g × (fs ≡ f ∷ g ∷ [])

-- the formulas that guard the existing rows of an action
abbrev pub AreExisting : List TheName → List CataloguePolicy → Action → Bool → List Formula → Type 0
AreExisting set policies action.Select reads fs = AreFormulasOf set action.Select Existing false policies fs
AreExisting set policies action.Insert reads fs = fs ≡ []
AreExisting set policies action.Update reads fs = AreFormulasOf set action.Update Existing reads policies fs
AreExisting set policies action.Delete reads fs = AreFormulasOf set action.Delete Existing reads policies fs

-- the formulas of its new rows
abbrev pub AreNew : List TheName → List CataloguePolicy → Action → Bool → List Formula → Type 0
AreNew set policies action.Insert reads fs = AreFormulasOf set action.Insert New false policies fs
AreNew set policies action.Update reads fs = AreFormulasOf set action.Update New reads policies fs
AreNew set policies action.Select reads fs = fs ≡ []
AreNew set policies action.Delete reads fs = fs ≡ []

-- ---- one condition more

abbrev pub for_permissive : PolicyKind → Option TypedTerm → List (Term ColumnIndex)
for_permissive Permissive condition = term_in condition
for_permissive Restrictive condition = []

abbrev pub for_restrictive : PolicyKind → Option TypedTerm → List (Term ColumnIndex)
for_restrictive Permissive condition = []
for_restrictive Restrictive condition = term_in condition

-- the condition, if there is one, comes behind those of its kind
pub record Adds (kind : PolicyKind) (condition : Option TypedTerm) (old new : Formula) : Type 0 where
  pub permissive : terms new.permissive ≡ terms old.permissive ++ for_permissive kind condition
  pub restrictive : terms new.restrictive ≡ terms old.restrictive ++ for_restrictive kind condition
