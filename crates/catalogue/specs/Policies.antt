-- The conditions of a policy, bound to the columns of its table.
use Rattle.std.specs.Prelude.{◌≡◌, true, List, [], ◌∷◌, map, Option, Some, None, IfSome, Ok}
use Rattle.sql_ast.specs.declared.columns.ColumnType.TheVariants.{Boolean}
use Rattle.sql_ast.specs.declared.policy.Policy.{Policy}
use Rattle.sql_ast.specs.declared.policy.PolicyClause.{PolicyClause}
use Rattle.sql_ast.specs.Layout.{Layout}
use Rattle.sql_ast.specs.Scope.{Table}
use Rattle.expressions.specs.Names.{MeansTheSame}
use Rattle.expressions.specs.Parts.{check_type}
use Rattle.expressions.specs.Types.{TypedTerm, fits, names_then_types}
use Rattle.abstract_database.specs.Lists.{TheName}
use Rattle.catalogue.specs.declared.policy.BoundClauses.{BoundClauses}
use Rattle.catalogue.specs.declared.policy.CataloguePolicy.{CataloguePolicy}

-- a table alone, by its name and columns
abbrev pub scope_of : TheName → Layout → List Table
scope_of name layout = record { name = name; columns = layout.columns } ∷ []

-- the condition by indices, of type BOOLEAN, means on each row what its clause does by names
pub record IsBoundClause (scope : List Table) (c : PolicyClause) (e : TypedTerm) : Type 0 where
  pub typed : names_then_types scope c.expression ≡ Ok e
  pub boolean : fits Boolean e.value_type ≡ true
  pub means : MeansTheSame scope e.term c.expression

-- there is a bound condition where there is a clause
abbrev pub AreBound : List Table → Option PolicyClause → Option TypedTerm → Type 0
AreBound scope None None = Unit {0}
AreBound scope (Some c) (Some e) = IsBoundClause scope c e
AreBound scope _ _ = ⊥

-- both conditions of the policy are bound to the columns of this table
pub record IsBoundPolicy (scope : List Table) (p : CataloguePolicy) : Type 0 where
  pub using : AreBound scope p.policy.using p.using
  pub check : AreBound scope p.policy.check p.check

-- the policies as they are written
abbrev pub policies_in : List CataloguePolicy → List Policy
policies_in policies = map (λ (p : CataloguePolicy). p.policy) policies

-- ---- binding

-- the clause is a BOOLEAN expression over these columns
abbrev pub IsCondition : List Table → PolicyClause → Type 0
IsCondition scope c = check_type (record { scope = scope; term = c.expression; expected = Some Boolean }) ≡ Ok tt

-- both clauses of the policy are
pub record HasConditions (scope : List Table) (p : Policy) : Type 0 where
  pub using : IfSome p.using (IsCondition scope)
  pub check : IfSome p.check (IsCondition scope)

-- a clause is bound, unless it is no condition
abbrev pub BindsClause : List Table → PolicyClause → Option TypedTerm → Type 0
BindsClause scope c None = IsCondition scope c → ⊥
BindsClause scope c (Some e) = IsBoundClause scope c e

-- so is what may be a clause
abbrev pub BindsOptional : List Table → Option PolicyClause → Option (Option TypedTerm) → Type 0
BindsOptional scope c None = IfSome c (IsCondition scope) → ⊥
BindsOptional scope c (Some e) = AreBound scope c e

-- so are both clauses of a policy
abbrev pub BindsClauses : List Table → Policy → Option BoundClauses → Type 0
BindsClauses scope p None = HasConditions scope p → ⊥
BindsClauses scope p (Some bound) = HasConditions scope p × AreBound scope p.using bound.using × AreBound scope p.check bound.check

-- a policy is bound, unless one of its clauses is no condition
abbrev pub BindsPolicy : List Table → Policy → Option CataloguePolicy → Type 0
BindsPolicy scope p None = HasConditions scope p → ⊥
BindsPolicy scope p (Some bound) = (bound.policy ≡ p) × HasConditions scope p × IsBoundPolicy scope bound
