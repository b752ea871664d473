-- What the plan of a statement over one table costs.
use Rattle.std.proofs.Common.{◌≡◌, ◌≤◌, ◌+◌, ℕ, Bool, List, [], ◌∷◌, map, length, if◌then◌else◌, Option, Some, None, Bor, arith, refl, sym, ap, ◌∙◌, subst}
use Rattle.std.specs.Option.{option_copied}
use Rattle.sql_ast.specs.Layout.{Layout}
use Rattle.store.specs.Records.{Records}
use Rattle.expressions.specs.Meaning.{UserNames}
use Rattle.expressions.specs.Types.{TypedTerm}
use Rattle.key_ranges.specs.declared.range.KeyRange.{KeyRange}
use Rattle.key_ranges.specs.Boxes.{AreRolesFor}
use Rattle.planner.specs.declared.plans.Plan.{Plan}
use Rattle.planner.specs.declared.plans.Plan.TheVariants as plan
use Rattle.planner.specs.declared.row_changes.ChangePlan.{ChangePlan}
use Rattle.planner.specs.declared.select.SelectPlan.{SelectPlan}
use Rattle.planner.specs.declared.sources.Source.{Source}
use Rattle.table_rows.specs.declared.target.Assignments.{Assignments}
use Rattle.table_rows.specs.declared.target.Target.{Target}
use Rattle.table_rows.specs.Costs.{found_cost, cost_of, update_cost}
use Rattle.table_rows.specs.Ranged.{records_found, records_of}
use Rattle.table_rows.specs.Setting.{sets_key}
use Rattle.row_statements.specs.declared.ranges.RangedSource.{RangedSource}
use Rattle.row_statements.specs.Costs.{cost_among, source_cost, cost_of_select, cost_of_delete, cost_of_plan, IsAtMost, CostsPlanned}
use Rattle.row_statements.specs.Damage.{records_among}
use Rattle.row_statements.specs.Ranges.{ranges_among, range_among, range_where, AreRanged}
use Rattle.row_statements.specs.Targeted.{IsTargetOf, AreTargetsOf}
use Rattle.row_statements.proofs.Targeting.{AreTargetsIn}

-- ---- what a target finds

lent_cost : (id : ℕ) (lent : Option (Bor KeyRange)) (records : Records) → found_cost lent (records_found id lent records) ≡ cost_among (option_copied lent) (records_among id (option_copied lent) records)
lent_cost id None records = refl
lent_cost id (Some range) records = refl

same_cost : (users : UserNames) (s : Source) (target : Target) (range : Option KeyRange) (records : Records) → IsTargetOf users s target → option_copied target.range ≡ range → cost_of target records ≡ source_cost records s range
same_cost users s target range records is same =
    lent_cost target.id target.range records
    ∙ ap (λ (o : Option KeyRange). cost_among o (records_among target.id o records)) same
    ∙ ap (λ (id : ℕ). cost_among range (records_among id range records)) is.id

lent_found : (id : ℕ) (lent : Option (Bor KeyRange)) (records : Records) → records_found id lent records ≡ records_among id (option_copied lent) records
lent_found id None records = refl
lent_found id (Some range) records = refl

same_found : (users : UserNames) (s : Source) (target : Target) (range : Option KeyRange) (records : Records) → IsTargetOf users s target → option_copied target.range ≡ range → records_of target records ≡ records_among s.table.now.id range records
same_found users s target range records is same =
    lent_found target.id target.range records
    ∙ ap (λ (o : Option KeyRange). records_among target.id o records) same
    ∙ ap (λ (id : ℕ). records_among id range records) is.id

-- ---- plans

module _ (costs : ℕ → Type 0) (records : Records) (users : UserNames) (roles : List (List ℕ)) (are_roles : AreRolesFor users roles) where
  none_spent : ((less most : ℕ) → less ≤ most → costs less → costs most) → (most : Option ℕ) → costs 0 → IsAtMost costs most
  none_spent within None nothing = tt
  none_spent within (Some most) nothing = within 0 most (omega arith) nothing

  -- it is not carried out
  pub nothing_spent : ((less most : ℕ) → less ≤ most → costs less → costs most) → (p : Plan) → costs 0 → CostsPlanned costs records users p
  nothing_spent within p nothing = record { roles = roles; are_roles = are_roles; at_most = none_spent within (cost_of_plan records users roles p) nothing }

  pub delete_spent : (p : ChangePlan) (target : Target) → IsTargetOf users p.target target → option_copied target.range ≡ range_where users roles p.target p.condition → costs (cost_of target records)
      → CostsPlanned costs records users (plan.Delete p)
  delete_spent p target is same spent = record {
    roles = roles;
    are_roles = are_roles;
    at_most = subst costs (same_cost users p.target target (range_where users roles p.target p.condition) records is same) spent;
  }

  pub update_spent : (p : ChangePlan) (target : Target) (assignments : Assignments) → IsTargetOf users p.target target → option_copied target.range ≡ range_where users roles p.target p.condition → assignments.columns.now ≡ p.columns
      → costs (update_cost target assignments records) → CostsPlanned costs records users (plan.Update p)
  update_spent p target assignments is same columns spent =
      let range = range_where users roles p.target p.condition in
      let cost = same_cost users p.target target range records is same in
      let found = ap length (same_found users p.target target range records is same) in
      let sets : sets_key target.columns.now.key assignments.columns.now ≡ sets_key p.target.table.now.definition.layout.key p.columns =
      ap (λ (l : Layout). sets_key l.key assignments.columns.now) is.layout ∙ ap (sets_key p.target.table.now.definition.layout.key) columns in
      let whole : update_cost target assignments records
      ≡ (if sets_key p.target.table.now.definition.layout.key p.columns then source_cost records p.target range + length (records_among p.target.table.now.id range records) else source_cost records p.target range) =
      ap (λ (b : Bool). if b then cost_of target records + length (records_of target records) else cost_of target records) sets
      ∙ ap (λ (n : ℕ). if sets_key p.target.table.now.definition.layout.key p.columns then n + length (records_of target records) else n) cost
      ∙ ap (λ (n : ℕ). if sets_key p.target.table.now.definition.layout.key p.columns then source_cost records p.target range + n else source_cost records p.target range) found in
      record {
        roles = roles;
        are_roles = are_roles;
        at_most = subst costs whole spent;
      }

one_spent : (costs : ℕ → Type 0) (records : Records) (users : UserNames) (roles : List (List ℕ)) (conditions : List TypedTerm) (sources : List Source) (ranged : List RangedSource) (targets : List Target)
    → AreRanged users conditions 0 sources ranged → map (λ r. r.range) ranged ≡ ranges_among users roles conditions 0 sources → AreTargetsOf users ranged targets
    → ((table : Target) → targets ≡ table ∷ [] → costs (cost_of table records)) → IsAtMost costs (cost_of_select records users roles conditions sources)
one_spent costs records users roles conditions [] ranged targets are ranges of spent = tt
one_spent costs records users roles conditions (s ∷ t ∷ more) ranged targets are ranges of spent = tt
one_spent costs records users roles conditions (s ∷ []) [] targets are ranges of spent = absurd are
one_spent costs records users roles conditions (s ∷ []) (r ∷ q ∷ ranged) targets are ranges of spent = absurd are.2
one_spent costs records users roles conditions (s ∷ []) (r ∷ []) [] are ranges of spent = absurd of
one_spent costs records users roles conditions (s ∷ []) (r ∷ []) (t ∷ u ∷ targets) are ranges of spent = absurd of.1
one_spent costs records users roles conditions (s ∷ []) (r ∷ []) (t ∷ []) are ranges of spent =
    let exact : r.range ≡ range_among users roles conditions 0 s = cc in
    let is = subst (λ (x : Source). IsTargetOf users x t) are.0 of.0.target_of in
    subst costs (same_cost users s t (range_among users roles conditions 0 s) records is (of.0.range ∙ exact)) (spent t refl)

-- a SELECT of one table, carried out over its only target
pub select_spent : (costs : ℕ → Type 0) (records : Records) (users : UserNames) (p : SelectPlan) (targets : List Target) → AreTargetsIn users p targets → ((table : Target) → targets ≡ table ∷ [] → costs (cost_of table records))
    → CostsPlanned costs records users (plan.Select p)
select_spent costs records users p targets are spent = record {
  roles = are.of_plan.roles;
  are_roles = are.of_plan.are_roles;
  at_most = one_spent costs records users are.of_plan.roles p.query.conditions p.sources are.of_plan.ranged targets are.safe are.of_plan.ranges are.of_plan.targets_of spent;
}
