-- The targets of a plan, one more at a time.
use Rattle.std.proofs.Common.{◌≡◌, ℕ, ◌+◌, ◌<◌, List, [], ◌∷◌, ◌++◌, map, take, length, get_or, Option, Bor, refl, ap, sym, ◌∙◌, subst}
use Rattle.std.specs.Option.{option_copied}
use Rattle.std.proofs.lemmas.List.{take_more}
use Rattle.expressions.specs.Meaning.{UserNames}
use Rattle.expressions.specs.Types.{TypedTerm}
use Rattle.key_ranges.specs.Boxes.{AreRolesFor}
use Rattle.planner.specs.declared.select.SelectPlan.{SelectPlan}
use Rattle.planner.specs.declared.sources.Source.{Source}
use Rattle.table_rows.specs.declared.target.Target.{Target}
use Rattle.table_rows.specs.Ranged.{LosesNothing}
use Rattle.row_statements.specs.declared.ranges.RangedSource.{RangedSource}
use Rattle.row_statements.specs.Ranges.{ranges_among, IsRangeWhere, AreRanged}
use Rattle.row_statements.specs.Reading.{AreTargetsOfPlan}
use Rattle.row_statements.specs.Targeted.{IsTargetOf, IsRangedTargetOf, AreTargetsOf}
use Rattle.row_statements.proofs.Ranging.{loses_nothing}

joined : (users : UserNames) (tables : List RangedSource) (targets : List Target) (s : RangedSource) (t : Target) → AreTargetsOf users tables targets → IsRangedTargetOf users s t → AreTargetsOf users (tables ++ s ∷ []) (targets ++ t ∷ [])
joined users [] [] s t are is = (is, tt)
joined users [] (u ∷ targets) s t are is = absurd are
joined users (r ∷ tables) [] s t are is = absurd are
joined users (r ∷ tables) (u ∷ targets) s t are is = (are.0, joined users tables targets s t are.1 is)

pub one_more : (users : UserNames) (tables : List RangedSource) (old new : List Target) (i : ℕ) (s : RangedSource) (t : Target) → new ≡ old ++ t ∷ [] → AreTargetsOf users (take i tables) old → i < length tables → s ≡ get_or tables i s
    → IsRangedTargetOf users s t → AreTargetsOf users (take (i + 1) tables) new
one_more users tables old new i s t pushed are lt at is =
    subst (λ (l : List Target). AreTargetsOf users (take (i + 1) tables) l) (sym pushed)
    (subst (λ (l : List RangedSource). AreTargetsOf users l (old ++ t ∷ [])) (sym (take_more tables i s lt ∙ ap (λ (x : RangedSource). take i tables ++ x ∷ []) (sym at)))
    (joined users (take i tables) old s t are is))

-- ---- UPDATE and DELETE

-- the target is this table of a plan, and its range loses nothing for the condition, which is lent
pub record IsTargetWhere (users : UserNames) (s : Source) (condition : Option TypedTerm) (lent : Option (Bor TypedTerm)) (target : Target) : Type 0 where
  pub is : IsTargetOf users s target
  pub same : option_copied lent ≡ condition
  pub lossless : LosesNothing target lent

pub target_where : (users : UserNames) (s : Source) (condition : Option TypedTerm) (lent : Option (Bor TypedTerm)) (r : RangedSource) (target : Target) → option_copied lent ≡ condition → r.source.now ≡ s
    → IsRangeWhere users s lent r.range → IsRangedTargetOf users r target → IsTargetWhere users s condition lent target
target_where users s condition lent r target lent_is same safe ranged =
    let is = subst (λ (x : Source). IsTargetOf users x target) same ranged.target_of in
    record {
      is = is;
      same = lent_is;
      lossless = loses_nothing users s target lent r.range is ranged.range safe;
    }

-- ---- SELECT

-- tables with ranges are these tables
sources_of_ranged : (users : UserNames) (conditions : List TypedTerm) (index : ℕ) (sources : List Source) (ranged : List RangedSource) → AreRanged users conditions index sources ranged
    → map (λ r. r.source.now) ranged ≡ sources
sources_of_ranged users conditions index [] [] are = refl
sources_of_ranged users conditions index [] (r ∷ ranged) are = absurd are
sources_of_ranged users conditions index (s ∷ sources) [] are = absurd are
sources_of_ranged users conditions index (s ∷ sources) (r ∷ ranged) are =
    ap (λ (x : Source). x ∷ map (λ r. r.source.now) ranged) are.0 ∙ ap (λ (xs : List Source). s ∷ xs) (sources_of_ranged users conditions (index + 1) sources ranged are.2)

-- the targets are the tables of a plan, and their ranges lose nothing
pub record AreTargetsIn (users : UserNames) (p : SelectPlan) (targets : List Target) : Type 0 where
  pub of_plan : AreTargetsOfPlan users p targets
  pub safe : AreRanged users p.query.conditions 0 p.sources of_plan.ranged

pub targets_in : {sources : List Source} {conditions : List TypedTerm} {ranged ranged_lent : List RangedSource} {targets lent : List Target} (users : UserNames) (roles : List (List ℕ)) (p : SelectPlan) → AreRolesFor users roles
    → sources ≡ p.sources → conditions ≡ p.query.conditions → ranged_lent ≡ ranged → lent ≡ targets
    → AreRanged users conditions 0 sources ranged → map (λ r. r.range) ranged ≡ ranges_among users roles conditions 0 sources → AreTargetsOf users ranged_lent targets → AreTargetsIn users p lent
targets_in {sources} {conditions} {ranged} {ranged_lent} {targets} {lent} users roles p are_roles sources_are conditions_are ranged_are lent_are with_ranges exact are =
    let safe : AreRanged users p.query.conditions 0 p.sources ranged =
    subst (λ (ss : List Source). AreRanged users p.query.conditions 0 ss ranged) sources_are (subst (λ (cs : List TypedTerm). AreRanged users cs 0 sources ranged) conditions_are with_ranges) in
    record {
      of_plan = record {
        roles = roles;
        are_roles = are_roles;
        ranged = ranged;
        sources = sources_of_ranged users p.query.conditions 0 p.sources ranged safe;
        ranges = exact
            ∙ ap (λ (cs : List TypedTerm). ranges_among users roles cs 0 sources) conditions_are
            ∙ ap (λ (ss : List Source). ranges_among users roles p.query.conditions 0 ss) sources_are;
        targets_of = subst (AreTargetsOf users ranged) (sym lent_are) (subst (λ (rs : List RangedSource). AreTargetsOf users rs targets) ranged_are are);
      };
      safe = safe;
    }
