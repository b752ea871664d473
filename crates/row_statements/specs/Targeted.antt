-- The tables of a plan, as what carries it out takes them.
use Rattle.std.specs.Prelude.{◌≡◌, List, [], ◌∷◌}
use Rattle.std.specs.Option.{option_copied}
use Rattle.expressions.specs.Meaning.{UserNames}
use Rattle.planner.specs.declared.sources.Source.{Source}
use Rattle.table_rows.specs.declared.target.Target.{Target}
use Rattle.table_rows.specs.Targets.{users_of}
use Rattle.row_statements.specs.declared.ranges.RangedSource.{RangedSource}

-- the target is this table of a plan, with its guard, for these users
pub record IsTargetOf (users : UserNames) (s : Source) (target : Target) : Type 0 where
  pub id : target.id ≡ s.table.now.id
  pub layout : target.columns.now ≡ s.table.now.definition.layout
  pub guard : target.guard.now ≡ s.guard
  pub who : users_of target ≡ users

-- and has this range
pub record IsRangedTargetOf (users : UserNames) (r : RangedSource) (target : Target) : Type 0 where
  pub target_of : IsTargetOf users r.source.now target
  pub range : option_copied target.range ≡ r.range

-- the targets are these tables with their ranges, each in its place
abbrev pub AreTargetsOf : UserNames → List RangedSource → List Target → Type 0
AreTargetsOf users [] [] = Unit {0}
AreTargetsOf users [] (target ∷ targets) = ⊥
AreTargetsOf users (r ∷ ranged) [] = ⊥
AreTargetsOf users (r ∷ ranged) (target ∷ targets) = IsRangedTargetOf users r target × AreTargetsOf users ranged targets
