-- Two servers over stores whose databases differ in the rows of another tenant's table: they meet the premises, or break the law.
use Rattle.std.specs.Prelude.{◌≡◌, List, [], ◌∷◌, None}
use Rattle.sql_types.specs.declared.answer.Answer.{Answer}
use Rattle.sql_types.specs.declared.answer.Answer.TheVariants as answer
use Rattle.sql_types.specs.declared.tag.Tag.TheVariants as tag
use Rattle.abstract_database.specs.Machine.{Event, executes, closes, Reading, Machine}
use Rattle.abstract_database.specs.Runs.{TheText, ReadingRelation, RanBy, Counts, Stops, At, Happens}
use Rattle.database_laws.specs.TwoTenants.{reading_of, of_ann, opened_by_ann}
use Rattle.privilege_laws.specs.Related.{NothingTells}
use Rattle.privilege_laws.specs.Reached.{reached_by}
use Rattle.privilege_laws.specs.TwoOwners.{letters, plans, ann_selects, shown, before_bob, behind_bob, with_staff}
use Rattle.store_privilege_laws.specs.RelatedStores.{KeepRelated, IsToldRelatedBy}

-- each text is read as this event's
abbrev pub ReadsOnly : Event Reading → ReadingRelation
ReadsOnly event text reading = reading ≡ reading_of event

-- of stops nothing is said
abbrev pub no_stops : Stops
no_stops from to P = Unit {0}

abbrev pub no_counts : Counts
no_counts = record { number = 0; fulls = 0; failures = 0; faults = 0 }

abbrev pub standing_with : Machine → At
standing_with m = record { counts = no_counts; moment = 0; standing = record { machine = m; under_way = None } }

-- a text in ann's first session
abbrev pub ann_sends : Event TheText
ann_sends = executes 1 []

abbrev pub is_closed : Answer
is_closed = answer.Done tag.Close None None

-- a session of bob's is closed before she asks, or behind it
abbrev pub bob_first : List (Event TheText)
bob_first = closes 7 ∷ ann_sends ∷ []

abbrev pub ann_first : List (Event TheText)
ann_first = ann_sends ∷ closes 9 ∷ []

-- bob's plans differ, and ann is told her letters alike
pub record StoresTellNothing : Type 0 where
  pub end : At
  pub end_there : At
  pub ran : RanBy (Happens (ReadsOnly (ann_selects letters)) no_stops) (standing_with before_bob) bob_first (is_closed ∷ shown 1 ∷ []) end
  pub ran_there : RanBy (Happens (ReadsOnly (ann_selects letters)) no_stops) (standing_with behind_bob) ann_first (shown 1 ∷ is_closed ∷ []) end_there
  pub keep : KeepRelated (ReadsOnly (ann_selects letters)) no_stops (reached_by of_ann) of_ann (standing_with before_bob) end bob_first (is_closed ∷ shown 1 ∷ []) ran
  pub keep_there : KeepRelated (ReadsOnly (ann_selects letters)) no_stops (reached_by of_ann) of_ann (standing_with behind_bob) end_there ann_first (shown 1 ∷ is_closed ∷ []) ran_there
  pub told : IsToldRelatedBy (ReadsOnly (ann_selects letters)) no_stops no_stops (reached_by of_ann) NothingTells of_ann (standing_with before_bob) (standing_with behind_bob)
      bob_first (is_closed ∷ shown 1 ∷ []) ann_first (shown 1 ∷ is_closed ∷ [])

-- where a membership gives her SELECT on the plans, they part at it
abbrev pub StoresPartAtPlans : Type 0
StoresPartAtPlans =
    IsToldRelatedBy (ReadsOnly (ann_selects plans)) no_stops no_stops (reached_by of_ann) NothingTells of_ann (standing_with (opened_by_ann (with_staff 1))) (standing_with (opened_by_ann (with_staff 2)))
    (ann_sends ∷ []) (shown 1 ∷ []) (ann_sends ∷ []) (shown 2 ∷ []) → ⊥
