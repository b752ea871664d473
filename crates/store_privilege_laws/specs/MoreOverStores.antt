-- The same over stores where policies hide rows beside tables that are not reached, and where columns are hidden.
use Rattle.std.specs.Prelude.{ℕ, Bool, true, false, [], ◌∷◌, pos}
use Rattle.sql_types.specs.declared.value.Value.TheVariants.{Int}
use Rattle.sql_types.specs.declared.answer.Answer.{Answer}
use Rattle.sql_types.specs.declared.answer.Answer.TheVariants as answer
use Rattle.abstract_database.specs.Lists.{TheName}
use Rattle.abstract_database.specs.Machine.{Event, Reading, Machine}
use Rattle.abstract_database.specs.Runs.{ReadingRelation, RanBy, Stops, At, Happens}
use Rattle.database_laws.specs.HiddenRuns.{IsException}
use Rattle.database_laws.specs.TwoTenants.{note, first, with_her_other, opened_by_ann, ann_asks, her_note, of_ann}
use Rattle.privilege_laws.specs.Related.{Relation, Telling}
use Rattle.privilege_laws.specs.Shown.{shown_to}
use Rattle.privilege_laws.specs.TwoOwners.{bobs_first, bobs_second}
use Rattle.privilege_laws.specs.ColumnRuns.{but_hidden, TellsColumns}
use Rattle.privilege_laws.specs.HiddenPay.{pay_of, with_pay, low, asks_key}
use Rattle.store_privilege_laws.specs.RelatedStores.{IsToldRelatedBy, StoresTellRelated, StoresPartWhereTold, StoresPartBehindOthers}
use Rattle.store_privilege_laws.specs.PlansOverStores.{ReadsOnly, no_stops, standing_with, ann_sends}

-- ---- columns

-- whatever columns are hidden
abbrev pub stores_tell_but_hidden_columns : ReadingRelation → Stops → Stops → Type 0
stores_tell_but_hidden_columns Reads Leave LeaveOther = (hidden : TheName → ℕ → Bool) → StoresTellRelated (but_hidden hidden) TellsColumns Reads Leave LeaveOther

abbrev pub hidden_columns_part_no_stores : ReadingRelation → Stops → Stops → Type 0
hidden_columns_part_no_stores Reads Leave LeaveOther = (hidden : TheName → ℕ → Bool) →
    StoresPartWhereTold (but_hidden hidden) TellsColumns Reads Leave LeaveOther × StoresPartBehindOthers (but_hidden hidden) TellsColumns Reads Leave LeaveOther

-- ---- instances

-- over both stores ann's text is read as this event, answered so, and told alike
pub record IsToldByStores (R : Relation) (T : Telling) (event : Event Reading) (m k : Machine) (x : Answer) : Type 0 where
  pub end : At
  pub end_there : At
  pub ran : RanBy (Happens (ReadsOnly event) no_stops) (standing_with m) (ann_sends ∷ []) (x ∷ []) end
  pub ran_there : RanBy (Happens (ReadsOnly event) no_stops) (standing_with k) (ann_sends ∷ []) (x ∷ []) end_there
  pub told : IsToldRelatedBy (ReadsOnly event) no_stops no_stops R T of_ann (standing_with m) (standing_with k) (ann_sends ∷ []) (x ∷ []) (ann_sends ∷ []) (x ∷ [])

-- with these two answers it is not
abbrev pub PartsStores : Relation → Telling → Event Reading → Machine → Machine → Answer → Answer → Type 0
PartsStores R T event m k x y = IsToldRelatedBy (ReadsOnly event) no_stops no_stops R T of_ann (standing_with m) (standing_with k) (ann_sends ∷ []) (x ∷ []) (ann_sends ∷ []) (y ∷ []) → ⊥

-- bob's notes and plans differ at once, and ann is told her note; where her own notes differ they part at her SELECT
pub record NotesOverStores : Type 0 where
  pub told : IsToldByStores (shown_to of_ann) IsException ann_asks (opened_by_ann bobs_first) (opened_by_ann bobs_second) her_note
  pub parts : PartsStores (shown_to of_ann) IsException ann_asks (opened_by_ann first) (opened_by_ann with_her_other) her_note (answer.Rows (note "ann" 2 ∷ []))

-- the pay differs, which ann may not read, and she is told the key; where a policy names the pay they part at that SELECT
pub record PayOverStores : Type 0 where
  pub told : IsToldByStores (but_hidden pay_of of_ann) TellsColumns asks_key (opened_by_ann (with_pay false [] 1)) (opened_by_ann (with_pay false [] 2)) (answer.Rows ((Int (pos 1) ∷ []) ∷ []))
  pub parts : PartsStores (but_hidden pay_of of_ann) TellsColumns asks_key (opened_by_ann (with_pay true low 1)) (opened_by_ann (with_pay true low 2)) (answer.Rows ((Int (pos 1) ∷ []) ∷ [])) (answer.Rows [])
