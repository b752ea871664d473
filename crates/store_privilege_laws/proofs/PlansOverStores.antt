-- Two servers over stores whose databases differ in the rows of another tenant's table.
use Rattle.std.proofs.Common.{◌≡◌, ℕ, pos, Bool, true, false, [], ◌∷◌, refl, sym, ap, ◌∙◌, subst, arith}
use Rattle.sql_types.specs.declared.value.Value.TheVariants.{Int}
use Rattle.sql_types.specs.declared.answer.Answer.{Answer}
use Rattle.sql_types.specs.declared.answer.Answer.TheVariants as answer
use Rattle.abstract_database.specs.Database.{Database}
use Rattle.abstract_database.specs.Statements.{UserPair}
use Rattle.abstract_database.specs.Machine.{Event, executes, closes, Reading, Machine}
use Rattle.abstract_database.specs.Runs.{TheText, ReadingRelation, IsReadAs, IsTransition, RanBy, NoneFalls, At, Happens, by_transition}
use Rattle.database_laws.specs.Runs.{ReadsOnce}
use Rattle.database_laws.specs.HiddenRuns.{answer_to, after, not_issued, failed}
use Rattle.database_laws.specs.Told.{happens}
use Rattle.database_laws.specs.ToldApart.{NoStoreGives}
use Rattle.database_laws.specs.TwoTenants.{reading_of, of_ann, opened_by_ann}
use Rattle.privilege_laws.specs.Related.{NothingTells, MayPart}
use Rattle.privilege_laws.specs.Related as machines
use Rattle.privilege_laws.specs.Reached.{SameReachedRows, reached_by}
use Rattle.privilege_laws.specs.TwoOwners.{letters, plans, ann_selects, shown, before_bob, behind_bob, with_plan, with_staff}
use Rattle.privilege_laws.proofs.ReachedTables.{tables_are_hidden}
use Rattle.privilege_laws.proofs.TwoOwners.{plans_tell_nothing, plans_tell_staff}
use Rattle.store_privilege_laws.specs.RelatedStores.{KeepRelated}
use Rattle.store_privilege_laws.specs.PlansOverStores.{ReadsOnly, no_stops, no_counts, standing_with, ann_sends, is_closed, bob_first, ann_first, StoresTellNothing, StoresPartAtPlans}
use Rattle.store_privilege_laws.proofs.RelatedStores.{stores_told}
use Rattle.store_privilege_laws.proofs.StoresApart.{stores_part}

clash : true ≡ false → ⊥
clash e = cc

-- ---- runs

pub none_falls : NoneFalls no_counts no_counts
none_falls = record { number = omega arith; fulls = omega arith; failures = omega arith; faults = omega arith }

-- one event of the machine over a store that counts nothing
abbrev pub happens_so : (Reads : ReadingRelation) (m : Machine) (event : Event TheText) (x : Answer) (next : Machine) → IsTransition Reads m event (record { answer = x; machine = next }) →
    Happens Reads no_stops (standing_with m) event x (standing_with next)
happens_so Reads m event x next is = record { counts = none_falls; step = by_transition is; under_way = refl; later = omega arith; during = tt; now = tt }

abbrev AsLetters : ReadingRelation
AsLetters = ReadsOnly (ann_selects letters)

abbrev asks : (m : Machine) → IsTransition AsLetters m ann_sends (record { answer = answer_to m (ann_selects letters); machine = after m (ann_selects letters) })
asks m = record { as_read = ann_selects letters; read = (reading_of (ann_selects letters), refl, λ may. refl); is = refl }

abbrev leaves : (m : Machine) (number : ℕ) → IsTransition AsLetters m (closes number) (record { answer = answer_to m (closes number); machine = after m (closes number) })
leaves m number = record { as_read = closes number; read = refl; is = refl }

abbrev bob_gone : Machine
bob_gone = after before_bob (closes 7)

abbrev ann_asked : Machine
ann_asked = after behind_bob (ann_selects letters)

abbrev end : At
end = standing_with (after bob_gone (ann_selects letters))

abbrev end_there : At
end_there = standing_with (after ann_asked (closes 9))

abbrev ran : RanBy (Happens AsLetters no_stops) (standing_with before_bob) bob_first (is_closed ∷ shown 1 ∷ []) end
ran = (
  standing_with bob_gone,
  happens_so AsLetters before_bob (closes 7) is_closed bob_gone (leaves before_bob 7),
  (end, happens_so AsLetters bob_gone ann_sends (shown 1) (after bob_gone (ann_selects letters)) (asks bob_gone), refl),
)

abbrev ran_there : RanBy (Happens AsLetters no_stops) (standing_with behind_bob) ann_first (shown 1 ∷ is_closed ∷ []) end_there
ran_there = (
  standing_with ann_asked,
  happens_so AsLetters behind_bob ann_sends (shown 1) ann_asked (asks behind_bob),
  (end_there, happens_so AsLetters ann_asked (closes 9) is_closed (after ann_asked (closes 9)) (leaves ann_asked 9), refl),
)

same_rows : (pairs : UserPair → Bool) (db : Database) → SameReachedRows pairs db db
same_rows pairs db = record { definitions = refl; rows = λ name reached. refl }

keep : KeepRelated AsLetters no_stops (reached_by of_ann) of_ann (standing_with before_bob) end bob_first (is_closed ∷ shown 1 ∷ []) ran
keep = ((λ own. absurd (clash (sym own)), λ foreign. same_rows of_ann.pairs (with_plan 1)), ((λ own. tt, λ foreign. absurd (clash foreign)), tt))

keep_there : KeepRelated AsLetters no_stops (reached_by of_ann) of_ann (standing_with behind_bob) end_there ann_first (shown 1 ∷ is_closed ∷ []) ran_there
keep_there = ((λ own. tt, λ foreign. absurd (clash foreign)), ((λ own. absurd (clash (sym own)), λ foreign. same_rows of_ann.pairs (with_plan 2)), tt))

pub reads_once : (event : Event Reading) → ReadsOnce (ReadsOnly event)
reads_once event text x y one two = one ∙ sym two

pub plans_stay_hidden : StoresTellNothing
plans_stay_hidden = record {
  end = end;
  end_there = end_there;
  ran = ran;
  ran_there = ran_there;
  keep = keep;
  keep_there = keep_there;
  told = stores_told reached_by NothingTells (λ a. tables_are_hidden a.pairs) AsLetters no_stops no_stops (reads_once (ann_selects letters)) of_ann (standing_with before_bob) (standing_with behind_bob) end end_there
      bob_first ann_first (is_closed ∷ shown 1 ∷ []) (shown 1 ∷ is_closed ∷ []) plans_tell_nothing.machines plans_tell_nothing.sound.0 plans_tell_nothing.sound.1 ran ran_there keep keep_there refl;
}

-- ---- where a membership reaches the table

abbrev m : Machine
m = opened_by_ann (with_staff 1)

abbrev k : Machine
k = opened_by_ann (with_staff 2)

abbrev pub is_refused : Answer → Bool
is_refused (answer.Refused code) = true
is_refused _ = false

pub no_store_gives : (x : Answer) → is_refused x ≡ false → NoStoreGives x
no_store_gives x not_so old new (not_issued code is counted) = clash (sym (ap is_refused is) ∙ not_so)
no_store_gives x not_so old new (failed is broke) = clash (sym (ap is_refused is) ∙ not_so)

abbrev first_of : Answer → ℕ
first_of (answer.Rows ((Int (pos n) ∷ []) ∷ rows)) = n
first_of _ = 0

read_so : (read : Event Reading) → IsReadAs (ReadsOnly (ann_selects plans)) m ann_sends read → read ≡ ann_selects plans
read_so read (reading, is, reads) = is ∙ ap (λ r. executes 1 r) (reads (refl, refl))

parts_nowhere : MayPart NothingTells of_ann m k (happens (ann_selects plans)) → ⊥
parts_nowhere may = plans_tell_staff.parts (machines.told_apart refl may (λ one. let contrary : shown 1 ≡ answer.Refused one.0 = one.1 in cc))

pub plans_part_stores : StoresPartAtPlans
plans_part_stores told =
    let at = stores_part reached_by NothingTells (ReadsOnly (ann_selects plans)) no_stops no_stops of_ann (standing_with m) (standing_with k) ann_sends (shown 1) (shown 2) refl
    (λ same. let wrong : 1 ≡ 2 = ap first_of same in cc) (no_store_gives (shown 1) refl) (no_store_gives (shown 2) refl) told in
    parts_nowhere (subst (λ (e : Event Reading). MayPart NothingTells of_ann m k (happens e)) (read_so at.0 at.1) at.2)
