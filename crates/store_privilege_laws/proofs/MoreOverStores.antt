-- Policies and columns over stores.
use Rattle.std.proofs.Common.{◌≡◌, ℕ, pos, true, false, [], ◌∷◌, length, refl, sym, ap, ◌∙◌, subst}
use Rattle.sql_types.specs.declared.value.Value.TheVariants.{Int, Text}
use Rattle.sql_types.specs.declared.answer.Answer.{Answer}
use Rattle.sql_types.specs.declared.answer.Answer.TheVariants as answer
use Rattle.abstract_database.specs.Database.{Database}
use Rattle.abstract_database.specs.Machine.{Event, executes, Reading, Machine}
use Rattle.abstract_database.specs.Runs.{ReadingRelation, IsTransition, RanBy, Stops, Happens}
use Rattle.database_laws.specs.HiddenRuns.{AreSound, answer_to, after, IsException}
use Rattle.database_laws.specs.Told.{Tenant, happens}
use Rattle.database_laws.specs.TwoTenants.{note, first, with_her_other, opened_by_ann, ann_asks, reading_of, her_note, of_ann}
use Rattle.privilege_laws.specs.Related.{Relation, Telling, MachinesRelated, MayPart, IsToldRelated}
use Rattle.privilege_laws.specs.Related as machines
use Rattle.privilege_laws.specs.Shown.{shown_to}
use Rattle.privilege_laws.specs.TwoOwners.{bobs_first, bobs_second}
use Rattle.privilege_laws.specs.ColumnRuns.{but_hidden, TellsColumns}
use Rattle.privilege_laws.specs.HiddenPay.{pay_of, with_pay, low, asks_key}
use Rattle.privilege_laws.proofs.Moves.{Hides}
use Rattle.privilege_laws.proofs.ShownTold.{shown_hides}
use Rattle.privilege_laws.proofs.ColumnRuns.{columns_are_hidden}
use Rattle.privilege_laws.proofs.BothHidden.{both_are_hidden}
use Rattle.privilege_laws.proofs.HiddenPay.{pay_is_hidden, policy_tells_pay}
use Rattle.store_privilege_laws.specs.RelatedStores.{StoresTellRelated}
use Rattle.store_privilege_laws.specs.PlansOverStores.{ReadsOnly, no_stops, standing_with, ann_sends}
use Rattle.store_privilege_laws.specs.MoreOverStores.{stores_tell_but_hidden_columns, hidden_columns_part_no_stores, IsToldByStores, PartsStores, NotesOverStores, PayOverStores}
use Rattle.store_privilege_laws.proofs.RelatedStores.{stores_told}
use Rattle.store_privilege_laws.proofs.StoresApart.{stores_part, stores_part_behind}
use Rattle.store_privilege_laws.proofs.PlansOverStores.{happens_so, no_store_gives, is_refused, reads_once}

clash : true ≡ false → ⊥
clash e = cc

-- ---- the laws

pub shown_by_stores : (Reads : ReadingRelation) (Leave LeaveOther : Stops) → StoresTellRelated shown_to IsException Reads Leave LeaveOther
shown_by_stores Reads Leave LeaveOther = stores_told shown_to IsException (λ a. shown_hides a.pairs) Reads Leave LeaveOther

pub columns_by_stores : (Reads : ReadingRelation) (Leave LeaveOther : Stops) → stores_tell_but_hidden_columns Reads Leave LeaveOther
columns_by_stores Reads Leave LeaveOther hidden = stores_told (but_hidden hidden) TellsColumns (λ a. columns_are_hidden hidden a.pairs) Reads Leave LeaveOther

pub columns_part : (Reads : ReadingRelation) (Leave LeaveOther : Stops) → hidden_columns_part_no_stores Reads Leave LeaveOther
columns_part Reads Leave LeaveOther hidden = (stores_part (but_hidden hidden) TellsColumns Reads Leave LeaveOther, stores_part_behind (but_hidden hidden) TellsColumns Reads Leave LeaveOther)

-- ---- one event over stores

module _ (R : Tenant → Relation) (T : Telling) (hides : (a : Tenant) → Hides a.pairs (R a) T) (reading : Reading) (m k : Machine) (x : Answer) (st : MachinesRelated (R of_ann) of_ann m k) (on_m : AreSound m) (on_k : AreSound k)
    (here : answer_to m (executes 1 reading) ≡ x) (there : answer_to k (executes 1 reading) ≡ x) where
  asks : (j : Machine) → answer_to j (executes 1 reading) ≡ x → IsTransition (ReadsOnly (executes 1 reading)) j ann_sends (record { answer = x; machine = after j (executes 1 reading) })
  asks j is = record { as_read = executes 1 reading; read = (reading, refl, λ may. refl); is = ap (λ (z : Answer). record { answer = z; machine = after j (executes 1 reading) }) (sym is) }

  abbrev Ran : Machine → Type 0
  Ran j = RanBy (Happens (ReadsOnly (executes 1 reading)) no_stops) (standing_with j) (ann_sends ∷ []) (x ∷ []) (standing_with (after j (executes 1 reading)))

  abbrev runs : (j : Machine) → answer_to j (executes 1 reading) ≡ x → Ran j
  runs j is = (standing_with (after j (executes 1 reading)), happens_so (ReadsOnly (executes 1 reading)) j ann_sends x (after j (executes 1 reading)) (asks j is), refl)

  told_by_both : IsToldByStores (R of_ann) T (executes 1 reading) m k x
  told_by_both = record {
    end = standing_with (after m (executes 1 reading));
    end_there = standing_with (after k (executes 1 reading));
    ran = runs m here;
    ran_there = runs k there;
    told = stores_told R T hides (ReadsOnly (executes 1 reading)) no_stops no_stops (reads_once (executes 1 reading)) of_ann (standing_with m) (standing_with k) (standing_with (after m (executes 1 reading))) (standing_with (after k (executes 1 reading)))
        (ann_sends ∷ []) (ann_sends ∷ []) (x ∷ []) (x ∷ []) st on_m on_k (runs m here) (runs k there) ((λ own. tt, λ foreign. absurd (clash foreign)), tt) ((λ own. tt, λ foreign. absurd (clash foreign)), tt) refl;
  }

module _ (R : Tenant → Relation) (T : Telling) (reading : Reading) (d e : Database) (x y : Answer) (plain : is_refused x ≡ false) (plain_there : is_refused y ≡ false) (differ : x ≡ y → ⊥)
    (never : MayPart T of_ann (opened_by_ann d) (opened_by_ann e) (happens (executes 1 reading)) → ⊥) where
  parts_both : PartsStores (R of_ann) T (executes 1 reading) (opened_by_ann d) (opened_by_ann e) x y
  parts_both told =
      let at = stores_part R T (ReadsOnly (executes 1 reading)) no_stops no_stops of_ann (standing_with (opened_by_ann d)) (standing_with (opened_by_ann e)) ann_sends x y refl differ
      (no_store_gives x plain) (no_store_gives y plain_there) told in
      never (subst (λ (q : Event Reading). MayPart T of_ann (opened_by_ann d) (opened_by_ann e) (happens q)) (at.1.1 ∙ ap (λ (r : Reading). executes 1 r) (at.1.2 (refl, refl))) at.2)

-- ---- instances

abbrev her_first : Answer → ℕ
her_first (answer.Rows ((Text t ∷ Int (pos n) ∷ []) ∷ rows)) = n
her_first _ = 0

abbrev rows_told : Answer → ℕ
rows_told (answer.Rows rows) = length rows
rows_told _ = 0

pub notes_over_stores : NotesOverStores
notes_over_stores = record {
  told = told_by_both shown_to IsException (λ a. shown_hides a.pairs) (reading_of ann_asks) (opened_by_ann bobs_first) (opened_by_ann bobs_second) her_note both_are_hidden.machines
      both_are_hidden.sound.0 both_are_hidden.sound.1 both_are_hidden.told.0 both_are_hidden.told.1;
  parts = parts_both shown_to IsException (reading_of ann_asks) first with_her_other her_note (answer.Rows (note "ann" 2 ∷ [])) refl refl (λ same. let wrong : 1 ≡ 2 = ap her_first same in cc)
      (λ may. both_are_hidden.parts (machines.told_apart refl may (λ one. let contrary : her_note ≡ answer.Refused one.0 = one.1 in cc)));
}

abbrev the_key : Answer
the_key = answer.Rows ((Int (pos 1) ∷ []) ∷ [])

pub pay_over_stores : PayOverStores
pay_over_stores = record {
  told = told_by_both (but_hidden pay_of) TellsColumns (λ a. columns_are_hidden pay_of a.pairs) (reading_of asks_key) (opened_by_ann (with_pay false [] 1)) (opened_by_ann (with_pay false [] 2)) the_key pay_is_hidden.machines
      (record { committed = pay_is_hidden.sound.0; holder = tt }) (record { committed = pay_is_hidden.sound.1; holder = tt }) refl refl;
  parts = parts_both (but_hidden pay_of) TellsColumns (reading_of asks_key) (with_pay true low 1) (with_pay true low 2) the_key (answer.Rows []) refl refl (λ same. let wrong : 1 ≡ 0 = ap rows_told same in cc)
      (λ may. policy_tells_pay.runs_part (machines.told_apart refl may (λ one. let contrary : the_key ≡ answer.Refused one.0 = one.1 in cc)));
}
