-- A statement that is carried out over the descriptors of its table alone is carried out in each database of the definitions.
use Rattle.std.proofs.Common.{◌≡◌, Option, None, Ok, inl, inr, sym, ap, ◌∙◌, subst}
use Rattle.sql_types.specs.declared.answer.Answer.{Answer}
use Rattle.sql_types.specs.declared.answer.Answer.TheVariants.{Done}
use Rattle.sql_types.specs.declared.tag.Tag.{Tag}
use Rattle.sql_types.specs.declared.warning.Warning.{Warning}
use Rattle.sql_types.specs.declared.state.Refusal.{Refusal}
use Rattle.expressions.specs.Meaning.{UserNames}
use Rattle.store.specs.Records.{Records, Changes, applied}
use Rattle.store.proofs.Changes.{ordered_applied}
use Rattle.abstract_database.specs.Lists.{TheName}
use Rattle.abstract_database.specs.Database.{Database}
use Rattle.abstract_database.specs.Statements.{Effect, effect}
use Rattle.abstract_database.specs.Whole.{IsWhole}
use Rattle.stored_database.specs.Definitions.{TableDefinition, Definitions}
use Rattle.stored_database.specs.Valid.{Describes}
use Rattle.stored_database.specs.Records.{Shows}
use Rattle.catalogue.specs.Executed.{Execution}
use Rattle.catalogue_changes.specs.Carried.{IsCurrent, Carries, Refuses}
use Rattle.catalogue.specs.declared.change.SchemaChange.TheVariants as change
use Rattle.catalogue.specs.Changes.{changed}
use Rattle.catalogue.specs.Descriptors.{DescriptorsChanged, descriptors_after, table_after}
use Rattle.catalogue_changes.specs.DescriptorChanges.{IsChangeOf}
use Rattle.catalogue_changes.specs.Differences.{applied_in_turn}
use Rattle.catalogue_changes.specs.SchemaChanges.{FitsTable, record_changes}
use Rattle.catalogue_changes.specs.Entries.{Adds, IsNotStored}
use Rattle.catalogue_changes.specs.StatementChanges.{alone, IsDoneAlike, AgreesAlone, IsTableOf}
use Rattle.catalogue_changes.proofs.ChangeLemmas.{change_leads, change_described}
use Rattle.catalogue_changes.proofs.SetLemmas.{set_changed, set_records}
use Rattle.catalogue_changes.proofs.StorableLemmas.{valid_storable, put_storable}
use Rattle.schema_statements.specs.Alone.{LeavesAlone, IsRefusedAlone}

-- a statement that has the result of one over the descriptors of this table alone, and leaves databases whole
pub record ConcernsTable (run : Execution) (d : Definitions) (t : TableDefinition) : Type 0 where
  pub agrees : (db : Database) (users : UserNames) → Describes d db → AgreesAlone t d db (run db users) (run (alone t db) users)
  pub whole : (db : Database) (users : UserNames) (e : Effect) → Describes d db → run db users ≡ Ok e → IsWhole e.database

module _ (current : TheName) (run : Execution) (d : Definitions) (t : TableDefinition) (concerns : ConcernsTable run d t) where
  module _ (c : DescriptorsChanged) (found : IsTableOf d c.table t) (changes : IsChangeOf t c)
      (tag : Tag) (warning : Option Warning) (leaves : LeavesAlone current run d t tag warning (descriptors_after c t.descriptors)) where
    done_alike : (db : Database) (users : UserNames) → Describes d db → users.current ≡ current → IsDoneAlike t d db (run db users) (effect (Done tag None warning) (record db { descriptors = descriptors_after c t.descriptors }))
    done_alike db users h by = subst (AgreesAlone t d db (run db users)) (leaves db users h by) (concerns.agrees db users h)

    pub carries : (old new : Changes) → ((records : Records) → Adds (record_changes (change.SetDescriptors c) d records) old new) →
        Carries (IsCurrent current) run d (Done tag None warning) (changed (change.SetDescriptors c) d) old new
    carries old new adds db users h by =
        let m = done_alike db users h by in
        let after = m.effect.database in
        let whole = concerns.whole db users m.effect h m.done in
        let fits : FitsTable c d = record { table = t; found = found; change = changes; after = m.makes.fits } in
        let same = set_changed c d db after h fits in
        record {
          after = after;
          effects = m.done ∙ ap (λ (a : Answer). Ok (effect a after)) m.answer;
          describes = subst (λ (e : Definitions). Describes e after) (sym same) (change_described d db after h (change.PutTable (table_after c t)) m.makes.fits m.makes.is whole);
          leads = λ records o s.
              let before = applied old records in
              subst (λ (r : Records). Shows r (changed (change.SetDescriptors c) d) after) (sym (adds before records o))
              (subst (λ (e : Definitions). Shows (applied_in_turn (record_changes (change.SetDescriptors c) d before) before) e after) (sym same)
              (subst (λ (cs : Changes). Shows (applied_in_turn cs before) (changed (change.PutTable (table_after c t)) d) after) (set_records c d db after h fits m.makes.is whole before)
              (change_leads (change.PutTable (table_after c t)) before d db after (ordered_applied old records o) s m.makes.fits m.makes.is whole)));
        }

    -- a store takes the records of the table after the change
    pub refused_unstored : (refusal : Refusal) → IsNotStored d (table_after c t) refusal → Refuses (IsCurrent current) run d refusal
    refused_unstored refusal (inl memory) = inl memory
    refused_unstored refusal (inr not_stored) = inr (λ db users h by.
        let m = done_alike db users h by in
        absurd (not_stored (valid_storable d h.valid)
        (put_storable (table_after c t) d db m.effect.database h m.makes.fits m.makes.is (concerns.whole db users m.effect h m.done))))

  pub refused_alone : (refusal : Refusal) → IsRefusedAlone current run d t refusal → Refuses (IsCurrent current) run d refusal
  refused_alone refusal (inl memory) = inl memory
  refused_alone refusal (inr e) = inr (λ db users h by. subst (AgreesAlone t d db (run db users)) (e db users h by) (concerns.agrees db users h))
