-- ALTER TABLE and DROP TABLE in each database of the definitions.
use Rattle.std.proofs.Common.{◌≡◌, None, Result, Ok, Err, inl, inr, refl, sym, ap, ◌∙◌, subst}
use Rattle.std.specs.Result.{IsErrAnd}
use Rattle.sql_types.specs.declared.answer.Answer.TheVariants.{Done}
use Rattle.sql_types.specs.declared.tag.Tag.TheVariants as tag
use Rattle.sql_types.specs.declared.state.Refusal.{Refusal}
use Rattle.sql_types.specs.declared.state.SqlState.{SqlState}
use Rattle.sql_ast.specs.declared.statement.DatabaseStatement.TheVariants as on_database
use Rattle.sql_ast.specs.declared.statement.DefiningStatement.TheVariants as defining
use Rattle.sql_ast.specs.declared.statement.AlterTable.{AlterTable}
use Rattle.sql_ast.specs.declared.statement.DropTable.{DropTable}
use Rattle.store.specs.declared.fault.Fault.{Fault}
use Rattle.store.specs.declared.fault.Fault.TheVariants.{Memory, Device, Damaged}
use Rattle.store.specs.declared.stop.StatementError.{StatementError}
use Rattle.store.specs.declared.stop.StatementError.TheVariants.{Failed}
use Rattle.store.specs.Readers.{HasRead}
use Rattle.store.specs.StatementError.{ReadsMap}
use Rattle.store.specs.Store.{StoreState}
use Rattle.expressions.specs.Meaning.{UserNames}
use Rattle.expressions.specs.Stages.{◌>>=◌}
use Rattle.abstract_database.specs.Lists.{TheName}
use Rattle.abstract_database.specs.Database.{Database}
use Rattle.abstract_database.specs.Definitions.{with_table_changed, with_row_security, without_table}
use Rattle.abstract_database.specs.Statements.{done, alter_table, drop_table}
use Rattle.stored_database.specs.Definitions.{TableDefinition, Definitions}
use Rattle.stored_database.specs.Valid.{Describes}
use Rattle.stored_database.proofs.Wholeness.{described_whole, shown_described}
use Rattle.database_laws.proofs.OrderLemmas.{ordered}
use Rattle.database_laws.proofs.WholeRoles.{whole_of}
use Rattle.database_laws.proofs.WholeTables.{alter_table_whole, drop_table_whole}
use Rattle.catalogue.specs.declared.effect.Effect.{Effect}
use Rattle.catalogue.specs.Executed.{Execution}
use Rattle.catalogue_changes.specs.Carried.{IsCurrent, Refuses}
use Rattle.catalogue.specs.declared.change.SchemaChange.TheVariants as change
use Rattle.catalogue_changes.specs.SchemaChanges.{tables_named, row_entries}
use Rattle.catalogue_changes.specs.Entries.{AreStorableTables, IsNotStored}
use Rattle.catalogue_changes.specs.Reads.{HaveKeySizes}
use Rattle.catalogue_changes.specs.StatementChanges.{IsTableOf, with_flag}
use Rattle.catalogue_changes.proofs.TableBridgeLemmas.{alter_table_done, drop_table_done}
use Rattle.catalogue_changes.proofs.StorableLemmas.{valid_storable, put_storable, rows_sized}
use Rattle.schema_statements.specs.Owners.{owned}
use Rattle.schema_statements.specs.Refusing.{IsRightRefusal}
use Rattle.schema_statements.proofs.TableCarrying.{IsMade, IsDoneOver}
use Rattle.schema_statements.proofs.Owning.{owned_alike}

-- a store takes the records of a table that a statement puts
pub refused_unstored : (who : UserNames → Type 0) (run : Execution) (d : Definitions) (t : TableDefinition) (refusal : Refusal) → IsNotStored d t refusal →
    ((db : Database) (users : UserNames) → Describes d db → who users → (answer : _) × IsMade run (change.PutTable t) d answer db users) → Refuses who run d refusal
refused_unstored who run d t refusal (inl memory) makes = inl memory
refused_unstored who run d t refusal (inr not_stored) makes = inr (λ db users h by.
    let m = (makes db users h by).1 in
    absurd (not_stored (valid_storable d h.valid) (put_storable t d db m.after h m.makes.fits m.makes.is m.whole)))

-- ---- ALTER TABLE

module _ (d : Definitions) (current : TheName) (s : AlterTable) where
  checked_alike : (db : Database) (users : UserNames) → Describes d db → users.current ≡ current →
      alter_table db users s ≡ (owned d current s.table >>= λ free. Ok (done tag.AlterTable (with_table_changed s.table (with_row_security s.change) db)))
  checked_alike db users h by = ap (λ (r : Result (Unit {0}) SqlState). r >>= λ free. Ok (done tag.AlterTable (with_table_changed s.table (with_row_security s.change) db))) (owned_alike d db users current s.table h by)

  pub refused_to_alter : (refusal : Refusal) → IsRightRefusal refusal (owned d current s.table) → Refuses (IsCurrent current) (λ db users. alter_table db users s) d refusal
  refused_to_alter refusal (inl memory) = inl memory
  refused_to_alter refusal (inr e) = inr (λ db users h by.
      checked_alike db users h by ∙ ap (λ (r : Result (Unit {0}) SqlState). r >>= λ free. Ok (done tag.AlterTable (with_table_changed s.table (with_row_security s.change) db))) e)

  pub alters : (t : TableDefinition) → IsTableOf d s.table t → owned d current s.table ≡ Ok tt → (db : Database) (users : UserNames) → Describes d db → users.current ≡ current →
      IsMade (λ db users. alter_table db users s) (change.PutTable (with_flag s.change t)) d (Done tag.AlterTable None None) db users
  alters t found allowed db users h by =
      let after = with_table_changed s.table (with_row_security s.change) db in
      let is = checked_alike db users h by ∙ ap (λ (r : Result (Unit {0}) SqlState). r >>= λ free. Ok (done tag.AlterTable after)) allowed in
      record {
        after = after;
        effects = is;
        makes = alter_table_done d db users s t h found (done tag.AlterTable after) is;
        whole = whole_of after (ordered db users (on_database.Defining (defining.AlterTable s)) (done tag.AlterTable after) is (described_whole d db h).definitions.order)
            (alter_table_whole db users s (described_whole d db h) (done tag.AlterTable after) is);
      }

-- ---- DROP TABLE

-- a store takes the records of a database
failed_with : (s : StoreState) (who : UserNames → Type 0) (run : Execution) (d : Definitions) (name : TheName) (fault : Fault) → s.sound →
    (s.sound → AreStorableTables d.tables → HaveKeySizes (row_entries s.map (tables_named name d)) → fault ≡ Damaged → ⊥) → IsDoneOver s.map who run d (Err (Failed fault))
failed_with s who run d name Memory sound undamaged = λ db users shown by. tt
failed_with s who run d name Device sound undamaged = λ db users shown by. tt
failed_with s who run d name Damaged sound undamaged = λ db users shown by.
    undamaged sound (valid_storable d (shown_described s.map d db shown).valid) (rows_sized s.map d db shown (tables_named name d)) refl

pub failed_over : (s : StoreState) (who : UserNames → Type 0) (run : Execution) (d : Definitions) (name : TheName) (fault : Fault) (result : Result Effect StatementError) → s.sound →
    IsErrAnd result (λ stop. stop ≡ Failed fault) →
    (s.sound → AreStorableTables d.tables → HaveKeySizes (row_entries s.map (tables_named name d)) → fault ≡ Damaged → ⊥) → IsDoneOver s.map who run d result
failed_over s who run d name fault (Ok made) sound is undamaged = absurd is
failed_over s who run d name fault (Err stop) sound is undamaged = subst (λ (x : StatementError). IsDoneOver s.map who run d (Err x)) (sym is) (failed_with s who run d name fault sound undamaged)

fault_reads : (fault : Fault) (old new : StoreState) → HasRead {T = Unit {0}} (Err fault) old new → ReadsMap {A = Effect} (Err (Failed fault)) old new
fault_reads Memory old new h = record { only_reads = h.only_reads; cause = tt; failed = h.failed }
fault_reads Device old new h = record { only_reads = h.only_reads; cause = h.cause; failed = h.failed }
fault_reads Damaged old new h = record { only_reads = h.only_reads; cause = tt; failed = h.failed }

-- the statement stops for the fault of its reads
pub stops_reading : (fault : Fault) (result : Result Effect StatementError) (old new : StoreState) → IsErrAnd result (λ stop. stop ≡ Failed fault) → HasRead {T = Unit {0}} (Err fault) old new → ReadsMap result old new
stops_reading fault (Ok made) old new is h = absurd is
stops_reading fault (Err stop) old new is h = subst (λ (x : StatementError). ReadsMap {A = Effect} (Err x) old new) (sym is) (fault_reads fault old new h)

module _ (d : Definitions) (current : TheName) (s : DropTable) where
  drop_alike : (db : Database) (users : UserNames) → Describes d db → users.current ≡ current →
      drop_table db users s ≡ (owned d current s.table >>= λ free. Ok (done tag.DropTable (without_table s.table db)))
  drop_alike db users h by = ap (λ (r : Result (Unit {0}) SqlState). r >>= λ free. Ok (done tag.DropTable (without_table s.table db))) (owned_alike d db users current s.table h by)

  pub refused_to_drop : (refusal : Refusal) → IsRightRefusal refusal (owned d current s.table) → Refuses (IsCurrent current) (λ db users. drop_table db users s) d refusal
  refused_to_drop refusal (inl memory) = inl memory
  refused_to_drop refusal (inr e) = inr (λ db users h by.
      drop_alike db users h by ∙ ap (λ (r : Result (Unit {0}) SqlState). r >>= λ free. Ok (done tag.DropTable (without_table s.table db))) e)

  pub drops : owned d current s.table ≡ Ok tt → (db : Database) (users : UserNames) → Describes d db → users.current ≡ current →
      IsMade (λ db users. drop_table db users s) (change.DropTable s.table) d (Done tag.DropTable None None) db users
  drops allowed db users h by =
      let after = without_table s.table db in
      let is = drop_alike db users h by ∙ ap (λ (r : Result (Unit {0}) SqlState). r >>= λ free. Ok (done tag.DropTable after)) allowed in
      record {
        after = after;
        effects = is;
        makes = drop_table_done d db users s h (done tag.DropTable after) is;
        whole = whole_of after (ordered db users (on_database.Defining (defining.DropTable s)) (done tag.DropTable after) is (described_whole d db h).definitions.order)
            (drop_table_whole db users s (described_whole d db h) (done tag.DropTable after) is);
      }
