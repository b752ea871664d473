-- A statement that is carried out over definitions, with a batch of its own, as one over records that show a database of them.
use Rattle.std.proofs.Common.{◌≡◌, ◌∙◌, refl, sym, ap, subst, [], Option, None, Result, Ok, Err, inl, inr, IfErr}
use Rattle.std.specs.Result.{IsErrAnd}
use Rattle.sql_types.specs.declared.answer.Answer.TheVariants.{Done}
use Rattle.sql_types.specs.declared.state.SqlState.{SqlState}
use Rattle.sql_types.specs.declared.state.Refusal.{Refusal}
use Rattle.sql_types.specs.declared.tag.Tag.{Tag}
use Rattle.sql_types.specs.declared.warning.Warning.{Warning}
use Rattle.expressions.specs.Meaning.{UserNames}
use Rattle.store.specs.Records.{Changes}
use Rattle.store.specs.StatementError.{IsStopBy, FailsForMemory}
use Rattle.store.specs.declared.fault.Fault.TheVariants.{Memory, Device, Damaged}
use Rattle.store.specs.declared.stop.StatementError.{StatementError}
use Rattle.store.specs.declared.stop.StatementError.TheVariants.{Refused, Failed}
use Rattle.abstract_database.specs.Database.{Database}
use Rattle.stored_database.specs.Definitions.{Definitions}
use Rattle.stored_database.specs.Valid.{Describes}
use Rattle.stored_database.proofs.Wholeness.{shown_described}
use Rattle.catalogue.specs.declared.change.SchemaChange.{SchemaChange}
use Rattle.catalogue.specs.declared.effect.Effect.{Effect}
use Rattle.catalogue.specs.Changes.{changed}
use Rattle.catalogue.specs.Executed.{Execution, Defines}
use Rattle.catalogue_changes.specs.Carried.{Carries, Refuses}
use Rattle.catalogue_changes.specs.Defined.{effect_defined}

-- a refusal stops a statement for memory alone, or as a refusal
pub fails_for_memory : (code : SqlState) (stop : StatementError) → IsStopBy code stop → FailsForMemory stop
fails_for_memory code (Refused c) is = tt
fails_for_memory code (Failed Memory) is = refl
fails_for_memory code (Failed Device) is = absurd is
fails_for_memory code (Failed Damaged) is = absurd is

module _ (who : UserNames → Type 0) (run : Execution) (d : Definitions) where
  -- carried out
  pub carried_out : (tag : Tag) (warning : Option Warning) (old changes : Changes) (change : SchemaChange) (effect : Effect) →
      effect ≡ effect_defined tag warning changes change → old ≡ [] → Carries who run d (Done tag None warning) (changed change d) old changes → Defines who run d (Ok effect)
  carried_out tag warning old changes change effect is none carries = subst (λ (e : Effect). Defines who run d (Ok e)) (sym is) (λ records db users ordered shown by.
      let c = subst (λ o. Carries who run d (Done tag None warning) (changed change d) o changes) none carries db users (shown_described records d db shown) by in
      record { after = c.after; answered = c.effects; leads = c.leads records ordered shown })

  -- refused by this code
  pub refused_by : (code : SqlState) → ((db : Database) (users : UserNames) → Describes d db → who users → run db users ≡ Err code) → Defines who run d (Err (Refused code))
  refused_by code meant = λ records db users ordered shown by. meant db users (shown_described records d db shown) by

  -- memory failed
  pub out_of_memory : (stop : StatementError) → stop ≡ Failed Memory → Defines who run d (Err stop)
  out_of_memory stop is = subst (λ (s : StatementError). Defines who run d (Err s)) (sym is) (λ records db users ordered shown by. tt)

  -- stopped by a refusal
  pub stopped_by : (refusal : Refusal) (stop : StatementError) → IsStopBy refusal.0 stop → Refuses who run d refusal → Defines who run d (Err stop)
  stopped_by refusal (Refused c) is (inl memory) = absurd (is.1 memory)
  stopped_by refusal (Refused c) is (inr meant) = λ records db users ordered shown by.
      meant db users (shown_described records d db shown) by ∙ ap (λ (code : SqlState). Err code) (sym is.0)
  stopped_by refusal (Failed Memory) is refuses = λ records db users ordered shown by. tt
  stopped_by refusal (Failed Device) is refuses = absurd is
  stopped_by refusal (Failed Damaged) is refuses = absurd is

  -- handed on
  pub handed_on : (refusal : Refusal) (result : Result Effect StatementError) → IsErrAnd result (λ stop. IsStopBy refusal.0 stop) → Refuses who run d refusal → Defines who run d result
  handed_on refusal (Ok made) is refuses = absurd is
  handed_on refusal (Err stop) is refuses = stopped_by refusal stop is refuses

-- a refusal that is handed on fails for memory alone
pub handed_on_fails : (refusal : Refusal) (result : Result Effect StatementError) → IsErrAnd result (λ stop. IsStopBy refusal.0 stop) → IfErr result FailsForMemory
handed_on_fails refusal (Ok made) is = absurd is
handed_on_fails refusal (Err stop) is = fails_for_memory refusal.0 stop is
