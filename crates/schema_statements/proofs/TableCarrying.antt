-- A statement that makes a change in each database of the definitions, and leaves it whole, is carried out.
use Rattle.std.proofs.Common.{◌≡◌, [], None, Result, Ok, sym, subst}
use Rattle.sql_types.specs.declared.answer.Answer.{Answer}
use Rattle.sql_types.specs.declared.answer.Answer.TheVariants.{Done}
use Rattle.sql_types.specs.declared.tag.Tag.{Tag}
use Rattle.expressions.specs.Meaning.{UserNames}
use Rattle.store.specs.Records.{Records, Changes, IsOrdered, applied}
use Rattle.store.specs.declared.stop.StatementError.{StatementError}
use Rattle.store.proofs.Changes.{ordered_applied}
use Rattle.abstract_database.specs.Database.{Database}
use Rattle.abstract_database.specs.Statements.{effect}
use Rattle.abstract_database.specs.Whole.{IsWhole}
use Rattle.stored_database.specs.Definitions.{Definitions}
use Rattle.stored_database.specs.Valid.{Describes}
use Rattle.stored_database.specs.Records.{Shows}
use Rattle.stored_database.proofs.Wholeness.{shown_described}
use Rattle.catalogue.specs.declared.effect.Effect.{Effect}
use Rattle.catalogue.specs.Executed.{Execution, Executes}
use Rattle.catalogue_changes.specs.Carried.{Carries}
use Rattle.catalogue_changes.specs.Defined.{effect_defined}
use Rattle.catalogue.specs.declared.change.SchemaChange.{SchemaChange}
use Rattle.catalogue.specs.Changes.{changed}
use Rattle.catalogue_changes.specs.SchemaChanges.{record_changes}
use Rattle.catalogue_changes.specs.Entries.{Adds}
use Rattle.catalogue_changes.specs.StatementChanges.{Makes}
use Rattle.catalogue_changes.proofs.ChangeLemmas.{change_leads, change_described}

-- in this database the statement makes the change, and leaves it whole
pub record IsMade (run : Execution) (c : SchemaChange) (d : Definitions) (answer : Answer) (db : Database) (users : UserNames) : Type 0 where
  pub after : Database
  pub effects : run db users ≡ Ok (effect answer after)
  pub makes : Makes c d db after
  pub whole : IsWhole after

pub carries : (who : UserNames → Type 0) (run : Execution) (c : SchemaChange) (d : Definitions) (answer : Answer) (old new : Changes) →
    ((records : Records) → Adds (record_changes c d records) old new) →
    ((db : Database) (users : UserNames) → Describes d db → who users → IsMade run c d answer db users) → Carries who run d answer (changed c d) old new
carries who run c d answer old new adds makes db users h by =
    let m = makes db users h by in
    record {
      after = m.after;
      effects = m.effects;
      describes = change_described d db m.after h c m.makes.fits m.makes.is m.whole;
      leads = λ records o s.
          subst (λ (r : Records). Shows r (changed c d) m.after) (sym (adds (applied old records) records o))
          (change_leads c (applied old records) d db m.after (ordered_applied old records o) s m.makes.fits m.makes.is m.whole);
    }

-- ---- over the records of a map

-- over these records, the statement of such users is carried out or refused as is meant
abbrev pub IsDoneOver : Records → (UserNames → Type 0) → Execution → Definitions → Result Effect StatementError → Type 0
IsDoneOver map who run d result = (db : Database) (users : UserNames) → Shows map d db → who users → Executes map d result (run db users)

-- a statement whose changes look at the records of a map
pub carried_over : (map : Records) (who : UserNames → Type 0) (run : Execution) (tag : Tag) (c : SchemaChange) (d : Definitions) (old changes : Changes) (made : Effect) →
    made ≡ effect_defined tag None changes c → old ≡ [] → Adds (record_changes c d map) old changes → IsOrdered map →
    ((db : Database) (users : UserNames) → Describes d db → who users → IsMade run c d (Done tag None None) db users) → IsDoneOver map who run d (Ok made)
carried_over map who run tag c d old changes made is none adds ordered makes = subst (λ (e : Effect). IsDoneOver map who run d (Ok e)) (sym is) (λ db users shown by.
    let m = makes db users (shown_described map d db shown) by in
    let added = subst (λ (o : Changes). Adds (record_changes c d map) o changes) none adds in
    record {
      after = m.after;
      answered = m.effects;
      leads = subst (λ (x : Records). Shows x (changed c d) m.after) (sym (added map ordered)) (change_leads c map d db m.after ordered shown m.makes.fits m.makes.is m.whole);
    })
