-- The run of a script over a store, and over a new database in memory.
use Rattle.std.proofs.Common.{◌≡◌, ◌≢◌, ◌∙◌, ℕ, List, refl, sym, ap, subst, inl, inr, arith}
use Rattle.std.specs.Prelude.{Err}
use Rattle.storage_sizes.specs.declared.record_format.RecordFormat.{RecordFormat}
use Rattle.storage_sizes.specs.declared.record_format.RecordFormat.TheVariants.{V2}
use Rattle.storage_sizes.specs.CurrentRecordFormat.{current}
use Rattle.store.specs.declared.memory.MemStore.{MemStore}
use Rattle.store.specs.Memory.{new_state, new_records}
use Rattle.store.specs.MemoryStore.{memory_store_state}
use Rattle.store.specs.Records.{Records}
use Rattle.store.specs.Store.{StoreState, Contents, HasDeviceCause}
use Rattle.abstract_database.specs.Lists.{TheName}
use Rattle.abstract_database.specs.Database.{Database, new_database}
use Rattle.abstract_database.specs.Runs.{ReadingRelation}
use Rattle.stored_database.specs.Records.{StandsFor}
use Rattle.stored_database.specs.BothRecordFormats.{in_record_format_2}
use Rattle.server.specs.declared.server.Server.{Server}
use Rattle.server.specs.Standing.{Represents, at_start}
use Rattle.recovery.specs.declared.fault.OpeningFault.{OpeningFault}
use Rattle.recovery.specs.declared.fault.OpeningFault.TheVariants.{Read, Commit}
use Rattle.store.specs.declared.fault.Fault.TheVariants as read
use Rattle.recovery.specs.Openings.{HasLooked, IsOpened, OnlyLooks}
use Rattle.wire.specs.Closing.{StandsWithinLimit}
use Rattle.wire.specs.declared.sink.Sink.{Ghosts as SinkGhosts}
use Rattle.cli.specs.declared.ending.Ending.{Ending}
use Rattle.cli.specs.declared.ending.Ending.TheVariants as ending
use Rattle.cli.specs.declared.fault.CommandFault.TheVariants as fault
use Rattle.cli.specs.Faults.{of_records}
use Rattle.cli.proofs.Machine.{prints_run}
use Rattle.cli.specs.Running.{IsNotOpened, IsRun, RunsOver, IsNotRun, IsRunOverNew, RunsOverNew}

-- a server that has just been opened has no session open
pub none_open : {S X : Type 0} (state : S → StoreState) (contents : Contents) (server : Server S X) → (state server.store).sound → IsOpened state contents server → StandsWithinLimit state server
none_open state contents server sound opened = (sound, (at_start (state server.store) opened.database, opened.represents, tt, omega arith))

-- over memory no device fails
no_device : (old new : MemStore) → HasDeviceCause (memory_store_state old) (memory_store_state new) → ⊥
no_device old new cause =
    elim cause.counted [
      | inl failed ↦ cc
      | inr rose ↦ elim rose [ inl more ↦ absurd (omega (arith, more)) | inr most ↦ absurd (omega (arith, most)) ]
    ]

-- the fault of opening a store in memory that is only read, and whose records stand for a database, is refused memory
memory_alone : (f : OpeningFault) (old new : MemStore) → HasLooked (Err f) (memory_store_state old) (memory_store_state new) → f ≢ Read read.Damaged → of_records f ≡ fault.Memory
memory_alone (Read read.Memory) old new looked whole = refl
memory_alone (Read read.Device) old new looked whole = absurd (no_device old new looked.cause)
memory_alone (Read read.Damaged) old new looked whole = absurd (whole refl)
memory_alone (Commit fault) old new looked whole = absurd looked

-- a new database is in record format 2
current_is : current ≡ V2
unfolding current
current_is = refl

-- the law that records stand for one database
abbrev pub OneDatabase : Type 0
OneDatabase = (records : Records) (a b : Database) → StandsFor records a → StandsFor records b → a ≡ b

module _ (X : Type 0) {K : Type 0} (Reads : ReadingRelation) (k : SinkGhosts K) (admin : TheName) (one : OneDatabase) (stands : StandsFor (new_records admin) (new_database admin)) (store : MemStore) (holds : (memory_store_state store).map ≡ new_records admin)
    (spelled : (memory_store_state store).record_format ≡ current) where
  second : (memory_store_state store).record_format ≡ V2
  second = spelled ∙ current_is

  -- its records in record format 2 are those of a new database
  records_are : in_record_format_2 (memory_store_state store).record_format (memory_store_state store).map ≡ new_records admin
  records_are = ap (λ (s : RecordFormat). in_record_format_2 s (memory_store_state store).map) second ∙ holds

  looks : (f : OpeningFault) → OnlyLooks (memory_store_state store).record_format (Err f)
  looks f = subst (λ (s : RecordFormat). OnlyLooks s (Err f)) (sym second) tt

  not_opened : (before : K) (e : Ending) (left : MemStore) (after : K) → IsNotOpened memory_store_state store before e left after → IsNotRun before e after
  not_opened before e left after it =
      let whole = it.damaged tt (new_database admin) (subst (λ (es : Records). StandsFor es (new_database admin)) (sym records_are) stands) in
      (it.ends ∙ ap ending.Fault (memory_alone it.fault store left (it.looked (looks it.fault)) whole), it.unwritten)

  ran_over_new : (script : List ℕ) (before : K) (e : Ending) (left : MemStore) (after : K) → IsRun X Reads memory_store_state k store script before e left after → IsRunOverNew X Reads k admin script before e after
  ran_over_new script before e left after it =
      let opened = it.is_opened tt in
      let same = one (new_records admin) opened.database (new_database admin) (subst (λ (es : Records). StandsFor es opened.database) records_are opened.stands) stands in
      let represents : Represents memory_store_state it.opened (at_start (new_state admin) (new_database admin)) =
      subst (λ (db : Database). Represents memory_store_state it.opened (at_start (new_state admin) db)) same opened.represents in
      record {
        opened = it.opened;
        last = it.last;
        represents = represents;
        runs = it.runs;
        prints = prints_run Reads admin k it.opened script before it.runs.end it.last after represents it.runs.ran;
        closed = it.closed tt;
      }

  -- a run over the records of a new database is one over that database
  pub runs_over_new : (script : List ℕ) (before : K) (e : Ending) (left : MemStore) (after : K) → RunsOver X Reads memory_store_state k store script before e left after → RunsOverNew X Reads k admin script before e after
  runs_over_new script before e left after runs =
      elim runs [ inl none ↦ inl (not_opened before e left after none) | inr ran ↦ inr (ran_over_new script before e left after ran) ]
