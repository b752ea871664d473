use Rattle.std.proofs.Common.{◌≡◌, List, Ok, Err, ⊎_elim, ap, sym, ◌∙◌, subst}
use Rattle.store.specs.Store.{Contents, KeepsHistory, stored}
use Rattle.stored_database.specs.BothRecordFormats.{Stands}
use Rattle.storage_sizes.specs.declared.record_format.RecordFormat.TheVariants.{V2}
use Rattle.store.specs.Records.{Changes, Records}
use Rattle.stored_database.specs.Records.{Shows}
use Rattle.server.specs.Standing.{Represents, at_start}
use Rattle.recovery.specs.MigrationChanges.{AreMigrating}
use Rattle.recovery.specs.declared.fault.OpeningFault.TheVariants.{Read, Commit}
use Rattle.recovery.specs.Migrated.{KeepsDatabase, Migrates}
use Rattle.recovery.proofs.Migrating.{IsSettled, read_keeps}
use Rattle.recovery.proofs.Ending.{ends_history, failed_ok, failed_err, cause_err, migrates_ok, migrates_err}
use Rattle.recovery.specs.Openings.{HasLooked, IsNumberAfter}
use Rattle.recovery.proofs.Outcomes.{looked, read_failed, read_cause, not_damaged, opened_looking, no_look_refused}
use Rattle.recovery.proofs.Outcomes.{looked_through, unchanged_refused, number_then}
use Rattle.recovery.proofs.opening.open.Goals as goal

-- ---- the store was not read

pub returns-in-Err-clause-read : goal.returns-in-Err-clause-read
returns-in-Err-clause-read g c = λ looks.
    looked c.in-Err.fault (g.S.Map.state c.args.store) (g.S.Map.state c.read_store.new.store) c.in-Err.ensures.read

pub returns-in-Err-clause-same : goal.returns-in-Err-clause-same
returns-in-Err-clause-same g c = λ sound unfailed db stands.
    read_keeps (g.S.Map.state c.args.store) (g.S.Map.state c.read_store.new.store) db sound (λ x left. g.met.S.Store.settled c.args.store x sound unfailed left) stands c.in-Err.ensures.read.only_reads _

pub returns-in-Err-clause-cause : goal.returns-in-Err-clause-cause
returns-in-Err-clause-cause g c = λ sound.
    read_cause c.in-Err.fault (g.S.Map.state c.args.store) (g.S.Map.state c.read_store.new.store) c.in-Err.ensures.read.cause (c.in-Err.ensures.found sound)

pub returns-in-Err-clause-damaged : goal.returns-in-Err-clause-damaged
returns-in-Err-clause-damaged g c = λ sound db stands.
    not_damaged (Read c.in-Err.fault) (g.S.Map.state c.args.store) (g.S.Map.state c.read_store.new.store) (returns-in-Err-clause-cause g c sound) db stands

pub returns-in-Err-clause-works : goal.returns-in-Err-clause-works
returns-in-Err-clause-works g c =
    read_failed c.in-Err.fault (g.S.Map.state c.args.store) (g.S.Map.state c.read_store.new.store) c.in-Err.ensures.read

-- ---- a server was opened

pub returns-in-Ok-commit_migrated-clause-history : goal.returns-in-Ok-commit_migrated-clause-history
returns-in-Ok-commit_migrated-clause-history g c =
    subst (λ (store : _). KeepsHistory (g.S.Map.state c.args.store) (g.S.Map.state store)) (sym c.over.ensures.store)
    (ends_history g.S.Map.state c.args.store c.read_store.new.store c.commit_migrated.new.store c.as_slice.result.now c.in-Ok.ensures.read.only_reads c.in-Ok.ensures.read.failed
    (Ok c.in-Ok-commit_migrated.field-0) c.in-Ok-commit_migrated.ensures.none c.in-Ok-commit_migrated.ensures.some)

pub returns-in-Ok-commit_migrated-clause-read : goal.returns-in-Ok-commit_migrated-clause-read
returns-in-Ok-commit_migrated-clause-read g c = λ looks.
    let old = g.S.Map.state c.args.store in
    let unlisted = c.as_slice.ensures ∙ c.in-Ok.ensures.none (opened_looking old.record_format tt looks) in
    subst (λ (store : _). HasLooked (Ok tt) old (g.S.Map.state store)) (sym c.over.ensures.store)
    (looked_through g.S.Map.state c.args.store c.read_store.new.store c.commit_migrated.new.store c.as_slice.result.now c.in-Ok.ensures.read.only_reads c.in-Ok.ensures.read.failed
    c.in-Ok-commit_migrated.field-0 c.in-Ok-commit_migrated.ensures.none unlisted)

pub returns-in-Ok-commit_migrated-clause-preserved : goal.returns-in-Ok-commit_migrated-clause-preserved
returns-in-Ok-commit_migrated-clause-preserved g c = λ looks works.
    let old = g.S.Map.state c.args.store in
    let unlisted = c.as_slice.ensures ∙ c.in-Ok.ensures.none (opened_looking old.record_format tt looks) in
    subst (λ (store : _). g.S.Map.preserved c.args.store store) (sym c.over.ensures.store)
    (subst (λ (store : _). g.S.Map.preserved c.args.store store) (sym (c.in-Ok-commit_migrated.ensures.none unlisted).1) (c.in-Ok.ensures.preserved works))

pub returns-in-Ok-commit_migrated-clause-same : goal.returns-in-Ok-commit_migrated-clause-same
returns-in-Ok-commit_migrated-clause-same g c = λ sound works db stands.
    let old = g.S.Map.state c.args.store in
    let are = subst (λ (lists : List Changes). AreMigrating old.record_format old.map lists) (sym c.as_slice.ensures) (c.in-Ok.ensures.found sound).0 in
    subst (λ (store : _). KeepsDatabase db (Ok tt) old (g.S.Map.state store)) (sym c.over.ensures.store)
    (migrates_ok g.S.Map.state c.args.store c.read_store.new.store c.commit_migrated.new.store c.as_slice.result.now c.in-Ok.ensures.read.only_reads c.in-Ok.ensures.read.failed
    sound are works db (λ x left. g.met.S.Store.settled c.args.store x sound works left) stands
    c.in-Ok-commit_migrated.field-0 c.in-Ok-commit_migrated.ensures.none c.in-Ok-commit_migrated.ensures.some).keeps

pub returns-in-Ok-commit_migrated-clause-opened : goal.returns-in-Ok-commit_migrated-clause-opened
returns-in-Ok-commit_migrated-clause-opened g c = λ sound.
    let old = g.S.Map.state c.args.store in
    let works = c.in-Ok.ensures.works in
    let are = subst (λ (lists : List Changes). AreMigrating old.record_format old.map lists) (sym c.as_slice.ensures) (c.in-Ok.ensures.found sound).0 in
    let found = (c.in-Ok.ensures.found sound).1 in
    let db = found.0 in
    let stands : Stands (stored old) db = (c.in-Ok.read.1, found.1) in
    let settled : IsSettled old = λ x left. g.met.S.Store.settled c.args.store x sound works left in
    let migrated : Migrates (Ok c.in-Ok-commit_migrated.field-0) db old (g.S.Map.state c.commit_migrated.new.store) =
    migrates_ok g.S.Map.state c.args.store c.read_store.new.store c.commit_migrated.new.store c.as_slice.result.now c.in-Ok.ensures.read.only_reads c.in-Ok.ensures.read.failed
    sound are works db settled stands c.in-Ok-commit_migrated.field-0 c.in-Ok-commit_migrated.ensures.none c.in-Ok-commit_migrated.ensures.some in
    let second = ap (λ (contents : Contents). contents.record_format) migrated.outcome in
    let shown = subst (λ (records : Records). Shows records c.in-Ok.read.1 db) (sym (ap (λ (contents : Contents). contents.records) migrated.outcome)) found.1 in
    let history = ends_history g.S.Map.state c.args.store c.read_store.new.store c.commit_migrated.new.store c.as_slice.result.now c.in-Ok.ensures.read.only_reads c.in-Ok.ensures.read.failed
    (Ok c.in-Ok-commit_migrated.field-0) c.in-Ok-commit_migrated.ensures.none c.in-Ok-commit_migrated.ensures.some in
    let unfailed = failed_ok g.S.Map.state c.args.store c.read_store.new.store c.commit_migrated.new.store c.as_slice.result.now c.in-Ok.ensures.read.only_reads c.in-Ok.ensures.read.failed
    c.in-Ok-commit_migrated.field-0 tt c.in-Ok-commit_migrated.ensures.none c.in-Ok-commit_migrated.ensures.some in
    record {
      database = db;
      stands = stands;
      second = subst (λ (store : _). (g.S.Map.state store).record_format ≡ V2) (sym c.over.ensures.store) second;
      represents =
          subst (λ (store : _). Represents g.S.Map.state c.over.result (at_start (g.S.Map.state store) db)) (sym c.over.ensures.store)
          (c.over.ensures.represents db (history.sound sound) (unfailed ∙ works) second shown);
    }

pub returns-in-Ok-commit_migrated-clause-number : goal.returns-in-Ok-commit_migrated-clause-number
returns-in-Ok-commit_migrated-clause-number g c = λ sound.
    let old = g.S.Map.state c.args.store in
    subst (λ (store : _). IsNumberAfter old.record_format old.number (g.S.Map.state store).number) (sym c.over.ensures.store)
    (number_then g.S.Map.state c.args.store c.read_store.new.store c.commit_migrated.new.store c.as_slice.result.now c.in-Ok.ensures.read.only_reads c.in-Ok.ensures.read.failed
    sound c.in-Ok.ensures.works c.in-Ok-commit_migrated.field-0 c.in-Ok-commit_migrated.ensures.none c.in-Ok-commit_migrated.ensures.some
    (λ second. c.as_slice.ensures ∙ c.in-Ok.ensures.none second))

pub returns-in-Ok-commit_migrated-clause-works : goal.returns-in-Ok-commit_migrated-clause-works
returns-in-Ok-commit_migrated-clause-works g c =
    subst (λ (store : _). (g.S.Map.state store).has_failed ≡ (g.S.Map.state c.args.store).has_failed) (sym c.over.ensures.store)
    (failed_ok g.S.Map.state c.args.store c.read_store.new.store c.commit_migrated.new.store c.as_slice.result.now c.in-Ok.ensures.read.only_reads c.in-Ok.ensures.read.failed
    c.in-Ok-commit_migrated.field-0 tt c.in-Ok-commit_migrated.ensures.none c.in-Ok-commit_migrated.ensures.some)

-- ---- the commit failed

pub returns-in-Err-commit_migrated-clause-history : goal.returns-in-Err-commit_migrated-clause-history
returns-in-Err-commit_migrated-clause-history g c =
    ends_history g.S.Map.state c.args.store c.read_store.new.store c.commit_migrated.new.store c.as_slice.result.now c.in-Ok.ensures.read.only_reads c.in-Ok.ensures.read.failed
    (Err c.in-Err-commit_migrated.fault) c.in-Err-commit_migrated.ensures.none c.in-Err-commit_migrated.ensures.some

pub returns-in-Err-commit_migrated-clause-read : goal.returns-in-Err-commit_migrated-clause-read
returns-in-Err-commit_migrated-clause-read g c = λ looks.
    let old = g.S.Map.state c.args.store in
    no_look_refused old.record_format c.in-Err-commit_migrated.fault c.read_store.new.store c.commit_migrated.new.store c.as_slice.result.now
    (λ second. c.as_slice.ensures ∙ c.in-Ok.ensures.none second) c.in-Err-commit_migrated.ensures.none looks

pub returns-in-Err-commit_migrated-clause-preserved : goal.returns-in-Err-commit_migrated-clause-preserved
returns-in-Err-commit_migrated-clause-preserved g c = λ looks works.
    let old = g.S.Map.state c.args.store in
    no_look_refused old.record_format c.in-Err-commit_migrated.fault c.read_store.new.store c.commit_migrated.new.store c.as_slice.result.now
    (λ second. c.as_slice.ensures ∙ c.in-Ok.ensures.none second) c.in-Err-commit_migrated.ensures.none looks

pub returns-in-Err-commit_migrated-clause-same : goal.returns-in-Err-commit_migrated-clause-same
returns-in-Err-commit_migrated-clause-same g c = λ sound works db stands.
    let old = g.S.Map.state c.args.store in
    let are = subst (λ (lists : List Changes). AreMigrating old.record_format old.map lists) (sym c.as_slice.ensures) (c.in-Ok.ensures.found sound).0 in
    (migrates_err g.S.Map.state c.args.store c.read_store.new.store c.commit_migrated.new.store c.as_slice.result.now c.in-Ok.ensures.read.only_reads c.in-Ok.ensures.read.failed
    sound are works db (λ x left. g.met.S.Store.settled c.args.store x sound works left) stands
    c.in-Err-commit_migrated.fault c.in-Err-commit_migrated.ensures.none c.in-Err-commit_migrated.ensures.some).keeps

pub returns-in-Err-commit_migrated-clause-cause : goal.returns-in-Err-commit_migrated-clause-cause
returns-in-Err-commit_migrated-clause-cause g c = λ sound.
    let old = g.S.Map.state c.args.store in
    let are = subst (λ (lists : List Changes). AreMigrating old.record_format old.map lists) (sym c.as_slice.ensures) (c.in-Ok.ensures.found sound).0 in
    cause_err g.S.Map.state c.args.store c.read_store.new.store c.commit_migrated.new.store c.as_slice.result.now c.in-Ok.ensures.read.only_reads c.in-Ok.ensures.read.failed
    sound are c.in-Err-commit_migrated.fault c.in-Err-commit_migrated.ensures.none c.in-Err-commit_migrated.ensures.some

pub returns-in-Err-commit_migrated-clause-damaged : goal.returns-in-Err-commit_migrated-clause-damaged
returns-in-Err-commit_migrated-clause-damaged g c = λ sound db stands.
    not_damaged (Commit c.in-Err-commit_migrated.fault) (g.S.Map.state c.args.store) (g.S.Map.state c.commit_migrated.new.store) (returns-in-Err-commit_migrated-clause-cause g c sound) db stands

pub returns-in-Err-commit_migrated-clause-works : goal.returns-in-Err-commit_migrated-clause-works
returns-in-Err-commit_migrated-clause-works g c =
    failed_err g.S.Map.state c.args.store c.read_store.new.store c.commit_migrated.new.store c.as_slice.result.now c.in-Ok.ensures.read.only_reads c.in-Ok.ensures.read.failed
    c.in-Err-commit_migrated.fault c.in-Err-commit_migrated.ensures.none c.in-Err-commit_migrated.ensures.some

pub returns-in-Err-commit_migrated-clause-unchanged : goal.returns-in-Err-commit_migrated-clause-unchanged
returns-in-Err-commit_migrated-clause-unchanged g c = λ sound is.
    ⊎_elim (λ device. absurd (is (ap Commit device))) (λ same. same)
    (unchanged_refused g.S.Map.state c.args.store c.read_store.new.store c.commit_migrated.new.store c.as_slice.result.now c.in-Ok.ensures.read.only_reads c.in-Ok.ensures.read.failed
    sound c.in-Ok.ensures.works c.in-Err-commit_migrated.fault c.in-Err-commit_migrated.ensures.none c.in-Err-commit_migrated.ensures.some)
