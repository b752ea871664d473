-- What a server makes of what was decided.
use Rattle.std.proofs.Common.{◌≡◌, ℕ, Bool, true, false, nat_eq, ⊎_elim, inl, inr, refl, sym, ◌∙◌, ap, subst, Option, Some, None, List, [], ◌∷◌, Result, Ok, Err, OnOk, IfErr}
use Rattle.sql_types.specs.declared.answer.Answer.{Answer}
use Rattle.indexmap.specs.IndexMap.{insert_entry}
use Rattle.sector_device.specs.Timeline.{IsPresent}
use Rattle.storage_sizes.specs.declared.record_format.RecordFormat.TheVariants.{V2}
use Rattle.store.specs.Records.{Records, Changes, applied, lookup}
use Rattle.store.specs.Store.{Contents, StoreState, OnlyReads, Commits, Rose, HasDeviceCause, stored}
use Rattle.store.specs.Contents.{changed_by_batch}
use Rattle.store.specs.Readers.{HasRead}
use Rattle.store.specs.declared.fault.StoreFault.{StoreFault}
use Rattle.store.specs.declared.fault.StoreFault.TheVariants.{Full, Memory, Device, Number}
use Rattle.store.specs.declared.fault.Fault.{Fault}
use Rattle.store.specs.declared.fault.Fault.TheVariants as fault
use Rattle.store.proofs.Reading.{rose_later}
use Rattle.abstract_database.specs.Database.{Database}
use Rattle.abstract_database.specs.Machine.{Event as MachineEvent, opens, executes, closes, Machine, Holder, Session, with_session}
use Rattle.abstract_database.specs.Runs.{TheText, ReadingRelation, MayRunOutOfMemory, MayCallStore, MayCommit}
use Rattle.stored_database.specs.Definitions.{Definitions}
use Rattle.stored_database.specs.Records.{Shows}
use Rattle.transactions.specs.Views.{applied_all, latest}
use Rattle.transactions.specs.Commits.{CommitsJoined}
use Rattle.catalogue.specs.declared.change.SchemaChange.{SchemaChange}
use Rattle.catalogue.specs.Changes.{definitions_after}
use Rattle.server.specs.declared.decision.Decision.{Decision}
use Rattle.server.specs.declared.writer.Writer.{Writer}
use Rattle.server.specs.declared.server.Server.{Server}
use Rattle.server.specs.Writers.{definitions_or, records_under, definitions_under}
use Rattle.server.specs.Standing.{Works, HolderShows}
use Rattle.server.specs.Decisions.{CommitsLists, machine_at, LeadsTo, WorksAs, Passes, Performs, DecidesAt, store_fault_of}
use Rattle.server.proofs.Passing.{LeavesRecords, commit_refused, commit_fails, reads_pass, none_pass, read_fails, reads_then, reads_then_fail}

never_both : (b : Bool) → b ≡ false → b ≡ true → ⊥
never_both b p q = let wrong : false ≡ true = sym p ∙ q in cc

-- the causes of Device where the store had not failed
fresh_failures : (old new : StoreState) → old.has_failed ≡ false → HasDeviceCause old new → Rose old.failures new.failures
fresh_failures old new works cause = ⊎_elim (λ had. absurd (never_both old.has_failed works had)) (λ r. r) cause.counted

fresh_faults : (old new : StoreState) → old.sound → old.has_failed ≡ false → HasDeviceCause old new → Rose old.faults new.faults
fresh_faults old new sound works cause = ⊎_elim (λ had. absurd (never_both old.has_failed works had)) (λ r. r) (cause.fault sound)

-- a call of the store may be refused memory
pub may_run_out : (m : Machine) (e : MachineEvent TheText) → MayCallStore m e → MayRunOutOfMemory m e
may_run_out m (opens number login) may = absurd may
may_run_out m (executes number text) may = may
may_run_out m (closes number) may = absurd may

pub inserted_is : (sessions : List (ℕ × Session)) (number : ℕ) (s : Session) → insert_entry nat_eq sessions number s ≡ with_session sessions number s
inserted_is [] number s = refl
inserted_is (e ∷ es) number s = rw (inserted_is es number s) refl

-- the sessions where this one was inserted
pub inserted_to : (sessions new : List (ℕ × Session)) (number : ℕ) (s : Session) → new ≡ insert_entry nat_eq sessions number s → new ≡ with_session sessions number s
inserted_to sessions new number s is = is ∙ inserted_is sessions number s

-- ---- the writer lock

-- where nobody holds the writer lock it is free
pub lock_is_free : (records : Records) (d : Definitions) (writer : Option Writer) (holder : Option Holder) → holder ≡ None → HolderShows records d writer holder → writer ≡ None
lock_is_free records d None holder is h = refl
lock_is_free records d (Some s) None is h = absurd h
lock_is_free records d (Some s) (Some x) is h = cc

-- the changes under the writer lock lead to the holder's database
pub lock_shows : (records : Records) (d : Definitions) (writer : Option Writer) (s : Writer) (holder : Option Holder) (h : Holder) → writer ≡ Some s → holder ≡ Some h
    → HolderShows records d writer holder → Shows (applied_all s.lists records) (definitions_or s.catalogue d) h.database
lock_shows records d writer s holder h p q shows =
    let there : HolderShows records d (Some s) (Some h) =
    subst (λ (z : Option Writer). HolderShows records d z (Some h)) p (subst (λ (z : Option Holder). HolderShows records d writer z) q shows) in
    there.1

-- where somebody holds the writer lock it is not free
pub lock_is_held : (records : Records) (d : Definitions) (writer : Option Writer) (holder : Option Holder) (h : Holder) → holder ≡ Some h → HolderShows records d writer holder
    → (s : Writer) × (writer ≡ Some s)
lock_is_held records d (Some s) holder h is shows = (s, refl)
lock_is_held records d None holder h is shows = absurd (subst (λ (z : Option Holder). HolderShows records d None z) is shows)

-- a writer lock under which there are these records and definitions, with the changes of one more statement
pub held_with : (records under : Records) (d before : Definitions) (writer : Option Writer) (cs : Changes) (change : Option SchemaChange) (lists : List Changes) (held : Option Definitions) (after : Database)
    → records_under writer records ≡ under → definitions_under writer d ≡ before → applied_all lists records ≡ applied cs under → definitions_or held d ≡ definitions_after change before
    → Shows (applied cs (records_under writer records)) (definitions_after change (definitions_under writer d)) after
    → Shows (applied_all lists records) (definitions_or held d) after
held_with records under d before writer cs change lists held after p q r s shows =
    let there : Shows (applied cs under) (definitions_after change before) after =
    subst (λ (z : Records). Shows (applied cs z) (definitions_after change before) after) p
    (subst (λ (z : Definitions). Shows (applied cs (records_under writer records)) (definitions_after change z) after) q shows) in
    subst (λ (z : Records). Shows z (definitions_or held d) after) (sym r)
    (subst (λ (z : Definitions). Shows (applied cs under) z after) (sym s) there)

-- a server that works and whose writer lock is free
pub works_unheld : {S X : Type 0} (state : S → StoreState) (new : Server S X) (s : S) (d : Definitions) (db : Database) (sessions : List (ℕ × Session)) → new.store ≡ s → new.catalogue ≡ d
    → new.writer ≡ None → new.stopped ≡ false → new.sessions.entries ≡ sessions → (state s).has_failed ≡ false → (state s).record_format ≡ V2 → Shows (state s).map d db → WorksAs state new (machine_at db None sessions)
works_unheld state new s d db sessions store catalogue writer runs entries unfailed second shows = record {
  sessions = sym entries;
  running = refl;
  runs = runs;
  works = record { unfailed = rw store unfailed; second = rw store second; committed = rw (store, catalogue) shows; held = rw writer tt; in_block = tt };
}

-- ---- commits

-- the server's other parts stay, and the store's records
pub works_still : {S X : Type 0} (state : S → StoreState) (old new : Server S X) (db : Database) (holder : Option Holder) → Works state old db holder
    → (state new.store).map ≡ (state old.store).map → (state new.store).record_format ≡ (state old.store).record_format → (state new.store).has_failed ≡ (state old.store).has_failed
    → new.catalogue ≡ old.catalogue → new.writer ≡ old.writer → new.sessions ≡ old.sessions → new.stopped ≡ old.stopped → old.stopped ≡ false
    → WorksAs state new (machine_at db holder old.sessions.entries)
works_still state old new db holder w same record_format failed catalogue writer sessions stopped runs = record {
  sessions = ap (λ z. z.entries) (sym sessions);
  running = refl;
  runs = stopped ∙ runs;
  works = record {
    unfailed = failed ∙ w.unfailed;
    second = record_format ∙ w.second;
    committed = rw (same, catalogue) w.committed;
    held = rw (same, catalogue, writer) w.held;
    in_block = rw sessions w.in_block;
  };
}

-- a commit that is not done
pub commit_err : {S X : Type 0} (Reads : ReadingRelation) (state : S → StoreState) (old new : Server S X) (db : Database) (holder : Option Holder) (d : Definitions) (after : Contents)
    (answer : Answer) (m : Machine) (e : MachineEvent TheText) (f : StoreFault) → (state old.store).sound → Works state old db holder → old.stopped ≡ false
    → new.catalogue ≡ old.catalogue → new.writer ≡ old.writer → new.sessions ≡ old.sessions → new.stopped ≡ old.stopped
    → Commits (Err f) after (state old.store) (state new.store) → after.record_format ≡ V2 → Shows after.records d m.committed
    → MayCommit Reads (machine_at db holder old.sessions.entries) e → MayCallStore (machine_at db holder old.sessions.entries) e
    → LeadsTo Reads (machine_at db holder old.sessions.entries) e answer m → Performs Reads state old new db holder e (Err f)
commit_err Reads state old new db holder d after answer m e Full sound w runs catalogue writer sessions stopped c still shown may calls next =
    let refused = commit_refused Full after (state old.store) (state new.store) old.catalogue db tt c.history (c.at_once sound w.unfailed) w.second w.committed in
    (may, c.cause, works_still state old new db holder w refused.1.map refused.1.record_format c.failed catalogue writer sessions stopped runs, refused.0)
commit_err Reads state old new db holder d after answer m e Memory sound w runs catalogue writer sessions stopped c still shown may calls next =
    let refused = commit_refused Memory after (state old.store) (state new.store) old.catalogue db tt c.history (c.at_once sound w.unfailed) w.second w.committed in
    (may_run_out (machine_at db holder old.sessions.entries) e calls, works_still state old new db holder w refused.1.map refused.1.record_format c.failed catalogue writer sessions stopped runs, refused.0)
commit_err Reads state old new db holder d after answer m e Number sound w runs catalogue writer sessions stopped c still shown may calls next =
    let refused = commit_refused Number after (state old.store) (state new.store) old.catalogue db tt c.history (c.at_once sound w.unfailed) w.second w.committed in
    (may, c.cause, works_still state old new db holder w refused.1.map refused.1.record_format c.failed catalogue writer sessions stopped runs, refused.0)
commit_err Reads state old new db holder d after answer m e Device sound w runs catalogue writer sessions stopped c still shown may calls next =
    let fails = commit_fails after (state old.store) (state new.store) old.catalogue d db m.committed c.history (c.at_once sound w.unfailed) w.second w.committed still shown
    (fresh_failures (state old.store) (state new.store) w.unfailed c.cause) (fresh_faults (state old.store) (state new.store) sound w.unfailed c.cause) in
    (record { answer = answer; machine = m }, next, calls, ap (λ z. z.entries) sessions, fails)

-- a commit that was done, of changes that make of the records what the writer lock's lists make of them
pub lock_committed : (r : Result (Unit {0}) StoreFault) (cs : Changes) (held : Option Writer) (old new : StoreState)
    → ((writer : Writer) → held ≡ Some writer → old.sound → applied cs old.map ≡ applied_all writer.lists old.map)
    → Commits r (changed_by_batch cs (stored old)) old new → OnOk r ((writer : Writer) → held ≡ Some writer → CommitsLists writer.lists old new)
lock_committed (Ok x) cs held old new same commits = λ writer is sound. (cs, same writer is sound, commits)
lock_committed (Err f) cs held old new same commits = tt

-- the same of the lists that the writer lock has
pub lock_joined : {S : Type 0} (state : S → StoreState) (r : Result (Unit {0}) StoreFault) (held : Option Writer) (own : Writer) (old new : S)
    → ((cs : Changes) → ((key : List ℕ) → lookup key cs ≡ latest key own.lists) → (state old).sound → applied cs (state old).map ≡ applied_all own.lists (state old).map)
    → held ≡ Some own → CommitsJoined state own.lists r old new
    → OnOk r ((writer : Writer) → held ≡ Some writer → CommitsLists writer.lists (state old) (state new))
lock_joined state r held own old new same there (inl refused) =
    subst (λ (z : Result (Unit {0}) StoreFault). OnOk z ((writer : Writer) → held ≡ Some writer → CommitsLists writer.lists (state old) (state new))) (sym refused.0) tt
lock_joined state r held own old new same there (inr done) =
    lock_committed r done.0 held (state old) (state new)
    (λ writer is sound.
    let one : own ≡ writer = let a = there in let b = is in cc in
    subst (λ (z : Writer). applied done.0 (state old).map ≡ applied_all z.lists (state old).map) one (same done.0 done.1 sound))
    done.2

-- it is enough to speak of the faults that there are
pub each_fault : (r : Result (Unit {0}) StoreFault) (P : StoreFault → Type 0) → ((f : StoreFault) → r ≡ Err f → P f) → IfErr r P
each_fault (Ok x) P each = tt
each_fault (Err f) P each = each f refl

-- ---- memory that is refused before the store is called

pub out_of_memory : {S X : Type 0} (Reads : ReadingRelation) (state : S → StoreState) (old new : Server S X) (db : Database) (holder : Option Holder) (e : MachineEvent TheText)
    → (state old.store).sound → ((state old.store).sound → IsPresent (state old.store).time) → LeavesRecords (state old.store) → Works state old db holder → old.stopped ≡ false
    → new.store ≡ old.store → new.catalogue ≡ old.catalogue → new.writer ≡ old.writer → new.sessions ≡ old.sessions → new.stopped ≡ old.stopped
    → MayCallStore (machine_at db holder old.sessions.entries) e → Performs Reads state old new db holder e (Err Memory)
out_of_memory Reads state old new db holder e sound present settled w runs store catalogue writer sessions stopped calls =
    let passes : Passes db db (state old.store) (state new.store) =
    subst (λ (z : StoreState). Passes db db (state old.store) z) (ap state (sym store)) (none_pass (state old.store) old.catalogue db sound present settled w.second w.committed) in (
      may_run_out (machine_at db holder old.sessions.entries) e calls,
      works_still state old new db holder w (ap (λ z. (state z).map) store) (ap (λ z. (state z).record_format) store) (ap (λ z. (state z).has_failed) store) catalogue writer sessions stopped runs,
      passes,
    )

-- ---- reads before it

-- the server as it is after reads of its store
abbrev pub after_reads : {S X : Type 0} → Server S X → S → Server S X
after_reads old s = record old { store = s }

pub reads_first : {S X : Type 0} (Reads : ReadingRelation) (state : S → StoreState) (old new : Server S X) (s : S) (db : Database) (holder : Option Holder) (e : MachineEvent TheText) (result : Result Answer StoreFault)
    → (state old.store).sound → LeavesRecords (state old.store) → Works state old db holder → OnlyReads (state old.store) (state s)
    → Performs Reads state (after_reads old s) new db holder e result → Performs Reads state old new db holder e result
reads_first Reads state old new s db holder e (Ok answer) sound settled w reads p =
    let first = reads_pass (state old.store) (state s) old.catalogue db sound settled w.second w.committed reads in
    (p.0, p.1, p.2, reads_then db p.0.committed (state old.store) (state s) (state new.store) first p.3)
reads_first Reads state old new s db holder e (Err Memory) sound settled w reads p =
    let first = reads_pass (state old.store) (state s) old.catalogue db sound settled w.second w.committed reads in
    (p.0, p.1, reads_then db db (state old.store) (state s) (state new.store) first p.2)
reads_first Reads state old new s db holder e (Err Full) sound settled w reads p =
    let first = reads_pass (state old.store) (state s) old.catalogue db sound settled w.second w.committed reads in
    (p.0, rose_later (state old.store).fulls (state s).fulls (state new.store).fulls reads.history.fulls p.3.history.fulls p.1, p.2, reads_then db db (state old.store) (state s) (state new.store) first p.3)
reads_first Reads state old new s db holder e (Err Number) sound settled w reads p =
    let first = reads_pass (state old.store) (state s) old.catalogue db sound settled w.second w.committed reads in
    (p.0, sym (reads.unchanged sound).number ∙ p.1, p.2, reads_then db db (state old.store) (state s) (state new.store) first p.3)
reads_first Reads state old new s db holder e (Err Device) sound settled w reads p =
    let first = reads_pass (state old.store) (state s) old.catalogue db sound settled w.second w.committed reads in
    let failures = rose_later (state old.store).failures (state s).failures (state new.store).failures reads.history.failures p.4.history.failures p.4.failures in
    let faults = rose_later (state old.store).faults (state s).faults (state new.store).faults reads.history.faults p.4.history.faults p.4.faults in
    (p.0, p.1, p.2, p.3, reads_then_fail db p.0.machine.committed (state old.store) (state s) (state new.store) first p.4 failures faults)

-- nothing was decided
pub decide_err : {S X : Type 0} (Reads : ReadingRelation) (state : S → StoreState) (old : Server S X) (s : S) (db : Database) (holder : Option Holder) (e : MachineEvent TheText) (f : Fault)
    → (state old.store).sound → LeavesRecords (state old.store) → Works state old db holder → old.stopped ≡ false
    → HasRead {T = Decision} (Err f) (state old.store) (state s)
    → DecidesAt Reads (state old.store).map old.catalogue old.writer db holder old.sessions.entries e (Err f)
    → Performs Reads state old (after_reads old s) db holder e (Err (store_fault_of f))
decide_err Reads state old s db holder e fault.Memory sound settled w runs read decides = (
  decides,
  works_still state old (after_reads old s) db holder w (read.only_reads.unchanged sound).map (read.only_reads.unchanged sound).record_format read.failed refl refl refl refl runs,
  reads_pass (state old.store) (state s) old.catalogue db sound settled w.second w.committed read.only_reads,
)
decide_err Reads state old s db holder e fault.Device sound settled w runs read decides = (
  decides.1.0,
  decides.1.1,
  decides.0,
  refl,
  read_fails (state old.store) (state s) old.catalogue db decides.1.0.machine.committed sound settled w.second w.committed read.only_reads
      (fresh_failures (state old.store) (state s) w.unfailed read.cause) (fresh_faults (state old.store) (state s) sound w.unfailed read.cause),
)
decide_err Reads state old s db holder e fault.Damaged sound settled w runs read decides = absurd decides
