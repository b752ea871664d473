-- Lists of a dump that are committed, one after the other, and what is there then.
use Rattle.std.proofs.Common.{◌≡◌, ◌≤◌, ◌*◌, ◌++◌, ℕ, false, List, [], ◌∷◌, None, Result, Ok, Err, IfErr, OnOk, refl, sym, ap, subst, ◌∙◌}
use Rattle.std.proofs.lemmas.List.{append_assoc}
use Rattle.std.specs.Prelude.{count_by}
use Rattle.sha2.specs.Hashers.{Holds256}
use Rattle.storage_sizes.specs.declared.record_format.RecordFormat.{RecordFormat}
use Rattle.storage_sizes.specs.CurrentRecordFormat.{current}
use Rattle.sector_device.specs.Device.{DeviceState, Image, HasFailed, KeepsHistory as DeviceHistory}
use Rattle.store.specs.Contents.{changed_by_batch}
use Rattle.store.specs.Records.{Records, Changes, applied, changed}
use Rattle.store.specs.Store.{Commits, Contents, IsCommitted, IsUnchanged, KeepsHistory, StoreState, stored}
use Rattle.store.specs.declared.fault.Fault.{Fault}
use Rattle.store.specs.declared.fault.Fault.TheVariants as read
use Rattle.store.specs.declared.fault.StoreFault.TheVariants as write
use Rattle.store.specs.Readers.{HasFaultCause}
use Rattle.store.proofs.Reading.{cause_later}
use Rattle.cow_pages.specs.PreservedLaws.{failed_later}
use Rattle.abstract_database.specs.Database.{Database}
use Rattle.stored_database.specs.BothRecordFormats.{Stands}
use Rattle.stored_database.specs.Definitions.{Definitions}
use Rattle.stored_database.specs.Records.{Shows, StandsFor}
use Rattle.transactions.specs.Views.{applied_all}
use Rattle.catalogue_loading.specs.Found.{Finds}
use Rattle.recovery.specs.Openings.{AreOfDatabase}
use Rattle.copies.specs.RecordCopies.{mark, unmarked}
use Rattle.copies.specs.DeviceCopies.{marked}
use Rattle.copies.specs.declared.fault.CopyFault.TheVariants.{Pages, Read, Write, WrongSize, Full}
use Rattle.dumps.specs.Form.{TheDump, head}
use Rattle.dumps.specs.OnDevice.{HoldsDump}
use Rattle.dumps.specs.Reading.{HasHead, IsUnread}
use Rattle.dumps.specs.declared.fault.DumpFault.{DumpFault}
use Rattle.dumps.specs.declared.fault.DumpFault.TheVariants as reading
use Rattle.dumps.specs.declared.place.DumpPlace.{DumpPlace}
use Rattle.dumps.specs.Faults.{of_read}
use Rattle.dumps.proofs.WholeReads.{dump_read, goes_on_behind_head}
use Rattle.database_dumps.specs.Dumping.{records_of}
use Rattle.database_dumps.proofs.Dumped.{applied_more}
use Rattle.database_dumps.specs.Roles.{has_login, is_superuser_role}
use Rattle.database_dumps.specs.Restoring.{CommitsList, FindsRoles, HasCommitted, HasListCause, HasRestoreCause, HasRoles, HoldsNoneOfDatabase, IsCommitFault, IsReadCause, IsRestoredIn, RestoresIn, contents_of, of_records}
use Rattle.database_dumps.specs.declared.fault.RestoreFault.{RestoreFault}
use Rattle.database_dumps.specs.declared.fault.RestoreFault.TheVariants.{Dump, New}
use Rattle.database_dumps.specs.declared.roles.RestoredRoles.{RestoredRoles}
use Rattle.dumps.proofs.ListsRead.{Ends, HasReadLists, Reads, all_read}
use Rattle.dumps.proofs.WholeDumps.{no_lists, one_list_more}
use Rattle.dumps.proofs.Marked.{mark_stays}

-- lists were read and committed, and the mark is before what they make
pub record HasCommittedSome (sectors : ℕ) (image : Image) (before : List ℕ) (first place : DumpPlace) (old new : StoreState) : Type 0 where
  pub so_far : HasReadLists sectors image before first place
  pub sound : new.sound
  pub works : new.has_failed ≡ false
  pub record_format : new.record_format ≡ old.record_format
  pub map : new.map ≡ mark ∷ applied_all so_far.lists []

pub none_committed : (sectors : ℕ) (image : Image) (before : List ℕ) (place : DumpPlace) (s : StoreState) → 8 * place.page ≤ sectors → Holds256 place.hasher before → s.sound → s.has_failed ≡ false → s.map ≡ mark ∷ []
    → HasCommittedSome sectors image before place place s s
none_committed sectors image before place s within hashed sound works map = record {
  so_far = record {
    lists = [];
    after = before;
    has = no_lists sectors image before place within hashed;
    only = λ others on. record { behind = before; rest = others; all = refl; hashed = hashed; goes_on = on };
  };
  sound = sound;
  works = works;
  record_format = refl;
  map = map;
}

-- one list more was
pub more_committed : (sectors : ℕ) (image : Image) (before : List ℕ) (batch : Changes) (first place next : DumpPlace) (old mid new : StoreState) → HasCommittedSome sectors image before first place old mid
    → Reads sectors image place next batch → Commits (Ok tt) (changed_by_batch batch (stored mid)) mid new → HasCommittedSome sectors image before first next old new
more_committed sectors image before batch first place next old mid new is reads commits =
    let at = (commits.at_once is.sound is.works).committed in
    let list = reads.0 is.so_far.after is.so_far.has.hashed in
    record {
      so_far = record {
        lists = is.so_far.lists ++ batch ∷ [];
        after = is.so_far.after ++ list.block;
        has = one_list_more sectors image before is.so_far.after is.so_far.lists batch first place next is.so_far.has list;
        only = λ others on.
            let more = is.so_far.only others on in
            let left = reads.1 more.behind more.rest more.hashed more.goes_on in
            record {
              behind = more.behind ++ left.0;
              rest = left.1;
              all = more.all ∙ ap (λ (ls : List Changes). is.so_far.lists ++ ls) left.2 ∙ sym (append_assoc is.so_far.lists (batch ∷ []) left.1);
              hashed = left.3;
              goes_on = left.4;
            };
      };
      sound = commits.history.sound is.sound;
      works = commits.failed ∙ is.works;
      record_format = at.record_format ∙ is.record_format;
      map = at.map ∙ ap (λ (es : Records). applied batch es) is.map
          ∙ mark_stays list.block batch [] (applied_all is.so_far.lists []) list.is
          ∙ ap (λ (es : Records). mark ∷ es) (sym (applied_more is.so_far.lists batch []));
    }

-- all were
pub all_committed : (sectors : ℕ) (image : Image) (before : List ℕ) (first last : DumpPlace) (old new : StoreState) → HasCommittedSome sectors image before first last old new → Ends sectors image last
    → HasCommitted sectors image before first old new
all_committed sectors image before first last old new is ends = record {
  lists = is.so_far.lists;
  has = all_read sectors image before first last is.so_far ends;
  sound = is.sound;
  works = is.works;
  record_format = is.record_format;
  map = is.map;
}

-- ---- what the records stand for

pub stands_so : (dump : TheDump) (db : Database) → StandsFor (records_of dump) db → Stands (contents_of dump) db
unfolding current
stands_so dump db stands = stands

stands_too : (dump : TheDump) (db : Database) → Stands (contents_of dump) db → StandsFor (records_of dump) db
unfolding current
stands_too dump db stands = stands

abbrev of : RecordFormat → Records → Contents
of record_format records = record { record_format = record_format; records = records }

-- the mark goes
pub unmarked_is : (s t : StoreState) (records : Records) → s.map ≡ mark ∷ records → s.sound → s.has_failed ≡ false → Commits (Ok tt) (changed_by_batch (unmarked []) (stored s)) s t → t.map ≡ records
unmarked_is s t records map sound works commits = (commits.at_once sound works).committed.map ∙ ap (λ (es : Records). changed (0 ∷ []) None es) map

module _ (d : DeviceState) (number : ℕ) (first : DumpPlace) (s t u v : StoreState) (begun : HasHead d number first) (committed : HasCommitted d.sectors d.content (head number) first s t) (was : stored s ≡ marked)
    (commits : Commits (Ok tt) (changed_by_batch (unmarked []) (stored t)) t u) (later : v.sound) (same : IsUnchanged u v) where
  abbrev dump : TheDump
  dump = record { number = number; lists = committed.lists }

  holds : HoldsDump d dump
  holds = dump_read d number committed.lists first begun committed.has

  pub records : u.map ≡ records_of dump
  records = unmarked_is t u (records_of dump) committed.map committed.sound committed.works commits

  abbrev at : IsCommitted (changed_by_batch (unmarked []) (stored t)) t u
  at = (commits.at_once committed.sound committed.works).committed

  spelled : v.record_format ≡ current
  spelled = same.record_format ∙ at.record_format ∙ committed.record_format ∙ ap (λ (c : Contents). c.record_format) was

  pub restored_in : (roles : RestoredRoles) → HasRoles u.map roles → v.has_failed ≡ u.has_failed → IsRestoredIn d roles v
  restored_in roles has works = record {
    dump = dump;
    holds = holds;
    database = has.database;
    stands = stands_so dump has.database (subst (λ (es : Records). StandsFor es has.database) records has.stands);
    superusers = has.superusers;
    logins = has.logins;
    sound = later;
    works = works ∙ commits.failed ∙ committed.works;
    stored_is = ap (λ (f : RecordFormat). of f v.map) spelled ∙ ap (λ (es : Records). of current es) (same.map ∙ records);
  }

  pub none_of_database : ((db : Database) → StandsFor u.map db → ⊥) → HoldsNoneOfDatabase d
  none_of_database none = λ other db other_holds stands.
      let lists : other.lists ≡ committed.lists = committed.has.only other.lists (goes_on_behind_head d number other first begun other_holds) in
      none db (subst (λ (es : Records). StandsFor es db) (ap (λ (ls : List Changes). applied_all ls []) lists ∙ sym records) (stands_too other db stands))

-- ---- causes

-- why a dump was not read on, since an earlier moment
pub read_cause : (fault : Fault) (s t : StoreState) (old mid new : DeviceState) → DeviceHistory old mid → DeviceHistory mid new → (fault ≡ read.Device → HasFailed mid new) → HasListCause (Dump (of_read fault)) old new s t
read_cause read.Memory s t old mid new first second cause = tt
read_cause read.Device s t old mid new first second cause = failed_later old mid new first second (cause refl)
read_cause read.Damaged s t old mid new first second cause = tt

-- Damaged of a restore is that of a read
pub damaged_given : (fault : Fault) → Dump (of_read fault) ≡ Dump reading.Damaged → fault ≡ read.Damaged
damaged_given read.Damaged is = refl
damaged_given read.Memory is = absurd (let wrong : Dump reading.Memory ≡ Dump reading.Damaged = is in cc)
damaged_given read.Device is = absurd (let wrong : Dump reading.Device ≡ Dump reading.Damaged = is in cc)

-- why a list was not committed, after commits that were
pub commit_cause : (fault : RestoreFault) (batch : Changes) (d e : DeviceState) (old mid new : StoreState) → KeepsHistory old mid → mid.has_failed ≡ old.has_failed → CommitsList (Err fault) batch mid new → HasListCause fault d e old new
commit_cause (New (Write write.Full)) batch d e old mid new first same commits = tt
commit_cause (New (Write write.Memory)) batch d e old mid new first same commits = tt
commit_cause (New (Write write.Device)) batch d e old mid new first same commits = cause_later write.Device old mid new first same commits.history commits.cause
commit_cause (New (Write write.Number)) batch d e old mid new first same commits = tt
commit_cause (New (Read fault)) batch d e old mid new first same commits = absurd commits
commit_cause (New (Pages fault)) batch d e old mid new first same commits = absurd commits
commit_cause (New WrongSize) batch d e old mid new first same commits = absurd commits
commit_cause (New (Full least)) batch d e old mid new first same commits = absurd commits
commit_cause (Dump fault) batch d e old mid new first same commits = absurd commits

-- its fault is none of the dump
pub list_undamaged : (fault : RestoreFault) (batch : Changes) (old new : StoreState) → CommitsList (Err fault) batch old new → fault ≡ Dump reading.Damaged → ⊥
list_undamaged (New fault) batch old new commits is = let wrong : New fault ≡ Dump reading.Damaged = is in cc
list_undamaged (Dump fault) batch old new commits is = absurd commits

-- what it does to the store in any case
pub list_history : (fault : RestoreFault) (batch : Changes) (old new : StoreState) → CommitsList (Err fault) batch old new → KeepsHistory old new
list_history (New (Write fault)) batch old new commits = commits.history
list_history (New (Read fault)) batch old new commits = absurd commits
list_history (New (Pages fault)) batch old new commits = absurd commits
list_history (New WrongSize) batch old new commits = absurd commits
list_history (New (Full least)) batch old new commits = absurd commits
list_history (Dump fault) batch old new commits = absurd commits

-- what a commit does to the store in any case
pub commit_history : (result : Result (Unit {0}) RestoreFault) (batch : Changes) (old new : StoreState) → CommitsList result batch old new → KeepsHistory old new
commit_history (Ok x) batch old new commits = commits.history
commit_history (Err fault) batch old new commits = list_history fault batch old new commits

-- why it was refused
pub commit_fault : (result : Result (Unit {0}) RestoreFault) (batch : Changes) (old new : StoreState) → CommitsList result batch old new → IfErr result (λ fault. IsCommitFault fault old new)
commit_fault (Ok x) batch old new commits = tt
commit_fault (Err (New (Write write.Full))) batch old new commits = tt
commit_fault (Err (New (Write write.Memory))) batch old new commits = tt
commit_fault (Err (New (Write write.Device))) batch old new commits = commits.cause
commit_fault (Err (New (Write write.Number))) batch old new commits = tt
commit_fault (Err (New (Read fault))) batch old new commits = absurd commits
commit_fault (Err (New (Pages fault))) batch old new commits = absurd commits
commit_fault (Err (New WrongSize)) batch old new commits = absurd commits
commit_fault (Err (New (Full least))) batch old new commits = absurd commits
commit_fault (Err (Dump fault)) batch old new commits = absurd commits

-- a commit of the batch with which the mark goes
pub unmarks : (result : Result (Unit {0}) RestoreFault) (batch : Changes) (old new : StoreState) → batch ≡ unmarked [] → CommitsList result batch old new → OnOk result (CommitsList result (unmarked []) old new)
unmarks (Ok x) batch old new is commits = subst (λ (cs : Changes). CommitsList (Ok x) cs old new) is commits
unmarks (Err fault) batch old new is commits = tt

-- the commit with which the mark goes
pub unmark_cause : (fault : RestoreFault) (d e : DeviceState) (old mid new : StoreState) → KeepsHistory old mid → mid.has_failed ≡ old.has_failed → KeepsHistory mid new → IsCommitFault fault mid new → HasRestoreCause fault d e old new
unmark_cause (New (Write write.Full)) d e old mid new first same second cause = tt
unmark_cause (New (Write write.Memory)) d e old mid new first same second cause = tt
unmark_cause (New (Write write.Device)) d e old mid new first same second cause = cause_later write.Device old mid new first same second cause
unmark_cause (New (Write write.Number)) d e old mid new first same second cause = tt
unmark_cause (New (Read fault)) d e old mid new first same second cause = absurd cause
unmark_cause (New (Pages fault)) d e old mid new first same second cause = absurd cause
unmark_cause (New WrongSize) d e old mid new first same second cause = absurd cause
unmark_cause (New (Full least)) d e old mid new first same second cause = absurd cause
unmark_cause (Dump fault) d e old mid new first same second cause = absurd cause

-- what reading the head of a dump answers, where it is not read
pub head_refused : (d e : DeviceState) (fault : DumpFault) (s : StoreState) → ((dump : TheDump) → HoldsDump d dump → IsUnread fault d e) → RestoresIn d (Err (Dump fault)) s
head_refused d e reading.Memory s unread = tt
head_refused d e reading.Device s unread = tt
head_refused d e reading.Damaged s unread = λ dump db holds stands. unread dump holds
head_refused d e reading.NotADump s unread = λ dump db holds stands. unread dump holds
head_refused d e (reading.OtherVersion version) s unread = λ dump db holds stands. unread dump holds

pub head_cause : (d e : DeviceState) (fault : DumpFault) (s : StoreState) → (fault ≡ reading.Device → HasFailed d e) → HasRestoreCause (Dump fault) d e s s
head_cause d e reading.Memory s cause = tt
head_cause d e reading.Device s cause = cause refl
head_cause d e reading.Damaged s cause = tt
head_cause d e reading.NotADump s cause = tt
head_cause d e (reading.OtherVersion version) s cause = tt

-- a list was not read or committed, behind a head: where a dump is there, the fault is not Damaged
pub lists_refused : (d a b : DeviceState) (fault : RestoreFault) (s t u : StoreState) → HasListCause fault a b s t → ((dump : TheDump) → HoldsDump d dump → fault ≡ Dump reading.Damaged → ⊥) → RestoresIn d (Err fault) u
lists_refused d a b (Dump reading.Memory) s t u cause refused = tt
lists_refused d a b (Dump reading.Device) s t u cause refused = tt
lists_refused d a b (Dump reading.Damaged) s t u cause refused = λ dump db holds stands. refused dump holds refl
lists_refused d a b (Dump reading.NotADump) s t u cause refused = absurd cause
lists_refused d a b (Dump (reading.OtherVersion version)) s t u cause refused = absurd cause
lists_refused d a b (New fault) s t u cause refused = tt

pub lists_cause : (fault : RestoreFault) (d e f : DeviceState) (s t : StoreState) → DeviceHistory d e → DeviceHistory e f → HasListCause fault e f s t → HasRestoreCause fault d f s t
lists_cause (Dump reading.Memory) d e f s t first second cause = tt
lists_cause (Dump reading.Device) d e f s t first second cause = failed_later d e f first second cause
lists_cause (Dump reading.Damaged) d e f s t first second cause = tt
lists_cause (Dump reading.NotADump) d e f s t first second cause = tt
lists_cause (Dump (reading.OtherVersion version)) d e f s t first second cause = tt
lists_cause (New (Write write.Full)) d e f s t first second cause = tt
lists_cause (New (Write write.Memory)) d e f s t first second cause = tt
lists_cause (New (Write write.Device)) d e f s t first second cause = cause
lists_cause (New (Write write.Number)) d e f s t first second cause = tt
lists_cause (New (Read fault)) d e f s t first second cause = absurd cause
lists_cause (New (Pages fault)) d e f s t first second cause = absurd cause
lists_cause (New WrongSize) d e f s t first second cause = absurd cause
lists_cause (New (Full least)) d e f s t first second cause = absurd cause

-- the commit with which the mark goes is refused for the store alone
pub unmark_refused : (d : DeviceState) (fault : RestoreFault) (s t u : StoreState) → IsCommitFault fault s t → RestoresIn d (Err fault) u
unmark_refused d (New fault) s t u cause = tt
unmark_refused d (Dump fault) s t u cause = absurd cause

-- the records are read last
pub roles_cause : (fault : RestoreFault) (d e : DeviceState) (old mid new : StoreState) → KeepsHistory old mid → mid.has_failed ≡ old.has_failed → KeepsHistory mid new → IsReadCause fault mid new → HasRestoreCause fault d e old new
roles_cause (Dump reading.Memory) d e old mid new first same second cause = tt
roles_cause (Dump reading.Damaged) d e old mid new first same second cause = tt
roles_cause (Dump reading.Device) d e old mid new first same second cause = absurd cause
roles_cause (Dump reading.NotADump) d e old mid new first same second cause = absurd cause
roles_cause (Dump (reading.OtherVersion version)) d e old mid new first same second cause = absurd cause
roles_cause (New (Write write.Device)) d e old mid new first same second cause = cause_later write.Device old mid new first same second cause
roles_cause (New (Write write.Full)) d e old mid new first same second cause = absurd cause
roles_cause (New (Write write.Memory)) d e old mid new first same second cause = absurd cause
roles_cause (New (Write write.Number)) d e old mid new first same second cause = absurd cause
roles_cause (New (Read fault)) d e old mid new first same second cause = absurd cause
roles_cause (New (Pages fault)) d e old mid new first same second cause = absurd cause
roles_cause (New WrongSize) d e old mid new first same second cause = absurd cause
roles_cause (New (Full least)) d e old mid new first same second cause = absurd cause

pub roles_answered : (result : Result RestoredRoles RestoreFault) (d e : DeviceState) (old mid new : StoreState) → KeepsHistory old mid → mid.has_failed ≡ old.has_failed → KeepsHistory mid new → IfErr result (λ fault. IsReadCause fault mid new)
    → IfErr result (λ fault. HasRestoreCause fault d e old new)
roles_answered (Ok roles) d e old mid new first same second cause = tt
roles_answered (Err fault) d e old mid new first same second cause = roles_cause fault d e old mid new first same second cause

-- what all of it comes to: the roles of the database, or that there is none
pub found_in : (d : DeviceState) (result : Result RestoredRoles RestoreFault) (s v : StoreState) → FindsRoles result s.map → IfErr result (λ fault. IsReadCause fault s v) → OnOk result (v.has_failed ≡ s.has_failed)
    → ((roles : RestoredRoles) → HasRoles s.map roles → v.has_failed ≡ s.has_failed → IsRestoredIn d roles v) → (((db : Database) → StandsFor s.map db → ⊥) → HoldsNoneOfDatabase d) → RestoresIn d result v
found_in d (Ok roles) s v finds cause works some none = some roles finds works
found_in d (Err (Dump reading.Memory)) s v finds cause works some none = tt
found_in d (Err (Dump reading.Device)) s v finds cause works some none = tt
found_in d (Err (Dump reading.Damaged)) s v finds cause works some none = none finds
found_in d (Err (Dump reading.NotADump)) s v finds cause works some none = absurd cause
found_in d (Err (Dump (reading.OtherVersion version))) s v finds cause works some none = absurd cause
found_in d (Err (New fault)) s v finds cause works some none = tt

-- ---- roles

pub roles_found : (records : Records) (d : Definitions) (roles : RestoredRoles) → ((db : Database) × Shows records d db) → roles.superusers ≡ count_by is_superuser_role d.roles → roles.logins ≡ count_by has_login d.roles → HasRoles records roles
roles_found records d roles found superusers logins = record {
  database = found.0;
  stands = (d, found.1);
  superusers = superusers ∙ ap (λ (db : Database). count_by is_superuser_role db.roles) (sym found.1.is);
  logins = logins ∙ ap (λ (db : Database). count_by has_login db.roles) (sym found.1.is);
}

pub none_found : (records : Records) → ((d : Definitions) → ((db : Database) × Shows records d db) → ⊥) → (db : Database) → StandsFor records db → ⊥
none_found records none db stands = none stands.0 (db, stands.1)

-- no database is read
pub reading_refused : (fault : Fault) (records : Records) → Finds (AreOfDatabase records) (Err fault) → FindsRoles (Err (of_records fault)) records
reading_refused read.Memory records none = tt
reading_refused read.Device records none = tt
reading_refused read.Damaged records none = none_found records none

pub reading_cause : (fault : Fault) (s t : StoreState) → HasFaultCause fault s t → IsReadCause (of_records fault) s t
reading_cause read.Memory s t cause = tt
reading_cause read.Device s t cause = cause
reading_cause read.Damaged s t cause = tt
