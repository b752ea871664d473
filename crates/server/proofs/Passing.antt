-- What calls of a store do to the databases that a stop leaves.
use Rattle.std.proofs.Common.{◌≡◌, ◌⊎◌, inl, inr, ⊎_elim, sym, subst, Option, Some, Ok, Err, arith}
use Rattle.storage_sizes.specs.declared.record_format.RecordFormat.{RecordFormat}
use Rattle.storage_sizes.specs.declared.record_format.RecordFormat.TheVariants.{V2}
use Rattle.sector_device.specs.Timeline.{LeavesOnly, IsPresent, joined, weakened}
use Rattle.store.specs.Store.{StoreState, Contents, stored, KeepsHistory, OnlyReads, IsUnchanged, CommitsAtOnce, Rose}
use Rattle.store.specs.declared.fault.StoreFault.{StoreFault}
use Rattle.store.specs.declared.fault.StoreFault.TheVariants.{Full, Memory, Device, Number}
use Rattle.store.proofs.Reading.{none_read, history_joined}
use Rattle.abstract_database.specs.Database.{Database}
use Rattle.stored_database.specs.Definitions.{Definitions}
use Rattle.stored_database.specs.Records.{Shows, StandsFor}
use Rattle.stored_database.specs.BothRecordFormats.{in_record_format_2}
use Rattle.server.specs.Standing.{Means}
use Rattle.server.specs.Decisions.{Passes, Fails}

-- a stop leaves what the store contains and nothing else
abbrev pub LeavesRecords : StoreState → Type 0
LeavesRecords st = (x : Option Contents) → st.time.left x → x ≡ Some (stored st)

some_means : (contents : Contents) (d : Definitions) (db : Database) → contents.record_format ≡ V2 → Shows contents.records d db → (x : Option Contents) → x ≡ Some contents → Means x db
some_means contents d db second shows x is =
    (contents, is, subst (λ (s : RecordFormat). StandsFor (in_record_format_2 s contents.records) db) (sym second) (d, shows))

left_means : (st : StoreState) (d : Definitions) (db : Database) → LeavesRecords st → st.record_format ≡ V2 → Shows st.map d db → (x : Option Contents) → st.time.left x → Means x db
left_means st d db settled second shows x left = some_means (stored st) d db second shows x (settled x left)

-- ---- reads

pub reads_pass : (old new : StoreState) (d : Definitions) (db : Database) → old.sound → LeavesRecords old → old.record_format ≡ V2 → Shows old.map d db → OnlyReads old new → Passes db db old new
reads_pass old new d db sound settled second shows reads =
    let means = left_means old d db settled second shows in
    record {
      history = reads.history;
      number = let same = (reads.unchanged sound).number in omega (arith, same);
      during = weakened old.time.left (λ x. Means x db ⊎ Means x db) old.time new.time (λ x left. inl (means x left)) (reads.leaves sound);
      now = λ x left. means x ((reads.leaves sound).now x left);
    }

pub none_pass : (st : StoreState) (d : Definitions) (db : Database) → st.sound → (st.sound → IsPresent st.time) → LeavesRecords st → st.record_format ≡ V2 → Shows st.map d db → Passes db db st st
none_pass st d db sound present settled second shows = reads_pass st st d db sound settled second shows (none_read st present)

-- reads, and then more
pub reads_then : (db after : Database) (old mid new : StoreState) → Passes db db old mid → Passes db after mid new → Passes db after old new
reads_then db after old mid new first second = record {
  history = history_joined old mid new first.history second.history;
  number = omega (arith, first.number, second.number);
  during = joined (λ x. Means x db ⊎ Means x after) old.time mid.time new.time
      (weakened (λ x. Means x db ⊎ Means x db) (λ x. Means x db ⊎ Means x after) old.time mid.time (λ x m. ⊎_elim (λ a. inl a) (λ b. inl b) m) first.during) second.during;
  now = second.now;
}

pub reads_then_fail : (db after : Database) (old mid new : StoreState) → Passes db db old mid → Fails db after mid new → Rose old.failures new.failures → Rose old.faults new.faults → Fails db after old new
reads_then_fail db after old mid new first second failures faults = record {
  history = history_joined old mid new first.history second.history;
  during = joined (λ x. Means x db ⊎ Means x after) old.time mid.time new.time
      (weakened (λ x. Means x db ⊎ Means x db) (λ x. Means x db ⊎ Means x after) old.time mid.time (λ x m. ⊎_elim (λ a. inl a) (λ b. inl b) m) first.during) second.during;
  now = second.now;
  failures = failures;
  faults = faults;
}

-- a read that fails leaves what was there
pub read_fails : (old new : StoreState) (d : Definitions) (db after : Database) → old.sound → LeavesRecords old → old.record_format ≡ V2 → Shows old.map d db → OnlyReads old new
    → Rose old.failures new.failures → Rose old.faults new.faults → Fails db after old new
read_fails old new d db after sound settled second shows reads failures faults =
    let p = reads_pass old new d db sound settled second shows reads in
    record {
      history = p.history;
      during = weakened (λ x. Means x db ⊎ Means x db) (λ x. Means x db ⊎ Means x after) old.time new.time (λ x m. ⊎_elim (λ a. inl a) (λ b. inl b) m) p.during;
      now = λ x left. inl (p.now x left);
      failures = failures;
      faults = faults;
    }

-- ---- commits

one_of : (before after : Contents) (d e : Definitions) (db db' : Database) → before.record_format ≡ V2 → Shows before.records d db → after.record_format ≡ V2 → Shows after.records e db' → (x : Option Contents) → (x ≡ Some before) ⊎ (x ≡ Some after) → Means x db ⊎ Means x db'
one_of before after d e db db' p a q b x m = ⊎_elim (λ is. inl (some_means before d db p a x is)) (λ is. inr (some_means after e db' q b x is)) m

-- one that is done
pub commit_done : (u : Unit {0}) (after : Contents) (old new : StoreState) (d e : Definitions) (db db' : Database) → KeepsHistory old new → CommitsAtOnce (Ok u) after old new
    → old.record_format ≡ V2 → Shows old.map d db → after.record_format ≡ V2 → Shows after.records e db' → Passes db db' old new
commit_done u after old new d e db db' history c second shows still shown = record {
  history = history;
  number = c.committed.not_back;
  during = weakened _ (λ x. Means x db ⊎ Means x db') old.time new.time (one_of (stored old) after d e db db' second shows still shown) c.leaves;
  now = λ x left. some_means after e db' still shown x (c.left x left);
}

-- one that is refused: nothing was done
abbrev pub IsRefusal : StoreFault → Type 0
IsRefusal Full = Unit {0}
IsRefusal Memory = Unit {0}
IsRefusal Number = Unit {0}
IsRefusal Device = ⊥

unchanged_pass : (old new : StoreState) (d : Definitions) (db : Database) → KeepsHistory old new → IsUnchanged old new → LeavesOnly (λ x. x ≡ Some (stored old)) old.time new.time
    → ((x : Option Contents) → new.time.left x → x ≡ Some (stored old)) → old.record_format ≡ V2 → Shows old.map d db → Passes db db old new
unchanged_pass old new d db history same leaves left second shows = record {
  history = history;
  number = let is = same.number in omega (arith, is);
  during = weakened (λ x. x ≡ Some (stored old)) (λ x. Means x db ⊎ Means x db) old.time new.time (λ x is. inl (some_means (stored old) d db second shows x is)) leaves;
  now = λ x l. some_means (stored old) d db second shows x (left x l);
}

pub commit_refused : (f : StoreFault) (after : Contents) (old new : StoreState) (d : Definitions) (db : Database) → IsRefusal f → KeepsHistory old new → CommitsAtOnce (Err f) after old new
    → old.record_format ≡ V2 → Shows old.map d db → Passes db db old new × IsUnchanged old new
commit_refused Full after old new d db r history c second shows = (unchanged_pass old new d db history c.committed c.leaves c.left second shows, c.committed)
commit_refused Memory after old new d db r history c second shows = (unchanged_pass old new d db history c.committed c.leaves c.left second shows, c.committed)
commit_refused Number after old new d db r history c second shows = (unchanged_pass old new d db history c.committed c.leaves c.left second shows, c.committed)
commit_refused Device after old new d db r history c second shows = absurd r

-- one in which the device failed: nobody knows
pub commit_fails : (after : Contents) (old new : StoreState) (d e : Definitions) (db db' : Database) → KeepsHistory old new → CommitsAtOnce (Err Device) after old new
    → old.record_format ≡ V2 → Shows old.map d db → after.record_format ≡ V2 → Shows after.records e db' → Rose old.failures new.failures → Rose old.faults new.faults → Fails db db' old new
commit_fails after old new d e db db' history c second shows still shown failures faults = record {
  history = history;
  during = weakened _ (λ x. Means x db ⊎ Means x db') old.time new.time (one_of (stored old) after d e db db' second shows still shown) c.leaves;
  now = λ x left. one_of (stored old) after d e db db' second shows still shown x (c.left x left);
  failures = failures;
  faults = faults;
}
