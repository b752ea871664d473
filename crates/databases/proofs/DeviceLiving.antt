-- A run over a database that was opened on a device is a life of it.
use Rattle.std.proofs.Common.{◌∙◌, ◌≡◌, ◌⊎◌, ◌≤◌, ℕ, ⊎_elim, false, List, Option, Some, refl, sym, subst, arith}
use Rattle.storage_sizes.specs.declared.record_format.RecordFormat.{RecordFormat}
use Rattle.storage_sizes.specs.declared.record_format.RecordFormat.TheVariants.{V1, V2}
use Rattle.sector_device.specs.Timeline.{LeavesOnly, IsPresent, weakened}
use Rattle.sector_device.specs.Device.{DeviceState, IsLeft, timeline}
use Rattle.sector_device.specs.declared.device.Device.{Ghosts}
use Rattle.store.specs.Records.{Records}
use Rattle.store.specs.Store.{KeepsHistory, stored}
use Rattle.journal_store.specs.declared.device_stores.DeviceStore.{DeviceStore}
use Rattle.journal_store.specs.DeviceReads.{faithful_under, present_on}
use Rattle.journal_store.specs.DeviceStoreLaws.{content_has, settled_on}
use Rattle.journal_store.specs.DeviceStores.{device_of, state_under as state_below, store_state}
use Rattle.abstract_database.specs.Database.{Database}
use Rattle.abstract_database.specs.Runs.{ReadingRelation, Standing, IsFoundAt, At}
use Rattle.stored_database.specs.Records.{StandsFor}
use Rattle.server.specs.declared.server.Server.{Server}
use Rattle.server.specs.Standing.{Means, Represents, at_start}
use Rattle.recovery.specs.Openings.{IsNumberAfter}
use Rattle.databases.specs.Lives.{IsFoundLeft, LeavesFound, IsLife, EndsAt}
use Rattle.databases.specs.OnDevice.{IsNumberOf, AreCountedOn}
use Rattle.databases.proofs.Histories.{one_meaning}
use Rattle.wire.specs.declared.script_run.ScriptEnd.{ScriptEnd}
use Rattle.wire.specs.declared.sink.Sink.{Ghosts as SinkGhosts}
use Rattle.wire.specs.Closing.{StandsWithinLimit}
use Rattle.wire.specs.ScriptRun.{IsScriptRun}
use Rattle.wire.specs.Listening.{Listening}
use Rattle.wire.specs.Listener.{Connection, ServesEach}
use Rattle.databases.proofs.Living.{ends_at, leaves_found, until_first}
use Rattle.databases.specs.declared.database.Opened.{Opened}
use Rattle.databases.specs.Answered.{Answered, IsLived, IsOfEach, IsOfScript, LivesFrom}
use Rattle.databases.specs.Databases.{HoldsDatabase, LeavesAsBefore, LeavesDatabase, records_on}
use Rattle.databases.specs.Openings.{IsOpenedOn, OpensAs, state_under}
use Rattle.talks.specs.Turns.{Turn, TakesTurns}
use Rattle.talks.specs.declared.talk.Talk.{Ghosts as TalkGhosts}
use Rattle.talks.specs.declared.clients.ServedClients.{Ghosts as ClientsGhosts}
use Rattle.served_machine.specs.declared.machine.ServedMachine.{ServedMachine}
use Rattle.served_machine.specs.Machines.{machine_of}
use Rattle.served_clients.specs.Spelled.{of_turns}
use Rattle.served_clients.proofs.Stepping.{turns as all_turns}
use Rattle.databases.specs.Clients.{IsOfTurns, of_taken}
use Rattle.databases.proofs.Answering.{Ran, Stepped, connections_ran, ran_by_steps, script_ran}
use Rattle.databases.proofs.Serving.{taken_steps}
use Rattle.databases.proofs.DeviceOpening.{none_open}

-- records mean one database
abbrev pub MeanOne : Type 0
MeanOne = (records : Records) (a b : Database) → StandsFor records a → StandsFor records b → a ≡ b

-- ---- what an opening leaves, where the last life may have left the device

-- the database that the device holds is one that may have been left
pub found_held : MeanOne → (d : DeviceState) → IsLeft d d.content → (last : Standing) → LeavesFound last (records_on d) → (db : Database) → HoldsDatabase d db → IsFoundAt last db
found_held one d content last found db holds =
    let here = found (Some holds.contents) (d.content, content, holds.has) in
    subst (λ (x : Database). IsFoundAt last x) (one_meaning one (Some holds.contents) here.0 db here.1 (holds.contents, refl, holds.stands)) here.2

-- nothing was written
pub found_before : (d e : DeviceState) (last : Standing) → LeavesFound last (records_on d) → LeavesAsBefore d e → LeavesOnly (IsFoundLeft last) (records_on d) (records_on e)
found_before d e last found leaves = weakened (records_on d).left (IsFoundLeft last) (records_on d) (records_on e) found leaves

-- the database stayed
pub found_same : (d e : DeviceState) (last : Standing) → LeavesFound last (records_on d) → (db : Database) → IsFoundAt last db → LeavesDatabase db d e
    → LeavesOnly (IsFoundLeft last) (records_on d) (records_on e)
found_same d e last found db held leaves =
    weakened (λ x. (records_on d).left x ⊎ Means x db) (IsFoundLeft last) (records_on d) (records_on e) (λ x is. ⊎_elim (found x) (λ means. (db, means, held)) is) leaves.during

module _ {D : Type 0} {g : Ghosts D} {X : Type 0} where
  found_opened : (sp : RecordFormat) (d : DeviceState) (db : Database) (holds : HoldsDatabase d db) (server : Server (DeviceStore D g) X) (last : Standing) → LeavesFound last (records_on d) → IsFoundAt last db
      → OpensAs sp d holds server → LeavesOnly (IsFoundLeft last) (records_on d) (records_on (state_under server))
  found_opened V2 d db holds server last found held only = found_before d (state_under server) last found only.leaves
  found_opened V1 d db holds server last found held migrated = found_same d (state_under server) last found db held migrated.leaves

  -- ---- what is counted

  first_number : (sp : RecordFormat) (d : DeviceState) (db : Database) (holds : HoldsDatabase d db) (server : Server (DeviceStore D g) X) → OpensAs sp d holds server
      → IsNumberAfter sp holds.has.number (store_state server.store).number
  first_number V2 d db holds server only = only.keeps.number
  first_number V1 d db holds server migrated = (migrated.not_back, migrated.by_one)

  first_faults : (sp : RecordFormat) (d : DeviceState) (db : Database) (holds : HoldsDatabase d db) (server : Server (DeviceStore D g) X) → OpensAs sp d holds server
      → d.failures ≤ (store_state server.store).faults
  first_faults V2 d db holds server only = only.unwritten.history.failures
  first_faults V1 d db holds server migrated = migrated.failures

-- the number of a store that works is that of what its device holds
last_number : {D : Type 0} {g : Ghosts D} (s : DeviceStore D g) (number : ℕ) → (store_state s).sound → (store_state s).has_failed ≡ false
    → IsLeft (state_below s) (state_below s).content → number ≡ (store_state s).number → IsNumberOf (state_below s) number
last_number s number sound works content same =
    let has = content_has s sound works content in
    (stored (store_state s), has.0, same ∙ sym has.1)

-- ---- a life

module _ {D : Type 0} {g : Ghosts D} (present : (device : D) → (g.state device).faithful → IsPresent (timeline (g.state device)))
    (content_left : (device : D) → (g.state device).faithful → IsLeft (g.state device) (g.state device).content) (one : MeanOne)
    {X : Type 0} (Reads : ReadingRelation) (device : D) (opened : Opened D X g) (is : IsOpenedOn (g.state device) opened) (faithful : (g.state device).faithful) where
  abbrev was : DeviceState
  was = g.state device

  abbrev begin : At
  begin = at_start (store_state opened.server.store) is.database

  counted : (end : Server (DeviceStore D g) X) (at : At) → (store_state end.store).sound → EndsAt (store_state end.store) at → AreCountedOn was (state_under end) begin at
  counted end at sound ends = record {
    first_number = (is.holds.contents, is.holds.has, first_number is.holds.contents.record_format was is.database is.holds opened.server is.how);
    first_faults = first_faults is.holds.contents.record_format was is.database is.holds opened.server is.how;
    last_number = λ works. last_number end.store at.counts.number sound (ends.works works) (content_left (device_of end.store) (faithful_under end.store sound)) (ends.counts.number works);
    last_faults = ends.counts.faults;
  }

  pub lived : (last : Standing) → LeavesFound last (records_on was) → (it : Answered) (end : Server (DeviceStore D g) X) → (store_state end.store).sound
      → Ran Reads store_state opened.server begin it end → IsLived Reads last it was (state_under end)
  lived last found it end sound ran =
      let first = opened.server in
      let held = found_held one was (content_left device faithful) last found is.database is.holds in
      let opening = found_opened is.holds.contents.record_format was is.database is.holds first last found held is.how in
      let leaves : LeavesOnly (IsFoundLeft last) (records_on was) (store_state first.store).time = opening in
      let now : IsPresent (store_state first.store).time = present_on first.store (present (device_of first.store) (faithful_under first.store is.sound)) in
      let life : IsLife Reads last it.events it.answers it.moments (records_on was) (store_state end.store).time = record {
        database = is.database;
        found = held;
        begin = begin;
        over = refl;
        until = until_first (IsFoundLeft last) (records_on was) (store_state first.store).time (store_state end.store).time leaves ran.3 now;
        begun = λ x stop. leaves_found store_state first begin (λ y works left. settled_on first.store y is.sound works left) is.represents first.stopped refl x
            (now x (ran.3 begin.moment begin.moment x (omega arith) stop));
        end = ran.0;
        ran = ran.2;
        ends = ran.1.moment;
        leaves = leaves_found store_state end ran.0 (λ y works left. settled_on end.store y sound works left) ran.1 end.stopped refl;
      } in
      (life, counted end ran.0 sound (ends_at store_state end ran.0 ran.1))

-- ---- scripts, connections and clients

module _ {D : Type 0} {g : Ghosts D} (present : (device : D) → (g.state device).faithful → IsPresent (timeline (g.state device)))
    (content_left : (device : D) → (g.state device).faithful → IsLeft (g.state device) (g.state device).content) (one : MeanOne)
    {X K : Type 0} (Reads : ReadingRelation) (k : SinkGhosts K) (server last : Server (DeviceStore D g) X) where
  pub script_life : (lines : List (List ℕ)) (before after : K) (e : ScriptEnd) → KeepsHistory (store_state server.store) (store_state last.store)
      → (run : IsScriptRun Reads store_state k server lines before e last after) → LivesFrom g Reads server (IsOfScript Reads store_state k server last before run) (state_under last)
  script_life lines before after e history run device opened same is faithful standing found =
      let begin = at_start (store_state opened.server.store) is.database in
      let within = subst (λ (s : Server (DeviceStore D g) X). StandsWithinLimit store_state s) same (none_open (g.state device) opened is) in
      let here = subst (λ (s : Server (DeviceStore D g) X). Represents store_state s begin) same is.represents in
      let ran = script_ran Reads store_state k server last lines before after e begin run within here in (
        ran.0,
        ran.1,
        lived present content_left one Reads device opened is faithful standing found ran.0 last (history.sound within.0)
            (subst (λ (s : Server (DeviceStore D g) X). Ran Reads store_state s begin ran.0 last) (sym same) ran.2),
      )

  pub connections_life : (before after : Option Listening) (connections : List (Connection K)) → KeepsHistory (store_state server.store) (store_state last.store)
      → (each : ServesEach Reads store_state k server before connections last after) → LivesFrom g Reads server (IsOfEach Reads store_state k connections server last before after each) (state_under last)
  connections_life before after connections history each device opened same is faithful standing found =
      let begin = at_start (store_state opened.server.store) is.database in
      let within = subst (λ (s : Server (DeviceStore D g) X). StandsWithinLimit store_state s) same (none_open (g.state device) opened is) in
      let here = subst (λ (s : Server (DeviceStore D g) X). Represents store_state s begin) same is.represents in
      let ran = connections_ran Reads store_state k server last before after connections each begin within.0 (λ works. within) here in (
        ran.0,
        ran.1,
        lived present content_left one Reads device opened is faithful standing found ran.0 last (history.sound within.0)
            (subst (λ (s : Server (DeviceStore D g) X). Ran Reads store_state s begin ran.0 last) (sym same) ran.2),
      )

module _ {D : Type 0} {g : Ghosts D} (present : (device : D) → (g.state device).faithful → IsPresent (timeline (g.state device)))
    (content_left : (device : D) → (g.state device).faithful → IsLeft (g.state device) (g.state device).content) (one : MeanOne)
    {X : Type 0} (Reads : ReadingRelation) (server last : Server (DeviceStore D g) X) where
  pub clients_life : {T C : Type 0} (t : TalkGhosts T) (c : ClientsGhosts C T) (begin end : ServedMachine (DeviceStore D g) X) (before after : C) (turns : List Turn)
      → begin.server ≡ server → end.server ≡ last → KeepsHistory (store_state server.store) (store_state last.store)
      → (took : TakesTurns (machine_of Reads store_state) t c begin before turns end after) → LivesFrom g Reads server (IsOfTurns Reads store_state t c begin before turns end after took) (state_under last)
  clients_life t c begin end before after turns begins ends history took device opened same is faithful standing found =
      let it = of_taken (of_turns Reads store_state t c begin before turns end after took) in
      let start = at_start (store_state opened.server.store) is.database in
      let first : begin.server ≡ opened.server = begins ∙ sym same in
      let steps : Stepped Reads store_state opened.server it last =
      subst (λ (s : Server (DeviceStore D g) X). Stepped Reads store_state s it last) first
      (subst (λ (s : Server (DeviceStore D g) X). Stepped Reads store_state begin.server it s) ends
      (taken_steps Reads store_state begin.server end.server (of_turns Reads store_state t c begin before turns end after took) (all_turns Reads store_state t c begin before turns end after took))) in
      let ran = ran_by_steps Reads store_state opened.server last start it steps is.sound is.represents in
      let sound = history.sound (subst (λ (s : Server (DeviceStore D g) X). (store_state s.store).sound) same is.sound) in
      (it, refl, lived present content_left one Reads device opened is faithful standing found it last sound ran)
