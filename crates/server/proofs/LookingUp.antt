-- What is done in the session of a look-up.
use Rattle.std.proofs.Common.{Bor, is_some, ◌≡◌, ◌∙◌, ℕ, Bool, true, false, cond, List, Option, Some, None, IsSome, Result, Ok, Err, IfOk, refl, sym, ap, subst}
use Rattle.std.specs.Option.{option_copied}
use Rattle.sector_device.specs.Timeline.{IsPresent}
use Rattle.sql_types.specs.declared.answer.Answer.{Answer}
use Rattle.sql_types.specs.declared.answer.Answer.TheVariants.{Refused}
use Rattle.sql_types.specs.declared.event.Event.TheVariants as event
use Rattle.sql_types.specs.declared.state.SqlState.{SqlState}
use Rattle.sql_types.specs.declared.state.SqlState.TheVariants.{IoError, InvalidAuthorization}
use Rattle.store.specs.Records.{Records}
use Rattle.store.specs.Readers.{HasRead}
use Rattle.store.specs.Store.{StoreState, KeepsHistory, OnlyReads}
use Rattle.store.specs.declared.fault.StoreFault.{StoreFault}
use Rattle.store.specs.declared.fault.StoreFault.TheVariants.{Memory, Full, Number, Device}
use Rattle.store.specs.declared.fault.Fault.{Fault}
use Rattle.store.specs.declared.fault.Fault.TheVariants as fault
use Rattle.store.proofs.Reading.{history_joined}
use Rattle.stored_database.specs.Records.{Shows}
use Rattle.abstract_database.specs.Database.{Database}
use Rattle.abstract_database.specs.Lists.{TheName}
use Rattle.abstract_database.specs.Machine.{Holder, Machine, executes, session_of, transition}
use Rattle.abstract_database.specs.Runs.{ReadingRelation}
use Rattle.server.specs.declared.server.Server.{Server}
use Rattle.server.specs.declared.decision.Decision.{Decision}
use Rattle.server.specs.Attempts.{answer_to, after_attempt}
use Rattle.server.specs.Decisions.{Attempts, machine_at}
use Rattle.kept_verifiers.specs.Verifiers.{second_text, row_of_role, kept_text}
use Rattle.server.specs.LookUps.{Found, found_refused, look_up_client, look_up_number, RefusesAText, TakesOwn, IsAccepted, IsFoundInRow, FindsKept, ClosesOwn, ReadsInSession, not_open, closes, fails, LooksVerifierUp, did_not_open, read, failed}
use Rattle.server.specs.Runs.{Steps}
use Rattle.server.specs.Standing.{Works, HolderShows, event_of}
use Rattle.server.proofs.Carrying.{after_reads, reads_first, decide_err}
use Rattle.server.proofs.Opening.{Opened, refused, opened, opening}
use Rattle.server.proofs.Passing.{LeavesRecords}
use Rattle.server.proofs.Stepping.{attempted_steps}

-- who was found is there
pub there_if : {X : Type 0} (o : Option (Bor X)) (p : Option X) → option_copied o ≡ p → is_some o ≡ true → IsSome p
there_if {X} None p same is = cc
there_if {X} (Some x) p same is = subst (λ (q : Option X). IsSome q) same refl

pub never_both : (b : Bool) → b ≡ false → b ≡ true → ⊥
never_both b p q = let wrong : false ≡ true = sym p ∙ q in cc

-- a fault of a reader is one of every other
pub read_as : {T U : Type 0} (old new : StoreState) (f k : Fault) → f ≡ k → HasRead {T = T} (Err f) old new → HasRead {T = U} (Err k) old new
read_as {T} {U} old new f k is it = subst (λ (x : Fault). HasRead {T = U} (Err x) old new) is (as_other f it)
  where
    as_other : (x : Fault) → HasRead {T = T} (Err x) old new → HasRead {T = U} (Err x) old new
    as_other fault.Memory r = record { only_reads = r.only_reads; cause = r.cause; failed = r.failed }
    as_other fault.Device r = record { only_reads = r.only_reads; cause = r.cause; failed = r.failed }
    as_other fault.Damaged r = record { only_reads = r.only_reads; cause = r.cause; failed = r.failed }

-- the store of a server stays the one that it attempted with
same_store : {S X : Type 0} (attempted : Result Answer StoreFault) (tried : Server S X) → (after_attempt attempted tried).store ≡ tried.store
same_store (Ok a) tried = refl
same_store (Err Memory) tried = refl
same_store (Err Full) tried = refl
same_store (Err Number) tried = refl
same_store (Err Device) tried = refl

-- only a device that failed stops it
stops_for : {S X : Type 0} (attempted : Result Answer StoreFault) (tried : Server S X) → tried.stopped ≡ false → (after_attempt attempted tried).stopped ≡ true → answer_to attempted ≡ Refused IoError
stops_for (Ok a) tried runs stops = absurd (never_both tried.stopped runs stops)
stops_for (Err Memory) tried runs stops = absurd (never_both tried.stopped runs stops)
stops_for (Err Full) tried runs stops = absurd (never_both tried.stopped runs stops)
stops_for (Err Number) tried runs stops = absurd (never_both tried.stopped runs stops)
stops_for (Err Device) tried runs stops = refl

module _ {S X : Type 0} (Reads : ReadingRelation) (state : S → StoreState) (old : Server S X)
    (settled : (state old.store).sound → (state old.store).has_failed ≡ false → LeavesRecords (state old.store))
    (present : (s : S) → (state s).sound → IsPresent (state s).time) (runs : old.stopped ≡ false) where
  -- it works on after reads
  works_on : (s : S) → OnlyReads (state old.store) (state s) → (state s).has_failed ≡ (state old.store).has_failed → (state old.store).sound → (db : Database) (holder : Option Holder) → Works state old db holder
      → Works state (after_reads old s) db holder
  works_on s reads stays sound db holder w =
      let same = (reads.unchanged sound).map in
      record {
        unfailed = stays ∙ w.unfailed;
        second = (reads.unchanged sound).record_format ∙ w.second;
        committed = subst (λ (r : Records). Shows r old.catalogue db) (sym same) w.committed;
        held = subst (λ (r : Records). HolderShows r old.catalogue old.writer holder) (sym same) w.held;
        in_block = w.in_block;
      }

  -- the session is closed after reads that did not fail
  pub closed_after : (s : S) (new : Server S X) → OnlyReads (state old.store) (state s) → (state s).has_failed ≡ (state old.store).has_failed → (closing : ClosesOwn Reads state (after_reads old s) new)
      → TakesOwn Reads state (event.Close 0) (answer_to closing.attempted) old new
  closed_after s new reads stays closing =
      let tried = closing.tried in
      let history : KeepsHistory (state old.store) (state tried.store) = history_joined (state old.store) (state s) (state tried.store) reads.history closing.history in
      let attempts : Attempts Reads state old tried (event_of look_up_client (event.Close 0)) closing.attempted =
      λ sound working db holder w.
      reads_first Reads state old tried s db holder (event_of look_up_client (event.Close 0)) closing.attempted sound (settled sound w.unfailed) w reads
      (closing.attempts (reads.history.sound sound) working db holder (works_on s reads stays sound db holder w)) in
      record {
        history = subst (λ (x : S). KeepsHistory (state old.store) (state x)) (sym (ap (λ (y : Server S X). y.store) closing.is ∙ same_store closing.attempted tried)) history;
        stopped = λ was. absurd (never_both old.stopped runs was);
        running = λ stops. stops_for closing.attempted tried (closing.running ∙ runs) (sym (ap (λ (y : Server S X). y.stopped) closing.is) ∙ stops);
        steps = attempted_steps Reads state look_up_client old tried new (event.Close 0) closing.attempted (answer_to closing.attempted) refl closing.is (present tried.store) history runs attempts;
      }

  -- the device failed in the session
  pub failed_in : (s : S) (u : RefusesAText Reads) → HasRead {T = Decision} (Err fault.Device) (state old.store) (state s) → IsSome (session_of look_up_number old.sessions.entries)
      → TakesOwn Reads state (event.Statement 0 u.text) (Refused IoError) old (record (after_reads old s) { stopped = true })
  failed_in s u has_read there =
      let tried = after_reads old s in
      let e = event_of look_up_client (event.Statement 0 u.text) in
      let attempts : Attempts Reads state old tried e (Err Device) =
      λ sound working db holder w.
      let m = machine_at db holder old.sessions.entries in
      decide_err Reads state old s db holder e fault.Device sound (settled sound w.unfailed) w runs has_read
      (((refl, there), u.short), (transition m (executes look_up_number (Err u.code)), record { as_read = executes look_up_number (Err u.code); read = (Err u.code, refl, λ may. u.refused); is = refl })) in
      record {
        history = has_read.only_reads.history;
        stopped = λ was. absurd (never_both old.stopped runs was);
        running = λ stops. refl;
        steps = attempted_steps Reads state look_up_client old tried (record tried { stopped = true }) (event.Statement 0 u.text) (Err Device) (Refused IoError) refl refl (present s) has_read.only_reads.history runs attempts;
      }

  -- a record that was damaged, which never comes
  pub damaged_in : (s : S) (u : RefusesAText Reads) → KeepsHistory (state old.store) (state s) → ((state old.store).sound → (db : Database) → Shows (state old.store).map old.catalogue db → ⊥)
      → TakesOwn Reads state (event.Statement 0 u.text) (Refused IoError) old (record (after_reads old s) { stopped = true })
  damaged_in s u history never = record {
    history = history;
    stopped = λ was. absurd (never_both old.stopped runs was);
    running = λ stops. refl;
    steps = λ sound w here. absurd (never sound w.standing.machine.committed (here.works runs).1.committed);
  }

-- ---- before the session, and with it

module _ {S X : Type 0} (Reads : ReadingRelation) (state : S → StoreState) (table role : TheName) (old : Server S X) where
  -- a role for which no session is opened, since it may not log in, keeps none
  pub none_for : (new : Server S X) → TakesOwn Reads state (event.Open 0 role) (Refused InvalidAuthorization) old new → FindsKept state table role (Ok None) old
  none_for new made sound w here =
      let next = made.steps sound w here in
      by_opening (opening w.standing.machine look_up_number role Reads w.counts next.0.counts (Refused InvalidAuthorization) next.0.standing.machine next.2.step)
    where
      by_opening : {after : Machine} → Opened w.standing.machine look_up_number role (Refused InvalidAuthorization) after → None ≡ kept_text w.standing.machine.committed table role
      by_opening (refused code answer same why) =
          let is : code ≡ InvalidAuthorization = (let it : Refused InvalidAuthorization ≡ Refused code = answer in cc) in
          sym (ap (λ (b : Bool). cond b (second_text (row_of_role w.standing.machine.committed table role)) None) (why is))
      by_opening (opened accepted free same) = absurd (accepted InvalidAuthorization refl)

  -- the same of every refusal
  pub refused_finds : (code : SqlState) (new : Server S X) → TakesOwn Reads state (event.Open 0 role) (Refused code) old new → FindsKept state table role (found_refused code) old
  refused_finds InvalidAuthorization new made = none_for new made
  refused_finds code new made = λ sound w here. tt

  -- the opening of a session for a role of this name
  pub own_opening : (login : TheName) (a b : Answer) (new : Server S X) → login ≡ role → a ≡ b → KeepsHistory (state old.store) (state new.store) → (old.stopped ≡ true → (a ≡ Refused IoError) × (new ≡ old))
      → (new.stopped ≡ true → a ≡ Refused IoError) → Steps Reads state look_up_client old (event.Open 0 login) a new → TakesOwn Reads state (event.Open 0 role) b old new
  own_opening login a b new name answer history stopped running steps =
      subst (λ (l : TheName). TakesOwn Reads state (event.Open 0 l) b old new) name
      (subst (λ (x : Answer). TakesOwn Reads state (event.Open 0 login) x old new) answer (record { history = history; stopped = stopped; running = running; steps = steps }))

  -- what is kept after the opening was kept before it
  pub found_before : (a : Answer) (mid : Server S X) (r : Found) → IsAccepted a → TakesOwn Reads state (event.Open 0 role) a old mid → FindsKept state table role r mid → FindsKept state table role r old
  found_before a mid r accepted made finds sound w here =
      let next = made.steps sound w here in
      let kept = finds (made.history.sound sound) next.0 next.1 in
      subst (λ (db : Database). IfOk r (λ text. text ≡ kept_text db table role))
      (by_opening (opening w.standing.machine look_up_number role Reads w.counts next.0.counts a next.0.standing.machine next.2.step)) kept
    where
      by_opening : {after : Machine} → Opened w.standing.machine look_up_number role a after → after.committed ≡ w.standing.machine.committed
      by_opening (refused code answer same why) = absurd (accepted code answer)
      by_opening (opened taken free same) = ap (λ (m : Machine). m.committed) same

  -- a look-up is its session
  pub looked_up : (a : Answer) (mid new : Server S X) (r : Found) → old.stopped ≡ false → IsAccepted a → TakesOwn Reads state (event.Open 0 role) a old mid → ReadsInSession Reads state r mid new → LooksVerifierUp Reads state role r old new
  looked_up a mid new r runs accepted made (not_open told none is) =
      subst (λ (s : Server S X). LooksVerifierUp Reads state role r old s) (sym is) (did_not_open a runs told made accepted none)
  looked_up a mid new r runs accepted made (closes b told taken) = read a b mid runs told made accepted taken
  looked_up a mid new r runs accepted made (fails text told stops taken) = failed a text mid runs told made accepted stops taken

-- ---- what is told

pub accepted_by : (a b : Answer) → a ≡ b → IsAccepted b → IsAccepted a
accepted_by a b is accepted = subst IsAccepted (sym is) accepted

-- a device that failed in the opening is told
pub refused_running : (r : Found) (code : SqlState) (a : Answer) → a ≡ Refused code → r ≡ found_refused code → a ≡ Refused IoError → r ≡ Err IoError
refused_running r code a is told stopped =
    let same : code ≡ IoError = (let it : Refused code ≡ Refused IoError = sym is ∙ stopped in cc) in
    subst (λ (k : SqlState). r ≡ found_refused k) same told

-- what was found, unless closing has stopped the server
pub told_in_row : (r found : Found) (b : Bool) → r ≡ cond b (Err IoError) found → IsFoundInRow false found → IsFoundInRow b r
told_in_row r found true is fine = is
told_in_row r found false is fine = subst (λ (x : Found). IsFoundInRow false x) (sym is) fine

pub found_in_row : (P : Option (List ℕ) → Type 0) (r found : Found) (b : Bool) → r ≡ cond b (Err IoError) found → IfOk found P → IfOk r P
found_in_row P r found true is fine = subst (λ (x : Found). IfOk x P) (sym is) tt
found_in_row P r found false is fine = subst (λ (x : Found). IfOk x P) (sym is) fine
