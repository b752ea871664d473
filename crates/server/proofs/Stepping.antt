-- From what a server made of an event to where it stands then.
use Rattle.std.proofs.Common.{◌≡◌, ◌^◌, ◌-◌, ℕ, Bool, true, false, inl, inr, ⊎_elim, refl, sym, ◌∙◌, subst, Option, Some, None, List, Result, Ok, Err, arith}
use Rattle.sector_device.specs.Timeline.{IsPresent}
use Rattle.sql_types.specs.declared.answer.Answer.{Answer}
use Rattle.sql_types.specs.declared.answer.Answer.TheVariants.{Refused}
use Rattle.sql_types.specs.declared.event.Event.{Event}
use Rattle.sql_types.specs.declared.state.SqlState.TheVariants.{OutOfMemory, DiskFull, ProgramLimitExceeded, IoError, SyntaxError}
use Rattle.store.specs.declared.fault.StoreFault.{StoreFault}
use Rattle.store.specs.declared.fault.StoreFault.TheVariants.{Memory, Full, Number, Device}
use Rattle.store.specs.Store.{StoreState, KeepsHistory, Rose}
use Rattle.abstract_database.specs.Database.{Database}
use Rattle.abstract_database.specs.Machine.{Event as MachineEvent, opens, executes, closes, Machine, Holder, Session, Transition}
use Rattle.abstract_database.specs.Runs.{TheText, ReadingRelation, IsTransition, MayCallStore, MayRunOutOfMemory, MayCommit, Counts, IsStep, by_transition, for_memory, for_space, for_number, for_device, under_way_after, At, Happens}
use Rattle.server.specs.declared.server.Server.{Server}
use Rattle.server.specs.Standing.{event_of, stops_of, Works, Represents}
use Rattle.server.specs.Runs.{KeepsPast, Steps}
use Rattle.server.specs.Attempts.{code_of, answer_to, after_fault, after_attempt}
use Rattle.server.specs.Decisions.{machine_at, LeadsTo, WorksAs, Passes, Fails, Performs, Attempts}

wrong : (b : Bool) → b ≡ false → b ≡ true → ⊥
wrong b p q = let e : false ≡ true = sym p ∙ q in cc

abbrev counts_of : StoreState → Counts
counts_of s = record { number = s.number; fulls = s.fulls; failures = s.failures; faults = s.faults }

-- a server that works, as this machine
abbrev at_of : StoreState → Machine → At
at_of s m = record { counts = counts_of s; moment = s.time.moment; standing = record { machine = m; under_way = None } }

-- ---- where a server stands

abbrev at_with : ℕ → ℕ → ℕ → ℕ → ℕ → Database → Option Holder → List (ℕ × Session) → Bool → Option Database → At
at_with number fulls failures faults moment db holder sessions stopped under_way = record {
  counts = record { number = number; fulls = fulls; failures = failures; faults = faults };
  moment = moment;
  standing = record { machine = record { committed = db; holder = holder; sessions = sessions; stopped = stopped }; under_way = under_way };
}

same_at : (n n' f f' l l' t t' m m' : ℕ) (db : Database) (h : Option Holder) (es es' : List (ℕ × Session)) (b b' : Bool) (u u' : Option Database)
    → n ≡ n' → f ≡ f' → l ≡ l' → t ≡ t' → m ≡ m' → es ≡ es' → b ≡ b' → u ≡ u' → at_with n f l t m db h es b u ≡ at_with n' f' l' t' m' db h es' b' u'
same_at n n' f f' l l' t t' m m' db h es es' b b' u u' a b1 c d e p q r = cc

at_is : {S X : Type 0} (state : S → StoreState) (server : Server S X) (w : At) → Represents state server w → server.stopped ≡ false
    → w ≡ at_of (state server.store) (machine_at w.standing.machine.committed w.standing.machine.holder server.sessions.entries)
at_is state server w r runs = same_at _ _ _ _ _ _ _ _ _ _ w.standing.machine.committed w.standing.machine.holder _ _ _ _ _ _
    (r.counts.number runs) r.counts.fulls r.counts.failures r.counts.faults r.moment r.sessions (r.stopped ∙ runs) (r.works runs).0

represents_at : {S X : Type 0} (state : S → StoreState) (server : Server S X) (m : Machine) → WorksAs state server m → Represents state server (at_of (state server.store) m)
represents_at state server m w = record {
  moment = refl;
  counts = record { number = λ r. refl; fulls = refl; failures = refl; faults = refl };
  sessions = w.sessions;
  stopped = w.running ∙ sym w.runs;
  works = λ r. (refl, w.works);
  left = λ is. absurd (wrong server.stopped w.runs is);
}

-- ---- events

module _ (Reads : ReadingRelation) where
  happens_next : (old new : StoreState) (m after : Machine) (e : MachineEvent TheText) (answer : Answer) → IsPresent new.time → LeadsTo Reads m e answer after
      → Passes m.committed after.committed old new → Happens Reads (stops_of new.time) (at_of old m) e answer (at_of new after)
  happens_next old new m after e answer present next p = record {
    counts = record { number = p.number; fulls = p.history.fulls; failures = p.history.failures; faults = p.history.faults };
    step = by_transition next;
    under_way = refl;
    later = p.during.later;
    during = λ x stop. ⊎_elim (λ a. (m.committed, a, inl (inl refl))) (λ b. (after.committed, b, inr refl)) (p.during.each x stop);
    now = λ x stop. (after.committed, p.now x (present x stop), inl refl);
  }

  -- refused, and the machine stays
  refused : (old new : StoreState) (m : Machine) (e : MachineEvent TheText) (answer : Answer) (step : IsStep Reads (counts_of old) (counts_of new) m e answer m) → IsPresent new.time
      → Passes m.committed m.committed old new → None ≡ under_way_after step None → Happens Reads (stops_of new.time) (at_of old m) e answer (at_of new m)
  refused old new m e answer step present p stays = record {
    counts = record { number = p.number; fulls = p.history.fulls; failures = p.history.failures; faults = p.history.faults };
    step = step;
    under_way = stays;
    later = p.during.later;
    during = λ x stop. ⊎_elim (λ a. (m.committed, a, inl (inl refl))) (λ b. (m.committed, b, inl (inl refl))) (p.during.each x stop);
    now = λ x stop. (m.committed, p.now x (present x stop), inl refl);
  }

  happens_for_memory : (old new : StoreState) (m : Machine) (e : MachineEvent TheText) → IsPresent new.time → MayRunOutOfMemory m e → Passes m.committed m.committed old new
      → Happens Reads (stops_of new.time) (at_of old m) e (Refused OutOfMemory) (at_of new m)
  happens_for_memory old new m e present may p = refused old new m e (Refused OutOfMemory) (for_memory refl refl may) present p refl

  happens_for_space : (old new : StoreState) (m : Machine) (e : MachineEvent TheText) → IsPresent new.time → MayCommit Reads m e → Rose old.fulls new.fulls → Passes m.committed m.committed old new
      → Happens Reads (stops_of new.time) (at_of old m) e (Refused DiskFull) (at_of new m)
  happens_for_space old new m e present may rose p = refused old new m e (Refused DiskFull) (for_space refl refl may rose) present p refl

  happens_for_number : (old new : StoreState) (m : Machine) (e : MachineEvent TheText) → IsPresent new.time → MayCommit Reads m e → old.number ≡ 2 ^ 64 - 1 → Passes m.committed m.committed old new
      → Happens Reads (stops_of new.time) (at_of old m) e (Refused ProgramLimitExceeded) (at_of new m)
  happens_for_number old new m e present may greatest p = refused old new m e (Refused ProgramLimitExceeded) (for_number refl refl may greatest) present p refl

-- a server that has stopped in an event that would have led there
abbrev stopped_at : StoreState → StoreState → Machine → Transition → At
stopped_at old new m t = record {
  counts = record { number = old.number; fulls = new.fulls; failures = new.failures; faults = new.faults };
  moment = new.time.moment;
  standing = record { machine = record m { stopped = true }; under_way = Some t.machine.committed };
}

happens_for_device : (Reads : ReadingRelation) (old new : StoreState) (m : Machine) (t : Transition) (e : MachineEvent TheText) → IsPresent new.time → IsTransition Reads m e t → MayCallStore m e
    → Fails m.committed t.machine.committed old new → Happens Reads (stops_of new.time) (at_of old m) e (Refused IoError) (stopped_at old new m t)
happens_for_device Reads old new m t e present next calls f = record {
  counts = record { number = omega arith; fulls = f.history.fulls; failures = f.history.failures; faults = f.history.faults };
  step = for_device t next calls refl refl (record { failures = f.failures; faults = f.faults });
  under_way = refl;
  later = f.during.later;
  during = λ x stop. ⊎_elim (λ a. (m.committed, a, inl (inl refl))) (λ b. (t.machine.committed, b, inr refl)) (f.during.each x stop);
  now = λ x stop. ⊎_elim (λ a. (m.committed, a, inl refl)) (λ b. (t.machine.committed, b, inr refl)) (f.now x (present x stop));
}

represents_stopped : {S X : Type 0} (state : S → StoreState) (server : Server S X) (db : Database) (holder : Option Holder) (es : List (ℕ × Session)) (t : Transition) (old : StoreState)
    → server.stopped ≡ true → server.sessions.entries ≡ es → Fails db t.machine.committed old (state server.store)
    → Represents state server (stopped_at old (state server.store) (machine_at db holder es) t)
represents_stopped state server db holder es t old is same f = record {
  moment = refl;
  counts = record { number = λ runs. absurd (wrong server.stopped runs is); fulls = refl; failures = refl; faults = refl };
  sessions = sym same;
  stopped = sym is;
  works = λ runs. absurd (wrong server.stopped runs is);
  left = λ stopped x left. ⊎_elim (λ a. (db, a, inl refl)) (λ b. (t.machine.committed, b, inr refl)) (f.now x left);
}

-- ---- what was attempted

module _ {S X : Type 0} (Reads : ReadingRelation) (state : S → StoreState) (client : ℕ) (old : Server S X) where
  -- the server stands where the event leads from here
  abbrev StandsAfter : Server S X → At → MachineEvent TheText → Answer → Type 0
  StandsAfter new w e answer = (next : At) × Represents state new next × Happens Reads (stops_of (state new.store).time) w e answer next × KeepsPast (state old.store).time (state new.store).time

  -- it is enough to say so of the machine that a server that works shows
  from_shown : (new : Server S X) (e : Event) (answer : Answer) → old.stopped ≡ false
      → ((state old.store).sound → (db : Database) (holder : Option Holder) → Works state old db holder → StandsAfter new (at_of (state old.store) (machine_at db holder old.sessions.entries)) (event_of client e) answer)
      → Steps Reads state client old e answer new
  from_shown new e answer runs leads sound w at =
      subst (λ (z : At). StandsAfter new z (event_of client e) answer) (sym (at_is state old w at runs)) (leads sound w.standing.machine.committed w.standing.machine.holder (at.works runs).1)

  -- an event that was answered
  answered_steps : (tried : Server S X) (e : Event) (answer : Answer) → ((state tried.store).sound → IsPresent (state tried.store).time) → KeepsHistory (state old.store) (state tried.store) → old.stopped ≡ false
      → Attempts Reads state old tried (event_of client e) (Ok answer) → Steps Reads state client old e answer tried
  answered_steps tried e answer present history runs attempts = from_shown tried e answer runs (λ sound db holder works.
      let m = machine_at db holder old.sessions.entries in
      let p = attempts sound runs db holder works in
      (at_of (state tried.store) p.0, represents_at state tried p.0 p.2, happens_next Reads (state old.store) (state tried.store) m p.0 (event_of client e) answer (present (history.sound sound)) p.1 p.3, p.3.during.past))

  -- a fault leaves the machine as it was, or stops it
  refused_for : (tried : Server S X) (db : Database) (holder : Option Holder) (e : MachineEvent TheText) (fault : StoreFault) → IsPresent (state tried.store).time → Performs Reads state old tried db holder e (Err fault)
      → StandsAfter (after_fault fault tried) (at_of (state old.store) (machine_at db holder old.sessions.entries)) e (Refused (code_of fault))
  refused_for tried db holder e Memory present p =
      let m = machine_at db holder old.sessions.entries in
      (at_of (state tried.store) m, represents_at state tried m p.1, happens_for_memory Reads (state old.store) (state tried.store) m e present p.0 p.2, p.2.during.past)
  refused_for tried db holder e Full present p =
      let m = machine_at db holder old.sessions.entries in
      (at_of (state tried.store) m, represents_at state tried m p.2, happens_for_space Reads (state old.store) (state tried.store) m e present p.0 p.1 p.3, p.3.during.past)
  refused_for tried db holder e Number present p =
      let m = machine_at db holder old.sessions.entries in
      (at_of (state tried.store) m, represents_at state tried m p.2, happens_for_number Reads (state old.store) (state tried.store) m e present p.0 p.1 p.3, p.3.during.past)
  refused_for tried db holder e Device present p =
      let m = machine_at db holder old.sessions.entries in (
        stopped_at (state old.store) (state tried.store) m p.0,
        represents_stopped state (record tried { stopped = true }) db holder old.sessions.entries p.0 (state old.store) refl p.3 p.4,
        happens_for_device Reads (state old.store) (state tried.store) m p.0 e present p.1 p.2 p.4,
        p.4.during.past,
      )

  -- an event that was refused for a fault
  refused_steps : (tried : Server S X) (e : Event) (raised fault : StoreFault) → raised ≡ fault → ((state tried.store).sound → IsPresent (state tried.store).time) → KeepsHistory (state old.store) (state tried.store)
      → old.stopped ≡ false → Attempts Reads state old tried (event_of client e) (Err raised) → Steps Reads state client old e (Refused (code_of fault)) (after_fault fault tried)
  refused_steps tried e raised fault is present history runs attempts = from_shown (after_fault fault tried) e (Refused (code_of fault)) runs (λ sound db holder works.
      refused_for tried db holder (event_of client e) fault (present (history.sound sound)) (subst (λ (f : StoreFault). Performs Reads state old tried db holder (event_of client e) (Err f)) is (attempts sound runs db holder works)))

  -- an event that was attempted
  pub attempted_steps : (tried new : Server S X) (e : Event) (attempted : Result Answer StoreFault) (answer : Answer) → answer ≡ answer_to attempted → new ≡ after_attempt attempted tried
      → ((state tried.store).sound → IsPresent (state tried.store).time) → KeepsHistory (state old.store) (state tried.store) → old.stopped ≡ false
      → Attempts Reads state old tried (event_of client e) attempted → Steps Reads state client old e answer new
  attempted_steps tried new e (Ok told) answer same server present history runs attempts = rw (same, server) (answered_steps tried e told present history runs attempts)
  attempted_steps tried new e (Err fault) answer same server present history runs attempts = rw (same, server) (refused_steps tried e fault fault refl present history runs attempts)

-- ---- once it has stopped

-- a stopped machine refuses every event
stopped_transition : (Reads : ReadingRelation) (m : Machine) (e : MachineEvent TheText) → m.stopped ≡ true → LeadsTo Reads m e (Refused IoError) m
stopped_transition Reads m (opens number login) is = record { as_read = opens number login; read = refl; is = rw is refl }
stopped_transition Reads m (closes number) is = record { as_read = closes number; read = refl; is = rw is refl }
stopped_transition Reads m (executes number text) is = record {
  as_read = executes number (Err SyntaxError);
  read = (Err SyntaxError, refl, λ may. absurd (wrong m.stopped may.0 is));
  is = rw is refl;
}

pub stopped_steps : {S X : Type 0} (Reads : ReadingRelation) (state : S → StoreState) (server : Server S X) (w : At) (e : MachineEvent TheText) → (state server.store).sound
    → ((state server.store).sound → IsPresent (state server.store).time) → server.stopped ≡ true → Represents state server w
    → (next : At) × Represents state server next × Happens Reads (stops_of (state server.store).time) w e (Refused IoError) next × KeepsPast (state server.store).time (state server.store).time
stopped_steps Reads state server w e sound present is at =
    let time = (state server.store).time in (
      w,
      at,
      record {
        counts = record { number = omega arith; fulls = omega arith; failures = omega arith; faults = omega arith };
        step = by_transition (stopped_transition Reads w.standing.machine e (at.stopped ∙ is));
        under_way = refl;
        later = omega arith;
        during = λ x stop. let m = at.left is x (present sound x (subst (λ (k : ℕ). time.stops k k x) at.moment stop)) in (m.0, m.1, inl m.2);
        now = λ x stop. at.left is x (present sound x (subst (λ (k : ℕ). time.stops k k x) at.moment stop));
      },
      λ a b x le stop. stop,
    )
