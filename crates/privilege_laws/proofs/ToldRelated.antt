-- Two runs in which a tenant does the same, and others keep within a relation that hides what they do.
use Rattle.std.proofs.Common.{◌≡◌, ◌⊎◌, ◌==◌, ◌&&◌, ℕ, nat_eq, nat_le, Bool, true, false, cond, length, is_some, List, [], ◌∷◌, Option, Some, None, Result, Ok, Err, refl, sym, ap, ◌∙◌, subst, inl, inr}
use Rattle.std.proofs.lemmas.Bool.{eqb-true}
use Rattle.sql_types.specs.declared.state.SqlState.{SqlState}
use Rattle.sql_types.specs.declared.state.SqlState.TheVariants.{ConnectionNameInUse, TooManyConnections, InvalidAuthorization, IoError}
use Rattle.sql_types.specs.declared.tag.Tag.TheVariants as tag
use Rattle.sql_ast.specs.declared.statement.Statement.{Statement}
use Rattle.sql_ast.specs.declared.statement.Statement.TheVariants as statement
use Rattle.sql_ast.specs.declared.statement.DatabaseStatement.{DatabaseStatement}
use Rattle.sql_ast.specs.declared.statement.SetRole.{SetRole}
use Rattle.sql_ast.specs.declared.statement.SessionStatement.TheVariants as of_session
use Rattle.abstract_database.specs.Lists.{TheName}
use Rattle.abstract_database.specs.Database.{Database}
use Rattle.abstract_database.specs.Roles.{may_log_in}
use Rattle.abstract_database.specs.Machine.{client_of, own_sessions, Outside, Session, Event, opens, executes, closes, Reading, Machine, Holder, Transition, refuses, succeeds, machine_over, session_of, without_session, with_session_changed, users_of, may_execute, with_role_set, is_held_by_other, released, seen_by, seen, close_session, changes_database, is_writing, execute, execute_in, running_transition, transition}
use Rattle.abstract_database.proofs.ResultLemmas.{Every}
use Rattle.database_laws.specs.Sessions.{number_of}
use Rattle.database_laws.specs.HiddenRuns.{holds_lock, AreSound, answer_to, after}
use Rattle.database_laws.specs.Told.{Tenant, entries_of, AllFor, Act, happens, declares, restarts, follows, is_of, OpensItsOwn, noticed, by_lock, by_number, by_role, IsRefusedAlike, IsAnsweredAlike}
use Rattle.database_laws.proofs.TenantSessions.{looked, with_other, without_other, with_both, without_both, all_found, after_with, after_without}
use Rattle.database_laws.proofs.SessionLemmas.{SessionsAfter, all_stay, one_changes, after_reading}
use Rattle.database_laws.proofs.RunsAlike.{sound_after}
use Rattle.database_laws.proofs.RefusedAlike.{one_refusal_or_not}
use Rattle.database_laws.proofs.OthersLeftOut.{turns}
use Rattle.privilege_laws.specs.Related.{Relation, Telling, MachinesRelated, OthersKeepRelated, MayPart, IsToldRelated, all_told, told_apart, told_alike, declared, untold_here, untold_there, RunsAreTold}
use Rattle.privilege_laws.proofs.Moves.{Hides, AlikeForSession, MoveAlike, stay, change, end, commit_at_once, hold, moved, Alike, ReadsWithin, SetsWithin, seen_where}
use Rattle.privilege_laws.proofs.Steps.{executed, opened, closes_alike, locked_out, crowded_out}
use Rattle.privilege_laws.proofs.Others.{alike_after_others, refused_moves}

-- ---- an event of another leaves the tenant's sessions

module _ (m : Machine) (i : ℕ) where
  abbrev Leaves : Transition → Type 0
  Leaves t = entries_of i t.machine.sessions ≡ entries_of i m.sessions

  leaves_open : (number : ℕ) → nat_eq i number ≡ false → (login : TheName) (a b c : Bool) →
      Leaves (cond a (refuses m ConnectionNameInUse) (cond b (refuses m TooManyConnections) (cond c (succeeds tag.Open (with_session_changed m number (record { login = login; role = login; block = Outside }))) (refuses m InvalidAuthorization))))
  leaves_open number apart login true b c = refl
  leaves_open number apart login false true c = refl
  leaves_open number apart login false false true = with_other number i apart (record { login = login; role = login; block = Outside }) m.sessions
  leaves_open number apart login false false false = refl

  leaves_close : (number : ℕ) → nat_eq i number ≡ false → (o : Option Session) → Leaves (close_session m number o)
  leaves_close number apart None = refl
  leaves_close number apart (Some s) = without_other number i apart m.sessions

  leaves_after : (number : ℕ) → nat_eq i number ≡ false → (s : Session) (t : Transition) → SessionsAfter m number s t → Leaves t
  leaves_after number apart s t (all_stay is) = ap (entries_of i) is
  leaves_after number apart s t (one_changes changed login block is) = ap (entries_of i) is ∙ with_other number i apart changed m.sessions

  leaves_execute : (number : ℕ) → nat_eq i number ≡ false → (reading : Reading) (o : Option Session) → Leaves (execute m number reading o)
  leaves_execute number apart reading None = refl
  leaves_execute number apart reading (Some s) = leaves_after number apart s (execute_in m number s reading) (after_reading m number s reading)

  leaves_running : (event : Event Reading) → nat_eq i (number_of event) ≡ false → Leaves (running_transition m event)
  leaves_running (opens number login) apart = leaves_open number apart login (is_some (session_of number m.sessions)) (nat_le 256 (length (own_sessions (client_of number) m.sessions))) (may_log_in m.committed login)
  leaves_running (executes number reading) apart = leaves_execute number apart reading (session_of number m.sessions)
  leaves_running (closes number) apart = leaves_close number apart (session_of number m.sessions)

  entries_stay : (event : Event Reading) → nat_eq i (number_of event) ≡ false → Leaves (transition m event)
  entries_stay event apart = by m.stopped where
    by : (b : Bool) → Leaves (cond b (refuses m IoError) (running_transition m event))
    by true = refl
    by false = leaves_running event apart

-- ---- the writer lock, given up

held_after : (number i : ℕ) (g : Option Holder) → holds_lock i (released number g) ≡ cond (holds_lock number g) false (holds_lock i g)
held_after number i None = refl
held_after number i (Some h) = by (h.session == number) where
  by : (b : Bool) → holds_lock i (cond b None (Some h)) ≡ cond b false (h.session == i)
  by true = refl
  by false = refl

lock_after : (number i : ℕ) (g h : Option Holder) → holds_lock number g ≡ holds_lock number h → holds_lock i g ≡ holds_lock i h → holds_lock i (released number g) ≡ holds_lock i (released number h)
lock_after number i g h own other =
    held_after number i g
    ∙ ap (λ (b : Bool). cond b false (holds_lock i g)) own
    ∙ ap (λ (b : Bool). cond (holds_lock number h) false b) other
    ∙ sym (held_after number i h)

released_at : (number : ℕ) (g : Option Holder) (b : Bool) → holds_lock number g ≡ b → released number g ≡ cond b None g
released_at number None true e = refl
released_at number None false e = refl
released_at number (Some h) b e = ap (λ (c : Bool). cond c None (Some h)) e

module _ (R : Relation) (number i : ℕ) (g h : Option Holder) (c f : Database) (own : holds_lock number g ≡ holds_lock number h)
    (committed : R c f) (sees : R (seen_by i g c) (seen_by i h f)) where
  seen_after : R (seen_by i (released number g) c) (seen_by i (released number h) f)
  seen_after = by (holds_lock number g) refl where
    by : (b : Bool) → holds_lock number g ≡ b → R (seen_by i (released number g) c) (seen_by i (released number h) f)
    by true e =
        subst (λ (o : Option Holder). R (seen_by i o c) (seen_by i (released number h) f)) (sym (released_at number g true e))
        (subst (λ (o : Option Holder). R c (seen_by i o f)) (sym (released_at number h true (sym own ∙ e))) committed)
    by false e =
        subst (λ (o : Option Holder). R (seen_by i o c) (seen_by i (released number h) f)) (sym (released_at number g false e))
        (subst (λ (o : Option Holder). R (seen_by i g c) (seen_by i o f)) (sym (released_at number h false (sym own ∙ e))) sees)

-- ---- machines

module _ (a : Tenant) (R : Relation) (T : Telling) (h : Hides a.pairs R T) where
  pub for_one : (m k : Machine) → MachinesRelated R a m k → (number : ℕ) → a.sessions number ≡ true → AlikeForSession number a.pairs R m k
  for_one m k st number own = record {
    session = looked number m.sessions ∙ ap (session_of number) (st.sessions number own) ∙ sym (looked number k.sessions);
    opened_for = λ s is. all_found a.pairs number (entries_of number m.sessions) (st.opened_for number own) s (sym (looked number m.sessions) ∙ is);
    stopped = st.stopped;
    lock = st.lock number own;
    committed = st.committed;
    seen = st.seen number own;
  }

  pub turned : (m k : Machine) → MachinesRelated R a m k → MachinesRelated R a k m
  turned m k st = record {
    sessions = λ i own. sym (st.sessions i own);
    opened_for = λ i own. subst (AllFor a.pairs) (st.sessions i own) (st.opened_for i own);
    stopped = sym st.stopped;
    lock = λ i own. sym (st.lock i own);
    committed = h.turned m.committed k.committed st.committed;
    seen = λ i own. h.turned (seen m i) (seen k i) (st.seen i own);
  }

  -- ---- an event of another

  own_apart : (event : Event Reading) → is_of a (happens event) ≡ false → (i : ℕ) → a.sessions i ≡ true → nat_eq i (number_of event) ≡ false
  own_apart event not_own i own = by (nat_eq i (number_of event)) refl where
    by : (b : Bool) → nat_eq i (number_of event) ≡ b → b ≡ false
    by false e = refl
    by true e = let contrary : true ≡ false = sym (subst (λ (j : ℕ). a.sessions j ≡ true) (eqb-true i (number_of event) e) own) ∙ not_own in cc

  pub after_another : (m k : Machine) → MachinesRelated R a m k → (event : Event Reading) → is_of a (happens event) ≡ false → R m.committed (after m event).committed → MachinesRelated R a (after m event) k
  after_another m k st event not_own hides =
      let each = λ (i : ℕ) (own : a.sessions i ≡ true). alike_after_others i a.pairs R T h m k (for_one m k st i own) event (own_apart event not_own i own) hides in
      let stays = λ (i : ℕ) (own : a.sessions i ≡ true). entries_stay m i event (own_apart event not_own i own) in
      record {
        sessions = λ i own. stays i own ∙ st.sessions i own;
        opened_for = λ i own. subst (AllFor a.pairs) (sym (stays i own)) (st.opened_for i own);
        stopped = stops_alike m k st event;
        lock = λ i own. (each i own).lock;
        committed = committed_after m k st event hides;
        seen = λ i own. (each i own).seen;
      }
    where
      stops_alike : (m k : Machine) → MachinesRelated R a m k → (event : Event Reading) → (after m event).stopped ≡ k.stopped
      stops_alike m k st event = (turns m event).stopped ∙ st.stopped

      committed_after : (m k : Machine) → MachinesRelated R a m k → (event : Event Reading) → R m.committed (after m event).committed → R (after m event).committed k.committed
      committed_after m k st event hides = h.joined (after m event).committed m.committed k.committed (h.turned m.committed (after m event).committed hides) st.committed

  -- ---- an event of its own

  module _ (m k : Machine) (st : MachinesRelated R a m k) (number : ℕ) (own : a.sessions number ≡ true) where
    entries_moved : (n j : Machine) → MoveAlike number a.pairs R m k n j → (i : ℕ) → a.sessions i ≡ true → entries_of i n.sessions ≡ entries_of i j.sessions
    entries_moved n j stay i at = st.sessions i at
    entries_moved n j (change s l) i at = with_both number i s m.sessions k.sessions (st.sessions i at)
    entries_moved n j (end s role d e l are) i at = with_both number i (record { login = s.login; role = role; block = Outside }) m.sessions k.sessions (st.sessions i at)
    entries_moved n j (commit_at_once d e are) i at = st.sessions i at
    entries_moved n j (hold d e are) i at = st.sessions i at

    logins_moved : (n j : Machine) → MoveAlike number a.pairs R m k n j → (i : ℕ) → a.sessions i ≡ true → AllFor a.pairs (entries_of i n.sessions)
    logins_moved n j stay i at = st.opened_for i at
    logins_moved n j (change s l) i at = after_with a.pairs number i s m.sessions l (st.opened_for i at)
    logins_moved n j (end s role d e l are) i at = after_with a.pairs number i (record { login = s.login; role = role; block = Outside }) m.sessions l (st.opened_for i at)
    logins_moved n j (commit_at_once d e are) i at = st.opened_for i at
    logins_moved n j (hold d e are) i at = st.opened_for i at

    lock_moved : (n j : Machine) → MoveAlike number a.pairs R m k n j → (i : ℕ) → a.sessions i ≡ true → holds_lock i n.holder ≡ holds_lock i j.holder
    lock_moved n j stay i at = st.lock i at
    lock_moved n j (change s l) i at = st.lock i at
    lock_moved n j (end s role d e l are) i at = lock_after number i m.holder k.holder (st.lock number own) (st.lock i at)
    lock_moved n j (commit_at_once d e are) i at = st.lock i at
    lock_moved n j (hold d e are) i at = refl

    seen_moved : (n j : Machine) → MoveAlike number a.pairs R m k n j → (i : ℕ) → a.sessions i ≡ true → R (seen n i) (seen j i)
    seen_moved n j stay i at = st.seen i at
    seen_moved n j (change s l) i at = st.seen i at
    seen_moved n j (end s role d e l are) i at =
        seen_where R i (released number m.holder) (released number k.holder) m.committed k.committed d e (lock_after number i m.holder k.holder (st.lock number own) (st.lock i at))
        (seen_after R number i m.holder k.holder m.committed k.committed (st.lock number own) st.committed (st.seen i at)) are
    seen_moved n j (commit_at_once d e are) i at = seen_where R i m.holder k.holder m.committed k.committed d e (st.lock i at) (st.seen i at) are
    seen_moved n j (hold d e are) i at = by (number == i) where
      by : (b : Bool) → R (cond b d m.committed) (cond b e k.committed)
      by true = are
      by false = st.committed

    pub all_moved : (n j : Machine) → MoveAlike number a.pairs R m k n j → MachinesRelated R a n j
    all_moved n j move =
        let one = moved number a.pairs R m k (for_one m k st number own) n j move in
        record {
          sessions = entries_moved n j move;
          opened_for = logins_moved n j move;
          stopped = one.stopped;
          lock = lock_moved n j move;
          committed = one.committed;
          seen = seen_moved n j move;
        }

    -- closed, both give up the writer lock
    all_closed : MachinesRelated R a (record m { sessions = without_session number m.sessions; holder = released number m.holder }) (record k { sessions = without_session number k.sessions; holder = released number k.holder })
    all_closed = record {
      sessions = λ i at. without_both number i m.sessions k.sessions (st.sessions i at);
      opened_for = λ i at. after_without a.pairs number i m.sessions (st.opened_for i at);
      stopped = st.stopped;
      lock = λ i at. lock_after number i m.holder k.holder (st.lock number own) (st.lock i at);
      committed = st.committed;
      seen = λ i at. seen_after R number i m.holder k.holder m.committed k.committed (st.lock number own) st.committed (st.seen i at);
    }

    closes_at : (o : Option Session) → MachinesRelated R a (close_session m number o).machine (close_session k number o).machine
    closes_at None = st
    closes_at (Some s) = all_closed

    closes_so : MachinesRelated R a (after m (closes number)) (after k (closes number))
    closes_so = by m.stopped refl where
      by : (b : Bool) → m.stopped ≡ b → MachinesRelated R a (after m (closes number)) (after k (closes number))
      by true on =
          subst (λ (x : Machine). MachinesRelated R a x (after k (closes number))) (sym (ap (λ (b : Bool). (cond b (refuses m IoError) (running_transition m (closes number))).machine) on))
          (subst (λ (x : Machine). MachinesRelated R a m x) (sym (ap (λ (b : Bool). (cond b (refuses k IoError) (running_transition k (closes number))).machine) (sym st.stopped ∙ on))) st)
      by false on =
          subst (λ (x : Machine). MachinesRelated R a x (after k (closes number))) (sym (ap (λ (b : Bool). (cond b (refuses m IoError) (running_transition m (closes number))).machine) on))
          (subst (λ (x : Machine). MachinesRelated R a (close_session m number (session_of number m.sessions)).machine x) (sym (ap (λ (b : Bool). (cond b (refuses k IoError) (running_transition k (closes number))).machine) (sym st.stopped ∙ on)))
          (subst (λ (o : Option Session). MachinesRelated R a (close_session m number (session_of number m.sessions)).machine (close_session k number o).machine) (for_one m k st number own).session (closes_at (session_of number m.sessions))))

  -- restarted, each has what is committed
  restarted : (m k : Machine) → MachinesRelated R a m k → MachinesRelated R a (machine_over m.committed) (machine_over k.committed)
  restarted m k st = record { sessions = λ i at. refl; opened_for = λ i at. tt; stopped = refl; lock = λ i at. refl; committed = st.committed; seen = λ i at. st.committed }

  pub sound_follows : (m : Machine) (x : Act) → AreSound m → AreSound (follows m x)
  sound_follows m (happens event) on = sound_after m event on
  sound_follows m (declares event) on = sound_after m event on
  sound_follows m restarts on = record { committed = on.committed; holder = tt }

  after_others : (m k : Machine) → MachinesRelated R a m k → (x : Act) → is_of a x ≡ false → R m.committed (follows m x).committed → MachinesRelated R a (follows m x) k
  after_others m k st (happens event) not_own hides = after_another m k st event not_own hides
  after_others m k st (declares event) not_own hides = cc
  after_others m k st restarts not_own hides = cc

  -- ---- what comes of it

  module _ (m k : Machine) (st : MachinesRelated R a m k) (on_m : AreSound m) (on_k : AreSound k) where
    data Told (x : Act) : Type 0 where
      differs : MayPart T a m k x → Told x
      same : IsAnsweredAlike m k x → MachinesRelated R a (follows m x) (follows k x) → Told x
      waits : (event : Event Reading) → declares event ≡ x → Told x

    both_move : (number : ℕ) → a.sessions number ≡ true → (event : Event Reading) → number_of event ≡ number → Alike number a.pairs R m k (transition m event) (transition k event) → Told (happens event)
    both_move number own event at both = same both.answers (all_moved m k st number own (after m event) (after k event) both.move)

    of_step : (number : ℕ) → a.sessions number ≡ true → (reading : Reading) → T number m k (executes number reading) ⊎ Alike number a.pairs R m k (transition m (executes number reading)) (transition k (executes number reading)) → Told (happens (executes number reading))
    of_step number own reading (inl tells) = differs (inl tells)
    of_step number own reading (inr both) = both_move number own (executes number reading) refl both

    same_or_not : (b c : Bool) → (b ≡ c) ⊎ (b ≡ c → ⊥)
    same_or_not true true = inl refl
    same_or_not false false = inl refl
    same_or_not true false = inr (λ e. cc)
    same_or_not false true = inr (λ e. cc)

    one_of : (x y : Statement) → ◌≡◌ {A = Reading} (Ok x) (Ok y) → x ≡ y
    one_of x y is = cc

    abbrev Stays : ℕ → Reading → Type 0
    Stays number reading = (s : Session) → session_of number m.sessions ≡ Some s → ReadsWithin number a.pairs R m s reading

    runs_with : (number : ℕ) → a.sessions number ≡ true → (x : Statement) → Stays number (Ok x) → (is_writing x && is_held_by_other number m.holder) ≡ (is_writing x && is_held_by_other number k.holder) → Told (happens (executes number (Ok x)))
    runs_with number own x stays lock = of_step number own (Ok x) (executed number a.pairs R T h m k (for_one m k st number own) on_m on_k (Ok x)
        (λ y is. subst (λ (z : Statement). (is_writing z && is_held_by_other number m.holder) ≡ (is_writing z && is_held_by_other number k.holder)) (one_of x y is) lock) stays)

    -- ---- a role that is set is one of the tenant's, or it leaves the tenant

    of_refusal : (r : Result Session SqlState) (code : SqlState) → r ≡ Err code → Every (λ (c : Session). a.pairs (users_of c) ≡ true) r
    of_refusal r code e c is = let contrary : ◌≡◌ {A = Result Session SqlState} (Err code) (Ok c) = sym e ∙ is in cc

    of_one : (r : Result Session SqlState) (c : Session) → r ≡ Ok c → a.pairs (users_of c) ≡ true → Every (λ (s : Session). a.pairs (users_of s) ≡ true) r
    of_one r c e acts d is = subst (λ (s : Session). a.pairs (users_of s) ≡ true) (the_same c d (sym e ∙ is)) acts where
      the_same : (x y : Session) → ◌≡◌ {A = Result Session SqlState} (Ok x) (Ok y) → x ≡ y
      the_same x y p = cc

    module _ (number : ℕ) (own : a.sessions number ≡ true) (x : SetRole) where
      abbrev sets : Statement
      sets = statement.OfSession (of_session.SetRole x)

      goes_on : Stays number (Ok sets) → Told (happens (executes number (Ok sets)))
      goes_on stays = runs_with number own sets stays refl

      alone_there : (s : Session) → session_of number m.sessions ≡ Some s → SetsWithin number a.pairs R m s x → Stays number (Ok sets)
      alone_there s there within t is = subst (λ (y : Session). SetsWithin number a.pairs R m y x) (the_same s t (sym there ∙ is)) within where
        the_same : (y z : Session) → ◌≡◌ {A = Option Session} (Some y) (Some z) → y ≡ z
        the_same y z p = cc

      sets_to : (s : Session) → session_of number m.sessions ≡ Some s → (free : Unit {0}) → may_execute m number s sets ≡ Ok free → (r : Result Session SqlState) → with_role_set (seen m number) s x.role ≡ r → Told (happens (executes number (Ok sets)))
      sets_to s there free may (Err code) is = goes_on (alone_there s there (λ u v. of_refusal (with_role_set (seen m number) s x.role) code is))
      sets_to s there free may (Ok c) is = by (a.pairs (users_of c)) refl where
        by : (b : Bool) → a.pairs (users_of c) ≡ b → Told (happens (executes number (Ok sets)))
        by true acts = goes_on (alone_there s there (λ u v. of_one (with_role_set (seen m number) s x.role) c is acts))
        by false apart = differs (inr (inr (by_role s c x free there may is apart)))

      admitted_to : (s : Session) → session_of number m.sessions ≡ Some s → (r : Result (Unit {0}) SqlState) → may_execute m number s sets ≡ r → Told (happens (executes number (Ok sets)))
      admitted_to s there (Err code) may = goes_on (alone_there s there (λ u v. let contrary : ◌≡◌ {A = Result (Unit {0}) SqlState} (Err code) (Ok u) = sym may ∙ v in cc))
      admitted_to s there (Ok free) may = sets_to s there free may (with_role_set (seen m number) s x.role) refl

      told_set : (o : Option Session) → session_of number m.sessions ≡ o → Told (happens (executes number (Ok sets)))
      told_set None there = goes_on (λ s is. let contrary : ◌≡◌ {A = Option Session} None (Some s) = sym there ∙ is in cc)
      told_set (Some s) there = admitted_to s there (may_execute m number s sets) refl

    told_statement : (number : ℕ) → a.sessions number ≡ true → (x : Statement) → Stays number (Ok x) → is_writing x ≡ false → Told (happens (executes number (Ok x)))
    told_statement number own x stays reads = runs_with number own x stays (ap (λ (b : Bool). b && is_held_by_other number m.holder) reads ∙ sym (ap (λ (b : Bool). b && is_held_by_other number k.holder) reads))

    told_database : (number : ℕ) → a.sessions number ≡ true → (x : DatabaseStatement) → (w : Bool) → changes_database x ≡ w → Told (happens (executes number (Ok (statement.OnDatabase x))))
    told_database number own x false reads = told_statement number own (statement.OnDatabase x) (λ s is. tt) reads
    told_database number own x true writes = elim (same_or_not (is_held_by_other number m.holder) (is_held_by_other number k.holder)) [
      | inl held ↦ runs_with number own (statement.OnDatabase x) (λ s is. tt) (ap (λ (b : Bool). changes_database x && b) held)
      | inr other ↦ elim (locked_out number a.pairs R T h m k (for_one m k st number own) on_m on_k x writes other) [
        | inl tells ↦ differs (inr (inl (by_lock (statement.OnDatabase x) writes other tells)))
        | inr both ↦ both_move number own (executes number (Ok (statement.OnDatabase x))) refl both
      ]
    ]

    told_reading : (number : ℕ) → a.sessions number ≡ true → (reading : Reading) → Told (happens (executes number reading))
    told_reading number own (Err code) =
        of_step number own (Err code) (executed number a.pairs R T h m k (for_one m k st number own) on_m on_k (Err code) (λ x is. let contrary : ◌≡◌ {A = Reading} (Err code) (Ok x) = is in cc) (λ s is. tt))
    told_reading number own (Ok (statement.OfSession (of_session.SetRole x))) = told_set number own x (session_of number m.sessions) refl
    told_reading number own (Ok (statement.OfSession of_session.ResetRole)) = told_statement number own (statement.OfSession of_session.ResetRole) (λ s is. tt) refl
    told_reading number own (Ok (statement.OfSession of_session.Begin)) = told_statement number own (statement.OfSession of_session.Begin) (λ s is. tt) refl
    told_reading number own (Ok (statement.OfSession of_session.Commit)) = told_statement number own (statement.OfSession of_session.Commit) (λ s is. tt) refl
    told_reading number own (Ok (statement.OfSession of_session.Rollback)) = told_statement number own (statement.OfSession of_session.Rollback) (λ s is. tt) refl
    told_reading number own (Ok (statement.OnDatabase x)) = told_database number own x (changes_database x) refl

    told_act : (x : Act) → is_of a x ≡ true → OpensItsOwn a m x → Told x
    told_act (happens (opens number login)) own opens_own = elim (same_or_not (nat_le 256 (length (own_sessions (client_of number) m.sessions))) (nat_le 256 (length (own_sessions (client_of number) k.sessions)))) [
      | inl room ↦ both_move number own (opens number login) refl (opened number a.pairs R T h m k (for_one m k st number own) on_m on_k login opens_own room)
      | inr other ↦ elim (crowded_out number a.pairs R T h m k (for_one m k st number own) on_m on_k login other) [
        | inl tells ↦ differs (inr (inl (by_number login other tells)))
        | inr both ↦ both_move number own (opens number login) refl both
      ]
    ]
    told_act (happens (executes number reading)) own opens_own = told_reading number own reading
    told_act (happens (closes number)) own opens_own = same (closes_alike number a.pairs R T h m k (for_one m k st number own) on_m on_k) (closes_so m k st number own)
    told_act (declares event) own opens_own = waits event refl
    told_act restarts own opens_own = same tt (restarted m k st)

    -- ---- what both refuse alike parts nothing

    pub data Came (x : Act) : Type 0 where
      parts : MayPart T a m k x → (IsRefusedAlike m k x → ⊥) → Came x
      goes_on_alike : IsAnsweredAlike m k x → MachinesRelated R a (follows m x) (follows k x) → Came x
      is_declared : (event : Event Reading) → declares event ≡ x → Came x

    came : (x : Act) → is_of a x ≡ true → Told x → Came x
    came x own (same answers next) = goes_on_alike answers next
    came x own (waits event is) = is_declared event is
    came (happens event) own (differs exception) = elim (one_refusal_or_not (answer_to m event) (answer_to k event)) [
      | inl one ↦ goes_on_alike (one.1 ∙ sym one.2) (all_moved m k st (number_of event) own (after m event) (after k event)
          (refused_moves a.pairs R T h m k (number_of event) (for_one m k st (number_of event) own) event refl (one.0, one.1) (one.0, one.2)))
      | inr none ↦ parts exception none
    ]
    came (declares event) own (differs exception) = absurd exception
    came restarts own (differs exception) = absurd exception

    pub comes : (x : Act) → is_of a x ≡ true → OpensItsOwn a m x → Came x
    comes x own opens_own = came x own (told_act x own opens_own)

  -- ---- runs

  abbrev Goes : List Act → Type 0
  Goes later = (m k : Machine) (others : List Act) → MachinesRelated R a m k → AreSound m → AreSound k → OthersKeepRelated R a m later → OthersKeepRelated R a k others → noticed a later ≡ noticed a others → IsToldRelated R T a m k later others

  first_same : (x y : Act) (xs ys : List Act) → (x ∷ xs) ≡ (y ∷ ys) → (x ≡ y) × (xs ≡ ys)
  first_same x y xs ys e = (ap first_of e, ap rest_of e) where
    first_of : List Act → Act
    first_of [] = x
    first_of (z ∷ zs) = z

    rest_of : List Act → List Act
    rest_of [] = []
    rest_of (z ∷ zs) = zs

  told_here : (event : Act) (later others : List Act) (m k : Machine) → MachinesRelated R a m k → AreSound m → AreSound k → is_of a event ≡ true → OpensItsOwn a m event →
      OthersKeepRelated R a (follows m event) later → OthersKeepRelated R a (follows k event) others → noticed a later ≡ noticed a others → Goes later → IsToldRelated R T a m k (event ∷ later) (event ∷ others)
  told_here event later others m k st on_m on_k own opens_own act act_k equal go = at (comes m k st on_m on_k event own opens_own) where
    at : Came m k st on_m on_k event → IsToldRelated R T a m k (event ∷ later) (event ∷ others)
    at (parts exception none) = told_apart own exception none
    at (goes_on_alike answers next) = told_alike own answers (go (follows m event) (follows k event) others next (sound_follows m event on_m) (sound_follows k event on_k) act act_k equal)
    at (is_declared e is) =
        subst (λ (x : Act). IsToldRelated R T a m k (x ∷ later) (x ∷ others)) is
        (declared (λ alike. go (after m e) (after k e) others alike (sound_after m e on_m) (sound_after k e on_k)
        (subst (λ (x : Act). OthersKeepRelated R a (follows m x) later) (sym is) act) (subst (λ (x : Act). OthersKeepRelated R a (follows k x) others) (sym is) act_k) equal))

  -- an own event in the first run: the second comes to it, too
  abbrev ReachesOwn : Act → List Act → List Act → Type 0
  ReachesOwn event later others = (m k : Machine) → MachinesRelated R a m k → AreSound m → AreSound k → OpensItsOwn a m event → OthersKeepRelated R a (follows m event) later → OthersKeepRelated R a k others →
      (event ∷ noticed a later) ≡ noticed a others → IsToldRelated R T a m k (event ∷ later) others

  to_own : (event : Act) (later : List Act) → is_of a event ≡ true → Goes later → (others : List Act) → ReachesOwn event later others
  to_own event later own go [] m k st on_m on_k opens_own act act_k equal = let contrary : (event ∷ noticed a later) ≡ [] = equal in cc
  to_own event later own go (f ∷ fs) m k st on_m on_k opens_own act act_k equal = by (is_of a f) refl (to_own event later own go fs) where
    by : (b : Bool) → is_of a f ≡ b → ReachesOwn event later fs → IsToldRelated R T a m k (event ∷ later) (f ∷ fs)
    by true own_f on =
        let both = first_same event f (noticed a later) (noticed a fs) (equal ∙ ap (λ (b : Bool). cond b (f ∷ noticed a fs) (noticed a fs)) own_f) in
        subst (λ (x : Act). IsToldRelated R T a m k (event ∷ later) (x ∷ fs)) both.0
        (told_here event later fs m k st on_m on_k own opens_own act (subst (λ (x : Act). OthersKeepRelated R a (follows k x) fs) (sym both.0) act_k.1) both.1 go)
    by false other on =
        untold_there other (on m (follows k f) (turned (follows k f) m (after_others k m (turned m k st) f other (act_k.0.1 other))) on_m (sound_follows k f on_k) opens_own act act_k.1
        (equal ∙ ap (λ (b : Bool). cond b (f ∷ noticed a fs) (noticed a fs)) other))

  abbrev NoneMore : List Act → Type 0
  NoneMore others = (m k : Machine) → MachinesRelated R a m k → OthersKeepRelated R a k others → [] ≡ noticed a others → IsToldRelated R T a m k [] others

  none_more : (others : List Act) → NoneMore others
  none_more [] m k st act_k equal = all_told
  none_more (f ∷ fs) m k st act_k equal = by (is_of a f) refl (none_more fs) where
    by : (b : Bool) → is_of a f ≡ b → NoneMore fs → IsToldRelated R T a m k [] (f ∷ fs)
    by true own_f on = let contrary : [] ≡ (f ∷ noticed a fs) = equal ∙ ap (λ (b : Bool). cond b (f ∷ noticed a fs) (noticed a fs)) own_f in cc
    by false other on =
        untold_there other (on m (follows k f) (turned (follows k f) m (after_others k m (turned m k st) f other (act_k.0.1 other))) act_k.1
        (equal ∙ ap (λ (b : Bool). cond b (f ∷ noticed a fs) (noticed a fs)) other))

  goes : (events : List Act) → Goes events
  goes [] m k others st on_m on_k act act_k equal = none_more others m k st act_k equal
  goes (event ∷ later) m k others st on_m on_k act act_k equal = by (is_of a event) refl (goes later) where
    by : (b : Bool) → is_of a event ≡ b → Goes later → IsToldRelated R T a m k (event ∷ later) others
    by true own on =
        to_own event later own on others m k st on_m on_k (act.0.0 own) act.1 act_k
        (sym (ap (λ (b : Bool). cond b (event ∷ noticed a later) (noticed a later)) own) ∙ equal)
    by false other on =
        untold_here other (on (follows m event) k others (after_others m k st event other (act.0.1 other)) (sound_follows m event on_m) on_k act.1 act_k
        (sym (ap (λ (b : Bool). cond b (event ∷ noticed a later) (noticed a later)) other) ∙ equal))

pub told_so : (R : Tenant → Relation) (T : Telling) → ((a : Tenant) → Hides a.pairs (R a) T) → RunsAreTold R T
told_so R T hides a m k acts others st on_m on_k act act_k equal = goes a (R a) T (hides a) acts m k others st on_m on_k act act_k equal
