-- One event of a session over two machines that are related, as far as it can see.
use Rattle.std.proofs.Common.{◌≡◌, ◌⊎◌, ◌&&◌, ℕ, nat_le, Bool, true, false, not, cond, length, is_some, Option, Some, None, Result, Ok, Err, refl, sym, ap, ◌∙◌, subst, inl, inr}
use Rattle.sql_types.specs.declared.state.SqlState.{SqlState}
use Rattle.sql_types.specs.declared.state.SqlState.TheVariants.{InsufficientPrivilege, InFailedTransaction, LockNotAvailable, InvalidAuthorization, TooManyConnections, ConnectionDoesNotExist, ConnectionNameInUse, IoError}
use Rattle.sql_types.specs.declared.answer.Answer.{Answer}
use Rattle.sql_types.specs.declared.answer.Answer.TheVariants as answer
use Rattle.sql_types.specs.declared.tag.Tag.TheVariants as tag
use Rattle.sql_ast.specs.declared.statement.Statement.{Statement}
use Rattle.sql_ast.specs.declared.statement.Statement.TheVariants as statement
use Rattle.sql_ast.specs.declared.statement.DatabaseStatement.{DatabaseStatement}
use Rattle.expressions.specs.Stages.{◌>>=◌, require}
use Rattle.abstract_database.specs.Lists.{TheName}
use Rattle.abstract_database.specs.Database.{Database, has_role}
use Rattle.abstract_database.specs.Roles.{may_log_in}
use Rattle.abstract_database.specs.Statements.{UserPair, exec}
use Rattle.abstract_database.specs.Machine.{client_of, own_sessions, Outside, Session, Event, opens, executes, closes, Reading, Machine, Transition, refuses, succeeds, session_of, users_of, with_session_changed, is_held_by_other, seen, open_session, close_session, refused, transition_or_refusal, changes_database, is_writing, has_failed, keeps_role, may_execute, applied, execute_on_database, execute, execute_in, running_transition, transition}
use Rattle.database_laws.specs.HiddenRuns.{as_itself, ActsWithin, AreSound, answer_to, TellsAlone}
use Rattle.database_laws.proofs.StatementCodes.{exec_owns}
use Rattle.privilege_laws.specs.Related.{Relation, Telling}
use Rattle.privilege_laws.proofs.Moves.{Hides, AlikeForSession, Alike, stay, change, ReadsWithin, step_in, answer_of, refused_both, not_told}

module _ (number : ℕ) (pairs : UserPair → Bool) (R : Relation) (T : Telling) (h : Hides pairs R T) where
  module _ (m k : Machine) (st : AlikeForSession number pairs R m k) (on_m : AreSound m) (on_k : AreSound k) where
    -- a statement tells, or both answer and move alike
    abbrev pub StepBy : Reading → Type 0
    StepBy reading = T number m k (executes number reading) ⊎ Alike number pairs R m k (transition m (executes number reading)) (transition k (executes number reading))

    pub stopped_both : (event : Event Reading) → m.stopped ≡ true → Alike number pairs R m k (transition m event) (transition k event)
    stopped_both event on =
        subst (λ (t : Transition). Alike number pairs R m k t (transition k event)) (sym (ap (λ (b : Bool). cond b (refuses m IoError) (running_transition m event)) on))
        (subst (λ (u : Transition). Alike number pairs R m k (refuses m IoError) u) (sym (ap (λ (b : Bool). cond b (refuses k IoError) (running_transition k event)) (sym st.stopped ∙ on)))
        (record { answers = refl; move = stay }))

    pub running_both : (event : Event Reading) (t u : Transition) → m.stopped ≡ false → running_transition m event ≡ t → running_transition k event ≡ u → Alike number pairs R m k t u → Alike number pairs R m k (transition m event) (transition k event)
    running_both event t u on is is_k both =
        subst (λ (x : Transition). Alike number pairs R m k x (transition k event)) (sym (ap (λ (b : Bool). cond b (refuses m IoError) (running_transition m event)) on ∙ is))
        (subst (λ (x : Transition). Alike number pairs R m k t x) (sym (ap (λ (b : Bool). cond b (refuses k IoError) (running_transition k event)) (sym st.stopped ∙ on) ∙ is_k)) both)

    abbrev SameLock : Reading → Type 0
    SameLock reading = (x : Statement) → reading ≡ Ok x → (is_writing x && is_held_by_other number m.holder) ≡ (is_writing x && is_held_by_other number k.holder)

    -- where the session sets a role, it is one of the pairs
    abbrev StaysWithin : Reading → Type 0
    StaysWithin reading = (s : Session) → session_of number m.sessions ≡ Some s → ReadsWithin number pairs R m s reading

    executed_at : (reading : Reading) → SameLock reading → StaysWithin reading → m.stopped ≡ false → (o : Option Session) → session_of number m.sessions ≡ o → StepBy reading
    executed_at reading same stays on None there =
        inr (running_both (executes number reading) (refuses m ConnectionDoesNotExist) (refuses k ConnectionDoesNotExist) on
        (ap (λ (p : Option Session). execute m number reading p) there) (ap (λ (p : Option Session). execute k number reading p) (sym st.session ∙ there))
        (record { answers = refl; move = stay }))
    executed_at reading same stays on (Some s) there =
        elim (step_in number pairs R T h m k st on_m on_k s (st.opened_for s there) there on reading same (stays s there)) [
          | inl exception ↦ inl exception
          | inr both ↦ inr (running_both (executes number reading) (execute_in m number s reading) (execute_in k number s reading) on
              (ap (λ (p : Option Session). execute m number reading p) there) (ap (λ (p : Option Session). execute k number reading p) (sym st.session ∙ there)) both)
        ]

    pub executed : (reading : Reading) → SameLock reading → StaysWithin reading → StepBy reading
    executed reading same stays = by m.stopped refl where
      by : (b : Bool) → m.stopped ≡ b → StepBy reading
      by true on = inr (stopped_both (executes number reading) on)
      by false on = executed_at reading same stays on (session_of number m.sessions) refl

    opened_as : (l : TheName) (a b c : Bool) → (c ≡ true → pairs (as_itself l) ≡ true) → Alike number pairs R m k
        (cond a (refuses m ConnectionNameInUse) (cond b (refuses m TooManyConnections) (cond c (succeeds tag.Open (with_session_changed m number (record { login = l; role = l; block = Outside }))) (refuses m InvalidAuthorization))))
        (cond a (refuses k ConnectionNameInUse) (cond b (refuses k TooManyConnections) (cond c (succeeds tag.Open (with_session_changed k number (record { login = l; role = l; block = Outside }))) (refuses k InvalidAuthorization))))
    opened_as l true b c own = record { answers = refl; move = stay }
    opened_as l false true c own = record { answers = refl; move = stay }
    opened_as l false false true own = record { answers = refl; move = change (record { login = l; role = l; block = Outside }) (record { now = own refl; reset = own refl; rolled_back = tt }) }
    opened_as l false false false own = record { answers = refl; move = stay }

    abbrev pub opening : TheName → Machine → Bool → Bool → Bool → Transition
    opening l n a b c = cond a (refuses n ConnectionNameInUse) (cond b (refuses n TooManyConnections) (cond c (succeeds tag.Open (with_session_changed n number (record { login = l; role = l; block = Outside }))) (refuses n InvalidAuthorization)))

    pub opened : (l : TheName) → (may_log_in m.committed l ≡ true → pairs (as_itself l) ≡ true) → nat_le 256 (length (own_sessions (client_of number) m.sessions)) ≡ nat_le 256 (length (own_sessions (client_of number) k.sessions)) → Alike number pairs R m k (transition m (opens number l)) (transition k (opens number l))
    opened l own room = by m.stopped refl where
      by : (b : Bool) → m.stopped ≡ b → Alike number pairs R m k (transition m (opens number l)) (transition k (opens number l))
      by true on = stopped_both (opens number l) on
      by false on = running_both (opens number l) (open_session m number l) (open_session k number l) on refl refl
          (subst (λ (a : Bool). Alike number pairs R m k (open_session m number l) (opening l k a (nat_le 256 (length (own_sessions (client_of number) k.sessions))) (may_log_in k.committed l))) (ap (λ (o : Option Session). is_some o) st.session)
          (subst (λ (b : Bool). Alike number pairs R m k (open_session m number l) (opening l k (is_some (session_of number m.sessions)) b (may_log_in k.committed l))) room
          (subst (λ (c : Bool). Alike number pairs R m k (open_session m number l) (opening l k (is_some (session_of number m.sessions)) (nat_le 256 (length (own_sessions (client_of number) m.sessions))) c)) (ap (λ (db : Database). may_log_in db l) (h.definitions m.committed k.committed st.committed))
          (opened_as l (is_some (session_of number m.sessions)) (nat_le 256 (length (own_sessions (client_of number) m.sessions))) (may_log_in m.committed l) own))))

    closed_at : (o : Option Session) → (close_session m number o).answer ≡ (close_session k number o).answer
    closed_at None = refl
    closed_at (Some s) = refl

    pub closes_alike : answer_to m (closes number) ≡ answer_to k (closes number)
    closes_alike = at m.stopped refl where
      at : (b : Bool) → m.stopped ≡ b → answer_to m (closes number) ≡ answer_to k (closes number)
      at true on =
          ap (λ (b : Bool). (cond b (refuses m IoError) (running_transition m (closes number))).answer) on
          ∙ sym (ap (λ (b : Bool). (cond b (refuses k IoError) (running_transition k (closes number))).answer) (sym st.stopped ∙ on))
      at false on =
          ap (λ (b : Bool). (cond b (refuses m IoError) (running_transition m (closes number))).answer) on
          ∙ closed_at (session_of number m.sessions)
          ∙ ap (λ (o : Option Session). (close_session k number o).answer) st.session
          ∙ sym (ap (λ (b : Bool). (cond b (refuses k IoError) (running_transition k (closes number))).answer) (sym st.stopped ∙ on))

-- ---- refused over one of them alone, for what others hold or have open

-- the checks of a writing statement, by what each of them finds
abbrev lock_last : Bool → Bool → Bool → Bool → Result (Unit {0}) SqlState
lock_last usable authorized allowed held = do
  unfailed ← require usable InFailedTransaction
  known ← require authorized InvalidAuthorization
  permitted ← require allowed InsufficientPrivilege
  require (not held) LockNotAvailable

-- one of them refuses it whoever holds the lock, or the lock decides
by_lock : (p q r : Bool) → ((code : SqlState) × ((held : Bool) → lock_last p q r held ≡ Err code)) ⊎ ((lock_last p q r true ≡ Err LockNotAvailable) × (lock_last p q r false ≡ Ok tt))
by_lock false q r = inl (InFailedTransaction, λ held. refl)
by_lock true false r = inl (InvalidAuthorization, λ held. refl)
by_lock true true false = inl (InsufficientPrivilege, λ held. refl)
by_lock true true true = inr (refl, refl)

lock_clash : true ≡ false → ⊥
lock_clash e = cc

module _ (number : ℕ) (pairs : UserPair → Bool) (R : Relation) (T : Telling) (h : Hides pairs R T) (m k : Machine) (st : AlikeForSession number pairs R m k) (on_m : AreSound m) (on_k : AreSound k) where
  -- one of both: the event is refused with this code over one machine alone, or both answer and move alike
  abbrev pub StepOr : SqlState → Event Reading → Type 0
  StepOr code event = TellsAlone code (answer_to m event) (answer_to k event) ⊎ Alike number pairs R m k (transition m event) (transition k event)

  or_stopped : (code : SqlState) (event : Event Reading) → (m.stopped ≡ false → StepOr code event) → (b : Bool) → m.stopped ≡ b → StepOr code event
  or_stopped code event go true on = inr (stopped_both number pairs R T h m k st on_m on_k event on)
  or_stopped code event go false on = go on

  -- ---- a write

  module _ (s : Session) (own : ActsWithin pairs s) (there : session_of number m.sessions ≡ Some s) (on : m.stopped ≡ false) (x : DatabaseStatement) (writes : changes_database x ≡ true) where
    abbrev shown : Event Reading
    shown = executes number (Ok (statement.OnDatabase x))

    abbrev checks_of : Database → Bool → Result (Unit {0}) SqlState
    checks_of db held = lock_last (not (has_failed s.block)) (has_role db s.login) (keeps_role db s) held

    may_is : (n : Machine) (b : Bool) → is_held_by_other number n.holder ≡ b → may_execute n number s (statement.OnDatabase x) ≡ checks_of (seen n number) b
    may_is n b e = ap (λ (w : Bool). checks_of (seen n number) (w && is_held_by_other number n.holder)) writes ∙ ap (λ (h : Bool). checks_of (seen n number) h) e

    same_checks : (b : Bool) → checks_of (seen m number) b ≡ checks_of (seen k number) b
    same_checks b = ap (λ (db : Database). checks_of db b) (h.definitions (seen m number) (seen k number) st.seen)

    abbrev done_as : Machine → Result (Unit {0}) SqlState → Transition
    done_as n may = transition_or_refusal n number s (may >>= λ u. exec (seen n number) (users_of s) x >>= λ e. Ok (applied n number s (changes_database x) e))

    refused_as : (n : Machine) (code : SqlState) → may_execute n number s (statement.OnDatabase x) ≡ Err code → execute_on_database n number s x ≡ refused n number s code
    refused_as n code is = ap (λ (r : Result (Unit {0}) SqlState). done_as n r) is

    there_k : session_of number k.sessions ≡ Some s
    there_k = sym st.session ∙ there

    on_running_k : k.stopped ≡ false
    on_running_k = sym st.stopped ∙ on

    no_lock : exec (seen m number) (users_of s) x ≡ Err LockNotAvailable → ⊥
    no_lock is = lock_clash (sym (exec_owns (seen m number) (users_of s) x LockNotAvailable is))

    no_lock_k : exec (seen k number) (users_of s) x ≡ Err LockNotAvailable → ⊥
    no_lock_k is = lock_clash (sym (exec_owns (seen k number) (users_of s) x LockNotAvailable is))

    locks : (n : Machine) → session_of number n.sessions ≡ Some s → n.stopped ≡ false → may_execute n number s (statement.OnDatabase x) ≡ Err LockNotAvailable → answer_to n shown ≡ answer.Refused LockNotAvailable
    locks n at running is = answer_of number s n at running (Ok (statement.OnDatabase x)) ∙ ap (λ (t : Transition). t.answer) (refused_as n LockNotAvailable is)

    goes_free : (n : Machine) → session_of number n.sessions ≡ Some s → n.stopped ≡ false → may_execute n number s (statement.OnDatabase x) ≡ Ok tt → (exec (seen n number) (users_of s) x ≡ Err LockNotAvailable → ⊥) →
        answer_to n shown ≡ answer.Refused LockNotAvailable → ⊥
    goes_free n at running is other = not_told number s n x tt LockNotAvailable at running is (exec (seen n number) (users_of s) x) refl other

    both_refused : (code : SqlState) → may_execute m number s (statement.OnDatabase x) ≡ Err code → may_execute k number s (statement.OnDatabase x) ≡ Err code →
        Alike number pairs R m k (execute_on_database m number s x) (execute_on_database k number s x)
    both_refused code is is_k =
        subst (λ (t : Transition). Alike number pairs R m k t (execute_on_database k number s x)) (sym (refused_as m code is))
        (subst (λ (u : Transition). Alike number pairs R m k (refused m number s code) u) (sym (refused_as k code is_k)) (refused_both number pairs R T h m k st on_m on_k s own code))

    in_session : Alike number pairs R m k (execute_on_database m number s x) (execute_on_database k number s x) → Alike number pairs R m k (transition m shown) (transition k shown)
    in_session both =
        running_both number pairs R T h m k st on_m on_k shown (execute_on_database m number s x) (execute_on_database k number s x) on
        (ap (λ (p : Option Session). execute m number (Ok (statement.OnDatabase x)) p) there) (ap (λ (p : Option Session). execute k number (Ok (statement.OnDatabase x)) p) there_k) both

    held_apart : (b c : Bool) → is_held_by_other number m.holder ≡ b → is_held_by_other number k.holder ≡ c → (b ≡ c → ⊥) → StepOr LockNotAvailable shown
    held_apart true true e f apart = absurd (apart refl)
    held_apart false false e f apart = absurd (apart refl)
    held_apart true false e f apart = elim (by_lock (not (has_failed s.block)) (has_role (seen m number) s.login) (keeps_role (seen m number) s)) [
      | inl earlier ↦ inr (in_session (both_refused earlier.0 (may_is m true e ∙ earlier.1 true) (may_is k false f ∙ sym (same_checks false) ∙ earlier.1 false)))
      | inr lock ↦ inl (inl (locks m there on (may_is m true e ∙ lock.0), goes_free k there_k on_running_k (may_is k false f ∙ sym (same_checks false) ∙ lock.1) no_lock_k))
    ]
    held_apart false true e f apart = elim (by_lock (not (has_failed s.block)) (has_role (seen m number) s.login) (keeps_role (seen m number) s)) [
      | inl earlier ↦ inr (in_session (both_refused earlier.0 (may_is m false e ∙ earlier.1 false) (may_is k true f ∙ sym (same_checks true) ∙ earlier.1 true)))
      | inr lock ↦ inl (inr (locks k there_k on_running_k (may_is k true f ∙ sym (same_checks true) ∙ lock.0), goes_free m there on (may_is m false e ∙ lock.1) no_lock))
    ]

  -- one that another session keeps from the lock over one of them
  pub locked_out : (x : DatabaseStatement) → changes_database x ≡ true → (is_held_by_other number m.holder ≡ is_held_by_other number k.holder → ⊥) → StepOr LockNotAvailable (executes number (Ok (statement.OnDatabase x)))
  locked_out x writes apart = or_stopped LockNotAvailable (executes number (Ok (statement.OnDatabase x))) (λ on. at on (session_of number m.sessions) refl) m.stopped refl where
    at : m.stopped ≡ false → (o : Option Session) → session_of number m.sessions ≡ o → StepOr LockNotAvailable (executes number (Ok (statement.OnDatabase x)))
    at on None there = inr (running_both number pairs R T h m k st on_m on_k (executes number (Ok (statement.OnDatabase x))) (refuses m ConnectionDoesNotExist) (refuses k ConnectionDoesNotExist) on
        (ap (λ (p : Option Session). execute m number (Ok (statement.OnDatabase x)) p) there) (ap (λ (p : Option Session). execute k number (Ok (statement.OnDatabase x)) p) (sym st.session ∙ there))
        (record { answers = refl; move = stay }))
    at on (Some s) there = held_apart s (st.opened_for s there) there on x writes (is_held_by_other number m.holder) (is_held_by_other number k.holder) refl refl apart

  -- ---- an opening

  not_full : (l : TheName) (c : Bool) (n : Machine) → (opening number pairs R T h m k st on_m on_k l n false false c).answer ≡ answer.Refused TooManyConnections → ⊥
  not_full l true n e = cc
  not_full l false n e = cc

  abbrev OpensOr : Transition → Transition → Type 0
  OpensOr t u = TellsAlone TooManyConnections t.answer u.answer ⊎ Alike number pairs R m k t u

  rooms_apart : (l : TheName) (a b d c : Bool) → (b ≡ d → ⊥) → OpensOr (opening number pairs R T h m k st on_m on_k l m a b c) (opening number pairs R T h m k st on_m on_k l k a d c)
  rooms_apart l true b d c apart = inr (record { answers = refl; move = stay })
  rooms_apart l false true true c apart = absurd (apart refl)
  rooms_apart l false false false c apart = absurd (apart refl)
  rooms_apart l false true false c apart = inl (inl (refl, not_full l c k))
  rooms_apart l false false true c apart = inl (inr (refl, not_full l c m))

  abbrev is_full : Machine → Bool
  is_full n = nat_le 256 (length (own_sessions (client_of number) n.sessions))

  pub crowded_out : (l : TheName) → (is_full m ≡ is_full k → ⊥) → StepOr TooManyConnections (opens number l)
  crowded_out l apart = or_stopped TooManyConnections (opens number l) (λ on. told on (
      subst (λ (a : Bool). OpensOr (open_session m number l) (opening number pairs R T h m k st on_m on_k l k a (is_full k) (may_log_in k.committed l))) (ap (λ (o : Option Session). is_some o) st.session)
      (subst (λ (c : Bool). OpensOr (open_session m number l) (opening number pairs R T h m k st on_m on_k l k (is_some (session_of number m.sessions)) (is_full k) c)) (ap (λ (db : Database). may_log_in db l) (h.definitions m.committed k.committed st.committed))
      (rooms_apart l (is_some (session_of number m.sessions)) (is_full m) (is_full k) (may_log_in m.committed l) apart)))) m.stopped refl
    where
      answered : (n : Machine) → n.stopped ≡ false → answer_to n (opens number l) ≡ (open_session n number l).answer
      answered n on = ap (λ (b : Bool). (cond b (refuses n IoError) (running_transition n (opens number l))).answer) on

      told : m.stopped ≡ false → OpensOr (open_session m number l) (open_session k number l) → StepOr TooManyConnections (opens number l)
      told on (inl tells) =
          inl (subst (λ (x : Answer). TellsAlone TooManyConnections x (answer_to k (opens number l))) (sym (answered m on))
          (subst (λ (y : Answer). TellsAlone TooManyConnections (open_session m number l).answer y) (sym (answered k (sym st.stopped ∙ on))) tells))
      told on (inr both) = inr (running_both number pairs R T h m k st on_m on_k (opens number l) (open_session m number l) (open_session k number l) on refl refl both)
