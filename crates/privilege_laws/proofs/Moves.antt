-- A session over two machines that are related, as far as it can see: one event of it.
use Rattle.std.proofs.Common.{◌≡◌, ◌⊎◌, ◌==◌, ◌&&◌, ◌||◌, ℕ, Bool, true, false, not, cond, List, Option, Some, None, Result, Ok, Err, refl, sym, ap, ◌∙◌, subst, inl, inr}
use Rattle.std.proofs.lemmas.Bool.{and_parts, eq-eqb}
use Rattle.sql_types.specs.declared.state.SqlState.{SqlState}
use Rattle.sql_types.specs.declared.state.SqlState.TheVariants.{UndefinedObject, InsufficientPrivilege, InFailedTransaction, LockNotAvailable, InvalidAuthorization, IoError}
use Rattle.sql_types.specs.declared.answer.Answer.TheVariants as answer
use Rattle.sql_types.specs.declared.tag.Tag.TheVariants as tag
use Rattle.sql_ast.specs.declared.statement.Statement.{Statement}
use Rattle.sql_ast.specs.declared.statement.Statement.TheVariants as statement
use Rattle.sql_ast.specs.declared.statement.DatabaseStatement.{DatabaseStatement}
use Rattle.sql_ast.specs.declared.statement.SessionStatement.{SessionStatement}
use Rattle.sql_ast.specs.declared.statement.SetRole.{SetRole}
use Rattle.sql_ast.specs.declared.statement.SessionStatement.TheVariants as of_session
use Rattle.expressions.specs.Stages.{◌>>=◌, require}
use Rattle.abstract_database.specs.Lists.{TheName}
use Rattle.abstract_database.specs.Database.{Database, has_role, without_rows}
use Rattle.abstract_database.specs.Roles.{may_set_role}
use Rattle.abstract_database.specs.Statements.{Effect, UserPair, exec}
use Rattle.abstract_database.specs.Machine.{Block, Outside, Inside, Failed, Session, Event, executes, Reading, Machine, Holder, Transition, refuses, succeeds, session_of, with_session, users_of, in_block, as_role, with_session_changed, is_held_by_other, released, seen_by, seen, after_refusal, refused, transition_or_refusal, changes_database, is_writing, sets_role, has_failed, keeps_role, may_execute, begin, with_role_set, with_block_ended, commit, rollback, with_changes, applied, where_admitted, execute_of_session, execute_on_database, execute_in, execute, running_transition}
use Rattle.abstract_database.proofs.ResultLemmas.{require_ok, Every, every_bind, every_ok}
use Rattle.database_laws.specs.Invariants.{HoldsOfHolder, IsSound}
use Rattle.database_laws.specs.HiddenRuns.{MayActAs, ActsWithin, RollsBackWithin, holds_lock, AreSound, answer_to}
use Rattle.database_laws.proofs.CommitLemmas.{session_there}
use Rattle.database_laws.proofs.StatementLemmas.{exec_answers}
use Rattle.database_laws.proofs.AlikeRuns.{held_at}
use Rattle.privilege_laws.specs.Related.{Relation, Telling, EndRelated}

-- over both machines the session is this one, and it may execute the statement
pub record MayBoth (number : ℕ) (s : Session) (m k : Machine) (x : DatabaseStatement) : Type 0 where
  pub here : session_of number m.sessions ≡ Some s
  pub there : session_of number k.sessions ≡ Some s
  pub runs_here : m.stopped ≡ false
  pub runs_there : k.stopped ≡ false
  pub free : Unit {0}
  pub may_here : may_execute m number s (statement.OnDatabase x) ≡ Ok free
  pub may_there : may_execute k number s (statement.OnDatabase x) ≡ Ok free

-- what a relation hides from all that a tenant acts as: a statement of one of these ends related, but for what tells
pub record Hides (pairs : UserPair → Bool) (R : Relation) (T : Telling) : Type 0 where
  pub definitions : (d e : Database) → R d e → without_rows d ≡ without_rows e
  pub turned : (d e : Database) → R d e → R e d
  pub joined : (d e f : Database) → R d e → R e f → R d f
  pub ends : (number : ℕ) (s : Session) (m k : Machine) (x : DatabaseStatement) → MayBoth number s m k x → R (seen m number) (seen k number) → IsSound (seen m number) → IsSound (seen k number) →
      MayActAs (seen m number) pairs (users_of s) → T number m k (executes number (Ok (statement.OnDatabase x))) ⊎ EndRelated R (exec (seen m number) (users_of s) x) (exec (seen k number) (users_of s) x)

-- ---- what the session sees, by the writer lock

module _ (R : Relation) where
  -- where both hold the writer lock, or neither does, other databases may be committed
  pub seen_where : (number : ℕ) (g h : Option Holder) (old c new f : Database) → holds_lock number g ≡ holds_lock number h → R (seen_by number g old) (seen_by number h c) → R new f →
      R (seen_by number g new) (seen_by number h f)
  seen_where number None None old c new f same alike next = next
  seen_where number None (Some h) old c new f same alike next = subst (λ (x : Database). R new x) (sym (held_at number h f false (sym same))) next
  seen_where number (Some g) None old c new f same alike next = subst (λ (x : Database). R x f) (sym (held_at number g new false same)) next
  seen_where number (Some g) (Some h) old c new f same alike next = by_lock (g.session == number) refl where
    by_lock : (b : Bool) → (g.session == number) ≡ b → R (seen_by number (Some g) new) (seen_by number (Some h) f)
    by_lock true e =
        let e' : (h.session == number) ≡ true = sym same ∙ e in
        subst (λ (x : Database). R x (seen_by number (Some h) f)) (held_at number g old true e ∙ sym (held_at number g new true e))
        (subst (λ (x : Database). R (seen_by number (Some g) old) x) (held_at number h c true e' ∙ sym (held_at number h f true e')) alike)
    by_lock false e =
        let e' : (h.session == number) ≡ false = sym same ∙ e in
        subst (λ (x : Database). R x (seen_by number (Some h) f)) (sym (held_at number g new false e))
        (subst (λ (x : Database). R new x) (sym (held_at number h f false e')) next)

-- once it is given up, the committed database is seen, and the writer lock is not held
given_up_at : (number : ℕ) (h : Holder) (db : Database) (b : Bool) → (h.session == number) ≡ b → (seen_by number (cond b None (Some h)) db ≡ db) × (holds_lock number (cond b None (Some h)) ≡ false)
given_up_at number h db true e = (refl, refl)
given_up_at number h db false e = (held_at number h db false e, e)

given_up : (number : ℕ) (h : Option Holder) (db : Database) → (seen_by number (released number h) db ≡ db) × (holds_lock number (released number h) ≡ false)
given_up number None db = (refl, refl)
given_up number (Some h) db = given_up_at number h db (h.session == number) refl

-- what is seen is sound
sound_seen : (number : ℕ) (h : Option Holder) (db : Database) → IsSound db → HoldsOfHolder IsSound h → IsSound (seen_by number h db)
sound_seen number None db n s = n
sound_seen number (Some h) db n s = by_lock (h.session == number) refl where
  by_lock : (b : Bool) → (h.session == number) ≡ b → IsSound (seen_by number (Some h) db)
  by_lock true e = subst IsSound (sym (held_at number h db true e)) s
  by_lock false e = subst IsSound (sym (held_at number h db false e)) n

own_lock : (number : ℕ) (db c : Database) → (seen_by number (Some (record { session = number; database = db })) c ≡ db) × (holds_lock number (Some (record { session = number; database = db })) ≡ true)
own_lock number db c = let e : (number == number) ≡ true = eq-eqb number number refl in (held_at number (record { session = number; database = db }) c true e, e)

-- ---- what a session is answered, where it may execute a statement

module _ (number : ℕ) (s : Session) where
  pub answer_of : (n : Machine) → session_of number n.sessions ≡ Some s → n.stopped ≡ false → (reading : Reading) → answer_to n (executes number reading) ≡ (execute_in n number s reading).answer
  answer_of n at running reading =
      ap (λ (b : Bool). (cond b (refuses n IoError) (running_transition n (executes number reading))).answer) running
      ∙ ap (λ (o : Option Session). (execute n number reading o).answer) at

  -- where it may be executed, it is answered as it comes out
  pub refused_with : (n : Machine) (x : DatabaseStatement) (v : Unit {0}) (code : SqlState) → may_execute n number s (statement.OnDatabase x) ≡ Ok v → exec (seen n number) (users_of s) x ≡ Err code →
      (execute_on_database n number s x).answer ≡ answer.Refused code
  refused_with n x v code free comes =
      ap (λ (r : Result (Unit {0}) SqlState). (transition_or_refusal n number s (r >>= λ u. exec (seen n number) (users_of s) x >>= λ e. Ok (applied n number s (changes_database x) e))).answer) free
      ∙ ap (λ (r : Result Effect SqlState). (transition_or_refusal n number s (r >>= λ e. Ok (applied n number s (changes_database x) e))).answer) comes

  applied_answer : (n : Machine) (writing : Bool) (p : Effect) → (applied n number s writing p).answer ≡ p.answer
  applied_answer n true p = refl
  applied_answer n false p = refl

  pub carried_with : (n : Machine) (x : DatabaseStatement) (v : Unit {0}) (p : Effect) → may_execute n number s (statement.OnDatabase x) ≡ Ok v → exec (seen n number) (users_of s) x ≡ Ok p →
      (execute_on_database n number s x).answer ≡ p.answer
  carried_with n x v p free comes =
      ap (λ (r : Result (Unit {0}) SqlState). (transition_or_refusal n number s (r >>= λ u. exec (seen n number) (users_of s) x >>= λ e. Ok (applied n number s (changes_database x) e))).answer) free
      ∙ ap (λ (r : Result Effect SqlState). (transition_or_refusal n number s (r >>= λ e. Ok (applied n number s (changes_database x) e))).answer) comes
      ∙ applied_answer n (changes_database x) p

  same_code : (c i : SqlState) → answer.Refused c ≡ answer.Refused i → c ≡ i
  same_code c i e = cc

  -- one that is not refused so is not answered so
  pub not_told : (n : Machine) (x : DatabaseStatement) (v : Unit {0}) (code : SqlState) → session_of number n.sessions ≡ Some s → n.stopped ≡ false → may_execute n number s (statement.OnDatabase x) ≡ Ok v →
      (r : Result Effect SqlState) → exec (seen n number) (users_of s) x ≡ r → (r ≡ Err code → ⊥) → answer_to n (executes number (Ok (statement.OnDatabase x))) ≡ answer.Refused code → ⊥
  not_told n x v code at running free (Ok p) is other e = exec_answers (seen n number) (users_of s) x p is code (sym (answer_of n at running (Ok (statement.OnDatabase x)) ∙ carried_with n x v p free is) ∙ e)
  not_told n x v code at running free (Err c) is other e = other (ap (λ (i : SqlState). Err i) (same_code c code (sym (answer_of n at running (Ok (statement.OnDatabase x)) ∙ refused_with n x v c free is) ∙ e)))

-- ---- both machines move alike

module _ (number : ℕ) (pairs : UserPair → Bool) (R : Relation) where
  -- over both machines the session of this number is the same, and it acts as these pairs alone
  pub record AlikeForSession (m k : Machine) : Type 0 where
    pub session : session_of number m.sessions ≡ session_of number k.sessions
    pub opened_for : (s : Session) → session_of number m.sessions ≡ Some s → ActsWithin pairs s
    pub stopped : m.stopped ≡ k.stopped
    pub lock : holds_lock number m.holder ≡ holds_lock number k.holder
    pub committed : R m.committed k.committed
    pub seen : R (seen m number) (seen k number)

  pub data MoveAlike (m k : Machine) : Machine → Machine → Type 0 where
    stay : MoveAlike m k m k
    change : (s : Session) → ActsWithin pairs s → MoveAlike m k (with_session_changed m number s) (with_session_changed k number s)
    end : (s : Session) (role : TheName) (d e : Database) → ActsWithin pairs (in_block Outside (as_role role s)) → R d e → MoveAlike m k (with_block_ended m number s d role) (with_block_ended k number s e role)
    commit_at_once : (d e : Database) → R d e → MoveAlike m k (record m { committed = d }) (record k { committed = e })
    hold : (d e : Database) → R d e → MoveAlike m k (record m { holder = Some (record { session = number; database = d }) }) (record k { holder = Some (record { session = number; database = e }) })

  there_alike : (m k : Machine) (s : Session) → session_of number (with_session m.sessions number s) ≡ session_of number (with_session k.sessions number s)
  there_alike m k s = session_there m.sessions number s ∙ sym (session_there k.sessions number s)

  acts_after : (sessions : List (ℕ × Session)) (s : Session) → ActsWithin pairs s → (t : Session) → session_of number (with_session sessions number s) ≡ Some t → ActsWithin pairs t
  acts_after sessions s own t h = subst (ActsWithin pairs) (one_of s t (sym (session_there sessions number s) ∙ h)) own where
    one_of : (x y : Session) → ◌≡◌ {A = Option Session} (Some x) (Some y) → x ≡ y
    one_of x y e = cc

  pub moved : (m k : Machine) → AlikeForSession m k → (n j : Machine) → MoveAlike m k n j → AlikeForSession n j
  moved m k st n j stay = st
  moved m k st n j (change s own) = record {
    session = there_alike m k s;
    opened_for = acts_after m.sessions s own;
    stopped = st.stopped;
    lock = st.lock;
    committed = st.committed;
    seen = st.seen;
  }
  moved m k st n j (end s role d e own are) =
      let free_d = given_up number m.holder d in
      let free_e = given_up number k.holder e in
      record {
        session = there_alike m k (in_block Outside (as_role role s));
        opened_for = acts_after m.sessions (in_block Outside (as_role role s)) own;
        stopped = st.stopped;
        lock = free_d.1 ∙ sym free_e.1;
        committed = are;
        seen = subst (λ (x : Database). R x (seen_by number (released number k.holder) e)) (sym free_d.0) (subst (λ (x : Database). R d x) (sym free_e.0) are);
      }
  moved m k st n j (commit_at_once d e are) = record {
    session = st.session;
    opened_for = st.opened_for;
    stopped = st.stopped;
    lock = st.lock;
    committed = are;
    seen = seen_where R number m.holder k.holder m.committed k.committed d e st.lock st.seen are;
  }
  moved m k st n j (hold d e are) =
      let on_d = own_lock number d m.committed in
      let on_e = own_lock number e k.committed in
      record {
        session = st.session;
        opened_for = st.opened_for;
        stopped = st.stopped;
        lock = on_d.1 ∙ sym on_e.1;
        committed = st.committed;
        seen = subst (λ (x : Database). R x (seen_by number (Some (record { session = number; database = e })) k.committed)) (sym on_d.0) (subst (λ (x : Database). R d x) (sym on_e.0) are);
      }

  -- where a statement of the session sets a role, it is one of the pairs
  abbrev pub SetsWithin : Machine → Session → SetRole → Type 0
  SetsWithin m s x = (free : Unit {0}) → may_execute m number s (statement.OfSession (of_session.SetRole x)) ≡ Ok free → Every (λ (c : Session). pairs (users_of c) ≡ true) (with_role_set (seen m number) s x.role)

  abbrev pub StatementWithin : Machine → Session → SessionStatement → Type 0
  StatementWithin m s (of_session.SetRole x) = SetsWithin m s x
  StatementWithin m s of_session.ResetRole = Unit {0}
  StatementWithin m s of_session.Begin = Unit {0}
  StatementWithin m s of_session.Commit = Unit {0}
  StatementWithin m s of_session.Rollback = Unit {0}

  abbrev pub ReadsWithin : Machine → Session → Reading → Type 0
  ReadsWithin m s (Err code) = Unit {0}
  ReadsWithin m s (Ok (statement.OnDatabase x)) = Unit {0}
  ReadsWithin m s (Ok (statement.OfSession x)) = StatementWithin m s x

  -- one answer, and both move alike
  pub record Alike (m k : Machine) (t u : Transition) : Type 0 where
    pub answers : t.answer ≡ u.answer
    pub move : MoveAlike m k t.machine u.machine

  -- ---- one statement of the session

  module _ (T : Telling) (h : Hides pairs R T) (m k : Machine) (st : AlikeForSession m k) (on_m : AreSound m) (on_k : AreSound k) (s : Session) (own : ActsWithin pairs s) where
    abbrev Both : Transition → Transition → Type 0
    Both t u = Alike m k t u

    abbrev DoAlike : Result Transition SqlState → Result Transition SqlState → Type 0
    DoAlike (Ok t) (Ok u) = Both t u
    DoAlike (Err c) (Err i) = c ≡ i
    DoAlike (Ok t) (Err i) = ⊥
    DoAlike (Err c) (Ok u) = ⊥

    refused_at : (code : SqlState) (b : Block) → RollsBackWithin pairs s.login b → Both (refuses (after_refusal m number s b) code) (refuses (after_refusal k number s b) code)
    refused_at code Outside kept = record { answers = refl; move = stay }
    refused_at code (Inside role) kept = record { answers = refl; move = change (in_block (Failed role) s) (record { now = own.now; reset = own.reset; rolled_back = kept }) }
    refused_at code (Failed role) kept = record { answers = refl; move = stay }

    pub refused_both : (code : SqlState) → Both (refused m number s code) (refused k number s code)
    refused_both code = refused_at code s.block own.rolled_back

    settled : (r q : Result Transition SqlState) → DoAlike r q → Both (transition_or_refusal m number s r) (transition_or_refusal k number s q)
    settled (Ok t) (Ok u) h = h
    settled (Err c) (Err i) h = subst (λ (x : SqlState). Both (refused m number s c) (refused k number s x)) h (refused_both c)
    settled (Ok t) (Err i) h = absurd h
    settled (Err c) (Ok u) h = absurd h

    after_checks : (r : Result (Unit {0}) SqlState) (t u : Result Transition SqlState) → ((x : Unit {0}) → r ≡ Ok x → DoAlike t u) → DoAlike (r >>= λ free. t) (r >>= λ free. u)
    after_checks (Ok x) t u h = h x refl
    after_checks (Err code) t u h = refl

    -- who may execute it, by what is held by another
    abbrev may_by : Database → Bool → Statement → Result (Unit {0}) SqlState
    may_by db held x = do
      unfailed ← require (not (has_failed s.block)) InFailedTransaction
      authorized ← require (has_role db s.login) InvalidAuthorization
      allowed ← require (sets_role x || keeps_role db s) InsufficientPrivilege
      require (not (is_writing x && held)) LockNotAvailable

    abbrev SameLock : Statement → Type 0
    SameLock x = (is_writing x && is_held_by_other number m.holder) ≡ (is_writing x && is_held_by_other number k.holder)

    abbrev may_with : Database → Bool → Statement → Result (Unit {0}) SqlState
    may_with db kept x = do
      unfailed ← require (not (has_failed s.block)) InFailedTransaction
      authorized ← require (has_role db s.login) InvalidAuthorization
      allowed ← require (sets_role x || keeps_role db s) InsufficientPrivilege
      require (not kept) LockNotAvailable

    may_alike : (x : Statement) → SameLock x → may_execute m number s x ≡ may_execute k number s x
    may_alike x same =
        ap (λ (b : Bool). may_with (seen m number) b x) same
        ∙ ap (λ (db : Database). may_with db (is_writing x && is_held_by_other number k.holder) x) (h.definitions (seen m number) (seen k number) st.seen)

    admitted : (x : Statement) (t u : Result Transition SqlState) → SameLock x → ((v : Unit {0}) → may_execute m number s x ≡ Ok v → DoAlike t u) → Both (where_admitted m number s x t) (where_admitted k number s x u)
    admitted x t u same h =
        settled (may_execute m number s x >>= λ free. t) (may_execute k number s x >>= λ free. u)
        (subst (λ (r : Result (Unit {0}) SqlState). DoAlike (may_execute m number s x >>= λ free. t) (r >>= λ free. u)) (may_alike x same)
        (after_checks (may_execute m number s x) t u h))

    -- out of its block, with this role
    out_with : (role : TheName) → pairs (record { current = role; session = s.login }) ≡ true → ActsWithin pairs (in_block Outside (as_role role s))
    out_with role acts = record { now = acts; reset = own.reset; rolled_back = tt }

    commit_both : (b : Block) → RollsBackWithin pairs s.login b → Both (commit m number s b) (commit k number s b)
    commit_both Outside kept = record { answers = refl; move = stay }
    commit_both (Inside role) kept = record { answers = refl; move = end s s.role (seen m number) (seen k number) (out_with s.role own.now) st.seen }
    commit_both (Failed role) kept = record { answers = refl; move = end s role m.committed k.committed (out_with role kept) st.committed }

    rollback_both : (b : Block) → RollsBackWithin pairs s.login b → Both (rollback m number s b) (rollback k number s b)
    rollback_both Outside kept = record { answers = refl; move = stay }
    rollback_both (Inside role) kept = record { answers = refl; move = end s role m.committed k.committed (out_with role kept) st.committed }
    rollback_both (Failed role) kept = record { answers = refl; move = end s role m.committed k.committed (out_with role kept) st.committed }

    begin_both : (b : Block) → Both (begin m number s b) (begin k number s b)
    begin_both Outside = record { answers = refl; move = change (in_block (Inside s.role) s) (record { now = own.now; reset = own.reset; rolled_back = own.now }) }
    begin_both (Inside role) = record { answers = refl; move = stay }
    begin_both (Failed role) = record { answers = refl; move = stay }

    role_set : (role : Option TheName) → with_role_set (seen m number) s role ≡ with_role_set (seen k number) s role
    role_set role = ap (λ (db : Database). with_role_set db s role) (h.definitions (seen m number) (seen k number) st.seen)

    -- a role that is set keeps the login role, and the one that a ROLLBACK brings back
    sets_within : (role : Option TheName) → Every (λ (c : Session). pairs (users_of c) ≡ true) (with_role_set (seen m number) s role) → Every (ActsWithin pairs) (with_role_set (seen m number) s role)
    sets_within None acts c is = every_ok (ActsWithin pairs) (as_role s.login s) (record { now = own.reset; reset = own.reset; rolled_back = own.rolled_back }) c is
    sets_within (Some role) acts c is = only (require (has_role (seen m number) role) UndefinedObject) (require (may_set_role (seen m number) s.login role) InsufficientPrivilege) is (acts c is) where
      only : (p q : Result (Unit {0}) SqlState) → (p >>= λ named. q >>= λ allowed. Ok (as_role role s)) ≡ Ok c → pairs (users_of c) ≡ true → ActsWithin pairs c
      only (Ok u) (Ok v) e now = subst (ActsWithin pairs) (one_of (as_role role s) c e) (record { now = subst (λ (x : Session). pairs (users_of x) ≡ true) (sym (one_of (as_role role s) c e)) now; reset = own.reset; rolled_back = own.rolled_back }) where
        one_of : (x y : Session) → ◌≡◌ {A = Result Session SqlState} (Ok x) (Ok y) → x ≡ y
        one_of x y e = cc
      only (Err code) q e now = cc
      only (Ok u) (Err code) e now = cc

    set_both : (r : Result Session SqlState) → Every (ActsWithin pairs) r →
        DoAlike (r >>= λ changed. Ok (succeeds tag.Set (with_session_changed m number changed))) (r >>= λ changed. Ok (succeeds tag.Set (with_session_changed k number changed)))
    set_both (Ok c) keeps = record { answers = refl; move = change c (keeps c refl) }
    set_both (Err code) keeps = refl

    -- a role that the session sets is one that it may act as
    abbrev StaysWithin : SessionStatement → Type 0
    StaysWithin x = StatementWithin m s x

    -- a statement of the session writes nothing
    of_session_both : (x : SessionStatement) → StaysWithin x → Both (execute_of_session m number s x) (execute_of_session k number s x)
    of_session_both of_session.Commit stays = commit_both s.block own.rolled_back
    of_session_both of_session.Rollback stays = rollback_both s.block own.rolled_back
    of_session_both of_session.Begin stays = admitted (statement.OfSession of_session.Begin) (Ok (begin m number s s.block)) (Ok (begin k number s s.block)) refl (λ v is. begin_both s.block)
    of_session_both (of_session.SetRole x) stays =
        admitted (statement.OfSession (of_session.SetRole x)) _ _ refl (λ v is.
        subst (λ (r : Result Session SqlState). DoAlike (with_role_set (seen m number) s x.role >>= λ changed. Ok (succeeds tag.Set (with_session_changed m number changed))) (r >>= λ changed. Ok (succeeds tag.Set (with_session_changed k number changed))))
        (role_set x.role) (set_both (with_role_set (seen m number) s x.role) (sets_within x.role (stays v is))))
    of_session_both of_session.ResetRole stays =
        admitted (statement.OfSession of_session.ResetRole) (Ok (succeeds tag.Reset (with_session_changed m number (as_role s.login s)))) (Ok (succeeds tag.Reset (with_session_changed k number (as_role s.login s)))) refl
        (λ v is. record { answers = refl; move = change (as_role s.login s) (record { now = own.reset; reset = own.reset; rolled_back = own.rolled_back }) })

    -- ---- statements of the database

    abbrev pair : UserPair
    pair = users_of s

    -- a role that may execute a statement of the database is one that the login role may set
    acts_of : (x : DatabaseStatement) (v : Unit {0}) → may_execute m number s (statement.OnDatabase x) ≡ Ok v → MayActAs (seen m number) pairs pair
    acts_of x v is = (own.now, allowed v is) where
      allowed : Every (λ (u : Unit {0}). may_set_role (seen m number) s.login s.role ≡ true) (may_execute m number s (statement.OnDatabase x))
      allowed =
          every_bind (λ (u : Unit {0}). may_set_role (seen m number) s.login s.role ≡ true) (require (not (has_failed s.block)) InFailedTransaction) _ (λ a a-is.
          every_bind (λ (u : Unit {0}). may_set_role (seen m number) s.login s.role ≡ true) (require (has_role (seen m number) s.login) InvalidAuthorization) _ (λ b b-is.
          every_bind (λ (u : Unit {0}). may_set_role (seen m number) s.login s.role ≡ true) (require (keeps_role (seen m number) s) InsufficientPrivilege) _ (λ c c-is.
          λ u u-is. (and_parts (has_role (seen m number) s.role) (may_set_role (seen m number) s.login s.role) (require_ok (keeps_role (seen m number) s) InsufficientPrivilege c c-is)).1)))

    with_changes_both : (b : Block) (d e : Database) → R d e → MoveAlike m k (with_changes m number b d) (with_changes k number b e)
    with_changes_both Outside d e are = commit_at_once d e are
    with_changes_both (Inside role) d e are = hold d e are
    with_changes_both (Failed role) d e are = stay

    applied_both : (writing : Bool) (a b : Effect) → a.answer ≡ b.answer → R a.database b.database → Both (applied m number s writing a) (applied k number s writing b)
    applied_both true a b same are = record { answers = same; move = with_changes_both s.block a.database b.database are }
    applied_both false a b same are = record { answers = same; move = stay }

    ends_both : (x : DatabaseStatement) (r q : Result Effect SqlState) → EndRelated R r q →
        DoAlike (r >>= λ e. Ok (applied m number s (changes_database x) e)) (q >>= λ e. Ok (applied k number s (changes_database x) e))
    ends_both x (Ok a) (Ok b) h = applied_both (changes_database x) a b h.0 h.1
    ends_both x (Err c) (Err i) h = h
    ends_both x (Ok a) (Err i) h = h
    ends_both x (Err c) (Ok b) h = h

    database_both : (x : DatabaseStatement) → SameLock (statement.OnDatabase x) →
        ((v : Unit {0}) → may_execute m number s (statement.OnDatabase x) ≡ Ok v → EndRelated R (exec (seen m number) pair x) (exec (seen k number) pair x)) →
        Both (execute_on_database m number s x) (execute_on_database k number s x)
    database_both x same h =
        admitted (statement.OnDatabase x) _ _ same (λ v is. ends_both x (exec (seen m number) pair x) (exec (seen k number) pair x) (h v is))

    abbrev shown : DatabaseStatement → Event Reading
    shown x = executes number (Ok (statement.OnDatabase x))

    -- one of both: the event is an exception, or both answer and move alike
    abbrev pub StepIn : Reading → Type 0
    StepIn reading = T number m k (executes number reading) ⊎ Both (execute_in m number s reading) (execute_in k number s reading)

    module _ (there : session_of number m.sessions ≡ Some s) (on : m.stopped ≡ false) where
      there_k : session_of number k.sessions ≡ Some s
      there_k = sym st.session ∙ there

      on_running_k : k.stopped ≡ false
      on_running_k = sym st.stopped ∙ on

      -- ---- where it is not admitted, both refuse it

      abbrev Step : DatabaseStatement → Type 0
      Step x = StepIn (Ok (statement.OnDatabase x))

      not_admitted : (x : DatabaseStatement) → SameLock (statement.OnDatabase x) → (code : SqlState) → may_execute m number s (statement.OnDatabase x) ≡ Err code → Step x
      not_admitted x same code is = inr (database_both x same (λ v free. let contrary : ◌≡◌ {A = Result (Unit {0}) SqlState} (Err code) (Ok v) = sym is ∙ free in cc))

      -- ---- where it is admitted

      on_seen_m : IsSound (seen m number)
      on_seen_m = sound_seen number m.holder m.committed on_m.committed on_m.holder

      on_seen_k : IsSound (seen k number)
      on_seen_k = sound_seen number k.holder k.committed on_k.committed on_k.holder

      database_step : (x : DatabaseStatement) → SameLock (statement.OnDatabase x) → (r : Result (Unit {0}) SqlState) → may_execute m number s (statement.OnDatabase x) ≡ r → Step x
      database_step x same (Err code) is = not_admitted x same code is
      database_step x same (Ok v) is = elim (h.ends number s m k x (record {
        here = there;
        there = there_k;
        runs_here = on;
        runs_there = on_running_k;
        free = v;
        may_here = is;
        may_there = sym (may_alike (statement.OnDatabase x) same) ∙ is;
      }) st.seen on_seen_m on_seen_k (acts_of x v is)) [
        | inl tells ↦ inl tells
        | inr ends ↦ inr (database_both x same (λ u free. ends))
      ]

      pub step_in : (reading : Reading) → ((x : Statement) → reading ≡ Ok x → SameLock x) → ReadsWithin m s reading → StepIn reading
      step_in (Err code) same stays = inr (refused_both code)
      step_in (Ok (statement.OfSession x)) same stays = inr (of_session_both x stays)
      step_in (Ok (statement.OnDatabase x)) same stays = database_step x (same (statement.OnDatabase x) refl) (may_execute m number s (statement.OnDatabase x)) refl
