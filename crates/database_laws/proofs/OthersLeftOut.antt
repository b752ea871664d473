-- An event of another session, which changes only rows that are hidden from all that a session may act as.
use Rattle.std.proofs.Common.{◌≡◌, ◌==◌, ℕ, nat_eq, Bool, true, false, not, cond, Option, Some, None, Result, Ok, Err, refl, sym, ap, ◌∙◌, subst}
use Rattle.std.proofs.lemmas.Bool.{eqb-true, eq-eqb}
use Rattle.sql_types.specs.declared.state.SqlState.{SqlState}
use Rattle.sql_types.specs.declared.state.SqlState.TheVariants.{IoError}
use Rattle.sql_types.specs.declared.tag.Tag.TheVariants as tag
use Rattle.sql_ast.specs.declared.statement.Statement.{Statement}
use Rattle.sql_ast.specs.declared.statement.Statement.TheVariants as statement
use Rattle.sql_ast.specs.declared.statement.SessionStatement.{SessionStatement}
use Rattle.sql_ast.specs.declared.statement.SessionStatement.TheVariants as of_session
use Rattle.expressions.specs.Meaning.{UserNames}
use Rattle.expressions.specs.Stages.{◌>>=◌}
use Rattle.abstract_database.specs.Database.{Database}
use Rattle.abstract_database.specs.Statements.{Effect, as_seen, exec, UserPair}
use Rattle.abstract_database.specs.Machine.{Block, Outside, Inside, Failed, Session, Event, opens, executes, closes, Reading, Machine, Holder, Transition, refuses, succeeds, session_of, users_of, as_role, with_session_changed, is_held_by_other, released, seen_by, seen, open_session, close_session, after_refusal, transition_or_refusal, may_execute, begin, with_role_set, commit, rollback, applied, where_admitted, changes_database, execute_of_session, execute_in, execute, running_transition, transition}
use Rattle.abstract_database.proofs.ResultLemmas.{Every, every_bind, every_ok}
use Rattle.database_laws.specs.Sessions.{number_of}
use Rattle.database_laws.specs.Worlds.{SameApparentRows}
use Rattle.database_laws.specs.HiddenRuns.{SameApparentRowsForPairs, holds_lock, MachinesAlikeForSession, after}
use Rattle.database_laws.proofs.MachineLemmas.{Same, opened_same}
use Rattle.database_laws.proofs.LockLemmas.{transition_preserves}
use Rattle.database_laws.proofs.SessionLemmas.{others_stay}
use Rattle.database_laws.proofs.AlikeLemmas.{defined_alike}
use Rattle.database_laws.proofs.AllAlikeRows.{acts_before}
use Rattle.database_laws.proofs.AlikeRuns.{held_at}

-- ---- what an event makes of the writer lock

-- it stays, it is given up, or it is taken
pub data LockAfter (number : ℕ) (old : Option Holder) : Option Holder → Type 0 where
  kept : LockAfter number old old
  freed : LockAfter number old (released number old)
  taken : (db : Database) → LockAfter number old (Some (record { session = number; database = db }))

-- whether the machine has stopped does not change
pub record Turns (m : Machine) (number : ℕ) (t : Transition) : Type 0 where
  pub stopped : t.machine.stopped ≡ m.stopped
  pub lock : LockAfter number m.holder t.machine.holder

stays_so : (m : Machine) (number : ℕ) (t : Transition) → Same m t.machine → Turns m number t
stays_so m number t s = record { stopped = s.stopped; lock = subst (LockAfter number m.holder) (sym s.holder) kept }

module _ (m : Machine) (number : ℕ) where
  refused_turns : (s : Session) (code : SqlState) (b : Block) → Turns m number (refuses (after_refusal m number s b) code)
  refused_turns s code Outside = record { stopped = refl; lock = kept }
  refused_turns s code (Inside role) = record { stopped = refl; lock = kept }
  refused_turns s code (Failed role) = record { stopped = refl; lock = kept }

  commit_turns : (s : Session) (b : Block) → Turns m number (commit m number s b)
  commit_turns s Outside = record { stopped = refl; lock = kept }
  commit_turns s (Inside role) = record { stopped = refl; lock = freed }
  commit_turns s (Failed role) = record { stopped = refl; lock = freed }

  rollback_turns : (s : Session) (b : Block) → Turns m number (rollback m number s b)
  rollback_turns s Outside = record { stopped = refl; lock = kept }
  rollback_turns s (Inside role) = record { stopped = refl; lock = freed }
  rollback_turns s (Failed role) = record { stopped = refl; lock = freed }

  begin_turns : (s : Session) (b : Block) → Turns m number (begin m number s b)
  begin_turns s Outside = record { stopped = refl; lock = kept }
  begin_turns s (Inside role) = record { stopped = refl; lock = kept }
  begin_turns s (Failed role) = record { stopped = refl; lock = kept }

  applied_turns : (s : Session) (writing : Bool) (e : Effect) (b : Block) → s.block ≡ b → Turns m number (applied m number s writing e)
  applied_turns s false e b is = record { stopped = refl; lock = kept }
  applied_turns s true e b is = subst (λ (x : Block). Turns m number (applied m number (record s { block = x }) true e)) (sym is) (written b) where
    written : (x : Block) → Turns m number (applied m number (record s { block = x }) true e)
    written Outside = record { stopped = refl; lock = kept }
    written (Inside role) = record { stopped = refl; lock = taken e.database }
    written (Failed role) = record { stopped = refl; lock = kept }

  settled_turns : (s : Session) (r : Result Transition SqlState) → Every (Turns m number) r → Turns m number (transition_or_refusal m number s r)
  settled_turns s (Ok t) h = h t refl
  settled_turns s (Err code) h = refused_turns s code s.block

  admitted_turns : (s : Session) (x : Statement) (does : Result Transition SqlState) → Every (Turns m number) does → Turns m number (where_admitted m number s x does)
  admitted_turns s x does h = settled_turns s (may_execute m number s x >>= λ free. does) (every_bind (Turns m number) (may_execute m number s x) (λ free. does) (λ free is. h))

  of_session_turns : (s : Session) (x : SessionStatement) → Turns m number (execute_of_session m number s x)
  of_session_turns s of_session.Commit = commit_turns s s.block
  of_session_turns s of_session.Rollback = rollback_turns s s.block
  of_session_turns s of_session.Begin = admitted_turns s (statement.OfSession of_session.Begin) (Ok (begin m number s s.block)) (every_ok (Turns m number) (begin m number s s.block) (begin_turns s s.block))
  of_session_turns s (of_session.SetRole x) = admitted_turns s (statement.OfSession (of_session.SetRole x)) (with_role_set (seen m number) s x.role >>= λ changed. Ok (succeeds tag.Set (with_session_changed m number changed)))
      (every_bind (Turns m number) (with_role_set (seen m number) s x.role) (λ changed. Ok (succeeds tag.Set (with_session_changed m number changed))) (λ changed is.
      every_ok (Turns m number) (succeeds tag.Set (with_session_changed m number changed)) (record { stopped = refl; lock = kept })))
  of_session_turns s of_session.ResetRole = admitted_turns s (statement.OfSession of_session.ResetRole) (Ok (succeeds tag.Reset (with_session_changed m number (as_role s.login s))))
      (every_ok (Turns m number) (succeeds tag.Reset (with_session_changed m number (as_role s.login s))) (record { stopped = refl; lock = kept }))

  reading_turns : (s : Session) (reading : Reading) → Turns m number (execute_in m number s reading)
  reading_turns s (Err code) = refused_turns s code s.block
  reading_turns s (Ok (statement.OfSession x)) = of_session_turns s x
  reading_turns s (Ok (statement.OnDatabase x)) = admitted_turns s (statement.OnDatabase x) (exec (seen m number) (users_of s) x >>= λ e. Ok (applied m number s (changes_database x) e))
      (every_bind (Turns m number) (exec (seen m number) (users_of s) x) (λ e. Ok (applied m number s (changes_database x) e)) (λ e is.
      every_ok (Turns m number) (applied m number s (changes_database x) e) (applied_turns s (changes_database x) e s.block refl)))

  execute_turns : (reading : Reading) (o : Option Session) → Turns m number (execute m number reading o)
  execute_turns reading None = record { stopped = refl; lock = kept }
  execute_turns reading (Some s) = reading_turns s reading

  close_turns : (o : Option Session) → Turns m number (close_session m number o)
  close_turns None = record { stopped = refl; lock = kept }
  close_turns (Some s) = record { stopped = refl; lock = freed }

running_turns : (m : Machine) (event : Event Reading) → Turns m (number_of event) (running_transition m event)
running_turns m (opens n l) = stays_so m n (open_session m n l) (opened_same m n l)
running_turns m (executes n reading) = execute_turns m n reading (session_of n m.sessions)
running_turns m (closes n) = close_turns m n (session_of n m.sessions)

pub turns : (m : Machine) (event : Event Reading) → Turns m (number_of event) (transition m event)
turns m event = at m.stopped where
  at : (b : Bool) → Turns m (number_of event) (cond b (refuses m IoError) (running_transition m event))
  at true = record { stopped = refl; lock = kept }
  at false = running_turns m event

-- ---- an event of another session

not_both : (a b n : ℕ) → nat_eq a b ≡ false → (n == a) ≡ true → (n == b) ≡ false
not_both a b n apart own = subst (λ (x : ℕ). (x == b) ≡ false) (sym (eqb-true n a own)) apart

other_than : (number n : ℕ) → nat_eq number n ≡ false → (n == number) ≡ false
other_than number n apart = by (n == number) refl where
  by : (b : Bool) → (n == number) ≡ b → b ≡ false
  by false e = refl
  by true e = let contrary : true ≡ false = sym (eq-eqb number n (sym (eqb-true n number e))) ∙ apart in cc

-- where the session did not hold the writer lock, it does not after another's event
not_held_at : (number n : ℕ) (old new : Option Holder) → nat_eq number n ≡ false → holds_lock number old ≡ false → LockAfter n old new → holds_lock number new ≡ false
not_held_at number n old new apart free kept = free
not_held_at number n None new apart free freed = refl
not_held_at number n (Some h) new apart free freed = by (h.session == n) where
  by : (b : Bool) → holds_lock number (cond b None (Some h)) ≡ false
  by true = refl
  by false = free
not_held_at number n old new apart free (taken db) = other_than number n apart

seen_free : (number : ℕ) (h : Option Holder) (db : Database) → holds_lock number h ≡ false → seen_by number h db ≡ db
seen_free number None db e = refl
seen_free number (Some h) db e = held_at number h db false e

holder_is_other : (number n : ℕ) (h : Option Holder) → nat_eq number n ≡ false → holds_lock number h ≡ true → is_held_by_other n h ≡ true
holder_is_other number n None apart own = cc
holder_is_other number n (Some h) apart own = ap not (not_both number n h.session apart own)

-- ---- what looks like one looks like the other

look_back : (v : UserNames) (d a e : Database) → SameApparentRows v d a → SameApparentRows v d e → SameApparentRows v a e
look_back v d a e p q = record {
  definitions = sym p.definitions ∙ q.definitions;
  rows = λ t h. let named = defined_alike v d a p t.name ∙ h in sym (p.rows t named) ∙ q.rows t named;
}

pub all_back : (pairs : UserPair → Bool) (d a e : Database) → SameApparentRowsForPairs pairs d a → SameApparentRowsForPairs pairs d e → SameApparentRowsForPairs pairs a e
all_back pairs d a e p q = record {
  definitions = sym p.definitions ∙ q.definitions;
  rows = λ pair acts.
      let before = acts_before pairs d e q a (sym p.definitions) pair acts in
      subst (λ (u : UserNames). SameApparentRows u a e) (ap (λ (x : Database). as_seen pair x) p.definitions) (look_back (as_seen pair d) d a e (p.rows pair before) (q.rows pair before));
}

module _ (number : ℕ) (pairs : UserPair → Bool) (m k : Machine) (st : MachinesAlikeForSession number pairs m k) (event : Event Reading) (apart : nat_eq number (number_of event) ≡ false)
    (hides : SameApparentRowsForPairs pairs m.committed (after m event).committed) where
  committed_alike : SameApparentRowsForPairs pairs (after m event).committed k.committed
  committed_alike = all_back pairs m.committed (after m event).committed k.committed hides st.committed

  session_stays : session_of number (after m event).sessions ≡ session_of number m.sessions
  session_stays = others_stay m event number apart

  lock_and_seen : (b : Bool) → holds_lock number m.holder ≡ b → (holds_lock number (after m event).holder ≡ holds_lock number m.holder) × SameApparentRowsForPairs pairs (seen (after m event) number) (seen k number)
  lock_and_seen true own =
      let same = transition_preserves m event (holder_is_other number (number_of event) m.holder apart own) in (
        ap (holds_lock number) same.1,
        subst (λ (x : Database). SameApparentRowsForPairs pairs x (seen k number)) (sym (ap (λ (h : Option Holder). seen_by number h (after m event).committed) same.1 ∙ ap (seen_by number m.holder) same.0)) st.seen,
      )
  lock_and_seen false own =
      let free = not_held_at number (number_of event) m.holder (after m event).holder apart own (turns m event).lock in (
        free ∙ sym own,
        subst (λ (x : Database). SameApparentRowsForPairs pairs x (seen k number)) (sym (seen_free number (after m event).holder (after m event).committed free))
            (subst (λ (x : Database). SameApparentRowsForPairs pairs (after m event).committed x) (sym (seen_free number k.holder k.committed (sym st.lock ∙ own))) committed_alike),
      )

  pub alike_after_others : MachinesAlikeForSession number pairs (after m event) k
  alike_after_others =
      let places = lock_and_seen (holds_lock number m.holder) refl in
      record {
        session = session_stays ∙ st.session;
        opened_for = λ s h. st.opened_for s (sym session_stays ∙ h);
        stopped = (turns m event).stopped ∙ st.stopped;
        lock = places.0 ∙ st.lock;
        committed = committed_alike;
        seen = places.1;
      }
