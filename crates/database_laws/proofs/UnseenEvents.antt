-- What an event leaves that changes rows only out of the sight of a login role.
use Rattle.std.proofs.Common.{◌≡◌, ◌==◌, ℕ, Bool, true, false, cond, Option, Some, None, Result, Ok, Err, refl, sym, ap, subst}
use Rattle.std.proofs.lemmas.Bool.{eq-eqb}
use Rattle.sql_types.specs.declared.state.SqlState.{SqlState}
use Rattle.sql_types.specs.declared.state.SqlState.TheVariants.{IoError}
use Rattle.sql_types.specs.declared.tag.Tag.{Tag}
use Rattle.sql_types.specs.declared.tag.Tag.TheVariants as tag
use Rattle.sql_ast.specs.declared.statement.Statement.{Statement}
use Rattle.sql_ast.specs.declared.statement.Statement.TheVariants as statement
use Rattle.sql_ast.specs.declared.statement.DatabaseStatement.TheVariants as on_database
use Rattle.sql_ast.specs.declared.statement.RowStatement.{RowStatement}
use Rattle.sql_ast.specs.declared.statement.SessionStatement.{SessionStatement}
use Rattle.sql_ast.specs.declared.statement.SessionStatement.TheVariants as of_session
use Rattle.expressions.specs.Stages.{◌>>=◌}
use Rattle.abstract_database.specs.Lists.{TheName}
use Rattle.abstract_database.specs.Database.{Database}
use Rattle.abstract_database.specs.Statements.{Effect, as_seen, exec, UserPair}
use Rattle.abstract_database.specs.Machine.{Block, Outside, Inside, Failed, Session, Event, opens, executes, closes, Reading, Machine, Holder, Transition, refuses, succeeds, transition_to, session_of, users_of, as_role, with_session_changed, released, seen_by, seen, open_session, close_session, after_refusal, transition_or_refusal, may_execute, begin, with_role_set, with_block_ended, commit, rollback, with_changes, applied, where_admitted, changes_rows, execute_of_session, execute_in, execute, running_transition}
use Rattle.abstract_database.proofs.ResultLemmas.{Every, every_bind, every_ok}
use Rattle.database_laws.specs.Invariants.{HoldsOfHolder, IsSound}
use Rattle.database_laws.specs.Sessions.{number_of}
use Rattle.database_laws.specs.HiddenRuns.{SameApparentRowsForPairs, AreSound}
use Rattle.database_laws.specs.OutOfSight.{IsOutOfSightOf, LooksCommitted, IsUnseenIn, IsUnseenReading, IsUnseen, unseen_events}
use Rattle.database_laws.proofs.MachineLemmas.{Same, opened_same}
use Rattle.database_laws.proofs.OutOfSight.{unseen_all}
use Rattle.database_laws.proofs.OthersLeftOut.{all_back}

-- ---- to look alike is an equivalence

module _ (pairs : UserPair → Bool) where
  pub all_same : (d : Database) → SameApparentRowsForPairs pairs d d
  all_same d = record { definitions = refl; rows = λ pair acts. record { definitions = refl; rows = λ t h. refl } }

  pub all_turned : (d a : Database) → SameApparentRowsForPairs pairs d a → SameApparentRowsForPairs pairs a d
  all_turned d a p = all_back pairs d a d p (all_same d)

  all_joined : (d a e : Database) → SameApparentRowsForPairs pairs d a → SameApparentRowsForPairs pairs a e → SameApparentRowsForPairs pairs d e
  all_joined d a e p q = all_back pairs a d e (all_turned d a p) q

-- ---- the writer lock

seen_after_release : (number : ℕ) (h : Option Holder) (db : Database) → seen_by number (released number h) db ≡ db
seen_after_release number None db = refl
seen_after_release number (Some h) db = by (h.session == number) refl where
  by : (b : Bool) → (h.session == number) ≡ b → seen_by number (cond b None (Some h)) db ≡ db
  by true e = refl
  by false e = ap (λ (c : Bool). cond c h.database db) e

sound_of_holder : (number : ℕ) (h : Option Holder) (db : Database) → IsSound db → HoldsOfHolder IsSound h → IsSound (seen_by number h db)
sound_of_holder number None db p q = p
sound_of_holder number (Some h) db p q = by (h.session == number) where
  by : (b : Bool) → IsSound (cond b h.database db)
  by true = q
  by false = p

-- ---- one event

module _ (pairs : UserPair → Bool) (m : Machine) (number : ℕ) (was : LooksCommitted pairs number m) where
  record Unseen (t : Transition) : Type 0 where
    committed : SameApparentRowsForPairs pairs m.committed t.machine.committed
    sees : LooksCommitted pairs number t.machine

  refused_unseen : (s : Session) (code : SqlState) (b : Block) → Unseen (refuses (after_refusal m number s b) code)
  refused_unseen s code Outside = record { committed = all_same pairs m.committed; sees = was }
  refused_unseen s code (Inside role) = record { committed = all_same pairs m.committed; sees = was }
  refused_unseen s code (Failed role) = record { committed = all_same pairs m.committed; sees = was }

  ended_unseen : (s : Session) (t : Tag) (db : Database) (role : TheName) → SameApparentRowsForPairs pairs m.committed db → Unseen (succeeds t (with_block_ended m number s db role))
  ended_unseen s t db role p = record {
    committed = p;
    sees = subst (λ (x : Database). SameApparentRowsForPairs pairs db x) (sym (seen_after_release number m.holder db)) (all_same pairs db);
  }

  commit_unseen : (s : Session) (b : Block) → Unseen (commit m number s b)
  commit_unseen s Outside = record { committed = all_same pairs m.committed; sees = was }
  commit_unseen s (Inside role) = ended_unseen s tag.Commit (seen m number) s.role was
  commit_unseen s (Failed role) = ended_unseen s tag.Rollback m.committed role (all_same pairs m.committed)

  rollback_unseen : (s : Session) (b : Block) → Unseen (rollback m number s b)
  rollback_unseen s Outside = record { committed = all_same pairs m.committed; sees = was }
  rollback_unseen s (Inside role) = ended_unseen s tag.Rollback m.committed role (all_same pairs m.committed)
  rollback_unseen s (Failed role) = ended_unseen s tag.Rollback m.committed role (all_same pairs m.committed)

  begin_unseen : (s : Session) (b : Block) → Unseen (begin m number s b)
  begin_unseen s Outside = record { committed = all_same pairs m.committed; sees = was }
  begin_unseen s (Inside role) = record { committed = all_same pairs m.committed; sees = was }
  begin_unseen s (Failed role) = record { committed = all_same pairs m.committed; sees = was }

  sees_written : (h : Option Holder) (db : Database) → SameApparentRowsForPairs pairs (seen_by number h m.committed) db → SameApparentRowsForPairs pairs db (seen_by number h db)
  sees_written None db p = all_same pairs db
  sees_written (Some h) db p = by (h.session == number) p where
    by : (b : Bool) → SameApparentRowsForPairs pairs (cond b h.database m.committed) db → SameApparentRowsForPairs pairs db (cond b h.database db)
    by true q = all_turned pairs h.database db q
    by false q = all_same pairs db

  written_unseen : (e : Effect) → SameApparentRowsForPairs pairs (seen m number) e.database → (b : Block) → Unseen (transition_to e.answer (with_changes m number b e.database))
  written_unseen e p Outside = record {
    committed = all_joined pairs m.committed (seen m number) e.database was p;
    sees = sees_written m.holder e.database p;
  }
  written_unseen e p (Inside role) = record {
    committed = all_same pairs m.committed;
    sees = subst (λ (c : Bool). SameApparentRowsForPairs pairs m.committed (cond c e.database m.committed)) (sym (eq-eqb number number refl)) (all_joined pairs m.committed (seen m number) e.database was p);
  }
  written_unseen e p (Failed role) = record { committed = all_same pairs m.committed; sees = was }

  applied_unseen : (s : Session) (writing : Bool) (e : Effect) → SameApparentRowsForPairs pairs (seen m number) e.database → Unseen (applied m number s writing e)
  applied_unseen s true e p = written_unseen e p s.block
  applied_unseen s false e p = record { committed = all_same pairs m.committed; sees = was }

  settled_unseen : (s : Session) (r : Result Transition SqlState) → Every Unseen r → Unseen (transition_or_refusal m number s r)
  settled_unseen s (Ok t) h = h t refl
  settled_unseen s (Err code) h = refused_unseen s code s.block

  admitted_unseen : (s : Session) (x : Statement) (does : Result Transition SqlState) → Every Unseen does → Unseen (where_admitted m number s x does)
  admitted_unseen s x does h = settled_unseen s (may_execute m number s x >>= λ free. does) (every_bind Unseen (may_execute m number s x) (λ free. does) (λ free is. h))

  of_session_unseen : (s : Session) (x : SessionStatement) → Unseen (execute_of_session m number s x)
  of_session_unseen s of_session.Commit = commit_unseen s s.block
  of_session_unseen s of_session.Rollback = rollback_unseen s s.block
  of_session_unseen s of_session.Begin = admitted_unseen s (statement.OfSession of_session.Begin) (Ok (begin m number s s.block)) (every_ok Unseen (begin m number s s.block) (begin_unseen s s.block))
  of_session_unseen s (of_session.SetRole x) = admitted_unseen s (statement.OfSession (of_session.SetRole x)) (with_role_set (seen m number) s x.role >>= λ changed. Ok (succeeds tag.Set (with_session_changed m number changed)))
      (every_bind Unseen (with_role_set (seen m number) s x.role) (λ changed. Ok (succeeds tag.Set (with_session_changed m number changed))) (λ changed is.
      every_ok Unseen (succeeds tag.Set (with_session_changed m number changed)) (record { committed = all_same pairs m.committed; sees = was })))
  of_session_unseen s of_session.ResetRole = admitted_unseen s (statement.OfSession of_session.ResetRole) (Ok (succeeds tag.Reset (with_session_changed m number (as_role s.login s))))
      (every_ok Unseen (succeeds tag.Reset (with_session_changed m number (as_role s.login s))) (record { committed = all_same pairs m.committed; sees = was }))

  module _ (on : AreSound m) where
    over_rows_unseen : (s : Session) (x : RowStatement) → IsOutOfSightOf pairs (seen m number) (as_seen (users_of s) (seen m number)) x → Unseen (execute_in m number s (Ok (statement.OnDatabase (on_database.OverRows x))))
    over_rows_unseen s x hides =
        let does = exec (seen m number) (users_of s) (on_database.OverRows x) in
        admitted_unseen s (statement.OnDatabase (on_database.OverRows x)) (does >>= λ e. Ok (applied m number s (changes_rows x) e))
        (every_bind Unseen does (λ e. Ok (applied m number s (changes_rows x) e)) (λ e is.
        every_ok Unseen (applied m number s (changes_rows x) e) (applied_unseen s (changes_rows x) e
        (unseen_all (users_of s) pairs (seen m number) x e (sound_of_holder number m.holder m.committed on.committed on.holder) hides is))))

    statement_unseen : (s : Session) (x : Statement) → IsUnseenIn pairs (seen m number) (users_of s) x → Unseen (execute_in m number s (Ok x))
    statement_unseen s (statement.OfSession x) h = of_session_unseen s x
    statement_unseen s (statement.OnDatabase (on_database.OverRows x)) h = over_rows_unseen s x h
    statement_unseen s (statement.OnDatabase (on_database.Defining x)) h = absurd h

    reading_unseen : (reading : Reading) → IsUnseenReading pairs m number reading → (s : Session) → session_of number m.sessions ≡ Some s → Unseen (execute_in m number s reading)
    reading_unseen (Ok x) h s there = statement_unseen s x (h s there)
    reading_unseen (Err code) h s there = refused_unseen s code s.block

    execute_unseen : (reading : Reading) → IsUnseenReading pairs m number reading → (o : Option Session) → session_of number m.sessions ≡ o → Unseen (execute m number reading o)
    execute_unseen reading h None there = record { committed = all_same pairs m.committed; sees = was }
    execute_unseen reading h (Some s) there = reading_unseen reading h s there

  close_unseen : (o : Option Session) → Unseen (close_session m number o)
  close_unseen None = record { committed = all_same pairs m.committed; sees = was }
  close_unseen (Some s) = record {
    committed = all_same pairs m.committed;
    sees = subst (λ (x : Database). SameApparentRowsForPairs pairs m.committed x) (sym (seen_after_release number m.holder m.committed)) (all_same pairs m.committed);
  }

  open_unseen : (l : TheName) → Unseen (open_session m number l)
  open_unseen l =
      let s : Same m (open_session m number l).machine = opened_same m number l in record {
        committed = subst (λ (x : Database). SameApparentRowsForPairs pairs m.committed x) (sym s.committed) (all_same pairs m.committed);
        sees = subst (λ (x : Database). SameApparentRowsForPairs pairs x (seen_by number (open_session m number l).machine.holder x)) (sym s.committed)
            (subst (λ (x : Option Holder). SameApparentRowsForPairs pairs m.committed (seen_by number x m.committed)) (sym s.holder) was);
      }

running_unseen : (pairs : UserPair → Bool) (m : Machine) (event : Event Reading) → AreSound m → (was : LooksCommitted pairs (number_of event) m) → IsUnseen pairs m event → Unseen pairs m (number_of event) was (running_transition m event)
running_unseen pairs m (opens n l) on was h = open_unseen pairs m n was l
running_unseen pairs m (executes n reading) on was h = execute_unseen pairs m n was on reading h (session_of n m.sessions) refl
running_unseen pairs m (closes n) on was h = close_unseen pairs m n was (session_of n m.sessions)

pub event_unseen : unseen_events
event_unseen pairs m event on was h = at m.stopped where
  at : (b : Bool) → SameApparentRowsForPairs pairs m.committed (cond b (refuses m IoError) (running_transition m event)).machine.committed × LooksCommitted pairs (number_of event) (cond b (refuses m IoError) (running_transition m event)).machine
  at true = (all_same pairs m.committed, was)
  at false = let u = running_unseen pairs m event on was h in (u.committed, u.sees)
