-- When the committed database changes, and what the end of a block leaves.
use Rattle.std.proofs.Common.{◌≡◌, ◌⊎◌, ◌==◌, nat_eq, ℕ, Bool, true, false, not, cond, nat_le, length, is_some, List, [], ◌∷◌, Ok, Err, Option, Some, None, refl, sym, ap, ◌∙◌, subst, inl, inr}
use Rattle.std.proofs.lemmas.Bool.{eq-eqb}
use Rattle.sql_types.specs.declared.state.SqlState.{SqlState}
use Rattle.sql_types.specs.declared.state.SqlState.TheVariants.{InFailedTransaction, InvalidAuthorization, TooManyConnections, ConnectionNameInUse, IoError}
use Rattle.sql_types.specs.declared.tag.Tag.{Tag}
use Rattle.sql_types.specs.declared.tag.Tag.TheVariants as tag
use Rattle.sql_ast.specs.declared.statement.Statement.{Statement}
use Rattle.sql_ast.specs.declared.statement.Statement.TheVariants as statement
use Rattle.sql_ast.specs.declared.statement.DatabaseStatement.{DatabaseStatement}
use Rattle.sql_ast.specs.declared.statement.SessionStatement.TheVariants as of_session
use Rattle.expressions.specs.Stages.{◌>>=◌, require}
use Rattle.abstract_database.specs.Lists.{TheName}
use Rattle.abstract_database.specs.Database.{Database}
use Rattle.abstract_database.specs.Roles.{may_log_in}
use Rattle.abstract_database.specs.Statements.{Effect, exec}
use Rattle.abstract_database.specs.Machine.{client_of, own_sessions, Block, Outside, Inside, Failed, Session, Event, opens, executes, closes, Reading, Machine, Holder, Transition, refuses, succeeds, session_of, with_session, users_of, as_role, in_block, with_block_ended, with_session_changed, released, seen, close_session, after_refusal, refused, changes_database, has_failed, may_execute, begin, commit, rollback, with_changes, applied, execute_in, execute, running_transition, transition}
use Rattle.abstract_database.specs.Runs.{IsHeldBy}
use Rattle.abstract_database.proofs.ResultLemmas.{bind_ok, ok_inside, require_ok}
use Rattle.database_laws.specs.Blocks.{IsOpen, executed, IsRefused, IsCommittedBy, by_commit, by_statement, IsCommittedAt, IsWritten, HasEnded, writes_take_effect}
use Rattle.database_laws.proofs.BlockLemmas.{executed_in, Sort, commits, rolls_back, is_ordinary, sort_of, ordinary, Outcome, is_refused, is_performed, outcome, Performed, has_committed, has_rolled_back, has_begun, has_set, has_reset, has_worked, performed_as}

-- the committed database stays, or this statement brings it about
abbrev Stays : Machine → Transition → Type 0
Stays m t = t.machine.committed ≡ m.committed

module _ (m : Machine) (number : ℕ) (s : Session) where
  stays_as : (t u : Transition) → t ≡ u → Stays m u → Stays m t
  stays_as t u e h = ap (λ (x : Transition). x.machine.committed) e ∙ h

  refused_stays : (code : SqlState) (b : Block) → Stays m (refuses (after_refusal m number s b) code)
  refused_stays code Outside = refl
  refused_stays code (Inside role) = refl
  refused_stays code (Failed role) = refl

  begin_stays : (b : Block) → Stays m (begin m number s b)
  begin_stays Outside = refl
  begin_stays (Inside role) = refl
  begin_stays (Failed role) = refl

  rollback_stays : (b : Block) → Stays m (rollback m number s b)
  rollback_stays Outside = refl
  rollback_stays (Inside role) = refl
  rollback_stays (Failed role) = refl

  -- what a reading makes of the committed database
  abbrev Makes : Reading → Transition → Type 0
  Makes reading t = Stays m t ⊎ IsCommittedBy m number s t.machine.committed reading

  makes_as : (reading : Reading) (t u : Transition) → t ≡ u → Makes reading u → Makes reading t
  makes_as reading t u e h = subst (Makes reading) (sym e) h

  commit_makes : (b : Block) → s.block ≡ b → Makes (Ok (statement.OfSession of_session.Commit)) (commit m number s b)
  commit_makes Outside e = inl refl
  commit_makes (Inside role) e = inr (by_commit role e refl)
  commit_makes (Failed role) e = inl refl

  writing_makes : (x : DatabaseStatement) (e : Effect) → exec (seen m number) (users_of s) x ≡ Ok e → (w : Bool) → changes_database x ≡ w → (b : Block) → s.block ≡ b →
      (w ≡ true → ((with_changes m number b e.database).committed ≡ m.committed) ⊎ IsCommittedBy m number s (with_changes m number b e.database).committed (Ok (statement.OnDatabase x)))
  writing_makes x e is w at Outside b is_true = inr (by_statement x e b (at ∙ is_true) is refl)
  writing_makes x e is w at (Inside role) b is_true = inl refl
  writing_makes x e is w at (Failed role) b is_true = inl refl

  applied_makes : (x : DatabaseStatement) (e : Effect) → exec (seen m number) (users_of s) x ≡ Ok e → (w : Bool) → changes_database x ≡ w → Makes (Ok (statement.OnDatabase x)) (applied m number s w e)
  applied_makes x e is true at = writing_makes x e is true at s.block refl refl
  applied_makes x e is false at = inl refl

  performed_makes : (x : Statement) (t : Transition) → Performed m number s x t → Makes (Ok x) t
  performed_makes x t (has_committed is at) = subst (λ (y : Statement). Makes (Ok y) t) (sym is) (makes_as (Ok (statement.OfSession of_session.Commit)) t (commit m number s s.block) at (commit_makes s.block refl))
  performed_makes x t (has_rolled_back is at) = inl (stays_as t (rollback m number s s.block) at (rollback_stays s.block))
  performed_makes x t (has_begun is at) = inl (stays_as t (begin m number s s.block) at (begin_stays s.block))
  performed_makes x t (has_set r changed is ok at) = inl (stays_as t (succeeds tag.Set (with_session_changed m number changed)) at refl)
  performed_makes x t (has_reset is at) = inl (ap (λ (y : Transition). y.machine.committed) at)
  performed_makes x t (has_worked d e here is at) =
      subst (λ (y : Statement). Makes (Ok y) t) (sym here) (makes_as (Ok (statement.OnDatabase d)) t (applied m number s (changes_database d) e) at (applied_makes d e is (changes_database d) refl))

  outcome_makes : (x : Statement) (t : Transition) → Outcome m number s x t → Makes (Ok x) t
  outcome_makes x t (is_refused code at) = inl (stays_as t (refused m number s code) at (refused_stays code s.block))
  outcome_makes x t (is_performed u may does) = performed_makes x t (performed_as m number s x t does)

  statement_makes : (x : Statement) → Sort x → Makes (Ok x) (execute_in m number s (Ok x))
  statement_makes x (commits is) = subst (λ (y : Statement). Makes (Ok y) (execute_in m number s (Ok y))) (sym is) (commit_makes s.block refl)
  statement_makes x (rolls_back is) = inl (stays_as (execute_in m number s (Ok x)) (rollback m number s s.block) (ap (λ (y : Statement). execute_in m number s (Ok y)) is) (rollback_stays s.block))
  statement_makes x (is_ordinary at) = makes_as (Ok x) (execute_in m number s (Ok x)) (ordinary m number s x) (at m number s) (outcome_makes x (ordinary m number s x) (outcome m number s x))

  reading_makes : (reading : Reading) → Makes reading (execute_in m number s reading)
  reading_makes (Ok x) = statement_makes x (sort_of x)
  reading_makes (Err code) = inl (refused_stays code s.block)

execute_makes : (m : Machine) (number : ℕ) (reading : Reading) → m.stopped ≡ false → (there : Option Session) → session_of number m.sessions ≡ there →
    ((execute m number reading there).machine.committed ≡ m.committed) ⊎ IsCommittedAt m (executes number reading) (execute m number reading there).machine.committed
execute_makes m number reading k None at = inl refl
execute_makes m number reading k (Some s) at = elim (reading_makes m number s reading) [ inl e ↦ inl e | inr h ↦ inr (s, record { running = k; session = at }, h) ]

close_stays : (m : Machine) (number : ℕ) (there : Option Session) → Stays m (close_session m number there)
close_stays m number None = refl
close_stays m number (Some s) = refl

open_stays : (m : Machine) (number : ℕ) (login : TheName) (a b c : Bool) →
    Stays m (cond a (refuses m ConnectionNameInUse) (cond b (refuses m TooManyConnections) (cond c (succeeds tag.Open (with_session_changed m number (record { login = login; role = login; block = Outside }))) (refuses m InvalidAuthorization))))
open_stays m number login true b c = refl
open_stays m number login false true c = refl
open_stays m number login false false true = refl
open_stays m number login false false false = refl

running_makes : (m : Machine) (event : Event Reading) → m.stopped ≡ false → ((running_transition m event).machine.committed ≡ m.committed) ⊎ IsCommittedAt m event (running_transition m event).machine.committed
running_makes m (opens number login) k = inl (open_stays m number login (is_some (session_of number m.sessions)) (nat_le 256 (length (own_sessions (client_of number) m.sessions))) (may_log_in m.committed login))
running_makes m (executes number reading) k = execute_makes m number reading k (session_of number m.sessions) refl
running_makes m (closes number) k = inl (close_stays m number (session_of number m.sessions))

stopped_makes : (m : Machine) (event : Event Reading) (stopped : Bool) → m.stopped ≡ stopped →
    (let t = cond stopped (refuses m IoError) (running_transition m event) in (t.machine.committed ≡ m.committed) ⊎ IsCommittedAt m event t.machine.committed)
stopped_makes m event true k = inl refl
stopped_makes m event false k = running_makes m event k

pub committed_by : (m : Machine) (event : Event Reading) → ((transition m event).machine.committed ≡ m.committed) ⊎ IsCommittedAt m event (transition m event).machine.committed
committed_by m event = stopped_makes m event m.stopped refl

-- ---- what is written

module _ (m : Machine) (number : ℕ) (s : Session) (x : DatabaseStatement) (writes : changes_database x ≡ true) where
  -- the statement did what it says, and this is what came of it
  abbrev TakesEffect : Transition → Type 0
  TakesEffect t = (e : Effect) × (exec (seen m number) (users_of s) x ≡ Ok e) × (t.answer ≡ e.answer) × IsWritten m number s.block e.database t.machine

  unfailed : (u : Unit {0}) → may_execute m number s (statement.OnDatabase x) ≡ Ok u → not (has_failed s.block) ≡ true
  unfailed u e = let found = bind_ok (require (not (has_failed s.block)) InFailedTransaction) _ u e in require_ok (not (has_failed s.block)) InFailedTransaction found.0 found.1

  written_in : (b : Block) (db : Database) → not (has_failed b) ≡ true → IsWritten m number b db (with_changes m number b db)
  written_in Outside db e = refl
  written_in (Inside role) db e = (refl, refl)
  written_in (Failed role) db e = cc

  written : (e : Effect) → exec (seen m number) (users_of s) x ≡ Ok e → not (has_failed s.block) ≡ true → TakesEffect (applied m number s true e)
  written e is k = (e, is, refl, written_in s.block e.database k)

  worked_writes : (t : Transition) → (exec (seen m number) (users_of s) x >>= λ e. Ok (applied m number s (changes_database x) e)) ≡ Ok t → not (has_failed s.block) ≡ true → TakesEffect t
  worked_writes t h k =
      let found = bind_ok (exec (seen m number) (users_of s) x) (λ e. Ok (applied m number s (changes_database x) e)) t h in
      subst TakesEffect (ap (λ (w : Bool). applied m number s w found.0) (sym writes) ∙ ok_inside (applied m number s (changes_database x) found.0) t found.2) (written found.0 found.1 k)

  outcome_writes : (t : Transition) → Outcome m number s (statement.OnDatabase x) t → (IsRefused t → ⊥) → TakesEffect t
  outcome_writes t (is_refused code at) h = absurd (h (code, ap (λ (y : Transition). y.answer) at))
  outcome_writes t (is_performed u may does) h = worked_writes t does (unfailed u may)

  statement_writes : (IsRefused (execute_in m number s (Ok (statement.OnDatabase x))) → ⊥) → TakesEffect (execute_in m number s (Ok (statement.OnDatabase x)))
  statement_writes h = outcome_writes (ordinary m number s (statement.OnDatabase x)) (outcome m number s (statement.OnDatabase x)) h

pub takes_effect : writes_take_effect
takes_effect m number s x o w h =
    let same = executed_in m number s (Ok (statement.OnDatabase x)) o in
    subst (TakesEffect m number s x w) (sym same) (statement_writes m number s x w (λ r. h (subst IsRefused (sym same) r)))

-- ---- the end of a block

not_held_at : (number : ℕ) (h : Holder) (b : Bool) → (h.session == number) ≡ b → IsHeldBy number (cond b None (Some h)) → ⊥
not_held_at number h true e k = k
not_held_at number h false e k = let contrary : false ≡ true = sym e ∙ eq-eqb h.session number k in cc

not_held : (number : ℕ) (h : Option Holder) → IsHeldBy number (released number h) → ⊥
not_held number None k = k
not_held number (Some h) k = not_held_at number h (h.session == number) refl k

session_there_at : (number : ℕ) (e : ℕ × Session) (es : List (ℕ × Session)) (s : Session) (b : Bool) → nat_eq number e.0 ≡ b → session_of number (with_session es number s) ≡ Some s →
    session_of number (cond b ((e.0, s) ∷ es) (e ∷ with_session es number s)) ≡ Some s
session_there_at number e es s true is go = ap (λ (b : Bool). cond b (Some s) (session_of number es)) is
session_there_at number e es s false is go = ap (λ (b : Bool). cond b (Some e.1) (session_of number (with_session es number s))) is ∙ go

pub session_there : (sessions : List (ℕ × Session)) (number : ℕ) (s : Session) → session_of number (with_session sessions number s) ≡ Some s
session_there [] number s = ap (λ (b : Bool). cond {A = Option Session} b (Some s) None) (eq-eqb number number refl)
session_there (e ∷ es) number s = session_there_at number e es s (nat_eq number e.0) refl (session_there es number s)

module _ (m : Machine) (number : ℕ) (s : Session) where
  ended_with : (t : Tag) (db : Database) (role : TheName) → HasEnded number s t db role (succeeds t (with_block_ended m number s db role))
  ended_with t db role = record {
    answer = refl;
    committed = refl;
    lock = not_held number m.holder;
    session = session_there m.sessions number (in_block Outside (as_role role s));
  }

  ended_as : (t : Tag) (db : Database) (role : TheName) (u v : Transition) → u ≡ v → HasEnded number s t db role v → HasEnded number s t db role u
  ended_as t db role u v e h = subst (HasEnded number s t db role) (sym e) h

  committed_at : (b : Block) → s.block ≡ b → executed m number (Ok (statement.OfSession of_session.Commit)) ≡ execute_in m number s (Ok (statement.OfSession of_session.Commit)) → executed m number (Ok (statement.OfSession of_session.Commit)) ≡ commit m number s b
  committed_at b e o = o ∙ ap (commit m number s) e

  rolled_back_at : (b : Block) → s.block ≡ b → executed m number (Ok (statement.OfSession of_session.Rollback)) ≡ execute_in m number s (Ok (statement.OfSession of_session.Rollback)) → executed m number (Ok (statement.OfSession of_session.Rollback)) ≡ rollback m number s b
  rolled_back_at b e o = o ∙ ap (rollback m number s) e

  pub commits_block : (role : TheName) → IsOpen m number s → s.block ≡ Inside role → HasEnded number s tag.Commit (seen m number) s.role (executed m number (Ok (statement.OfSession of_session.Commit)))
  commits_block role o b = ended_as tag.Commit (seen m number) s.role _ _ (committed_at (Inside role) b (executed_in m number s (Ok (statement.OfSession of_session.Commit)) o)) (ended_with tag.Commit (seen m number) s.role)

  pub commits_failed : (role : TheName) → IsOpen m number s → s.block ≡ Failed role → HasEnded number s tag.Rollback m.committed role (executed m number (Ok (statement.OfSession of_session.Commit)))
  commits_failed role o b = ended_as tag.Rollback m.committed role _ _ (committed_at (Failed role) b (executed_in m number s (Ok (statement.OfSession of_session.Commit)) o)) (ended_with tag.Rollback m.committed role)

  pub rolls_block_back : (role : TheName) → IsOpen m number s → (s.block ≡ Inside role) ⊎ (s.block ≡ Failed role) → HasEnded number s tag.Rollback m.committed role (executed m number (Ok (statement.OfSession of_session.Rollback)))
  rolls_block_back role o (inl b) = ended_as tag.Rollback m.committed role _ _ (rolled_back_at (Inside role) b (executed_in m number s (Ok (statement.OfSession of_session.Rollback)) o)) (ended_with tag.Rollback m.committed role)
  rolls_block_back role o (inr b) = ended_as tag.Rollback m.committed role _ _ (rolled_back_at (Failed role) b (executed_in m number s (Ok (statement.OfSession of_session.Rollback)) o)) (ended_with tag.Rollback m.committed role)
