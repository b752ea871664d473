-- What an event leaves of the sessions.
use Rattle.std.proofs.Common.{◌≡◌, ◌∙◌, ℕ, nat_eq, nat_le, length, is_some, cond, Bool, true, false, List, [], ◌∷◌, Option, Some, None, Ok, Err, refl, sym, ap, subst, inl, inr}
use Rattle.std.proofs.lemmas.Bool.{eqb-true}
use Rattle.sql_types.specs.declared.state.SqlState.{SqlState}
use Rattle.sql_types.specs.declared.state.SqlState.TheVariants.{UndefinedObject, InsufficientPrivilege, InvalidAuthorization, TooManyConnections, ConnectionNameInUse, IoError}
use Rattle.sql_types.specs.declared.tag.Tag.TheVariants as tag
use Rattle.sql_ast.specs.declared.statement.Statement.{Statement}
use Rattle.expressions.specs.Stages.{require}
use Rattle.abstract_database.specs.Lists.{TheName}
use Rattle.abstract_database.specs.Database.{Database, has_role}
use Rattle.abstract_database.specs.Roles.{may_log_in, may_set_role}
use Rattle.abstract_database.specs.Statements.{Effect}
use Rattle.abstract_database.specs.Machine.{client_of, own_sessions, Block, Outside, Inside, Failed, Session, Event, opens, executes, closes, Reading, Machine, Transition, refuses, succeeds, session_of, with_session, without_session, in_block, as_role, with_session_changed, seen, close_session, after_refusal, changes_database, begin, with_role_set, commit, rollback, with_changes, applied, execute_in, execute, running_transition}
use Rattle.abstract_database.proofs.ResultLemmas.{ok_inside, bind_ok}
use Rattle.database_laws.specs.Sessions.{number_of, IsFollowedBy, other_sessions_stay, blocks_keep_their_role}
use Rattle.database_laws.proofs.BlockLemmas.{executed_in, Sort, commits, rolls_back, is_ordinary, sort_of, ordinary, Outcome, is_refused, is_performed, outcome, Performed, has_committed, has_rolled_back, has_begun, has_set, has_reset, has_worked, performed_as}
use Rattle.database_laws.proofs.CommitLemmas.{session_there}

-- ---- lists of sessions

module _ (number other : ℕ) (apart : nat_eq other number ≡ false) where
  not_there : (n : ℕ) → nat_eq number n ≡ true → nat_eq other n ≡ false
  not_there n e = subst (λ k. nat_eq other k ≡ false) (eqb-true number n e) apart

  beside_at : (e : ℕ × Session) (es : List (ℕ × Session)) (s : Session) (b : Bool) → nat_eq number e.0 ≡ b → session_of other (with_session es number s) ≡ session_of other es →
      session_of other (cond b ((e.0, s) ∷ es) (e ∷ with_session es number s)) ≡ session_of other (e ∷ es)
  beside_at e es s true is go =
      ap (λ (b : Bool). cond b (Some s) (session_of other es)) (not_there e.0 is)
      ∙ sym (ap (λ (b : Bool). cond b (Some e.1) (session_of other es)) (not_there e.0 is))
  beside_at e es s false is go = ap (λ (o : Option Session). cond (nat_eq other e.0) (Some e.1) o) go

  beside : (es : List (ℕ × Session)) (s : Session) → session_of other (with_session es number s) ≡ session_of other es
  beside [] s = ap (λ (b : Bool). cond {A = Option Session} b (Some s) None) apart
  beside (e ∷ es) s = beside_at e es s (nat_eq number e.0) refl (beside es s)

  without_at : (e : ℕ × Session) (es : List (ℕ × Session)) (b : Bool) → nat_eq number e.0 ≡ b → session_of other (without_session number es) ≡ session_of other es →
      session_of other (cond b es (e ∷ without_session number es)) ≡ session_of other (e ∷ es)
  without_at e es true is go = sym (ap (λ (b : Bool). cond b (Some e.1) (session_of other es)) (not_there e.0 is))
  without_at e es false is go = ap (λ (o : Option Session). cond (nat_eq other e.0) (Some e.1) o) go

  without : (es : List (ℕ × Session)) → session_of other (without_session number es) ≡ session_of other es
  without [] = refl
  without (e ∷ es) = without_at e es (nat_eq number e.0) refl (without es)

-- ---- a statement of an open session

some_same : (a b : Session) → ◌≡◌ {A = Option Session} (Some a) (Some b) → a ≡ b
some_same a b e = cc

-- the sessions stay, or this one is followed by another state of it
pub data SessionsAfter (m : Machine) (number : ℕ) (s : Session) (t : Transition) : Type 0 where
  all_stay : t.machine.sessions ≡ m.sessions → SessionsAfter m number s t
  one_changes : (changed : Session) → changed.login ≡ s.login → IsFollowedBy s.block changed.block → t.machine.sessions ≡ with_session m.sessions number changed → SessionsAfter m number s t

-- a block stays as it is
same_block : (b : Block) → IsFollowedBy b b
same_block Outside = tt
same_block (Inside role) = inr (inl refl)
same_block (Failed role) = inr refl

-- it ends
ended_block : (b : Block) → IsFollowedBy b Outside
ended_block Outside = tt
ended_block (Inside role) = inl refl
ended_block (Failed role) = inl refl

module _ (m : Machine) (number : ℕ) (s : Session) where
  abbrev After : Transition → Type 0
  After t = SessionsAfter m number s t

  after_refused : (code : SqlState) (b : Block) → s.block ≡ b → After (refuses (after_refusal m number s b) code)
  after_refused code Outside e = all_stay refl
  after_refused code (Inside role) e = one_changes (in_block (Failed role) s) refl (subst (λ b. IsFollowedBy b (Failed role)) (sym e) (inr (inr refl))) refl
  after_refused code (Failed role) e = all_stay refl

  after_begin : (b : Block) → s.block ≡ b → After (begin m number s b)
  after_begin Outside e = one_changes (in_block (Inside s.role) s) refl (subst (λ b. IsFollowedBy b (Inside s.role)) (sym e) tt) refl
  after_begin (Inside role) e = all_stay refl
  after_begin (Failed role) e = all_stay refl

  after_commit : (b : Block) → After (commit m number s b)
  after_commit Outside = all_stay refl
  after_commit (Inside role) = one_changes (in_block Outside (as_role s.role s)) refl (ended_block s.block) refl
  after_commit (Failed role) = one_changes (in_block Outside (as_role role s)) refl (ended_block s.block) refl

  after_rollback : (b : Block) → After (rollback m number s b)
  after_rollback Outside = all_stay refl
  after_rollback (Inside role) = one_changes (in_block Outside (as_role role s)) refl (ended_block s.block) refl
  after_rollback (Failed role) = one_changes (in_block Outside (as_role role s)) refl (ended_block s.block) refl

  sessions_with : (b : Block) (db : Database) → (with_changes m number b db).sessions ≡ m.sessions
  sessions_with Outside db = refl
  sessions_with (Inside role) db = refl
  sessions_with (Failed role) db = refl

  after_applied : (writes : Bool) (e : Effect) → After (applied m number s writes e)
  after_applied true e = all_stay (sessions_with s.block e.database)
  after_applied false e = all_stay refl

  as_role_kept : (role : TheName) (changed : Session) → as_role role s ≡ changed → (changed.login ≡ s.login) × (changed.block ≡ s.block)
  as_role_kept role changed is = (ap (λ (x : Session). x.login) (sym is), ap (λ (x : Session). x.block) (sym is))

  role_kept : (db : Database) (role : Option TheName) (changed : Session) → with_role_set db s role ≡ Ok changed → (changed.login ≡ s.login) × (changed.block ≡ s.block)
  role_kept db None changed e = as_role_kept s.login changed (ok_inside (as_role s.login s) changed e)
  role_kept db (Some role) changed e =
      let named = bind_ok (require (has_role db role) UndefinedObject) _ changed e in
      let allowed = bind_ok (require (may_set_role db s.login role) InsufficientPrivilege) _ changed named.2 in
      as_role_kept role changed (ok_inside (as_role role s) changed allowed.2)

  after_performed : (x : Statement) (t : Transition) → Performed m number s x t → After t
  after_performed x t (has_committed is at) = subst After (sym at) (after_commit s.block)
  after_performed x t (has_rolled_back is at) = subst After (sym at) (after_rollback s.block)
  after_performed x t (has_begun is at) = subst After (sym at) (after_begin s.block refl)
  after_performed x t (has_set r changed is ok at) =
      let kept = role_kept (seen m number) r.role changed ok in
      subst After (sym at) (one_changes changed kept.0 (subst (IsFollowedBy s.block) (sym kept.1) (same_block s.block)) refl)
  after_performed x t (has_reset is at) = subst After (sym at) (one_changes (as_role s.login s) refl (same_block s.block) refl)
  after_performed x t (has_worked d e here is at) = subst After (sym at) (after_applied (changes_database d) e)

  after_outcome : (x : Statement) (t : Transition) → Outcome m number s x t → After t
  after_outcome x t (is_refused code at) = subst After (sym at) (after_refused code s.block refl)
  after_outcome x t (is_performed u may does) = after_performed x t (performed_as m number s x t does)

  after_sort : (x : Statement) → Sort x → After (execute_in m number s (Ok x))
  after_sort x (commits is) = subst (λ y. After (execute_in m number s (Ok y))) (sym is) (after_commit s.block)
  after_sort x (rolls_back is) = subst (λ y. After (execute_in m number s (Ok y))) (sym is) (after_rollback s.block)
  after_sort x (is_ordinary at) = subst After (sym (at m number s)) (after_outcome x (ordinary m number s x) (outcome m number s x))

  pub after_reading : (reading : Reading) → After (execute_in m number s reading)
  after_reading (Err code) = after_refused code s.block refl
  after_reading (Ok x) = after_sort x (sort_of x)

  -- the session itself after it
  own_after : (t : Transition) (after : Session) → After t → session_of number m.sessions ≡ Some s → session_of number t.machine.sessions ≡ Some after → (after.login ≡ s.login) × IsFollowedBy s.block after.block
  own_after t after (all_stay is) was now =
      let same = some_same s after (sym was ∙ ap (session_of number) (sym is) ∙ now) in
      subst (λ (x : Session). (x.login ≡ s.login) × IsFollowedBy s.block x.block) same (refl, same_block s.block)
  own_after t after (one_changes changed login block is) was now =
      let same = some_same changed after (sym (session_there m.sessions number changed) ∙ ap (session_of number) (sym is) ∙ now) in
      subst (λ (x : Session). (x.login ≡ s.login) × IsFollowedBy s.block x.block) same (login, block)

  -- and another one
  other_after : (t : Transition) (other : ℕ) → nat_eq other number ≡ false → After t → session_of other t.machine.sessions ≡ session_of other m.sessions
  other_after t other apart (all_stay is) = ap (session_of other) is
  other_after t other apart (one_changes changed login block is) = ap (session_of other) is ∙ beside number other apart m.sessions changed

pub own_stays : blocks_keep_their_role
own_stays m number s after reading o now =
    let same = executed_in m number s reading o in
    own_after m number s (execute_in m number s reading) after (after_reading m number s reading) o.session (ap (λ (t : Transition). session_of number t.machine.sessions) (sym same) ∙ now)

-- ---- each event

module _ (m : Machine) (other : ℕ) where
  abbrev Stays : Transition → Type 0
  Stays t = session_of other t.machine.sessions ≡ session_of other m.sessions

  open_stays : (number : ℕ) → nat_eq other number ≡ false → (login : TheName) (a b c : Bool) →
      Stays (cond a (refuses m ConnectionNameInUse) (cond b (refuses m TooManyConnections) (cond c (succeeds tag.Open (with_session_changed m number (record { login = login; role = login; block = Outside }))) (refuses m InvalidAuthorization))))
  open_stays number apart login true b c = refl
  open_stays number apart login false true c = refl
  open_stays number apart login false false true = beside number other apart m.sessions (record { login = login; role = login; block = Outside })
  open_stays number apart login false false false = refl

  close_stays : (number : ℕ) → nat_eq other number ≡ false → (s : Option Session) → Stays (close_session m number s)
  close_stays number apart None = refl
  close_stays number apart (Some s) = without number other apart m.sessions

  execute_stays : (number : ℕ) → nat_eq other number ≡ false → (reading : Reading) (s : Option Session) → Stays (execute m number reading s)
  execute_stays number apart reading None = refl
  execute_stays number apart reading (Some s) = other_after m number s (execute_in m number s reading) other apart (after_reading m number s reading)

  running_stays : (event : Event Reading) → nat_eq other (number_of event) ≡ false → Stays (running_transition m event)
  running_stays (opens number login) apart = open_stays number apart login (is_some (session_of number m.sessions)) (nat_le 256 (length (own_sessions (client_of number) m.sessions))) (may_log_in m.committed login)
  running_stays (executes number reading) apart = execute_stays number apart reading (session_of number m.sessions)
  running_stays (closes number) apart = close_stays number apart (session_of number m.sessions)

  stopped_stays : (event : Event Reading) → nat_eq other (number_of event) ≡ false → (stopped : Bool) → Stays (cond stopped (refuses m IoError) (running_transition m event))
  stopped_stays event apart true = refl
  stopped_stays event apart false = running_stays event apart

pub others_stay : other_sessions_stay
others_stay m event other apart = stopped_stays m other event apart m.stopped
