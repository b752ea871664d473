-- What the decisions of refusals, of blocks and of the end of a session make of the machine.
use Rattle.std.proofs.Common.{◌≡◌, ℕ, true, false, is_some, Option, Some, None, refl}
use Rattle.std.proofs.lemmas.Bool.{eqb-true}
use Rattle.sql_types.specs.declared.state.SqlState.{SqlState}
use Rattle.sql_types.specs.declared.answer.Answer.TheVariants as answer
use Rattle.sql_types.specs.declared.tag.Tag.TheVariants as tag
use Rattle.sql_ast.specs.declared.statement.Statement.TheVariants as statement
use Rattle.sql_ast.specs.declared.statement.SessionStatement.TheVariants as of_session
use Rattle.store.specs.Records.{Records}
use Rattle.abstract_database.specs.Lists.{TheName}
use Rattle.abstract_database.specs.Database.{Database}
use Rattle.abstract_database.specs.Machine.{closes, Holder, Block, Outside, Inside, Failed, Session, Machine, Transition, session_of, in_block, as_role, refused, begin, commit, rollback, succeeds, with_block_ended}
use Rattle.abstract_database.specs.Runs.{CommitsAt}
use Rattle.stored_database.specs.Definitions.{Definitions}
use Rattle.server.specs.declared.decision.Decision.{Decision}
use Rattle.server.specs.declared.decision.Decision.TheVariants as decision
use Rattle.server.specs.declared.decision.SessionChange.TheVariants as change
use Rattle.server.specs.declared.session.BlockChange.TheVariants.{Fail, Leave, RollBack}
use Rattle.server.specs.declared.writer.Writer.{Writer}
use Rattle.server.specs.Session.{changed_in}
use Rattle.server.specs.Standing.{HolderShows, HoldsInBlock}
use Rattle.server.specs.Decisions.{Entries, machine_at, Decides}
use Rattle.sessions.specs.Writers.{is_lock_of}
use Rattle.sessions.specs.Decisions.{Makes, Serves, Always, Never, IsBlockOf, NoText}
use Rattle.sessions.proofs.Sessions.{holds_with, other_holds_with, other_holds_without, other_sees, holder_is_other, holder_is_this}

-- ---- refusals

-- a refusal in a block makes it failed
pub fail_serves : (writer : Option Writer) (number : ℕ) (s : Session) (role : TheName) (code : SqlState) → s.block ≡ Inside role
    → Serves writer number s Always Never (λ m. refused m number s code) (decision.Answer (answer.Refused code) (change.Block number Fail))
fail_serves writer number s role code inside records d db holder sessions shows holds found given =
    rw (found, inside) (tt, holds_with holder sessions number (in_block (Failed role) s) (λ e. cc) holds, refl)

-- ---- BEGIN

pub begin_serves : (writer : Option Writer) (number : ℕ) (s changed : Session) → s.block ≡ Outside → changed ≡ in_block (Inside s.role) s
    → Serves writer number s Always Never (λ m. begin m number s s.block) (decision.Answer (answer.Done tag.Begin None None) (change.Put number changed))
begin_serves writer number s changed outside is records d db holder sessions shows holds found given =
    rw (found, outside, is) (refl, holds_with holder sessions number (in_block (Inside s.role) s) (λ e. cc) holds, refl)

-- ---- COMMIT

-- of a session that holds nothing
pub leave_serves : (writer : Option Writer) (number : ℕ) (s : Session) (role : TheName) → s.block ≡ Inside role → is_lock_of number writer ≡ false
    → Serves writer number s Always (λ m. CommitsAt m number s.block (statement.OfSession of_session.Commit)) (λ m. commit m number s s.block)
    (decision.Answer (answer.Done tag.Commit None None) (change.Block number Leave))
leave_serves writer number s role inside free records d db holder sessions shows holds found given =
    let other = holder_is_other records d writer holder number free shows in
    rw (found, inside) (tt, other_holds_with holder sessions number (in_block Outside s) other holds, rw (other, other_sees holder number db other) refl)

-- of the session that holds the writer lock
pub commit_lock_serves : (writer : Option Writer) (number : ℕ) (s : Session) (role : TheName) → s.block ≡ Inside role → is_lock_of number writer ≡ true
    → Serves writer number s Always (λ m. CommitsAt m number s.block (statement.OfSession of_session.Commit)) (λ m. commit m number s s.block)
    (decision.CommitWriter (answer.Done tag.Commit None None) (change.Block number Leave))
commit_lock_serves writer number s role inside held records d db holder sessions shows holds found given =
    let this = holder_is_this records d writer holder number held shows in
    rw (found, inside, this.1) (this.0, refl, tt, (refl, eqb-true this.0.session number this.2), rw this.2 refl)

-- ---- ROLLBACK

-- the block ends with the role of its BEGIN
after_roll_back : (s : Session) (block : Block) (role : TheName) → IsBlockOf role block → changed_in RollBack s block ≡ in_block Outside (as_role role s)
after_roll_back s Outside role is = absurd is
after_roll_back s (Inside before) role is = rw is refl
after_roll_back s (Failed before) role is = rw is refl

-- of a session that holds nothing
pub end_serves : (writer : Option Writer) (number : ℕ) (s : Session) (role : TheName) → IsBlockOf role s.block → is_lock_of number writer ≡ false
    → Serves writer number s Always Never (λ m. succeeds tag.Rollback (with_block_ended m number s m.committed role))
    (decision.Answer (answer.Done tag.Rollback None None) (change.Block number RollBack))
end_serves writer number s role is free records d db holder sessions shows holds found given =
    let other = holder_is_other records d writer holder number free shows in
    rw (found, after_roll_back s s.block role is) (tt, other_holds_with holder sessions number (in_block Outside (as_role role s)) other holds, rw other refl)

-- of the session that holds the writer lock
pub release_serves : (writer : Option Writer) (number : ℕ) (s : Session) (role : TheName) → IsBlockOf role s.block → is_lock_of number writer ≡ true
    → Serves writer number s Always Never (λ m. succeeds tag.Rollback (with_block_ended m number s m.committed role))
    (decision.Release (answer.Done tag.Rollback None None) (change.Block number RollBack))
release_serves writer number s role is held records d db holder sessions shows holds found given =
    let this = holder_is_this records d writer holder number held shows in
    rw (found, after_roll_back s s.block role is, this.1) (tt, rw this.2 refl)

-- a decision that commits nothing may be done where there may be a commit
makes_where_never : (records : Records) (d : Definitions) (writer : Option Writer) (db : Database) (holder : Option Holder) (sessions : Entries) (MayCommit : Type 0) (t : Transition) (what : Decision)
    → Makes records d writer db holder sessions ⊥ t what → Makes records d writer db holder sessions MayCommit t what
makes_where_never records d writer db holder sessions MayCommit t (decision.Answer a c) makes = makes
makes_where_never records d writer db holder sessions MayCommit t (decision.Open a n s) makes = makes
makes_where_never records d writer db holder sessions MayCommit t (decision.Release a c) makes = makes
makes_where_never records d writer db holder sessions MayCommit t (decision.Commit made) makes = absurd makes.3
makes_where_never records d writer db holder sessions MayCommit t (decision.Hold n made) makes = makes
makes_where_never records d writer db holder sessions MayCommit t (decision.CommitWriter a c) makes = absurd makes.3

-- COMMIT of a failed block acts as ROLLBACK
pub failed_commit_serves : (writer : Option Writer) (number : ℕ) (s : Session) (role : TheName) (what : Decision) → s.block ≡ Failed role
    → Serves writer number s Always Never (λ m. succeeds tag.Rollback (with_block_ended m number s m.committed role)) what
    → Serves writer number s Always (λ m. CommitsAt m number s.block (statement.OfSession of_session.Commit)) (λ m. commit m number s s.block) what
failed_commit_serves writer number s role what failed serves records d db holder sessions shows holds found given =
    rw failed (makes_where_never records d writer db holder sessions _ _ what (serves records d db holder sessions shows holds found given))

rolled_back : (m : Machine) (number : ℕ) (s : Session) (block : Block) (role : TheName) → IsBlockOf role block
    → rollback m number s block ≡ succeeds tag.Rollback (with_block_ended m number s m.committed role)
rolled_back m number s Outside role is = absurd is
rolled_back m number s (Inside before) role is = rw is refl
rolled_back m number s (Failed before) role is = rw is refl

-- ROLLBACK of either block
pub roll_back_serves : (writer : Option Writer) (number : ℕ) (s : Session) (role : TheName) (what : Decision) → IsBlockOf role s.block
    → Serves writer number s Always Never (λ m. succeeds tag.Rollback (with_block_ended m number s m.committed role)) what
    → Serves writer number s Always Never (λ m. rollback m number s s.block) what
roll_back_serves writer number s role what is serves records d db holder sessions shows holds found given =
    rw (rolled_back (machine_at db holder sessions) number s s.block role is) (serves records d db holder sessions shows holds found given)

-- ---- the end of a session

-- an open session
open_one : (x : Option Session) → is_some x ≡ true → (s : Session) × (x ≡ Some s)
open_one None is = let wrong : false ≡ true = is in cc
open_one (Some s) is = (s, refl)

-- that holds nothing
pub close_decides : (records : Records) (d : Definitions) (writer : Option Writer) (db : Database) (holder : Option Holder) (sessions : Entries) (number : ℕ)
    → is_some (session_of number sessions) ≡ true → is_lock_of number writer ≡ false → HolderShows records d writer holder → HoldsInBlock holder sessions
    → Decides NoText records d writer db holder sessions (closes number) (decision.Answer (answer.Done tag.Close None None) (change.Close number))
close_decides records d writer db holder sessions number open_there free shows holds =
    let found = (open_one (session_of number sessions) open_there).1 in
    let other = holder_is_other records d writer holder number free shows in
    (tt, other_holds_without holder sessions number other holds, record { as_read = closes number; read = refl; is = rw (found, other) refl })

-- that holds the writer lock
pub close_releases : (records : Records) (d : Definitions) (writer : Option Writer) (db : Database) (holder : Option Holder) (sessions : Entries) (number : ℕ)
    → is_some (session_of number sessions) ≡ true → is_lock_of number writer ≡ true → HolderShows records d writer holder
    → Decides NoText records d writer db holder sessions (closes number) (decision.Release (answer.Done tag.Close None None) (change.Close number))
close_releases records d writer db holder sessions number open_there held shows =
    let found = (open_one (session_of number sessions) open_there).1 in
    let this = holder_is_this records d writer holder number held shows in
    (tt, record { as_read = closes number; read = refl; is = rw (found, this.1) (rw this.2 refl) })
