-- Events that two machines refuse alike, and what a machine refuses for want of a store.
use Rattle.std.proofs.Common.{◌≡◌, ◌⊎◌, ◌&&◌, ℕ, nat_le, nat_eq, not, Bool, true, false, cond, length, is_some, slice_get, List, [], ◌∷◌, Option, Some, None, IsSome, Result, Ok, Err, refl, sym, ap, ◌∙◌, subst, inl, inr}
use Rattle.std.proofs.lemmas.Bool.{eqb-true, eq-eqb}
use Rattle.std.proofs.lemmas.Option.{same_Some}
use Rattle.sql_types.specs.declared.state.SqlState.{SqlState}
use Rattle.sql_types.specs.declared.state.SqlState.TheVariants.{SyntaxError, NameTooLong, UndefinedTable, UndefinedColumn, AmbiguousColumn, DuplicateAlias, UndefinedObject, DuplicateTable, DuplicateObject, DuplicateColumn, DatatypeMismatch, InsufficientPrivilege, InvalidGrantOperation, DependentPrivileges, DependentObjects, DivisionByZero, NumericValueOutOfRange, NotNullViolation, UniqueViolation, InFailedTransaction, LockNotAvailable, InvalidAuthorization, ProgramLimitExceeded, TooManyConnections, DiskFull, OutOfMemory, IoError, ProtocolViolation, ConnectionDoesNotExist, ConnectionNameInUse}
use Rattle.sql_types.specs.declared.answer.Answer.{Answer}
use Rattle.sql_types.specs.declared.answer.Answer.TheVariants as answer
use Rattle.sql_types.specs.declared.tag.Tag.TheVariants as tag
use Rattle.sql_ast.specs.declared.statement.Statement.TheVariants as statement
use Rattle.sql_ast.specs.declared.statement.DatabaseStatement.{DatabaseStatement}
use Rattle.sql_ast.specs.declared.statement.SessionStatement.{SessionStatement}
use Rattle.sql_ast.specs.declared.statement.SessionStatement.TheVariants as of_session
use Rattle.expressions.specs.Stages.{◌>>=◌, require}
use Rattle.abstract_database.specs.Lists.{TheName}
use Rattle.abstract_database.specs.Database.{has_role}
use Rattle.abstract_database.specs.Roles.{may_log_in, may_set_role}
use Rattle.abstract_database.specs.Statements.{Effect, UserPair, exec}
use Rattle.abstract_database.specs.Machine.{client_of, own_sessions, Block, Outside, Inside, Failed, Session, Event, opens, executes, closes, Reading, Machine, Transition, refuses, succeeds, session_of, users_of, in_block, with_session_changed, is_held_by_other, seen, close_session, transition_or_refusal, changes_database, is_writing, has_failed, keeps_role, begin, with_role_set, commit, rollback, applied, execute_of_session, execute_in, execute, running_transition, transition}
use Rattle.database_laws.specs.Blocks.{IsOpen, IsRefused, IsInBlock}
use Rattle.database_laws.specs.Codes.{is_of_statements, is_of_stores, IsReadAsRefused, machines_need_no_store}
use Rattle.database_laws.specs.Sessions.{number_of}
use Rattle.database_laws.specs.HiddenRuns.{RollsBackWithin, MachinesAlikeForSession, after, AreOneRefusal}
use Rattle.database_laws.proofs.AlikeRuns.{MoveAlike, stay, change}
use Rattle.database_laws.proofs.RefusalLemmas.{fails_the_block, changes_nothing}
use Rattle.database_laws.proofs.StatementLemmas.{exec_answers}
use Rattle.database_laws.proofs.StatementCodes.{exec_owns}

clash : true ≡ false → ⊥
clash e = cc

-- ---- codes are the same, or not

abbrev all_codes : List SqlState
all_codes = SyntaxError ∷ NameTooLong ∷ UndefinedTable ∷ UndefinedColumn ∷ AmbiguousColumn ∷ DuplicateAlias ∷ UndefinedObject ∷ DuplicateTable ∷ DuplicateObject ∷ DuplicateColumn ∷ DatatypeMismatch ∷ InsufficientPrivilege ∷ InvalidGrantOperation ∷ DependentPrivileges ∷ DependentObjects ∷ DivisionByZero ∷ NumericValueOutOfRange ∷ NotNullViolation ∷ UniqueViolation ∷ InFailedTransaction ∷ LockNotAvailable ∷ InvalidAuthorization ∷ ProgramLimitExceeded ∷ TooManyConnections ∷ DiskFull ∷ OutOfMemory ∷ IoError ∷ ProtocolViolation ∷ ConnectionDoesNotExist ∷ ConnectionNameInUse ∷ []

abbrev number_of_code : SqlState → ℕ
number_of_code SyntaxError = 0
number_of_code NameTooLong = 1
number_of_code UndefinedTable = 2
number_of_code UndefinedColumn = 3
number_of_code AmbiguousColumn = 4
number_of_code DuplicateAlias = 5
number_of_code UndefinedObject = 6
number_of_code DuplicateTable = 7
number_of_code DuplicateObject = 8
number_of_code DuplicateColumn = 9
number_of_code DatatypeMismatch = 10
number_of_code InsufficientPrivilege = 11
number_of_code InvalidGrantOperation = 12
number_of_code DependentPrivileges = 13
number_of_code DependentObjects = 14
number_of_code DivisionByZero = 15
number_of_code NumericValueOutOfRange = 16
number_of_code NotNullViolation = 17
number_of_code UniqueViolation = 18
number_of_code InFailedTransaction = 19
number_of_code LockNotAvailable = 20
number_of_code InvalidAuthorization = 21
number_of_code ProgramLimitExceeded = 22
number_of_code TooManyConnections = 23
number_of_code DiskFull = 24
number_of_code OutOfMemory = 25
number_of_code IoError = 26
number_of_code ProtocolViolation = 27
number_of_code ConnectionDoesNotExist = 28
number_of_code ConnectionNameInUse = 29

numbered : (c : SqlState) → slice_get all_codes (number_of_code c) ≡ Some c
numbered SyntaxError = refl
numbered NameTooLong = refl
numbered UndefinedTable = refl
numbered UndefinedColumn = refl
numbered AmbiguousColumn = refl
numbered DuplicateAlias = refl
numbered UndefinedObject = refl
numbered DuplicateTable = refl
numbered DuplicateObject = refl
numbered DuplicateColumn = refl
numbered DatatypeMismatch = refl
numbered InsufficientPrivilege = refl
numbered InvalidGrantOperation = refl
numbered DependentPrivileges = refl
numbered DependentObjects = refl
numbered DivisionByZero = refl
numbered NumericValueOutOfRange = refl
numbered NotNullViolation = refl
numbered UniqueViolation = refl
numbered InFailedTransaction = refl
numbered LockNotAvailable = refl
numbered InvalidAuthorization = refl
numbered ProgramLimitExceeded = refl
numbered TooManyConnections = refl
numbered DiskFull = refl
numbered OutOfMemory = refl
numbered IoError = refl
numbered ProtocolViolation = refl
numbered ConnectionDoesNotExist = refl
numbered ConnectionNameInUse = refl

same_code_or_not : (c d : SqlState) → (c ≡ d) ⊎ (c ≡ d → ⊥)
same_code_or_not c d = by (nat_eq (number_of_code c) (number_of_code d)) refl where
  by : (b : Bool) → nat_eq (number_of_code c) (number_of_code d) ≡ b → (c ≡ d) ⊎ (c ≡ d → ⊥)
  by true e = inl (same_Some c d (sym (numbered c) ∙ ap (λ (n : ℕ). slice_get all_codes n) (eqb-true (number_of_code c) (number_of_code d) e) ∙ numbered d))
  by false e = inr (λ is. clash (sym (eq-eqb (number_of_code c) (number_of_code d) (ap number_of_code is)) ∙ e))

pub one_code : (c d : SqlState) → answer.Refused c ≡ answer.Refused d → c ≡ d
one_code c d e = cc

pub one_refusal_or_not : (x y : Answer) → AreOneRefusal x y ⊎ (AreOneRefusal x y → ⊥)
one_refusal_or_not (answer.Refused c) (answer.Refused d) = elim (same_code_or_not c d) [
  | inl is ↦ inl (c, refl, ap (λ (i : SqlState). answer.Refused i) (sym is))
  | inr other ↦ inr (λ (code, e, f). other (one_code c code e ∙ sym (one_code d code f)))
]
one_refusal_or_not (answer.Refused c) (answer.Done t count w) = inr (λ (code, e, f). cc)
one_refusal_or_not (answer.Refused c) (answer.Rows rows) = inr (λ (code, e, f). cc)
one_refusal_or_not (answer.Done t count w) y = inr (λ (code, e, f). cc)
one_refusal_or_not (answer.Rows rows) y = inr (λ (code, e, f). cc)

-- ---- what both refuse leaves them alike

in_block_or_not : (m : Machine) (number : ℕ) (reading : Reading) → IsInBlock m (executes number reading) ⊎ (IsInBlock m (executes number reading) → ⊥)
in_block_or_not m number reading = by_stop m.stopped refl where
  same_session : (s t : Session) → ◌≡◌ {A = Option Session} (Some s) (Some t) → s ≡ t
  same_session s t e = cc

  by_block : m.stopped ≡ false → (s : Session) → session_of number m.sessions ≡ Some s → (b : Block) → s.block ≡ b → IsInBlock m (executes number reading) ⊎ (IsInBlock m (executes number reading) → ⊥)
  by_block on s there (Inside role) e = inl (s, record { running = on; session = there }, (role, e))
  by_block on s there Outside e = inr (λ (t, o, (role, inside)). let contrary : Outside ≡ Inside role = sym e ∙ ap (λ (u : Session). u.block) (same_session s t (sym there ∙ o.session)) ∙ inside in cc)
  by_block on s there (Failed role) e = inr (λ (t, o, (r, inside)). let contrary : Failed role ≡ Inside r = sym e ∙ ap (λ (u : Session). u.block) (same_session s t (sym there ∙ o.session)) ∙ inside in cc)

  by_session : m.stopped ≡ false → (o : Option Session) → session_of number m.sessions ≡ o → IsInBlock m (executes number reading) ⊎ (IsInBlock m (executes number reading) → ⊥)
  by_session on None there = inr (λ (t, o, inside). let contrary : ◌≡◌ {A = Option Session} None (Some t) = sym there ∙ o.session in cc)
  by_session on (Some s) there = by_block on s there s.block refl

  by_stop : (b : Bool) → m.stopped ≡ b → IsInBlock m (executes number reading) ⊎ (IsInBlock m (executes number reading) → ⊥)
  by_stop true on = inr (λ (t, o, inside). clash (sym on ∙ o.running))
  by_stop false on = by_session on (session_of number m.sessions) refl

module _ (pairs : UserPair → Bool) (m k : Machine) where
  both_stay : (number : ℕ) (event : Event Reading) → (IsInBlock m event → ⊥) → (IsInBlock k event → ⊥) → IsRefused (transition m event) → IsRefused (transition k event) → MoveAlike number pairs m k (after m event) (after k event)
  both_stay number event out out_k r q =
      subst (λ (n : Machine). MoveAlike number pairs m k n (after k event)) (sym (changes_nothing m event out r))
      (subst (λ (j : Machine). MoveAlike number pairs m k m j) (sym (changes_nothing k event out_k q)) stay)

  module _ (number : ℕ) (st : MachinesAlikeForSession number pairs m k) (reading : Reading) (r : IsRefused (transition m (executes number reading))) (q : IsRefused (transition k (executes number reading))) where
    both_fail : (s : Session) → IsOpen m number s → (role : TheName) → s.block ≡ Inside role → MoveAlike number pairs m k (after m (executes number reading)) (after k (executes number reading))
    both_fail s o role inside =
        let own = st.opened_for s o.session in
        let o_k : IsOpen k number s = record { running = sym st.stopped ∙ o.running; session = sym st.session ∙ o.session } in
        subst (λ (n : Machine). MoveAlike number pairs m k n (after k (executes number reading))) (sym (fails_the_block m number s role reading o inside r))
        (subst (λ (j : Machine). MoveAlike number pairs m k (with_session_changed m number (in_block (Failed role) s)) j) (sym (fails_the_block k number s role reading o_k inside q))
        (change (in_block (Failed role) s) (record { now = own.now; reset = own.reset; rolled_back = subst (RollsBackWithin pairs s.login) inside own.rolled_back })))

    pub texts_refused : MoveAlike number pairs m k (after m (executes number reading)) (after k (executes number reading))
    texts_refused = elim (in_block_or_not m number reading) [
      | inl inside ↦ both_fail inside.0 inside.1 inside.2.0 inside.2.1
      | inr out ↦ both_stay number (executes number reading) out
          (λ (s, o, inside). out (s, record { running = st.stopped ∙ o.running; session = st.session ∙ o.session }, inside)) r q
    ]

  pub refused_moves : (number : ℕ) → MachinesAlikeForSession number pairs m k → (event : Event Reading) → number_of event ≡ number → IsRefused (transition m event) → IsRefused (transition k event) → MoveAlike number pairs m k (after m event) (after k event)
  refused_moves number st (opens n l) at r q = both_stay number (opens n l) (λ h. h) (λ h. h) r q
  refused_moves number st (closes n) at r q = both_stay number (closes n) (λ h. h) (λ h. h) r q
  refused_moves number st (executes n reading) at r q =
      subst (λ (i : ℕ). MoveAlike i pairs m k (after m (executes n reading)) (after k (executes n reading))) at (texts_refused n (subst (λ (i : ℕ). MachinesAlikeForSession i pairs m k) (sym at) st) reading r q)

-- ---- what a machine refuses for want of a store

store_codes : (code : SqlState) → is_of_stores code ≡ true → is_of_statements code ≡ true → ⊥
store_codes DiskFull e f = clash (sym f)
store_codes OutOfMemory e f = clash (sym f)
store_codes IoError e f = clash (sym f)
store_codes _ e f = clash (sym e)

-- it is no refusal for memory, for space or of the device
abbrev NeedsNone : Answer → Type 0
NeedsNone x = (code : SqlState) → x ≡ answer.Refused code → is_of_stores code ≡ true → ⊥

coded : (c : SqlState) → is_of_stores c ≡ false → NeedsNone (answer.Refused c)
coded c plain code e f = clash (sym f ∙ ap is_of_stores (sym (one_code c code e)) ∙ plain)

data Needs : Result Transition SqlState → Type 0 where
  none_given : {t : Transition} → NeedsNone t.answer → Needs (Ok t)
  none_refused : {code : SqlState} → is_of_stores code ≡ false → Needs (Err code)

module _ (m : Machine) (number : ℕ) (s : Session) where
  settled : (r : Result Transition SqlState) → Needs r → NeedsNone (transition_or_refusal m number s r).answer
  settled (Ok t) (none_given h) = h
  settled (Err c) (none_refused h) = coded c h

  admitted : (p q r held : Bool) (does : Result Transition SqlState) → Needs does →
      Needs ((require p InFailedTransaction >>= λ unfailed. require q InvalidAuthorization >>= λ authorized. require r InsufficientPrivilege >>= λ allowed. require held LockNotAvailable) >>= λ free. does)
  admitted false q r held does h = none_refused refl
  admitted true false r held does h = none_refused refl
  admitted true true false held does h = none_refused refl
  admitted true true true false does h = none_refused refl
  admitted true true true true does h = h

  commits : (b : Block) → NeedsNone (commit m number s b).answer
  commits Outside code e f = cc
  commits (Inside role) code e f = cc
  commits (Failed role) code e f = cc

  rolls_back : (b : Block) → NeedsNone (rollback m number s b).answer
  rolls_back Outside code e f = cc
  rolls_back (Inside role) code e f = cc
  rolls_back (Failed role) code e f = cc

  begins : (b : Block) → NeedsNone (begin m number s b).answer
  begins Outside code e f = cc
  begins (Inside role) code e f = cc
  begins (Failed role) code e f = coded InFailedTransaction refl code e f

  sets_to : (a b : Bool) (c : Session) → Needs ((require a UndefinedObject >>= λ named. require b InsufficientPrivilege >>= λ allowed. Ok c) >>= λ changed. Ok (succeeds tag.Set (with_session_changed m number changed)))
  sets_to false b c = none_refused refl
  sets_to true false c = none_refused refl
  sets_to true true c = none_given (λ code e f. cc)

  sets : (role : Option TheName) → Needs (with_role_set (seen m number) s role >>= λ changed. Ok (succeeds tag.Set (with_session_changed m number changed)))
  sets None = none_given (λ code e f. cc)
  sets (Some role) = sets_to (has_role (seen m number) role) (may_set_role (seen m number) s.login role) _

  applies : (w : Bool) (e : Effect) → ((code : SqlState) → e.answer ≡ answer.Refused code → ⊥) → NeedsNone (applied m number s w e).answer
  applies true e h code is f = h code is
  applies false e h code is f = h code is

  executed : (x : DatabaseStatement) (r : Result Effect SqlState) → exec (seen m number) (users_of s) x ≡ r → Needs (r >>= λ e. Ok (applied m number s (changes_database x) e))
  executed x (Ok e) is = none_given (applies (changes_database x) e (exec_answers (seen m number) (users_of s) x e is))
  executed x (Err c) is = none_refused (by (is_of_stores c) refl) where
    by : (b : Bool) → is_of_stores c ≡ b → is_of_stores c ≡ false
    by false e = e
    by true e = absurd (store_codes c e (exec_owns (seen m number) (users_of s) x c is))

  of_sessions : (x : SessionStatement) → NeedsNone (execute_of_session m number s x).answer
  of_sessions of_session.Commit = commits s.block
  of_sessions of_session.Rollback = rolls_back s.block
  of_sessions of_session.Begin = settled _ (admitted (not (has_failed s.block)) (has_role (seen m number) s.login) (keeps_role (seen m number) s) true (Ok (begin m number s s.block)) (none_given (begins s.block)))
  of_sessions (of_session.SetRole x) =
      settled _ (admitted (not (has_failed s.block)) (has_role (seen m number) s.login) true true (with_role_set (seen m number) s x.role >>= λ changed. Ok (succeeds tag.Set (with_session_changed m number changed))) (sets x.role))
  of_sessions of_session.ResetRole = settled _ (admitted (not (has_failed s.block)) (has_role (seen m number) s.login) true true (Ok _) (none_given (λ code e f. cc)))

  of_databases : (x : DatabaseStatement) → NeedsNone (execute_in m number s (Ok (statement.OnDatabase x))).answer
  of_databases x =
      settled _ (admitted (not (has_failed s.block)) (has_role (seen m number) s.login) (keeps_role (seen m number) s) (not (is_writing (statement.OnDatabase x) && is_held_by_other number m.holder))
      (exec (seen m number) (users_of s) x >>= λ e. Ok (applied m number s (changes_database x) e)) (executed x (exec (seen m number) (users_of s) x) refl))

-- or the event is a text that was read as it
module _ (m : Machine) where
  abbrev Reads : Event Reading → Answer → Type 0
  Reads event x = (code : SqlState) → x ≡ answer.Refused code → is_of_stores code ≡ true → IsReadAsRefused m event code

  plain : (event : Event Reading) (x : Answer) → NeedsNone x → Reads event x
  plain event x h code e f = absurd (h code e f)

  reads_in : (number : ℕ) (s : Session) → session_of number m.sessions ≡ Some s → (reading : Reading) → Reads (executes number reading) (execute_in m number s reading).answer
  reads_in number s there (Err c) code e f = record { number = number; session = subst (λ (o : Option Session). IsSome o) (sym there) refl; read = ap (λ (i : SqlState). executes number (Err i)) (one_code c code e) }
  reads_in number s there (Ok (statement.OfSession x)) code e f = absurd (of_sessions m number s x code e f)
  reads_in number s there (Ok (statement.OnDatabase x)) code e f = absurd (of_databases m number s x code e f)

  executes_so : (number : ℕ) (reading : Reading) (o : Option Session) → session_of number m.sessions ≡ o → Reads (executes number reading) (execute m number reading o).answer
  executes_so number reading None there = plain (executes number reading) _ (coded ConnectionDoesNotExist refl)
  executes_so number reading (Some s) there = reads_in number s there reading

  closes_so : (number : ℕ) (o : Option Session) → NeedsNone (close_session m number o).answer
  closes_so number None code e f = coded ConnectionDoesNotExist refl code e f
  closes_so number (Some s) code e f = cc

  opens_so : (number : ℕ) (login : TheName) (a b c : Bool) →
      NeedsNone (cond a (refuses m ConnectionNameInUse) (cond b (refuses m TooManyConnections) (cond c (succeeds tag.Open (with_session_changed m number (record { login = login; role = login; block = Outside }))) (refuses m InvalidAuthorization)))).answer
  opens_so number login true b c code e f = coded ConnectionNameInUse refl code e f
  opens_so number login false true c code e f = coded TooManyConnections refl code e f
  opens_so number login false false true code e f = cc
  opens_so number login false false false code e f = coded InvalidAuthorization refl code e f

  runs_so : (event : Event Reading) → Reads event (running_transition m event).answer
  runs_so (opens number login) = plain (opens number login) _ (opens_so number login (is_some (session_of number m.sessions)) (nat_le 256 (length (own_sessions (client_of number) m.sessions))) (may_log_in m.committed login))
  runs_so (executes number reading) = executes_so number reading (session_of number m.sessions) refl
  runs_so (closes number) = plain (closes number) _ (closes_so number (session_of number m.sessions))

pub needs_no_store : machines_need_no_store
needs_no_store m event code on store e = runs_so m event code (sym (ap (λ (b : Bool). (cond b (refuses m IoError) (running_transition m event)).answer) on) ∙ e) store
