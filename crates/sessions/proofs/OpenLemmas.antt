-- The opening of a session, refused or done.
use Rattle.std.proofs.Common.{◌≡◌, ◌∙◌, ◌<◌, ◌≤◌, ℕ, nat_le, length, is_some, cond, Bool, true, false, Option, Some, None, refl, sym, ap, arith}
use Rattle.std.proofs.lemmas.Bool.Decides.{nat_tests}
use Rattle.sql_types.specs.declared.answer.Answer.{Answer}
use Rattle.sql_types.specs.declared.answer.Answer.TheVariants as answer
use Rattle.sql_types.specs.declared.state.SqlState.TheVariants.{TooManyConnections, InvalidAuthorization, ConnectionNameInUse}
use Rattle.sql_types.specs.declared.tag.Tag.TheVariants as tag
use Rattle.abstract_database.specs.Lists.{TheName}
use Rattle.abstract_database.specs.Database.{Database}
use Rattle.abstract_database.specs.Roles.{may_log_in}
use Rattle.abstract_database.specs.Machine.{client_of, own_sessions, opens, Holder, Outside, Session, session_of}
use Rattle.abstract_database.specs.Runs.{ReadingRelation}
use Rattle.store.specs.Records.{Records}
use Rattle.stored_database.specs.Definitions.{Definitions}
use Rattle.server.specs.declared.decision.Decision.{Decision}
use Rattle.server.specs.declared.decision.Decision.TheVariants as decision
use Rattle.server.specs.declared.decision.SessionChange.TheVariants as change
use Rattle.server.specs.declared.writer.Writer.{Writer}
use Rattle.server.specs.Standing.{HoldsInBlock}
use Rattle.server.specs.Decisions.{Decides, Entries}
use Rattle.sessions.specs.Opening.{Opens}
use Rattle.sessions.proofs.Putting.{opened_in_block}

abbrev session_for : TheName → Session
session_for login = record { login = login; role = login; block = Outside }

module _ (db : Database) (holder : Option Holder) (sessions : Entries) (number : ℕ) (login : TheName) where
  pub in_use : (what : Decision) → is_some (session_of number sessions) ≡ true
      → what ≡ decision.Answer (answer.Refused ConnectionNameInUse) change.Keep → Opens db holder sessions number login what
  in_use what used is = rw (is, used) refl

  pub no_place : (what : Decision) → is_some (session_of number sessions) ≡ false → 256 ≤ length (own_sessions (client_of number) sessions)
      → what ≡ decision.Answer (answer.Refused TooManyConnections) change.Keep → Opens db holder sessions number login what
  no_place what unused full is =
      let many : nat_le 256 (length (own_sessions (client_of number) sessions)) ≡ true = grind (arith, nat_tests) in
      rw (is, unused, many) refl

  few : (n : ℕ) → n < 256 → nat_le 256 n ≡ false
  few n lt = grind (arith, nat_tests)

  may_not : (b : Bool) → ◌≡◌ {A = Option TheName} None (cond b (Some login) None) → b ≡ false
  may_not true e = absurd (none_is e) where
    none_is : ◌≡◌ {A = Option TheName} None (Some login) → ⊥
    none_is e = cc
  may_not false e = refl

  may : (name : TheName) (b : Bool) → ◌≡◌ {A = Option TheName} (Some name) (cond b (Some login) None) → (b ≡ true) × (name ≡ login)
  may name true e = (refl, cc)
  may name false e = absurd (some_is e) where
    some_is : ◌≡◌ {A = Option TheName} (Some name) None → ⊥
    some_is e = cc

  pub no_login : (what : Decision) → is_some (session_of number sessions) ≡ false → length (own_sessions (client_of number) sessions) < 256 → ◌≡◌ {A = Option TheName} None (cond (may_log_in db login) (Some login) None)
      → what ≡ decision.Answer (answer.Refused InvalidAuthorization) change.Keep → Opens db holder sessions number login what
  no_login what unused free unknown is =
      let fits : nat_le 256 (length (own_sessions (client_of number) sessions)) ≡ false = few (length (own_sessions (client_of number) sessions)) free in
      let no : may_log_in db login ≡ false = may_not (may_log_in db login) unknown in
      rw (is, unused, fits, no) refl

  is_none_of : (o : Option Session) → is_some o ≡ false → o ≡ None
  is_none_of None e = refl
  is_none_of (Some s) e = cc

  pub opened : (name role : TheName) (s : Session) (a : Answer) → is_some (session_of number sessions) ≡ false → length (own_sessions (client_of number) sessions) < 256
      → ◌≡◌ {A = Option TheName} (Some name) (cond (may_log_in db login) (Some login) None) → role ≡ name
      → s ≡ record { login = name; role = role; block = Outside } → a ≡ answer.Done tag.Open None None → HoldsInBlock holder sessions
      → Opens db holder sessions number login (decision.Open a number s)
  opened name role s a unused free known same is done held =
      let fits : nat_le 256 (length (own_sessions (client_of number) sessions)) ≡ false = few (length (own_sessions (client_of number) sessions)) free in
      let yes = may name (may_log_in db login) known in
      let session : s ≡ session_for login = is ∙ ap (λ (r : TheName). record { login = name; role = r; block = Outside }) same ∙ ap session_for yes.1 in
      ((refl, is_none_of (session_of number sessions) unused, free), opened_in_block holder number sessions s (is_none_of (session_of number sessions) unused) held, rw (done, session, unused, fits, yes.0) refl)

  -- what the opening asks of a server, whatever texts are read as
  pub opens_decides : (Reads : ReadingRelation) (records : Records) (d : Definitions) (writer : Option Writer) (what : Decision) → HoldsInBlock holder sessions
      → Opens db holder sessions number login what → Decides Reads records d writer db holder sessions (opens number login) what
  opens_decides Reads records d writer (decision.Answer a change.Keep) held is = (tt, held, record { as_read = opens number login; read = refl; is = sym is })
  opens_decides Reads records d writer (decision.Answer a (change.Put n s)) held is = absurd is
  opens_decides Reads records d writer (decision.Answer a (change.Block n s)) held is = absurd is
  opens_decides Reads records d writer (decision.Answer a (change.Close n)) held is = absurd is
  opens_decides Reads records d writer (decision.Open a n s) held is = (is.0, is.1, record { as_read = opens number login; read = refl; is = sym is.2 })
  opens_decides Reads records d writer (decision.Release a x) held is = absurd is
  opens_decides Reads records d writer (decision.Commit made) held is = absurd is
  opens_decides Reads records d writer (decision.Hold n made) held is = absurd is
  opens_decides Reads records d writer (decision.CommitWriter a x) held is = absurd is
