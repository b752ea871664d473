-- For whom a session is opened.
use Rattle.std.proofs.Common.{◌≡◌, ℕ, Bool, true, false, cond, ◌&&◌, length, nat_le, is_some, refl}
use Rattle.std.proofs.lemmas.Bool.{and_parts, and_from}
use Rattle.sql_types.specs.declared.state.SqlState.TheVariants.{IoError, ConnectionNameInUse, TooManyConnections, InvalidAuthorization}
use Rattle.sql_types.specs.declared.answer.Answer.TheVariants as answer
use Rattle.sql_types.specs.declared.tag.Tag.TheVariants as tag
use Rattle.sql_ast.specs.declared.role.Role.{Role}
use Rattle.abstract_database.specs.Lists.{TheName}
use Rattle.abstract_database.specs.Database.{is_role_named}
use Rattle.abstract_database.specs.Roles.{may_log_in}
use Rattle.abstract_database.specs.Machine.{client_of, own_sessions, Outside, opens, Machine, Transition, refuses, succeeds, session_of, with_session_changed, transition}
use Rattle.abstract_database.proofs.ElementLemmas.{any_found, any_holds}
use Rattle.abstract_database.proofs.ListLemmas.{bytes_same, same_bytes}
use Rattle.database_laws.specs.Blocks.{IsRefused}
use Rattle.database_laws.specs.Openings.{HasLogin}

module _ (m : Machine) (number : ℕ) (login : TheName) where
  a_login : may_log_in m.committed login ≡ true → HasLogin m.committed login
  a_login e =
      let found = any_found (λ (r : Role). is_role_named login r && r.attributes.login) m.committed.roles e in
      let parts = and_parts (is_role_named login found.0) found.0.attributes.login found.2 in
      (found.0, found.1, bytes_same found.0.name login parts.0, parts.1)

  login_told : HasLogin m.committed login → may_log_in m.committed login ≡ true
  login_told l =
      any_holds (λ (r : Role). is_role_named login r && r.attributes.login) m.committed.roles l.0 l.1
      (and_from (is_role_named login l.0) l.0.attributes.login (same_bytes l.0.name login l.2) l.3)

  abbrev opened : Bool → Bool → Bool → Bool → Transition
  opened stopped in_use many may =
      cond stopped (refuses m IoError)
      (cond in_use (refuses m ConnectionNameInUse)
      (cond many (refuses m TooManyConnections)
      (cond may (succeeds tag.Open (with_session_changed m number (record { login = login; role = login; block = Outside }))) (refuses m InvalidAuthorization))))

  opened_for : (stopped in_use many may : Bool) → (IsRefused (opened stopped in_use many may) → ⊥) → may ≡ true
  opened_for true in_use many may h = absurd (h (IoError, refl))
  opened_for false true many may h = absurd (h (ConnectionNameInUse, refl))
  opened_for false false true may h = absurd (h (TooManyConnections, refl))
  opened_for false false false true h = refl
  opened_for false false false false h = absurd (h (InvalidAuthorization, refl))

  pub opens_for_login : (IsRefused (transition m (opens number login)) → ⊥) → HasLogin m.committed login
  opens_for_login h = a_login (opened_for m.stopped (is_some (session_of number m.sessions)) (nat_le 256 (length (own_sessions (client_of number) m.sessions))) (may_log_in m.committed login) h)

  authorized_at : (stopped in_use many may : Bool) → may ≡ true → (opened stopped in_use many may).answer ≡ answer.Refused InvalidAuthorization → ⊥
  authorized_at true in_use many may is e = cc
  authorized_at false true many may is e = cc
  authorized_at false false true may is e = cc
  authorized_at false false false true is e = cc
  authorized_at false false false false is e = cc

  pub authorized : HasLogin m.committed login → (transition m (opens number login)).answer ≡ answer.Refused InvalidAuthorization → ⊥
  authorized l e = authorized_at m.stopped (is_some (session_of number m.sessions)) (nat_le 256 (length (own_sessions (client_of number) m.sessions))) (may_log_in m.committed login) (login_told l) e
