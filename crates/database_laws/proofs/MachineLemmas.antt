-- What an event leaves as it is.
use Rattle.std.proofs.Common.{◌≡◌, ℕ, true, false, cond, nat_le, length, is_some, Bool, refl}
use Rattle.sql_types.specs.declared.state.SqlState.TheVariants.{InvalidAuthorization, TooManyConnections, ConnectionNameInUse}
use Rattle.sql_types.specs.declared.tag.Tag.TheVariants as tag
use Rattle.abstract_database.specs.Lists.{TheName}
use Rattle.abstract_database.specs.Roles.{may_log_in}
use Rattle.abstract_database.specs.Machine.{client_of, own_sessions, Outside, Session, Machine, refuses, succeeds, session_of, with_session_changed, open_session}

-- the committed database, the writer lock, and whether the machine has stopped, are as before
pub record Same (m after : Machine) : Type 0 where
  pub committed : after.committed ≡ m.committed
  pub holder : after.holder ≡ m.holder
  pub stopped : after.stopped ≡ m.stopped

itself : (m : Machine) → Same m m
itself m = record { committed = refl; holder = refl; stopped = refl }

session_only : (m : Machine) (number : ℕ) (s : Session) → Same m (with_session_changed m number s)
session_only m number s = record { committed = refl; holder = refl; stopped = refl }

open_same : (m : Machine) (number : ℕ) (login : TheName) (a b c : Bool) →
    Same m (cond a (refuses m ConnectionNameInUse) (cond b (refuses m TooManyConnections) (cond c (succeeds tag.Open (with_session_changed m number (record { login = login; role = login; block = Outside }))) (refuses m InvalidAuthorization)))).machine
open_same m number login true b c = itself m
open_same m number login false true c = itself m
open_same m number login false false true = session_only m number (record { login = login; role = login; block = Outside })
open_same m number login false false false = itself m

pub opened_same : (m : Machine) (number : ℕ) (login : TheName) → Same m (open_session m number login).machine
opened_same m number login = open_same m number login (is_some (session_of number m.sessions)) (nat_le 256 (length (own_sessions (client_of number) m.sessions))) (may_log_in m.committed login)
