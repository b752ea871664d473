-- Machines that agree in all but rows.
use Rattle.std.specs.Prelude.{◌≡◌, ℕ}
use Rattle.abstract_database.specs.Database.{without_rows}
use Rattle.abstract_database.specs.Machine.{Machine, seen, session_of}

-- to the session of this number they are the same, but for the rows of the databases that it sees
pub record AgreeButForRows (number : ℕ) (m k : Machine) : Type 0 where
  pub stopped : m.stopped ≡ k.stopped
  pub session : session_of number m.sessions ≡ session_of number k.sessions
  pub definitions : without_rows (seen m number) ≡ without_rows (seen k number)
