-- Connections, one after the other.
use Rattle.std.proofs.Common.{◌≡◌, Bool, true, false, [], ◌++◌, length, refl, ap, arith}
use Rattle.store.specs.Store.{StoreState}
use Rattle.abstract_database.specs.Machine.{Machine}
use Rattle.abstract_database.specs.Runs.{ReadingRelation}
use Rattle.server.specs.declared.server.Server.{Server}
use Rattle.server.proofs.Running.{runs_none, runs_joined}
use Rattle.wire.specs.declared.sink.Sink.{Ghosts}
use Rattle.wire.specs.Closing.{closing_events, closed_answers, StandsWithinLimit, Closes, LeavesNoSession}
use Rattle.wire.proofs.Closings.{within_then}
use Rattle.wire.specs.declared.connection.End.{End}
use Rattle.wire.specs.Connection.{HasRun, InputState, IsConnection}
use Rattle.wire.proofs.Serving.{ran_to}

module _ {S X : Type 0} (Reads : ReadingRelation) (state : S → StoreState) where
  -- nothing was done
  pub run_none : (server : Server S X) → HasRun Reads state server server
  run_none server = ([], [], runs_none Reads state 0 server)

  run_joined : (first mid new : Server S X) → ((state first.store).sound → (state mid.store).sound) → HasRun Reads state first mid → HasRun Reads state mid new → HasRun Reads state first new
  run_joined first mid new lasts ran more = (ran.0 ++ more.0, ran.1 ++ more.1, runs_joined Reads state 0 first mid new ran.0 more.0 ran.1 more.1 lasts ran.2 more.2)

  within_after : (old new : Server S X) → ((state old.store).sound → (state new.store).sound) → HasRun Reads state old new → StandsWithinLimit state old → StandsWithinLimit state new
  within_after old new lasts ran within = within_then Reads state old new ran.0 ran.1 lasts ran.2 within

  -- the closing of sessions is a run
  closing_run : (old new : Server S X) (stopped : Bool) → old.stopped ≡ stopped → StandsWithinLimit state old → Closes Reads state old new → HasRun Reads state old new
  closing_run old new true is within closes = rw (closes.stopped is) (run_none old)
  closing_run old new false is within closes =
      let sessions = within.1.0.standing.machine.sessions in (closing_events sessions, closed_answers sessions, closes.closed is within.1.0 within.1.1)

  -- a connection, with the closing of its sessions, is a run
  pub connection_run : {K : Type 0} (k : Ghosts K) (old : Server S X) (input : InputState) (before : K) (e : End) (new : Server S X) (left : InputState) (after : K) → IsConnection Reads state k old input before e new left after
      → StandsWithinLimit state old → HasRun Reads state old new
  connection_run k old input before e new left after it within =
      let lasts = it.history.sound in
      let ran = ran_to Reads state k old input before e it.server left after it.served in
      run_joined old it.server new lasts ran (closing_run it.server new it.server.stopped refl (within_after old it.server lasts ran within) (it.closed within))

  -- with no session open a server is within the limit
  none_within : (server : Server S X) → (state server.store).sound → LeavesNoSession state server → server.stopped ≡ false → StandsWithinLimit state server
  none_within server sound left works =
      let none : left.0.standing.machine.sessions ≡ [] = ap (λ (m : Machine). m.sessions) (left.2 works) in
      (sound, (left.0, left.1, rw none tt, rw none (omega arith)))

  -- one connection more
  pub runs_on : (first mid new : Server S X) → ((state first.store).sound → (state mid.store).sound) → (StandsWithinLimit state first → HasRun Reads state first mid)
      → (StandsWithinLimit state mid → HasRun Reads state mid new) → StandsWithinLimit state first → HasRun Reads state first new
  runs_on first mid new lasts runs more within = let ran = runs within in run_joined first mid new lasts ran (more (within_after first mid lasts ran within))

  pub left_on : (first mid new : Server S X) → ((state first.store).sound → (state mid.store).sound) → mid.stopped ≡ false → ((state first.store).sound → LeavesNoSession state first → LeavesNoSession state mid)
      → (StandsWithinLimit state mid → LeavesNoSession state new) → (state first.store).sound → LeavesNoSession state first → LeavesNoSession state new
  left_on first mid new lasts works left more sound none = more (none_within mid (lasts sound) (left sound none) works)
