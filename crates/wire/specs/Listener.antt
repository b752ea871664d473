-- What is done for a listener: a server serves its connections one after the other, each to its end.
use Rattle.std.specs.Prelude.{◌≡◌, ◌<◌, ◌≤◌, ℕ, Bool, true, false, List, [], ◌∷◌, length, Option, Some, None}
use Rattle.store.specs.Store.{StoreState, KeepsHistory}
use Rattle.abstract_database.specs.Runs.{ReadingRelation}
use Rattle.server.specs.declared.server.Server.{Server}
use Rattle.wire.specs.declared.sink.Sink.{Ghosts}
use Rattle.wire.specs.Closing.{StandsWithinLimit, LeavesNoSession}
use Rattle.wire.specs.declared.connection.End.{End}
use Rattle.wire.specs.declared.listener.Served.{Served}
use Rattle.wire.specs.declared.listener.Served.TheVariants as served
use Rattle.wire.specs.Connection.{InputState, IsConnection}
use Rattle.wire.specs.Listening.{Listening, Takes, Closes, line_of}

-- ---- one connection

-- a connection that was served: what its reader had left and its sink as they were when it was taken, why it ended, and both as they were when it
-- was closed
pub record Connection (K : Type 0) : Type 0 where
  pub input : InputState
  pub taken : K
  pub end : End
  pub left : InputState
  pub closed : K

-- A server that had not stopped took the connection that came next. The events that its bytes spell were answered to it, each answer told after
-- its step, and then its sessions were closed: none is open, unless the server has stopped. Then it was closed, and nothing was told to it since.
pub record Serves {S X K : Type 0} (Reads : ReadingRelation) (state : S → StoreState) (k : Ghosts K) (old : Server S X) (before : Option Listening) (connection : Connection K) (new : Server S X) (after : Option Listening) : Type 0 where
  pub works : old.stopped ≡ false
  pub between : Option Listening
  pub takes : Takes before (Some (line_of connection.input.remaining (k.held connection.taken))) between
  pub served : IsConnection Reads state k old connection.input connection.taken connection.end new connection.left connection.closed
  pub history : KeepsHistory (state old.store) (state new.store)
  pub left : StandsWithinLimit state old → LeavesNoSession state new
  pub closes : Closes between (line_of connection.left.remaining (k.held connection.closed)) after

-- ---- one after the other

-- each connection begins where the one before it has left the server and the listener, and nothing else was done to either
abbrev pub ServesEach : {S X K : Type 0} → ReadingRelation → (S → StoreState) → Ghosts K → Server S X → Option Listening → List (Connection K) → Server S X → Option Listening → Type 0
ServesEach Reads state k old before [] new after = (new ≡ old) × (after ≡ before)
ServesEach {S} {X} Reads state k old before (connection ∷ rest) new after =
    (mid : Server S X) × (between : Option Listening) × Serves Reads state k old before connection mid between × ServesEach Reads state k mid between rest new after

-- why no further connection was served: as many were as were asked for; the server has stopped; or the one that came next could not be taken
abbrev pub EndsAfter : ℕ → ℕ → Served → Bool → Option Listening → Option Listening → Type 0
EndsAfter asked count served.Done stopped before after = (count ≡ asked) × (stopped ≡ false) × (after ≡ before)
EndsAfter asked count served.Stopped stopped before after = (count ≤ asked) × (stopped ≡ true) × (after ≡ before)
EndsAfter asked count served.Net stopped before after = (count < asked) × (stopped ≡ false) × Takes before None after

-- so many connections at most were served
pub record ServesAtMost {S X K : Type 0} (Reads : ReadingRelation) (state : S → StoreState) (k : Ghosts K) (asked : ℕ) (old : Server S X) (before : Option Listening) (served : Served) (new : Server S X) (after : Option Listening) : Type 0 where
  pub connections : List (Connection K)
  pub between : Option Listening
  pub each : ServesEach Reads state k old before connections new between
  pub ends : EndsAfter asked (length connections) served new.stopped between after
