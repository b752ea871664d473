-- Connections of a listener, one after the other.
use Rattle.std.proofs.Common.{◌≡◌, ◌∙◌, ◌+◌, ℕ, false, List, [], ◌∷◌, ◌++◌, length, Option, Some, refl, ap, sym, subst, length-append}
use Rattle.store.specs.Store.{StoreState, KeepsHistory}
use Rattle.abstract_database.specs.Runs.{ReadingRelation}
use Rattle.server.specs.declared.server.Server.{Server}
use Rattle.wire.specs.declared.sink.Sink.{Ghosts}
use Rattle.wire.specs.Closing.{StandsWithinLimit, LeavesNoSession}
use Rattle.wire.specs.declared.connection.End.{End}
use Rattle.wire.specs.declared.listener.Served.{Served}
use Rattle.wire.specs.Connection.{InputState, IsConnection}
use Rattle.wire.specs.Listening.{Listening, Takes, Closes, line_of}
use Rattle.wire.specs.Listener.{Connection, Serves, ServesEach, EndsAfter, ServesAtMost}

-- so many connections were served
pub record ServedSoFar {S X K : Type 0} (Reads : ReadingRelation) (state : S → StoreState) (k : Ghosts K) (count : ℕ) (old : Server S X) (before : Option Listening) (new : Server S X) (after : Option Listening) : Type 0 where
  pub connections : List (Connection K)
  pub counted : length connections ≡ count
  pub each : ServesEach Reads state k old before connections new after

module _ {S X K : Type 0} (Reads : ReadingRelation) (state : S → StoreState) (k : Ghosts K) where
  pub none_served : (server : Server S X) (before : Option Listening) → ServedSoFar Reads state k 0 server before server before
  none_served server before = record { connections = []; counted = refl; each = (refl, refl) }

  each_more : (first mid new : Server S X) (before between after : Option Listening) (connections : List (Connection K)) (c : Connection K) → ServesEach Reads state k first before connections mid between
      → Serves Reads state k mid between c new after → ServesEach Reads state k first before (connections ++ c ∷ []) new after
  each_more first mid new before between after [] c each one =
      let here = subst (λ (s : Server S X). Serves Reads state k s between c new after) each.0 one in
      (new, after, subst (λ (l : Option Listening). Serves Reads state k first l c new after) each.1 here, (refl, refl))
  each_more first mid new before between after (d ∷ rest) c each one = (each.0, each.1, each.2, each_more each.0 mid new each.1 between after rest c each.3 one)

  -- one connection more, by what `serve_connection` promises
  pub served_more : (first mid new : Server S X) (count : ℕ) (before between taken after : Option Listening) (input : InputState) (told : K) (e : End) (left : InputState) (last : K) → ServedSoFar Reads state k count first before mid between → mid.stopped ≡ false
      → Takes between (Some (line_of input.remaining (k.held told))) taken → IsConnection Reads state k mid input told e new left last → KeepsHistory (state mid.store) (state new.store) → (StandsWithinLimit state mid → LeavesNoSession state new) → Closes taken (line_of left.remaining (k.held last)) after
      → ServedSoFar Reads state k (count + 1) first before new after
  served_more first mid new count before between taken after input told e left last far works takes served history closed closes =
      let c : Connection K = record { input = input; taken = told; end = e; left = left; closed = last } in
      record {
        connections = far.connections ++ c ∷ [];
        counted = length-append far.connections (c ∷ []) ∙ ap (λ n. n + 1) far.counted;
        each = each_more first mid new before between after far.connections c far.each (record { works = works; between = taken; takes = takes; served = served; history = history; left = closed; closes = closes });
      }

  -- no further connection is served
  pub ends_with : (first new : Server S X) (asked count : ℕ) (before between after : Option Listening) (result : Served) → ServedSoFar Reads state k count first before new between
      → EndsAfter asked count result new.stopped between after → ServesAtMost Reads state k asked first before result new after
  ends_with first new asked count before between after result far ends =
      record { connections = far.connections; between = between; each = far.each; ends = subst (λ (n : ℕ). EndsAfter asked n result new.stopped between after) (sym far.counted) ends }
