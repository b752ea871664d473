use Rattle.std.proofs.Common.{◌≡◌, take}
use Rattle.store.specs.Store.{KeepsHistory}
use Rattle.wire.specs.SessionNames.{names_of, texts_of}
use Rattle.wire.specs.ScriptRun.{progress_of}
use Rattle.wire.proofs.Running.{SoFar}
use Rattle.wire.proofs.script_run.run_lines.Given as goal

abbrev pub invariant-loop-text : goal.invariant-loop-text
invariant-loop-text g l =
    let state = g.S.Map.state in
    record {
      counted : l.number ≡ l.text-index;
      history : KeepsHistory (state l.fn.server.store) (state l.server.store);
      so_far : SoFar g.X.EventHandler.Reads state g.K.Sink l.fn.server (take l.text-index (texts_of l.lines)) l.fn.sink (progress_of (names_of l.numbers) l.server l.sink);
    }
