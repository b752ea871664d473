use Rattle.std.proofs.Common.{◌≡◌, ◌≤◌, ◌+◌, ◌++◌, List, take, length, vec_len, vec_capacity}
use Rattle.sql_types.specs.declared.answer.Answer.{Answer}
use Rattle.store.specs.Store.{KeepsHistory}
use Rattle.server.specs.Runs.{Runs}
use Rattle.server.proofs.server.Server.run.Given as goal

abbrev pub invariant-loop-event : goal.invariant-loop-event
invariant-loop-event g l =
    let state = g.S.Map.state in
    record {
      room : vec_len l.answers + length l.events ≤ vec_capacity l.answers + l.event-index;
      count : length l.answers.items ≡ length l.fn.answers.items + l.event-index;
      history : KeepsHistory (state l.fn.self.store) (state l.self.store);
      told : (told : List Answer) × (l.answers.items ≡ l.fn.answers.items ++ told) × Runs g.X.EventHandler.Reads state l.fn.client l.fn.self (take l.event-index l.events) told l.self;
    }
