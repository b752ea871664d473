use Rattle.std.proofs.Common.{◌≡◌, ◌≤◌, ◌+◌, ◌++◌, ℕ, List, take, length, vec_len, vec_capacity}
use Rattle.sql_types.specs.declared.answer.Answer.{Answer}
use Rattle.store.specs.Store.{KeepsHistory}
use Rattle.databases.specs.Lives.{all_of_client, StepsAt}
use Rattle.databases.proofs.over_store.step_by_step.Given as goal

abbrev pub invariant-loop-event : goal.invariant-loop-event
invariant-loop-event g l =
    let state = g.S.Map.state in
    record {
      room : vec_len l.answers + length l.events ≤ vec_capacity l.answers + l.event-index;
      count : length l.answers.items ≡ length l.fn.answers.items + l.event-index;
      history : KeepsHistory (state l.fn.server.store) (state l.server.store);
      told : (told : List Answer) × (moments : List ℕ) × (l.answers.items ≡ l.fn.answers.items ++ told) × StepsAt g.X.EventHandler.Reads state l.fn.server (all_of_client 0 (take l.event-index l.events)) told moments l.server;
    }
