use Rattle.std.proofs.Common.{◌≤◌, List, length}
use Rattle.talks.specs.Turns.{Turn, TakesTurns}
use Rattle.talks.proofs.serving.serve_clients.Given as goal

abbrev pub invariant-loop : goal.invariant-loop
invariant-loop g l = (turns : List Turn) × TakesTurns g.M.Machine g.T.Talk g.C.ServedClients l.fn.machine l.fn.clients turns l.machine l.clients × (l.counter ≤ length turns)
