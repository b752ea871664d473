use Rattle.std.proofs.Common.{◌≡◌, ◌≤◌, length, take}
use Rattle.abstract_database.specs.Machine.{client_of, own_sessions}
use Rattle.server.proofs.numbers.count_own.Given as goal

abbrev pub invariant-loop-place : goal.invariant-loop-place
invariant-loop-place l = record {
  own : l.count ≡ length (own_sessions (client_of l.number) (take l.place l.sessions.entries));
  within : l.count ≤ l.place;
}
