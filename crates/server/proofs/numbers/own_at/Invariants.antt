use Rattle.std.proofs.Common.{◌≡◌, ◌≤◌, length, take}
use Rattle.abstract_database.specs.Machine.{own_sessions}
use Rattle.server.proofs.numbers.own_at.Given as goal

abbrev pub invariant-loop-place : goal.invariant-loop-place
invariant-loop-place l = record {
  own : l.before ≡ length (own_sessions l.client (take l.place l.sessions.entries));
  within : l.before ≤ l.index;
}
