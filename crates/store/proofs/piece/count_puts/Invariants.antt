use Rattle.std.proofs.Common.{◌≡◌, ◌≤◌, length, take}
use Rattle.store.specs.Pieces.{puts}
use Rattle.store.proofs.piece.count_puts.Given as goal

-- the changes before this one are counted
abbrev pub invariant-loop-change : goal.invariant-loop-change
invariant-loop-change l = record {
  counted : l.count ≡ length (puts (take l.change-index l.changes));
  few : l.count ≤ l.change-index;
}
