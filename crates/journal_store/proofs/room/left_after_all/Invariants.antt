use Rattle.std.proofs.Common.{◌≡◌, ◌+◌, take}
use Rattle.journal_store.specs.Room.{changes_in}
use Rattle.journal_store.proofs.room.left_after_all.Given as goal

-- the changes of the lists so far are taken off
abbrev pub invariant-loop-list : goal.invariant-loop-list
invariant-loop-list l = l.left + changes_in (take l.list-index l.lists) ≡ l.fn.most
