use Rattle.std.proofs.Common.{◌≡◌, true, false, sym, ◌∙◌}
use Rattle.sessions.specs.Writers.{is_lock_of}
use Rattle.sessions.proofs.BlockDecisions.{end_serves, release_serves}
use Rattle.sessions.proofs.blocks.end_rolled_back.Goals as goal

pub returns-then-holds_lock : goal.returns-then-holds_lock
returns-then-holds_lock c s role is =
    let held : is_lock_of c.args.number c.args.writer.now ≡ true = sym c.holds_lock.ensures ∙ c.if-holds_lock.true in
    rw c.done.ensures (release_serves c.args.writer.now c.args.number s role is held)

pub returns-else-holds_lock : goal.returns-else-holds_lock
returns-else-holds_lock c s role is =
    let free : is_lock_of c.args.number c.args.writer.now ≡ false = sym c.holds_lock.ensures ∙ c.if-holds_lock.false in
    rw c.done-else-holds_lock.ensures (end_serves c.args.writer.now c.args.number s role is free)
