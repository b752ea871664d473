use Rattle.std.proofs.Common.{◌≡◌, true, false, is_some, sym, ◌∙◌}
use Rattle.abstract_database.specs.Machine.{session_of}
use Rattle.sessions.specs.Writers.{is_lock_of}
use Rattle.sessions.proofs.BlockDecisions.{close_decides, close_releases}
use Rattle.sessions.proofs.blocks.close.Goals as goal

pub returns-then-holds_lock : goal.returns-then-holds_lock
returns-then-holds_lock c records d db holder shows holds =
    let sessions = c.args.sessions.now.entries in
    let open_there : is_some (session_of c.args.number sessions) ≡ true = sym c.contains_key.ensures ∙ c.if-not-contains_key.false in
    let held : is_lock_of c.args.number c.args.writer.now ≡ true = sym c.holds_lock.ensures ∙ c.if-holds_lock.true in
    rw c.done.ensures (close_releases records d c.args.writer.now db holder sessions c.args.number open_there held shows)

pub returns-else-holds_lock : goal.returns-else-holds_lock
returns-else-holds_lock c records d db holder shows holds =
    let sessions = c.args.sessions.now.entries in
    let open_there : is_some (session_of c.args.number sessions) ≡ true = sym c.contains_key.ensures ∙ c.if-not-contains_key.false in
    let free : is_lock_of c.args.number c.args.writer.now ≡ false = sym c.holds_lock.ensures ∙ c.if-holds_lock.false in
    rw c.done-else-holds_lock.ensures (close_decides records d c.args.writer.now db holder sessions c.args.number open_there free shows holds)
