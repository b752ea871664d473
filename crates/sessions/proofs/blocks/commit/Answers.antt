use Rattle.std.proofs.Common.{◌≡◌, true, false, refl, sym, ◌∙◌, ap}
use Rattle.abstract_database.specs.Machine.{Inside, Failed}
use Rattle.server.specs.Session.{block_of}
use Rattle.sessions.specs.Writers.{is_lock_of}
use Rattle.sessions.proofs.BlockDecisions.{leave_serves, commit_lock_serves, failed_commit_serves}
use Rattle.sessions.proofs.blocks.commit.Goals as goal

pub returns-then-holds_lock : goal.returns-then-holds_lock
returns-then-holds_lock c =
    let inside : c.args.session.now.block ≡ Inside c.in-Inside.field-0 = ap (λ z. z.block) (sym c.session.view_is) ∙ ap block_of c.in-Inside.is in
    let held : is_lock_of c.args.number c.args.writer.now ≡ true = sym c.holds_lock.ensures ∙ c.if-holds_lock.true in
    rw c.done.ensures (commit_lock_serves c.args.writer.now c.args.number c.args.session.now c.in-Inside.field-0 inside held)

pub returns-else-holds_lock : goal.returns-else-holds_lock
returns-else-holds_lock c =
    let inside : c.args.session.now.block ≡ Inside c.in-Inside.field-0 = ap (λ z. z.block) (sym c.session.view_is) ∙ ap block_of c.in-Inside.is in
    let free : is_lock_of c.args.number c.args.writer.now ≡ false = sym c.holds_lock.ensures ∙ c.if-holds_lock.false in
    rw c.done-else-holds_lock.ensures (leave_serves c.args.writer.now c.args.number c.args.session.now c.in-Inside.field-0 inside free)

pub returns-in-Failed : goal.returns-in-Failed
returns-in-Failed c =
    let s = c.args.session.now in
    let role = c.in-Failed.field-0 in
    let failed : s.block ≡ Failed role = ap (λ z. z.block) (sym c.session.view_is) ∙ ap block_of c.in-Failed.is in
    failed_commit_serves c.args.writer.now c.args.number s role c.end_rolled_back.result failed (c.end_rolled_back.ensures s role (rw failed refl))
