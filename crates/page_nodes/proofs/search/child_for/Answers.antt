use Rattle.page_nodes.proofs.Scan.{later_some, later_none}
use Rattle.page_nodes.proofs.search.child_for.Goals as goal

pub returns-in-Some : goal.returns-in-Some
returns-in-Some c first cells node =
    let t = c.in_ok-turn.ensures.turn first cells node in
    (t.0, later_some c.args.key.now cells c.in-Some.cell c.child_of.result (rw c.in-Some.is at t.1) c.child_of.ensures)

pub returns-in-None : goal.returns-in-None
returns-in-None c first cells node =
    let t = c.in_ok-turn.ensures.turn first cells node in
    (t.0, later_none c.args.key.now cells (rw c.in-None.is at t.1))
