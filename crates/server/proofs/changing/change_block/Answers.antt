use Rattle.std.proofs.Common.{rules, ◌≡◌, sym, Some}
use Rattle.abstract_database.specs.Machine.{session_of}
use Rattle.server.proofs.Blocks.{block_changed}
use Rattle.server.proofs.changing.change_block.Goals as goal

pub returns : goal.returns
returns c =
    let es = c.args.sessions.now.entries in
    let found : session_of c.args.number es ≡ Some c.index_mut.result.now = search rules in
    block_changed es c.args.number c.args.change c.in-Some.index c.index_mut.result.now c.change_block.new.self (sym c.in-Some.ensures.index) found c.change_block.ensures
