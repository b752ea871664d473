use Rattle.std.proofs.Common.{sym}
use Rattle.sessions.proofs.Deciding.{statement_decides, unopened_decides}
use Rattle.sessions.proofs.texts.decide_read.Goals as goal

pub returns-in_default-clause-decides : goal.returns-in_default-clause-decides
returns-in_default-clause-decides g c text read sound db holder shown held holds =
    unopened_decides (g.M.Map.state c.args.map.now).map c.args.context.catalogue.now c.args.context.writer.now db holder c.args.context.sessions.now.entries c.args.number text
    (sym c.in_default.ensures.value) holds

pub returns-clause-decides : goal.returns-clause-decides
returns-clause-decides g c text read sound db holder shown held holds =
    let found = sym c.in-Some.ensures.value in
    statement_decides (g.M.Map.state c.args.map.now).map c.args.context.catalogue.now c.args.context.writer.now db holder c.args.context.sessions.now.entries c.args.number text
    c.in-Some.session.now found c.args.statement.now c.decide.result read
    (c.decide.ensures.serves sound read.1 read.2 db holder c.args.context.sessions.now.entries (record { committed = shown; held = held; in_block = holds; is_open = found }) tt)
