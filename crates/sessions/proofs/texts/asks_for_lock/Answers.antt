use Rattle.std.proofs.Common.{sym, subst}
use Rattle.sessions.specs.Readings.{ReadsText}
use Rattle.sessions.proofs.Asking.{refusal_asks, statement_asks, asks_there}
use Rattle.sessions.proofs.texts.asks_for_lock.Goals as goal

pub returns-in-Ok : goal.returns-in-Ok
returns-in-Ok c records db holder shown held holds =
    let found = sym c.in-Some.ensures.value in
    statement_asks db holder c.args.context.sessions.now.entries c.args.number c.args.text.now c.in-Some.session.now found c.one_reading.ensures records c.args.context.catalogue.now c.args.context.writer.now
    c.in-Ok.statement c.asks_for_lock-told.result held (sym c.if-is_some.ensures) (subst (ReadsText c.args.text.now) c.in-Ok.is c.in_ok-statement.ensures.reads)
    (asks_there _ c.in-Ok.statement c.asks_for_lock-told.result records db holder c.args.context.sessions.now.entries c.asks_for_lock-told.ensures
    (record { committed = shown; held = held; in_block = holds; is_open = found }))

pub returns-in-Err : goal.returns-in-Err
returns-in-Err c records db holder shown held holds =
    refusal_asks db holder c.args.context.sessions.now.entries c.args.number c.args.text.now c.one_reading.ensures c.in-Err.field-0
    (subst (ReadsText c.args.text.now) c.in-Err.is c.in_ok-statement.ensures.reads)

pub keep-requires : goal.keep-requires
keep-requires c = subst (ReadsText c.args.text.now) c.in-Ok.is c.in_ok-statement.ensures.reads
