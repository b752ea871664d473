use Rattle.std.proofs.Common.{sym, subst}
use Rattle.sessions.specs.Readings.{ReadsText}
use Rattle.sessions.proofs.LockedOut.{refusal_tells, statement_tells, tells_there}
use Rattle.sessions.proofs.texts.is_locked_out.Goals as goal

pub returns-in-Ok-Ok : goal.returns-in-Ok-Ok
returns-in-Ok-Ok c records db holder shown held holds =
    let found = sym c.in-Some.ensures.value in
    statement_tells db holder c.args.context.sessions.now.entries c.args.number c.args.text.now c.in-Some.session.now found c.one_reading.ensures records c.args.context.catalogue.now c.args.context.writer.now
    c.in-Ok-Ok.statement c.is_locked_out-told.result held (sym c.if-not-other_holds_lock.ensures) (subst (ReadsText c.args.text.now) c.in-Ok-Ok.field-0-is c.in-Ok-Ok.ensures.reads)
    (tells_there _ c.in-Ok-Ok.statement c.is_locked_out-told.result records db holder c.args.context.sessions.now.entries c.is_locked_out-told.ensures
    (record { committed = shown; held = held; in_block = holds; is_open = found }))

pub returns-in-Ok-Err : goal.returns-in-Ok-Err
returns-in-Ok-Err c records db holder shown held holds =
    refusal_tells db holder c.args.context.sessions.now.entries c.args.number c.args.text.now c.one_reading.ensures c.in-Ok-Err.field-0-0
    (subst (ReadsText c.args.text.now) c.in-Ok-Err.field-0-is c.in-Ok-Err.ensures.reads)

pub keep-requires : goal.keep-requires
keep-requires c = subst (ReadsText c.args.text.now) c.in-Ok-Ok.field-0-is c.in-Ok-Ok.ensures.reads
