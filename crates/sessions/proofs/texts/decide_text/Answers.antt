use Rattle.std.proofs.Common.{sym, subst}
use Rattle.sessions.specs.Readings.{ReadsText}
use Rattle.sessions.proofs.Deciding.{refusal_decides, statement_decides, unopened_decides}
use Rattle.sessions.proofs.texts.decide_text.Goals as goal

pub returns-in_default-clause-decides : goal.returns-in_default-clause-decides
returns-in_default-clause-decides g c sound db holder shown held holds =
    unopened_decides (g.M.Map.state c.args.map.now).map c.args.context.catalogue.now c.args.context.writer.now db holder c.args.context.sessions.now.entries c.args.number c.args.text.now
    (sym c.in_default.ensures.value) holds

pub returns-in-Ok-Ok-clause-decides : goal.returns-in-Ok-Ok-clause-decides
returns-in-Ok-Ok-clause-decides g c sound db holder shown held holds =
    let found = sym c.in-Some.ensures.value in
    let read = subst (ReadsText c.args.text.now) c.in-Ok-Ok.field-0-is c.in-Ok-Ok.ensures.reads in
    statement_decides (g.M.Map.state c.args.map.now).map c.args.context.catalogue.now c.args.context.writer.now db holder c.args.context.sessions.now.entries c.args.number c.args.text.now
    c.in-Some.session.now found c.in-Ok-Ok.statement c.decide-decided.result read
    (c.decide-decided.ensures.serves sound read.1 read.2 db holder c.args.context.sessions.now.entries (record { committed = shown; held = held; in_block = holds; is_open = found }) tt)

pub returns-in-Ok-Err-clause-decides : goal.returns-in-Ok-Err-clause-decides
returns-in-Ok-Err-clause-decides g c sound db holder shown held holds =
    refusal_decides (g.M.Map.state c.args.map.now).map c.args.context.catalogue.now c.args.context.writer.now db holder c.args.context.sessions.now.entries c.args.number c.args.text.now
    c.in-Some.session.now (sym c.in-Some.ensures.value) c.in-Ok-Err.code c.refuse.result (subst (ReadsText c.args.text.now) c.in-Ok-Err.field-0-is c.in-Ok-Err.ensures.reads) held holds c.refuse.ensures

pub keep-requires : goal.keep-requires
keep-requires g c = subst (ReadsText c.args.text.now) c.in-Ok-Ok.field-0-is c.in-Ok-Ok.ensures.reads
