use Rattle.std.proofs.Common.{Ok, Err, inr, refl, sym, subst}
use Rattle.sql_types.specs.declared.state.SqlState.TheVariants.{ConnectionDoesNotExist}
use Rattle.sql_ast.specs.declared.description.StatementDescription.TheVariants.{Refused}
use Rattle.sessions.specs.Readings.{ReadsText}
use Rattle.sessions.proofs.Describing.{unopened_described, text_described}
use Rattle.sessions.proofs.texts.describe.Goals as goal

pub returns-in_default : goal.returns-in_default
returns-in_default g c records db holder shown held holds =
    unopened_described db holder c.args.context.sessions.now.entries c.args.number c.args.text.now (sym c.in_default.ensures.value) (Refused ConnectionDoesNotExist) (λ reading. refl)

pub returns-in-Ok-Ok : goal.returns-in-Ok-Ok
returns-in-Ok-Ok g c records db holder shown held holds =
    let found = sym c.in-Some.ensures.value in
    let read = subst (ReadsText c.args.text.now) c.in-Ok-Ok.field-0-is c.in-Ok-Ok.ensures.reads in
    text_described db holder c.args.context.sessions.now.entries c.args.number c.args.text.now c.in-Some.session.now found (Ok c.in-Ok-Ok.statement) c.describe-described.result read
    (c.describe-described.ensures read.1 records db holder c.args.context.sessions.now.entries (record { committed = shown; held = held; in_block = holds; is_open = found }))

pub returns-in-Ok-Err : goal.returns-in-Ok-Err
returns-in-Ok-Err g c records db holder shown held holds =
    text_described db holder c.args.context.sessions.now.entries c.args.number c.args.text.now c.in-Some.session.now (sym c.in-Some.ensures.value) (Err c.in-Ok-Err.code) (Refused c.in-Ok-Err.code)
    (subst (ReadsText c.args.text.now) c.in-Ok-Err.field-0-is c.in-Ok-Err.ensures.reads) (inr refl)

pub keep_for_run-requires : goal.keep_for_run-requires
keep_for_run-requires g c = subst (ReadsText c.args.text.now) c.in-Ok-Ok.field-0-is c.in-Ok-Ok.ensures.reads
