use Rattle.sql_lexer.specs.Lexeme.{lexemes}
use Rattle.diagnostics.specs.Events.{lexed}
use Rattle.diagnostics.proofs.Told.{faulty_reads, ok_map}
use Rattle.diagnostics.proofs.events.tokens_of.Goals as goal

pub returns-in-Ok : goal.returns-in-Ok
returns-in-Ok c = lexed c.in-Ok.ensures.tokens

pub returns-in-Err : goal.returns-in-Err
returns-in-Err c = ok_map _ _ c.no_tokens.result (λ tokens is. faulty_reads c.args.text.now c.in-Err.refusal.0 (lexemes tokens.items) c.in-Err.ensures.fault is) c.no_tokens.ensures
