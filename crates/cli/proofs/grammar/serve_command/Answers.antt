use Rattle.std.proofs.Common.{codes, false}
use Rattle.std.proofs.lemmas.Result.{IfOk-weaker}
use Rattle.clap.specs.Words.{App, new_app, with_rule}
use Rattle.cli.specs.CommandGrammar.{IsCommand, option_rule, repeated_rule, word_rule}
use Rattle.cli.proofs.BuiltCommands.{with_an_arg}
use Rattle.cli.proofs.grammar.serve_command.Goals as goal

-- `serve` with its first words
abbrev with_file : App
with_file = with_rule (new_app (codes "serve")) (word_rule (codes "file") false)

abbrev with_port : App
with_port = with_rule with_file (option_rule (codes "port") false)

abbrev with_socket : App
with_socket = with_rule with_port (option_rule (codes "socket") false)

abbrev with_connections : App
with_connections = with_rule with_socket (option_rule (codes "connections") false)

abbrev with_idle : App
with_idle = with_rule with_connections (option_rule (codes "idle") false)

abbrev with_clients : App
with_clients = with_rule with_idle (option_rule (codes "clients") false)

abbrev with_wait : App
with_wait = with_rule with_clients (option_rule (codes "wait") false)

abbrev with_block : App
with_block = with_rule with_wait (option_rule (codes "block") false)

pub returns : goal.returns
returns c =
    let one : IsCommand with_file c.in_ok-arg.field-0 = with_an_arg (new_app (codes "serve")) (word_rule (codes "file") false) c.command.result c.word.result c.in_ok-arg.field-0 c.command.ensures c.word.ensures c.in_ok-arg.ensures in
    let two : IsCommand with_port c.in_ok-arg-2.field-0 = with_an_arg with_file (option_rule (codes "port") false) c.in_ok-arg.field-0 c.option.result c.in_ok-arg-2.field-0 one c.option.ensures c.in_ok-arg-2.ensures in
    let three : IsCommand with_socket c.in_ok-arg-3.field-0 = with_an_arg with_port (option_rule (codes "socket") false) c.in_ok-arg-2.field-0 c.option-2.result c.in_ok-arg-3.field-0 two c.option-2.ensures c.in_ok-arg-3.ensures in
    let four : IsCommand with_connections c.in_ok-arg-4.field-0 = with_an_arg with_socket (option_rule (codes "connections") false) c.in_ok-arg-3.field-0 c.option-3.result c.in_ok-arg-4.field-0 three c.option-3.ensures c.in_ok-arg-4.ensures in
    let five : IsCommand with_idle c.in_ok-arg-5.field-0 = with_an_arg with_connections (option_rule (codes "idle") false) c.in_ok-arg-4.field-0 c.option-4.result c.in_ok-arg-5.field-0 four c.option-4.ensures c.in_ok-arg-5.ensures in
    let six : IsCommand with_clients c.in_ok-arg-6.field-0 = with_an_arg with_idle (option_rule (codes "clients") false) c.in_ok-arg-5.field-0 c.option-5.result c.in_ok-arg-6.field-0 five c.option-5.ensures c.in_ok-arg-6.ensures in
    let seven : IsCommand with_wait c.in_ok-arg-7.field-0 = with_an_arg with_clients (option_rule (codes "wait") false) c.in_ok-arg-6.field-0 c.option-6.result c.in_ok-arg-7.field-0 six c.option-6.ensures c.in_ok-arg-7.ensures in
    let eight : IsCommand with_block c.in_ok-arg-8.field-0 = with_an_arg with_wait (option_rule (codes "block") false) c.in_ok-arg-7.field-0 c.option-7.result c.in_ok-arg-8.field-0 seven c.option-7.ensures c.in_ok-arg-8.ensures in
    IfOk-weaker c.arg-9.result _ _ (λ command h. with_an_arg with_block (repeated_rule (codes "at")) c.in_ok-arg-8.field-0 c.repeated.result command eight c.repeated.ensures h) c.arg-9.ensures
