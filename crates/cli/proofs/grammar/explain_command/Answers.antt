use Rattle.std.proofs.Common.{codes, true, false}
use Rattle.std.proofs.lemmas.Result.{IfOk-weaker}
use Rattle.clap.specs.Words.{App, new_app, with_rule}
use Rattle.cli.specs.CommandGrammar.{IsCommand, flag_rule, option_rule, word_rule}
use Rattle.cli.proofs.BuiltCommands.{with_an_arg}
use Rattle.cli.proofs.grammar.explain_command.Goals as goal

-- `explain` with its first words
abbrev with_file : App
with_file = with_rule (new_app (codes "explain")) (word_rule (codes "file") true)

abbrev with_role : App
with_role = with_rule with_file (word_rule (codes "role") true)

abbrev with_statement : App
with_statement = with_rule with_role (word_rule (codes "statement") true)

abbrev with_session : App
with_session = with_rule with_statement (option_rule (codes "session") false)

pub returns : goal.returns
returns c =
    let one : IsCommand with_file c.in_ok-arg.field-0 = with_an_arg (new_app (codes "explain")) (word_rule (codes "file") true) c.command.result c.word.result c.in_ok-arg.field-0 c.command.ensures c.word.ensures c.in_ok-arg.ensures in
    let two : IsCommand with_role c.in_ok-arg-2.field-0 = with_an_arg with_file (word_rule (codes "role") true) c.in_ok-arg.field-0 c.word-2.result c.in_ok-arg-2.field-0 one c.word-2.ensures c.in_ok-arg-2.ensures in
    let three : IsCommand with_statement c.in_ok-arg-3.field-0 = with_an_arg with_role (word_rule (codes "statement") true) c.in_ok-arg-2.field-0 c.word-3.result c.in_ok-arg-3.field-0 two c.word-3.ensures c.in_ok-arg-3.ensures in
    let four : IsCommand with_session c.in_ok-arg-4.field-0 = with_an_arg with_statement (option_rule (codes "session") false) c.in_ok-arg-3.field-0 c.option.result c.in_ok-arg-4.field-0 three c.option.ensures c.in_ok-arg-4.ensures in
    IfOk-weaker c.arg-5.result _ _ (λ command h. with_an_arg with_session (flag_rule (codes "json")) c.in_ok-arg-4.field-0 c.flag.result command four c.flag.ensures h) c.arg-5.ensures
