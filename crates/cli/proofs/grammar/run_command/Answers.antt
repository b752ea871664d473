use Rattle.std.proofs.Common.{codes, false}
use Rattle.std.proofs.lemmas.Result.{IfOk-weaker}
use Rattle.clap.specs.Words.{App, new_app, with_rule}
use Rattle.cli.specs.CommandGrammar.{IsCommand, flag_rule, option_rule, word_rule}
use Rattle.cli.proofs.BuiltCommands.{with_an_arg}
use Rattle.cli.proofs.grammar.run_command.Goals as goal

-- `run` with its first words
abbrev with_memory : App
with_memory = with_rule (new_app (codes "run")) (option_rule (codes "memory") false)

abbrev with_first : App
with_first = with_rule with_memory (word_rule (codes "first") false)

abbrev with_second : App
with_second = with_rule with_first (word_rule (codes "second") false)

abbrev with_stop : App
with_stop = with_rule with_second (flag_rule (codes "stop"))

pub returns : goal.returns
returns c =
    let one : IsCommand with_memory c.in_ok-arg.field-0 = with_an_arg (new_app (codes "run")) (option_rule (codes "memory") false) c.command.result c.option.result c.in_ok-arg.field-0 c.command.ensures c.option.ensures c.in_ok-arg.ensures in
    let two : IsCommand with_first c.in_ok-arg-2.field-0 = with_an_arg with_memory (word_rule (codes "first") false) c.in_ok-arg.field-0 c.word.result c.in_ok-arg-2.field-0 one c.word.ensures c.in_ok-arg-2.ensures in
    let three : IsCommand with_second c.in_ok-arg-3.field-0 = with_an_arg with_first (word_rule (codes "second") false) c.in_ok-arg-2.field-0 c.word-2.result c.in_ok-arg-3.field-0 two c.word-2.ensures c.in_ok-arg-3.ensures in
    let four : IsCommand with_stop c.in_ok-arg-4.field-0 = with_an_arg with_second (flag_rule (codes "stop")) c.in_ok-arg-3.field-0 c.flag.result c.in_ok-arg-4.field-0 three c.flag.ensures c.in_ok-arg-4.ensures in
    IfOk-weaker c.arg-5.result _ _ (λ command h. with_an_arg with_stop (flag_rule (codes "explain")) c.in_ok-arg-4.field-0 c.flag-2.result command four c.flag-2.ensures h) c.arg-5.ensures
