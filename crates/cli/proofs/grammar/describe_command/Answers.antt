use Rattle.std.proofs.Common.{codes, true, false}
use Rattle.std.proofs.lemmas.Result.{IfOk-weaker}
use Rattle.clap.specs.Words.{App, new_app, with_rule}
use Rattle.cli.specs.CommandGrammar.{IsCommand, flag_rule, option_rule, word_rule}
use Rattle.cli.proofs.BuiltCommands.{with_an_arg}
use Rattle.cli.proofs.grammar.describe_command.Goals as goal

-- `describe` with its first words
abbrev with_file : App
with_file = with_rule (new_app (codes "describe")) (word_rule (codes "file") true)

abbrev with_role : App
with_role = with_rule with_file (word_rule (codes "role") false)

abbrev with_table : App
with_table = with_rule with_role (option_rule (codes "table") false)

abbrev with_since : App
with_since = with_rule with_table (option_rule (codes "since") false)

abbrev with_powers : App
with_powers = with_rule with_since (flag_rule (codes "powers"))

pub returns : goal.returns
returns c =
    let one : IsCommand with_file c.in_ok-arg.field-0 = with_an_arg (new_app (codes "describe")) (word_rule (codes "file") true) c.command.result c.word.result c.in_ok-arg.field-0 c.command.ensures c.word.ensures c.in_ok-arg.ensures in
    let two : IsCommand with_role c.in_ok-arg-2.field-0 = with_an_arg with_file (word_rule (codes "role") false) c.in_ok-arg.field-0 c.word-2.result c.in_ok-arg-2.field-0 one c.word-2.ensures c.in_ok-arg-2.ensures in
    let three : IsCommand with_table c.in_ok-arg-3.field-0 = with_an_arg with_role (option_rule (codes "table") false) c.in_ok-arg-2.field-0 c.option.result c.in_ok-arg-3.field-0 two c.option.ensures c.in_ok-arg-3.ensures in
    let four : IsCommand with_since c.in_ok-arg-4.field-0 = with_an_arg with_table (option_rule (codes "since") false) c.in_ok-arg-3.field-0 c.option-2.result c.in_ok-arg-4.field-0 three c.option-2.ensures c.in_ok-arg-4.ensures in
    let five : IsCommand with_powers c.in_ok-arg-5.field-0 = with_an_arg with_since (flag_rule (codes "powers")) c.in_ok-arg-4.field-0 c.flag.result c.in_ok-arg-5.field-0 four c.flag.ensures c.in_ok-arg-5.ensures in
    IfOk-weaker c.arg-6.result _ _ (λ command h. with_an_arg with_powers (flag_rule (codes "json")) c.in_ok-arg-5.field-0 c.flag-2.result command five c.flag-2.ensures h) c.arg-6.ensures
