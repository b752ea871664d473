use Rattle.std.proofs.Common.{codes, true}
use Rattle.std.proofs.lemmas.Result.{IfOk-weaker}
use Rattle.clap.specs.Words.{App, new_app, with_rule}
use Rattle.cli.specs.CommandGrammar.{IsCommand, flag_rule, option_rule, word_rule}
use Rattle.cli.proofs.BuiltCommands.{with_an_arg}
use Rattle.cli.proofs.dump_words.restore_command.Goals as goal

-- `restore` with its first words
abbrev with_dump : App
with_dump = with_rule (new_app (codes "restore")) (word_rule (codes "dump") true)

abbrev with_new : App
with_new = with_rule with_dump (word_rule (codes "new") true)

abbrev with_pages : App
with_pages = with_rule with_new (option_rule (codes "pages") true)

pub returns : goal.returns
returns c =
    let one : IsCommand with_dump c.in_ok-arg.field-0 = with_an_arg (new_app (codes "restore")) (word_rule (codes "dump") true) c.command.result c.word.result c.in_ok-arg.field-0 c.command.ensures c.word.ensures c.in_ok-arg.ensures in
    let two : IsCommand with_new c.in_ok-arg-2.field-0 = with_an_arg with_dump (word_rule (codes "new") true) c.in_ok-arg.field-0 c.word-2.result c.in_ok-arg-2.field-0 one c.word-2.ensures c.in_ok-arg-2.ensures in
    let three : IsCommand with_pages c.in_ok-arg-3.field-0 = with_an_arg with_new (option_rule (codes "pages") true) c.in_ok-arg-2.field-0 c.option.result c.in_ok-arg-3.field-0 two c.option.ensures c.in_ok-arg-3.ensures in
    IfOk-weaker c.arg-4.result _ _ (λ command h. with_an_arg with_pages (flag_rule (codes "journal")) c.in_ok-arg-3.field-0 c.flag.result command three c.flag.ensures h) c.arg-4.ensures
