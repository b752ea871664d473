use Rattle.std.proofs.Common.{codes, true}
use Rattle.std.proofs.lemmas.Result.{IfOk-weaker}
use Rattle.clap.specs.Words.{App, new_app, with_rule}
use Rattle.cli.specs.CommandGrammar.{IsCommand, word_rule}
use Rattle.cli.proofs.BuiltCommands.{with_an_arg}
use Rattle.cli.proofs.dump_words.dump_command.Goals as goal

-- `dump` with its first word
abbrev with_file : App
with_file = with_rule (new_app (codes "dump")) (word_rule (codes "file") true)

pub returns : goal.returns
returns c =
    let one : IsCommand with_file c.in_ok-arg.field-0 = with_an_arg (new_app (codes "dump")) (word_rule (codes "file") true) c.command.result c.word.result c.in_ok-arg.field-0 c.command.ensures c.word.ensures c.in_ok-arg.ensures in
    IfOk-weaker c.arg-2.result _ _ (λ command h. with_an_arg with_file (word_rule (codes "out") true) c.in_ok-arg.field-0 c.word-2.result command one c.word-2.ensures h) c.arg-2.ensures
