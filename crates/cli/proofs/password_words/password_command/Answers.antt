use Rattle.std.proofs.Common.{codes}
use Rattle.std.proofs.lemmas.Result.{IfOk-weaker}
use Rattle.clap.specs.Words.{App, new_app, with_rule}
use Rattle.cli.specs.CommandGrammar.{IsCommand, flag_rule}
use Rattle.cli.proofs.BuiltCommands.{with_an_arg}
use Rattle.cli.proofs.password_words.password_command.Goals as goal

-- `password` with its first flag
abbrev with_new : App
with_new = with_rule (new_app (codes "password")) (flag_rule (codes "new"))

pub returns : goal.returns
returns c =
    let one : IsCommand with_new c.in_ok-arg.field-0 = with_an_arg (new_app (codes "password")) (flag_rule (codes "new")) c.command.result c.flag.result c.in_ok-arg.field-0 c.command.ensures c.flag.ensures c.in_ok-arg.ensures in
    IfOk-weaker c.arg-2.result _ _ (λ command h. with_an_arg with_new (flag_rule (codes "mock")) c.in_ok-arg.field-0 c.flag-2.result command one c.flag-2.ensures h) c.arg-2.ensures
