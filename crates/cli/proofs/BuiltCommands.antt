-- A command of `clap` grows by its arguments and by its subcommands.
use Rattle.std.proofs.Common.{◌∙◌, ap, ap₂, Bool, ◌||◌}
use Rattle.std.specs.Prelude.{Result, IfOk}
use Rattle.std.proofs.lemmas.Result.{IfOk-at_ok}
use Rattle.clap.specs.Words.{AddsArg, AddsSubcommand, App, Rule, with_rule, with_subcommand}
use Rattle.clap.specs.declared.builder.arg.Arg.{Arg}
use Rattle.clap.specs.declared.builder.command.Command.{Command}
use Rattle.cli.specs.CommandGrammar.{HasBelow, IsArg, IsCommand}

pub with_an_arg : (app : App) (rule : Rule) (old : Command) (arg : Arg) (new : Command) → IsCommand app old → IsArg rule arg → AddsArg old arg new → IsCommand (with_rule app rule) new
with_an_arg app rule old arg new is has added = record {
  app = added.shape has.local ∙ ap₂ with_rule is.app has.rule;
  local = added.globals ∙ ap₂ (λ (a b : Bool). a || b) is.local has.local;
}

pub with_a_subcommand : (app sub : App) (old command new : Command) → IsCommand app old → IsCommand sub command → AddsSubcommand old command new → IsCommand (with_subcommand app sub.top) new
with_a_subcommand app sub old command new is has added = record {
  app = added.shape has.local ∙ ap₂ with_subcommand is.app (ap (λ (a : App). a.top) has.app);
  local = added.globals ∙ ap₂ (λ (a b : Bool). a || b) is.local has.local;
}

pub with_one_below : {E : Type 0} (app sub : App) (old : Command) (made : Result Command E) (new : Command) → IsCommand app old → IfOk made (IsCommand sub) → HasBelow old made new → IsCommand (with_subcommand app sub.top) new
with_one_below app sub old made new is has grown = with_a_subcommand app sub old grown.below new is (IfOk-at_ok (IsCommand sub) grown.is_made has) grown.added
