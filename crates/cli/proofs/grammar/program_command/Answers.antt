use Rattle.std.proofs.lemmas.Result.{IfOk-weaker}
use Rattle.clap.specs.Words.{with_subcommand}
use Rattle.cli.specs.CommandGrammar.{IsCommand, bare_app, format_app, run_app, serve_app, check_app, copy_app, describe_app, explain_app, journal_app, dump_app, restore_app, password_app}
use Rattle.cli.proofs.BuiltCommands.{with_one_below}
use Rattle.cli.proofs.grammar.program_command.Goals as goal

pub returns : goal.returns
returns c =
    let bare : IsCommand bare_app c.bare_command.result = record { app = c.bare_command.ensures.app; local = c.bare_command.ensures.local } in
    let two = with_subcommand bare_app format_app.top in
    let three = with_subcommand two run_app.top in
    let formats : IsCommand two c.in_ok-command.command = with_one_below bare_app format_app c.bare_command.result c.format_command.result c.in_ok-command.command bare c.format_command.ensures c.in_ok-command.ensures in
    let runs : IsCommand three c.in_ok-command-2.command = with_one_below two run_app c.in_ok-command.command c.run_command.result c.in_ok-command-2.command formats c.run_command.ensures c.in_ok-command-2.ensures in
    let serves : IsCommand (with_subcommand three serve_app.top) c.in_ok-command-3.command = with_one_below three serve_app c.in_ok-command-2.command c.serve_command.result c.in_ok-command-3.command runs c.serve_command.ensures c.in_ok-command-3.ensures in
    let four = with_subcommand three serve_app.top in
    let checks : IsCommand (with_subcommand four check_app.top) c.in_ok-command-4.command = with_one_below four check_app c.in_ok-command-3.command c.check_command.result c.in_ok-command-4.command serves c.check_command.ensures c.in_ok-command-4.ensures in
    let five = with_subcommand four check_app.top in
    let describes : IsCommand (with_subcommand five describe_app.top) c.in_ok-command-5.command = with_one_below five describe_app c.in_ok-command-4.command c.describe_command.result c.in_ok-command-5.command checks c.describe_command.ensures c.in_ok-command-5.ensures in
    let six = with_subcommand five describe_app.top in
    let copies : IsCommand (with_subcommand six copy_app.top) c.in_ok-command-6.command = with_one_below six copy_app c.in_ok-command-5.command c.copy_command.result c.in_ok-command-6.command describes c.copy_command.ensures c.in_ok-command-6.ensures in
    let seven = with_subcommand six copy_app.top in
    let journals : IsCommand (with_subcommand seven journal_app.top) c.in_ok-command-7.command = with_one_below seven journal_app c.in_ok-command-6.command c.journal_command.result c.in_ok-command-7.command copies c.journal_command.ensures c.in_ok-command-7.ensures in
    let eight = with_subcommand seven journal_app.top in
    let dumps : IsCommand (with_subcommand eight dump_app.top) c.in_ok-command-8.command = with_one_below eight dump_app c.in_ok-command-7.command c.dump_command.result c.in_ok-command-8.command journals c.dump_command.ensures c.in_ok-command-8.ensures in
    let nine = with_subcommand eight dump_app.top in
    let restores : IsCommand (with_subcommand nine restore_app.top) c.in_ok-command-9.command = with_one_below nine restore_app c.in_ok-command-8.command c.restore_command.result c.in_ok-command-9.command dumps c.restore_command.ensures c.in_ok-command-9.ensures in
    let ten = with_subcommand nine restore_app.top in
    let passwords : IsCommand (with_subcommand ten password_app.top) c.in_ok-command-10.command = with_one_below ten password_app c.in_ok-command-9.command c.password_command.result c.in_ok-command-10.command restores c.password_command.ensures c.in_ok-command-10.ensures in
    IfOk-weaker c.with_below-11.result _ _ (λ command h. with_one_below (with_subcommand ten password_app.top) explain_app c.in_ok-command-10.command c.explain_command.result command passwords c.explain_command.ensures h) c.with_below-11.ensures
