use Rattle.std.proofs.Common.{codes}
use Rattle.clap.specs.Words.{found_of}
use Rattle.cli.proofs.GivenWords.{flag_so}
use Rattle.cli.proofs.command.refusal_flags.Goals as goal

pub returns : goal.returns
returns c =
    let found = found_of c.args.given.now in
    let stop = flag_so found (codes "stop") c.get_flag-stop.result c.get_flag-stop.ensures.none c.get_flag-stop.ensures.value c.get_flag-stop.ensures.other in
    let explain = flag_so found (codes "explain") c.get_flag-explain.result c.get_flag-explain.ensures.none c.get_flag-explain.ensures.value c.get_flag-explain.ensures.other in
    (c.get_flag-stop.result, c.get_flag-explain.result, (stop, explain), c.at_refusal.ensures)
