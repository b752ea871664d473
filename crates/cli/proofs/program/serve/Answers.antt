use Rattle.std.proofs.Common.{subst}
use Rattle.cli.specs.declared.ending.Ending.{Ending}
use Rattle.cli.specs.declared.ending.Subject.{Subject}
use Rattle.cli.specs.Ending.{ExitsAfter}
use Rattle.cli.specs.Program.{ending_of_server}
use Rattle.cli.proofs.program.serve.Goals as goal

pub returns : goal.returns
returns g c =
    let heard = g.E.Write.contents c.serve_file-outcome.new.err in
    let after = g.E.Write.contents c.exit_after.new.err in
    let told = c.serve_file-outcome.result.told in
    record {
      end = c.serve_file-outcome.result;
      heard = heard;
      serves = c.serve_file-outcome.ensures;
      ends = subst (λ (about : Subject). ExitsAfter told about (ending_of_server c.serve_file-outcome.result.outcome) c.exit_after.result heard after)
          c.subject_of_server-about.ensures
          (subst (λ (e : Ending). ExitsAfter told c.subject_of_server-about.result e c.exit_after.result heard after) c.end_of_server.ensures
          c.exit_after.ensures);
    }
