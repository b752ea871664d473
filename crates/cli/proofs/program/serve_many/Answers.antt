use Rattle.std.proofs.Common.{◌≡◌, ◌∙◌, ap, subst}
use Rattle.cli.specs.declared.ending.Ending.{Ending}
use Rattle.cli.specs.declared.ending.Subject.{Subject}
use Rattle.cli.specs.declared.ending.Subject.TheVariants as subject
use Rattle.cli.specs.Ending.{ExitsAfter}
use Rattle.cli.specs.Program.{ending_of_server, outcome_of_clients, server_subject}
use Rattle.cli.proofs.program.serve_many.Goals as goal

pub returns : goal.returns
returns g c =
    let end = c.serve_clients_file-end.result in
    let heard = g.E.Write.contents c.serve_clients_file-end.new.err in
    let after = g.E.Write.contents c.exit_after.new.err in
    let place = c.place_told-told_of.result in
    let ended = outcome_of_clients end.outcome in
    let is = c.outcome_of_clients-outcome.ensures in
    let about : c.subject_of_server-about.result ≡ server_subject (subject.Named c.args.file) place ended = c.subject_of_server-about.ensures ∙ ap (server_subject (subject.Named c.args.file) place) is in
    let ending : c.end_of_server.result ≡ ending_of_server ended = c.end_of_server.ensures ∙ ap ending_of_server is in
    record {
      end = end;
      heard = heard;
      serves = c.serve_clients_file-end.ensures;
      about = place;
      part = c.place_told-told_of.ensures;
      ends = subst (λ (a : Subject). ExitsAfter end.told a (ending_of_server ended) c.exit_after.result heard after) about
          (subst (λ (e : Ending). ExitsAfter end.told c.subject_of_server-about.result e c.exit_after.result heard after) ending c.exit_after.ensures);
    }
