use Rattle.std.proofs.Common.{ℕ, List, inr, subst}
use Rattle.databases.proofs.DeviceOpening.{none_open}
use Rattle.cli.specs.declared.ending.Ending.{Ending}
use Rattle.cli.specs.declared.ending.Subject.TheVariants.{Named}
use Rattle.cli.specs.ExplainedRuns.{EndsExplained, IsFresh}
use Rattle.cli.proofs.Changes.{closed_again}
use Rattle.cli.proofs.explained_runs.explain_file.Goals as goal

pub returns : goal.returns
returns g c =
    let at = c.in-Ok.ensures.opens in
    inr (record {
      told = c.tell_migration-told.result;
      heard = c.tell_migration-told.new.err;
      before = c.explainer-sink.result;
      after = c.run_script_on-left.new.sink;
      end = c.run_script_on-left.result.1;
      fresh = subst (λ (lines : List (List ℕ)). IsFresh c.args.run lines c.tell_migration-told.result c.args.out c.tell_migration-told.new.err c.explainer-sink.result) c.requires c.explainer-sink.ensures;
      ran = record {
        file = record { device = at.device; opened = c.in-Ok.opened; is_opened = at.is_opened; tells = c.tell_migration-told.ensures };
        renewed = c.in-Ok.ensures.renewed;
        left = c.run_script_on-left.result.0;
        runs = c.run_script_on-left.ensures;
        closed = λ is. c.run_script_on-left.ensures.closed (none_open _ c.in-Ok.opened (at.is_opened is));
        changes = λ is. closed_again g.Y.Device.Device c.args.file.now at.device c.run_script_on-left.result.0 (g.Y.System.state c.args.system.now) (g.Y.System.state c.open_database_in.new.system)
            (g.Y.System.state c.close.new.self) (at.named is) (at.is_open is) (at.others is) c.close.ensures.closed c.close.ensures.others is;
      };
      ends = subst (λ (e : Ending). EndsExplained g.E.Write.contents (Named c.args.file) c.args.text.now e c.run_script_on-left.new.sink c.end_explained.result) c.from.ensures c.end_explained.ensures;
    })
