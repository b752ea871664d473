use Rattle.std.proofs.Common.{ℕ, List, true, subst}
use Rattle.cli.specs.ExplainedRuns.{IsFresh}
use Rattle.cli.proofs.explained_runs.explain_new.Goals as goal

pub returns : goal.returns
returns g c = record {
  before = c.explainer-sink.result;
  after = c.run_in_memory-ending.new.out;
  ending = c.run_in_memory-ending.result;
  fresh = subst (λ (lines : List (List ℕ)). IsFresh c.args.run lines true c.args.out c.args.err c.explainer-sink.result) c.requires c.explainer-sink.ensures;
  runs = c.run_in_memory-ending.ensures.runs;
  ends = c.end_explained.ensures;
}
