use Rattle.std.proofs.Common.{refl}
use Rattle.transactions.proofs.Viewing.{records_kept}
use Rattle.transactions.proofs.Merging.{merged_steps_to}
use Rattle.transactions.proofs.view.ViewMap.step_within.Goals as goal

pub returns-in-Merged-clause-preserved : goal.returns-in-Merged-clause-preserved
returns-in-Merged-clause-preserved g c = (
  record { same_map = refl; lists = refl },
  c.step_merged_within.ensures.preserved,
  records_kept (g.M.Map.state c.args.self.now.map.now) (g.M.Map.state c.step_merged_within.new.map) c.step_merged_within.ensures.only_reads,
)

pub returns-in-Merged-clause-goes : goal.returns-in-Merged-clause-goes
returns-in-Merged-clause-goes g c =
    let map = c.args.self.now.map.now in
    let lists = c.args.self.now.lists.now in
    merged_steps_to c.args.stop.now lists (g.M.Map.ahead_within map c.args.stop.now) (g.M.Map.ahead_within c.step_merged_within.new.map c.args.stop.now) (g.M.Map.found_at c.step_merged_within.new.map) (g.M.Map.state map) (g.M.Map.state c.step_merged_within.new.map)
    c.args.place.now c.in-Merged.merged c.step_merged_within.new.place c.in-Merged.is c.step_merged_within.ensures.only_reads c.step_merged_within.result c.step_merged_within.ensures.goes
