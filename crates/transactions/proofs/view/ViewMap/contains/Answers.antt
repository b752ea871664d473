use Rattle.std.proofs.Common.{refl, ◌∙◌}
use Rattle.store.proofs.Reading.{none_read}
use Rattle.transactions.specs.Views.{view_state}
use Rattle.transactions.proofs.Viewing.{view_goes, change_answers, map_answers}
use Rattle.transactions.proofs.view.ViewMap.contains.Goals as goal

pub returns-in-Some-clause-goes : goal.returns-in-Some-clause-goes
returns-in-Some-clause-goes g c =
    let map = c.args.self.now.map.now in
    let lists = c.args.self.now.lists.now in
    record {
      only_reads = none_read (view_state lists (g.M.Map.state map)) (λ sound. g.met.M.Map.only_now map sound);
      answer = λ sound. c.is_some.ensures ∙ change_answers c.args.key.now c.in-Some.change.now.1 lists (g.M.Map.state map).map c.value.result (g.met.M.Map.ordered map sound) c.in-Some.ensures c.value.ensures;
      cause = tt;
      failed = refl;
      closed = λ none had. absurd none;
    }

pub returns-in-None-clause-goes : goal.returns-in-None-clause-goes
returns-in-None-clause-goes g c =
    let map = c.args.self.now.map.now in
    let lists = c.args.self.now.lists.now in
    view_goes lists _ _ c.contains.result (g.M.Map.state map) (g.M.Map.state c.contains.new.self)
    (λ sound found is. is ∙ map_answers c.args.key.now lists (g.M.Map.state map).map (g.met.M.Map.ordered map sound) c.in-None.ensures) c.contains.ensures.goes
