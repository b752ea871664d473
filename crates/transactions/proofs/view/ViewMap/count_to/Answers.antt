use Rattle.std.proofs.Common.{ap, sym, ◌∙◌, subst}
use Rattle.store.specs.Records.{Records, entries_where, is_from}
use Rattle.store.specs.Walks.{count_to, span}
use Rattle.transactions.specs.Views.{applied_all}
use Rattle.transactions.specs.WithinLaws.{merged_cut}
use Rattle.transactions.proofs.Viewing.{view_goes_later}
use Rattle.transactions.proofs.view.ViewMap.count_to.Goals as goal

pub returns-clause-goes : goal.returns-clause-goes
returns-clause-goes g c =
    let old = c.args.self.now.map.now in
    let mid = c.seek.new.self in
    let new = c.count_merged.new.map in
    let lists = c.args.self.now.lists.now in
    let start = c.args.start.now in
    let stop = c.args.stop.now in
    let es = (g.M.Map.state mid).map in
    let seek = c.in_ok-below.ensures.goes in
    view_goes_later lists (g.M.Map.state old) (g.M.Map.state mid) (g.M.Map.state new) seek.only_reads seek.failed _ _ c.count_merged.result
    (λ sound count counts.
    let same = (seek.only_reads.unchanged sound).map in
    counts (span start stop (applied_all lists es))
    (merged_cut (g.M.Map.ahead mid) (g.M.Map.ahead_within mid stop) stop lists es _ (entries_where (is_from start) (applied_all lists es)) (g.met.M.Map.ordered mid (seek.only_reads.history.sound sound))
    (λ below rest rises at. g.met.M.Map.ahead_cut mid stop below rest rises at)
    (record {
      rest = entries_where (is_from start) es;
      at_place = λ not. subst (λ (rs : Records). g.M.Map.ahead mid c.in_ok-below.below (entries_where (is_from start) rs)) (sym same) (seek.answer sound);
      merge = c.in_ok-merge.ensures.merge es;
    }))
    ∙ ap (λ (rs : Records). count_to c.args.most (span start stop (applied_all lists rs))) same)
    c.count_merged.ensures.only_reads c.count_merged.ensures.goes
