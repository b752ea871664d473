use Rattle.std.proofs.Common.{refl, ap, sym, ◌∙◌, Some}
use Rattle.store.specs.Records.{Record}
use Rattle.store.proofs.Reading.{none_read}
use Rattle.transactions.proofs.Viewing.{view_answered, view_read, put_entry, removed_entry, old_entry}
use Rattle.transactions.proofs.view.ViewMap.get.Goals as goal

pub returns-in_ok-set-in-Some-value-clause-reads : goal.returns-in_ok-set-in-Some-value-clause-reads
returns-in_ok-set-in-Some-value-clause-reads g c =
    let s = g.M.Map.state c.args.self.now.map.now in
    view_answered c.args.self.now.lists.now _ _ _ s s (none_read s (g.met.M.Map.only_now c.args.self.now.map.now)) refl
    (λ sound. put_entry c.args.key.now c.in-Some-value.value.now _ c.args.self.now.lists.now s.map (g.met.M.Map.ordered c.args.self.now.map.now sound) c.in-Some.ensures c.in-Some-value.ensures ∙ ap (λ (e : Record). Some e) (sym c.in_ok-set-in-Some-value.ensures))

pub returns-in-None-value-clause-reads : goal.returns-in-None-value-clause-reads
returns-in-None-value-clause-reads g c =
    let s = g.M.Map.state c.args.self.now.map.now in
    view_answered c.args.self.now.lists.now _ _ _ s s (none_read s (g.met.M.Map.only_now c.args.self.now.map.now)) refl
    (λ sound. removed_entry c.args.key.now _ c.args.self.now.lists.now s.map (g.met.M.Map.ordered c.args.self.now.map.now sound) c.in-Some.ensures c.in-None-value.ensures)

pub returns-in-None-clause-reads : goal.returns-in-None-clause-reads
returns-in-None-clause-reads g c =
    let s = g.M.Map.state c.args.self.now.map.now in
    view_read c.args.self.now.lists.now _ _ _ _ s _ (λ sound. old_entry c.args.key.now c.args.self.now.lists.now s.map (g.met.M.Map.ordered c.args.self.now.map.now sound) c.in-None.ensures) c.get.ensures.reads
