use Rattle.std.proofs.Common.{◌≡◌, ◌∷◌, List, ap, sym, ◌∙◌}
use Rattle.std.proofs.lemmas.List.{take_all}
use Rattle.store.specs.Records.{Changes}
use Rattle.transactions.specs.Views.{latest}
use Rattle.transactions.proofs.Joining.{one_list_more}
use Rattle.transactions.proofs.changes.ChangeLists.join.Goals as goal

pub loop-list-preserved : goal.loop-list-preserved
loop-list-preserved c =
    λ key. one_list_more key c.in_ok-joined.joined c.in-Some.later.now c.loop-list.list-index c.list-item.result c.loop-list.joined c.add_list.new.joined
    c.loop-list-test.true c.list-item.is (c.loop-list.invariant key) (c.in_ok-add_list.ensures.added key)

pub returns : goal.returns
returns c key =
    let later = c.in-Some.later.now in
    let whole : c.args.self.now ≡ c.in-Some.first.now ∷ later = sym (c.deref.ensures.value ∙ c.self.view_is) ∙ c.in-Some.ensures.cases.0 in
    c.loop-list.invariant key
    ∙ ap (λ (ls : List Changes). latest key (c.in_ok-joined.joined ∷ ls)) (take_all c.loop-list.list-index later c.loop-list-test.false)
    ∙ ap (λ (first : Changes). latest key (first ∷ later)) c.in_ok-joined.ensures
    ∙ ap (latest key) (sym whole)
