use Rattle.std.proofs.Common.{◌≡◌, List, refl, ap, ◌∙◌}
use Rattle.store.specs.Records.{Changes, lookup}
use Rattle.transactions.specs.Views.{latest, or_earlier}
use Rattle.transactions.proofs.Recording.{recorded, pushed}
use Rattle.transactions.proofs.changes.ChangeLists.record.Goals as goal

pub returns-then-add_to_last-clause-ok : goal.returns-then-add_to_last-clause-ok
returns-then-add_to_last-clause-ok c =
    let same : c.reserve.new.self.items ≡ c.args.self.now = c.reserve.ensures.items ∙ c.self.view_is in
    recorded c.args.self.now c.add_to_last.new.lists.items c.args.changes (λ key.
    c.if-add_to_last.ensures.added refl key ∙ ap (λ (ls : List Changes). or_earlier (lookup key c.args.changes) (latest key ls)) same)

pub returns-clause-ok : goal.returns-clause-ok
returns-clause-ok c =
    let same : c.reserve.new.self.items ≡ c.args.self.now = c.reserve.ensures.items ∙ c.self.view_is in
    let says = pushed c.args.self.now c.add_to_last.new.lists.items c.args.changes (λ key none.
    c.if-add_to_last.ensures.elsewhere key none ∙ ap (λ (ls : List Changes). latest key ls) same) in
    recorded c.args.self.now c.push.new.self.items c.args.changes (λ key. ap (latest key) c.in-Ok.ensures.items ∙ says key)
