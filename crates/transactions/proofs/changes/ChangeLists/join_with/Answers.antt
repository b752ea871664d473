use Rattle.std.proofs.Common.{◌∷◌, [], ap, ◌∙◌}
use Rattle.store.specs.Records.{lookup}
use Rattle.transactions.specs.Views.{or_earlier}
use Rattle.transactions.proofs.Recording.{recorded}
use Rattle.transactions.proofs.changes.ChangeLists.join_with.Goals as goal

pub returns : goal.returns
returns c es rise =
    recorded c.args.self.now (c.add_list.new.joined ∷ []) c.args.last.now
    (λ key. c.in_ok-add_list.ensures.added key ∙ ap (or_earlier (lookup key c.args.last.now)) (c.in_ok-joined.ensures key)) es rise
