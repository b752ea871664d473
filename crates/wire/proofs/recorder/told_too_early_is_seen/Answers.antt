use Rattle.std.proofs.Common.{sym, ◌∙◌}
use Rattle.wire.proofs.Recorded.{same_last, none_recorded}
use Rattle.wire.proofs.recorder.told_too_early_is_seen.Goals as goal

pub returns-clause-told : goal.returns-clause-told
returns-clause-told g c e t tells early = same_last c.args.first.now.numbers.items _ _ (sym tells.told ∙ early)

pub returns-clause-broken : goal.returns-clause-broken
returns-clause-broken g c e some =
    none_recorded g.X.EventHandler.Reads g.S.Map.state c.args.old.now c.args.new.now c.args.first.now c.args.last.now _ (λ k. k.numbers.items) (λ l m s session answer broken. broken) e some
