use Rattle.std.proofs.Common.{◌/◌, ℕ, subst}
use Rattle.journal_store.specs.DeviceImages.{IsReadAs}
use Rattle.databases.proofs.device_following.each_call_may_be_the_last.Goals as goal

pub returns : goal.returns
returns g = λ stop within same may x left a b from to.
    (left.0, (stop, from, to, within, may left.0 left.1), subst (λ (n : ℕ). IsReadAs (n / 8) left.0 x) same left.2)
