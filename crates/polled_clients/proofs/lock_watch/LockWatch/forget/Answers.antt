use Rattle.std.proofs.Common.{refl}
use Rattle.polled_clients.proofs.Locking.{forgets}
use Rattle.polled_clients.proofs.lock_watch.LockWatch.forget.Goals as goal

pub returns : goal.returns
returns c =
    let self = c.args.self.now in
    forgets c.args.client self (record self { holder = c.without_holder-self.result; cut_off = c.without_client-self.result; expelled = c.without_client-self-2.result }) c.without_holder-self.ensures c.without_client-self.ensures c.without_client-self-2.ensures refl
