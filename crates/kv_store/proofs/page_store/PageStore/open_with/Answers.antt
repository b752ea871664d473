use Rattle.std.proofs.Common.{Bool, false, subst}
use Rattle.cow_pages.specs.Cow.{device_below}
use Rattle.kv_store.specs.Opening.{IsOpenedWith}
use Rattle.kv_store.specs.TreeStore.{pages_of, state_read}
use Rattle.kv_store.proofs.page_store.PageStore.open_with.Goals as goal

pub returns-in-Ok : goal.returns-in-Ok
returns-in-Ok g c =
    subst (λ (journal : Bool). IsOpenedWith false (g.D.Device.state c.args.device) (device_below (pages_of c.in-Ok.tree)) (state_read journal c.in-Ok.tree)) c.in-Ok.ensures.kind c.in-Ok.ensures.opens
