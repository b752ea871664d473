use Rattle.cow_pages.proofs.Protecting.{reserved}
use Rattle.cow_pages.proofs.open.reserve.Goals as goal

pub returns-clause-taken : goal.returns-clause-taken
returns-clause-taken c =
    reserved c.args.pages c.args.maps.now c.args.entries.now _ _ _ c.in_ok-allocator.ensures.free c.protect_all.ensures.count c.protect_all-2.ensures.count c.protect_all.ensures.taken c.protect_all-2.ensures.taken
