use Rattle.std.proofs.Common.{◌≤◌}
use Rattle.page_cache.proofs.cache.pages_with_room.Given as goal

abbrev pub invariant-loop-pages : goal.invariant-loop-pages
invariant-loop-pages l = l.pages ≤ l.fn.wanted

abbrev pub decreases-loop-pages : goal.decreases-loop-pages
decreases-loop-pages l = l.pages
