use Rattle.std.proofs.Common.{length, arith, sym}
use Rattle.page_cache.proofs.Slotted.{kept_of, spare_new, spare_last}
use Rattle.page_cache.proofs.cache.PageCache.spare_slot.Goals as goal

pub returns-then-used-len : goal.returns-then-used-len
returns-then-used-len c =
    let cache = c.args.self.now in
    spare_new cache.pages (length cache.slots.items) c.len-used.result (kept_of cache) c.len-used.ensures.len (omega arith)

pub returns : goal.returns
returns c =
    let cache = c.args.self.now in
    spare_last cache.pages (length cache.slots.items) (c.in_ok-slot.field-0-0.now, c.in_ok-slot.slot.now) (kept_of cache) c.len-used.ensures.valid.0 (omega arith) (sym c.in_ok-slot.ensures)
