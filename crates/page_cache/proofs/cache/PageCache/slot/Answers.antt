use Rattle.std.proofs.Common.{length, sym, ◌∙◌}
use Rattle.page_cache.proofs.Slotted.{kept_of, inside_of}
use Rattle.page_cache.proofs.cache.PageCache.slot.Goals as goal

pub returns-clause-inside : goal.returns-clause-inside
returns-clause-inside c =
    let cache = c.args.self.now in
    inside_of cache.pages (length cache.slots.items) c.args.page (kept_of cache) c.copied.result (sym (c.copied.ensures ∙ c.peek.ensures))
