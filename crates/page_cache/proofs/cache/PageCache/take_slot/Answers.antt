use Rattle.std.proofs.Common.{length, sym, ◌∙◌}
use Rattle.page_cache.proofs.Slotted.{kept_of, promoted_kept, promoted_slot, no_more, put_kept, pushed_here, pushed_others}
use Rattle.page_cache.proofs.cache.PageCache.take_slot.Goals as goal

pub invariant_of-self : goal.invariant_of-self
invariant_of-self c =
    let cache = c.args.self.now in
    let kept = promoted_kept cache.pages c.promote.new.self c.args.page (length cache.slots.items) c.promote.ensures.entries (kept_of cache) in
    record { capacity = kept.capacity; room = kept.room; first = kept.first; apart = kept.apart }

pub invariant_of-self-in-None : goal.invariant_of-self-in-None
invariant_of-self-in-None c =
    let cache = c.args.self.now in
    let kept = put_kept cache.pages c.push.new.self c.args.page c.in_ok-slot-in-None.slot (sym c.in-None.ensures.found) (length cache.slots.items) c.push.result c.in_ok-slot-in-None.ensures c.push.ensures.entries c.push.ensures.err (kept_of cache) in
    record { capacity = kept.capacity; room = kept.room; first = kept.first; apart = kept.apart }

pub returns-in-Some-clause-here : goal.returns-in-Some-clause-here
returns-in-Some-clause-here c = promoted_slot c.args.self.now.pages c.promote.new.self c.args.page c.args.page c.promote.ensures.entries ∙ sym c.in-Some.ensures.found

pub returns-in-Some-clause-others : goal.returns-in-Some-clause-others
returns-in-Some-clause-others c other differs = no_more _ _ (promoted_slot c.args.self.now.pages c.promote.new.self c.args.page other c.promote.ensures.entries)

pub returns-in-Ok-clause-here : goal.returns-in-Ok-clause-here
returns-in-Ok-clause-here c = pushed_here c.args.self.now.pages c.push.new.self c.args.page c.in_ok-slot-in-None.slot (sym c.in-None.ensures.found) c.in-Ok.ensures.entries

pub returns-in-Ok-clause-others : goal.returns-in-Ok-clause-others
returns-in-Ok-clause-others c = pushed_others c.args.self.now.pages c.push.new.self c.args.page c.in_ok-slot-in-None.slot (sym c.in-None.ensures.found) c.in-Ok.ensures.entries
