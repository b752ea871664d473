use Rattle.std.proofs.Common.{◌≡◌, ℕ, List, Option, Some, None, IfSome, set, get_or, subst}
use Rattle.std.specs.Prelude.{option_map, option_and_then}
use Rattle.page_cache.specs.Slots.{boxed_bytes}
use Rattle.page_cache.specs.Held.{slot_of}
use Rattle.page_cache.proofs.Slotted.{Kept, put_here, put_others}
use Rattle.page_cache.proofs.cache.PageCache.put.Goals as goal

pub returns-in-Some-clause-here : goal.returns-in-Some-clause-here
returns-in-Some-clause-here c =
    let taken = c.take_slot.new.self in
    put_here taken.pages.entries c.args.page c.in-Some.slot taken.slots.items c.before.before.fill.new.slot c.args.bytes.now c.in-Some.ensures.here c.in-Some.ensures.inside c.before.before.fill.ensures

pub returns-in-Some-clause-others : goal.returns-in-Some-clause-others
returns-in-Some-clause-others c other differs =
    let taken = c.take_slot.new.self in
    let before = slot_of c.args.self.now other in
    let there = option_and_then (λ (at : ℕ). option_map boxed_bytes (get_or (set taken.slots.items c.in-Some.slot c.before.before.fill.new.slot) at None)) (slot_of taken other) in
    subst (λ (items : List (Option Kept)). IfSome there (λ bytes. option_and_then (λ (at : ℕ). option_map boxed_bytes (get_or items at None)) before ≡ Some bytes)) c.in-Some.ensures.slots
    (put_others taken.pages.entries c.args.page other c.in-Some.slot before taken.slots.items c.before.before.fill.new.slot taken.apart c.in-Some.ensures.here differs (c.in-Some.ensures.others other differs))
