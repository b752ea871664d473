use Rattle.std.proofs.Common.{ℕ, None, length, get_or, set, ap, sym, subst, ◌∙◌}
use Rattle.std.proofs.Math.ListN.{length-set}
use Rattle.std.proofs.lemmas.List.{get_or_default}
use Rattle.std.specs.Prelude.{option_map, option_and_then}
use Rattle.page_cache.specs.Slots.{boxed_bytes}
use Rattle.page_cache.specs.Held.{slot_of}
use Rattle.page_cache.proofs.Slotted.{IsKept, kept_of, promoted_kept, promoted_slot, held_stays}
use Rattle.page_cache.proofs.cache.PageCache.find.Goals as goal

pub invariant_of-self : goal.invariant_of-self
invariant_of-self c =
    let cache = c.args.self.now in
    let kept : IsKept c.promote.new.self (length (set cache.slots.items c.in_ok-slot.slot c.find_offsets.new.slot)) =
    subst (λ (slots : ℕ). IsKept c.promote.new.self slots) (sym (length-set cache.slots.items c.in_ok-slot.slot c.find_offsets.new.slot))
    (promoted_kept cache.pages c.promote.new.self c.args.page (length cache.slots.items) c.promote.ensures.entries (kept_of cache)) in
    record { capacity = kept.capacity; room = kept.room; first = kept.first; apart = kept.apart }

pub returns-then-find_offsets-clause-kept : goal.returns-then-find_offsets-clause-kept
returns-then-find_offsets-clause-kept c other =
    let cache = c.args.self.now in
    let items = cache.slots.items in
    let slot = c.in_ok-slot.slot in
    let same = c.find_offsets.ensures.page ∙ ap (option_map boxed_bytes) (c.index_mut.ensures.value ∙ get_or_default items slot c.index_mut.result.now None c.in_ok-slot.ensures.inside) in
    ap (option_and_then (λ (at : ℕ). option_map boxed_bytes (get_or (set items slot c.find_offsets.new.slot) at None))) (promoted_slot cache.pages c.promote.new.self c.args.page other c.promote.ensures.entries)
    ∙ held_stays items slot c.find_offsets.new.slot c.in_ok-slot.ensures.inside same (slot_of cache other)

pub returns-clause-kept : goal.returns-clause-kept
returns-clause-kept c other =
    let cache = c.args.self.now in
    let items = cache.slots.items in
    let slot = c.in_ok-slot.slot in
    let same = c.find_offsets.ensures.page ∙ ap (option_map boxed_bytes) (c.index_mut.ensures.value ∙ get_or_default items slot c.index_mut.result.now None c.in_ok-slot.ensures.inside) in
    ap (option_and_then (λ (at : ℕ). option_map boxed_bytes (get_or (set items slot c.find_offsets.new.slot) at None))) (promoted_slot cache.pages c.promote.new.self c.args.page other c.promote.ensures.entries)
    ∙ held_stays items slot c.find_offsets.new.slot c.in_ok-slot.ensures.inside same (slot_of cache other)
