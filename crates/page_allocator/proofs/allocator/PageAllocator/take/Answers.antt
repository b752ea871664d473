use Rattle.std.proofs.Common.{◌<◌, ◌≤◌, List, Bool, length, subst, ap, sym, ◌∙◌}
use Rattle.page_allocator.specs.TakenPages.{IsFull, IsFree, with_taken}
use Rattle.page_allocator.proofs.Changes.{IsTakenNext, full_only, taken_next, some_free, free_apart}
use Rattle.page_allocator.proofs.allocator.PageAllocator.take.Goals as goal

pub overflow_sub-self : goal.overflow_sub-self
overflow_sub-self c = some_free _ _ _ c.self.view_is (λ full. let met = c.if-is_full.ensures.1 full in absurd cc)

some_left : (c : goal.After-row_known-2-1) → 1 ≤ c.self.inside.free
some_left c = some_free _ _ _ c.self.view_is (λ full. let met = c.if-is_full.ensures.1 full in absurd cc)

next : (c : goal.After-row_known-2-1) → IsTakenNext c.self.inside.order.items c.self.inside.places.items c.self.inside.free c.index.result.now
next c = taken_next _ _ _ _ c.self.invariant (some_left c) c.index.ensures

pub returns-clause-inside : goal.returns-clause-inside
returns-clause-inside c = ((next c).low, subst (λ (taken : List Bool). c.index.result.now < length taken) c.self.view_is (next c).inside)

pub returns-clause-free : goal.returns-clause-free
returns-clause-free c = subst (λ (taken : List Bool). IsFree taken c.index.result.now) c.self.view_is (next c).was_free

pub returns-clause-taken : goal.returns-clause-taken
returns-clause-taken c = (next c).taken ∙ ap (λ (taken : List Bool). with_taken taken c.index.result.now) c.self.view_is

pub returns-clause-full : goal.returns-clause-full
returns-clause-full c = (λ no. absurd cc, λ full. absurd (full_only _ _ _ c.self.invariant (some_left c) (subst IsFull (sym c.self.view_is) full)))

pub returns-clause-apart : goal.returns-clause-apart
returns-clause-apart c durable working reached =
    let inside = returns-clause-inside c in
    free_apart c.args.self.now durable working c.index.result.now inside.0 inside.1 reached (returns-clause-free c)
