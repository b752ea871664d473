use Rattle.std.proofs.Common.{◌≡◌, ℕ, List, sym, subst, ◌∙◌}
use Rattle.cow_pages.specs.PageMap.{IsUsedBelow}
use Rattle.cow_pages.proofs.page_map.PageMap.advance.Goals as goal

pub invariant_of-self : goal.invariant_of-self
invariant_of-self c =
    let m = c.restore.new.self in
    let old = c.args.self.now in
    let same : m.working.items ≡ old.working.items = c.restore.ensures.working ∙ c.unreserve.ensures.preserved.durable ∙ c.swap_roots.ensures.durable in
    record {
      consistent = m.consistent;
      parts = m.parts;
      within = m.within;
      ended = m.ended;
      used = subst (λ (w : List ℕ). IsUsedBelow w old.unused_from) (sym same) old.used;
    }
