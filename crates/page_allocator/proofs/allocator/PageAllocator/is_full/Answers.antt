use Rattle.std.proofs.Common.{subst, sym, inl, inr, arith}
use Rattle.std.proofs.lemmas.Bool.{cases_lt, eqb-true, eq-eqb}
use Rattle.page_allocator.specs.TakenPages.{IsFull}
use Rattle.page_allocator.proofs.Changes.{full_is, full_only}
use Rattle.page_allocator.proofs.allocator.PageAllocator.is_full.Goals as goal

pub returns : goal.returns
returns c = (
  λ none. subst IsFull c.self.view_is (full_is c.self.inside.places.items c.self.inside.free (eqb-true _ _ none)),
  λ full. elim (cases_lt 0 c.self.inside.free) [
    | inl some ↦ absurd (full_only _ _ _ c.self.invariant some (subst IsFull (sym c.self.view_is) full))
    | inr le ↦ eq-eqb _ _ (omega arith)
  ],
)
