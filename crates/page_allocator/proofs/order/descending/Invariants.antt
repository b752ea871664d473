use Rattle.std.proofs.Common.{◌≡◌, ◌+◌, ◌<◌, ℕ, get_or, vec_len}
use Rattle.page_allocator.proofs.order.descending.Given as goal

abbrev pub invariant-loop-page : goal.invariant-loop-page
invariant-loop-page l = record {
  count : vec_len l.order ≡ l.page;
  pages : (i : ℕ) → i < l.page → get_or l.order.items i 0 + (i + 1) ≡ l.pages;
}
