use Rattle.std.proofs.Common.{inl, inr, sym, subst, ℕ}
use Rattle.page_roots.specs.Sector.{root_at}
use Rattle.page_roots.specs.Later.{HasNoNewer, number_said}
use Rattle.page_roots.proofs.Newest.{behind_where}
use Rattle.page_roots.proofs.later.later_format.Goals as goal

pub returns-then-not-holds_newer-clause-newest : goal.returns-then-not-holds_newer-clause-newest
returns-then-not-holds_newer-clause-newest c = inl (record {
  later = sym c.if-begins_later.ensures;
  said = sym c.format_at.ensures;
  newest = subst (λ (n : ℕ). HasNoNewer (root_at 1 c.args.odd.now) n) c.number_at.ensures (behind_where 1 c.args.odd.now c.number_at.result (sym c.if-not-holds_newer.ensures));
})

pub returns-then-not-holds_newer-2-clause-newest : goal.returns-then-not-holds_newer-2-clause-newest
returns-then-not-holds_newer-2-clause-newest c = inr (record {
  later = sym c.if-begins_later-2.ensures;
  said = sym c.format_at-then-not-holds_newer-2.ensures;
  newest = subst (λ (n : ℕ). HasNoNewer (root_at 0 c.args.even.now) n) c.number_at-then-begins_later-2.ensures (behind_where 0 c.args.even.now c.number_at-then-begins_later-2.result (sym c.if-not-holds_newer-2.ensures));
})
