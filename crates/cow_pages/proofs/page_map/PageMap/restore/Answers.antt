use Rattle.std.proofs.Common.{◌≡◌, ℕ, ◌*◌, List, get_or, inl, inr, ap, sym, ◌∙◌, arith}
use Rattle.std.proofs.lemmas.Bool.{cases_lt}
use Rattle.std.proofs.lemmas.List.{ext_get_or}
use Rattle.cow_pages.proofs.page_map.PageMap.restore.Goals as goal

pub loop-index-preserved : goal.loop-index-preserved
loop-index-preserved c =
    let so_far = c.loop-index.invariant in
    let steps = c.restore_part.ensures in
    record {
      root = steps.preserved.root ∙ so_far.root;
      durable = steps.preserved.durable ∙ so_far.durable;
      reserved = steps.preserved.reserved ∙ so_far.reserved;
      restored = λ k lt. elim (cases_lt k (1024 * c.loop-index.index)) [
        | inl below ↦ steps.others k (inl below) ∙ so_far.restored k below
        | inr past ↦ steps.here k past (omega (arith, lt)) ∙ ap (λ (d : List ℕ). get_or d k 0) so_far.durable
      ];
    }

pub invariant_of-self : goal.invariant_of-self
invariant_of-self c =
    let m = c.loop-index.self in
    let so_far = c.loop-index.invariant in
    let same : m.working.items ≡ m.durable.items = ext_get_or 0 m.working.items m.durable.items (m.consistent.working_count ∙ sym m.consistent.durable_count)
    (λ k lt. so_far.restored k (omega (arith, lt, m.consistent.working_count, c.loop-index-test.false)) ∙ ap (λ (d : List ℕ). get_or d k 0) (sym so_far.durable)) in
    record {
      consistent = m.consistent;
      parts = m.parts;
      within = λ l outside. ap (λ (w : List ℕ). get_or w l 0) same;
      ended = m.ended;
      used = m.used;
    }

pub returns-clause-working : goal.returns-clause-working
returns-clause-working c =
    let so_far = c.loop-index.invariant in
    ext_get_or 0 c.loop-index.self.working.items c.args.self.now.durable.items (c.loop-index.self.consistent.working_count ∙ sym c.args.self.now.consistent.durable_count)
    (λ k lt. so_far.restored k (omega (arith, lt, c.loop-index.self.consistent.working_count, c.loop-index-test.false)))
