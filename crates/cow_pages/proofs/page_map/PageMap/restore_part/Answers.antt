use Rattle.std.proofs.Common.{◌≡◌, ◌≢◌, ℕ, ◌<◌, ◌≤◌, ◌*◌, ◌+◌, List, get_or, inl, inr, ap, sym, ◌∙◌, arith}
use Rattle.std.proofs.lemmas.Bool.{cases_eq, cases_lt}
use Rattle.std.proofs.lemmas.List.{get_or-set_same, get_or-set_other}
use Rattle.cow_pages.proofs.ChangedParts.{changed_less}
use Rattle.cow_pages.proofs.page_map.PageMap.restore_part.Goals as goal

pub loop-logical-preserved : goal.loop-logical-preserved
loop-logical-preserved c =
    let so_far = c.loop-logical.invariant in
    let before = c.loop-logical.self in
    let logical = c.loop-logical.logical in
    let steps = c.restore_page.ensures in
    let page = get_or before.durable.items logical 0 in
    let inside : logical < 65536 = omega (arith, c.requires.inside, c.loop-logical-test.true, c.min-to.ensures) in
    let there : (k : ℕ) → k ≢ logical → get_or c.restore_page.new.self.working.items k 0 ≡ get_or before.working.items k 0 =
    λ k other. ap (λ (w : List ℕ). get_or w k 0) steps.working ∙ get_or-set_other before.working.items logical k page 0 other in
    let at : get_or c.restore_page.new.self.working.items logical 0 ≡ page =
    ap (λ (w : List ℕ). get_or w logical 0) steps.working ∙ get_or-set_same before.working.items logical page 0 (omega (arith, inside, before.consistent.working_count)) in
    record {
      root = steps.preserved.root ∙ so_far.root;
      durable = steps.preserved.durable ∙ so_far.durable;
      reserved = steps.preserved.reserved ∙ so_far.reserved;
      here = λ k least lt. elim (cases_eq k logical) [
        | inl is ↦
            ap (λ (n : ℕ). get_or c.restore_page.new.self.working.items n 0) is ∙ at ∙ ap (λ (d : List ℕ). get_or d logical 0) so_far.durable
            ∙ ap (λ (n : ℕ). get_or c.args.self.now.durable.items n 0) (sym is)
        | inr other ↦ there k other ∙ so_far.here k least (omega (arith, lt, other))
      ];
      others = λ k apart. elim apart [
        | inl below ↦ there k (omega (arith, below, c.loop-logical.auto.logical)) ∙ so_far.others k (inl below)
        | inr past ↦ there k (omega (arith, past, c.loop-logical-test.true)) ∙ so_far.others k (inr past)
      ];
    }

pub invariant_of-self : goal.invariant_of-self
invariant_of-self c =
    let m = c.loop-logical.self in
    let old = c.args.self.now in
    let so_far = c.loop-logical.invariant in
    let here : (l : ℕ) → 1024 * c.args.index ≤ l → l < 1024 * c.args.index + 1024 → get_or m.working.items l 0 ≡ get_or old.durable.items l 0 =
    λ l least lt. elim (cases_lt l c.max-from.result) [
      | inl before ↦ so_far.others l (inl before) ∙ old.within l (inl (omega (arith, before, least, c.max-from.ensures)))
      | inr after ↦ elim (cases_lt l c.min-to.result) [
        | inl inside ↦ so_far.here l after (omega (arith, inside, c.loop-logical-test.false))
        | inr past ↦ so_far.others l (inr past) ∙ old.within l (inr (omega (arith, past, lt, c.min-to.ensures)))
      ]
    ] in
    record {
      consistent = m.consistent;
      parts = changed_less m.durable.items m.working.items m.changed_parts m.parts c.args.index
          (λ l least lt. here l least lt ∙ ap (λ (d : List ℕ). get_or d l 0) (sym so_far.durable));
      within = m.within;
      ended = m.ended;
      used = m.used;
    }

pub returns-clause-here : goal.returns-clause-here
returns-clause-here c l least lt =
    let old = c.args.self.now in
    let so_far = c.loop-logical.invariant in
    elim (cases_lt l c.max-from.result) [
      | inl before ↦ so_far.others l (inl before) ∙ old.within l (inl (omega (arith, before, least, c.max-from.ensures)))
      | inr after ↦ elim (cases_lt l c.min-to.result) [
        | inl inside ↦ so_far.here l after (omega (arith, inside, c.loop-logical-test.false))
        | inr past ↦ so_far.others l (inr past) ∙ old.within l (inr (omega (arith, past, lt, c.min-to.ensures)))
      ]
    ]

pub returns-clause-others : goal.returns-clause-others
returns-clause-others c l apart =
    let so_far = c.loop-logical.invariant in
    elim apart [
      | inl below ↦ so_far.others l (inl (omega (arith, below, c.max-from.ensures)))
      | inr past ↦ so_far.others l (inr (omega (arith, past, c.min-to.ensures)))
    ]
