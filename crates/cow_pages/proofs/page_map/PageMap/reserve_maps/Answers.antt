use Rattle.std.proofs.Common.{◌<◌, ℕ, List, length, get_or, inl, inr, ap, sym, subst, ◌∙◌, arith}
use Rattle.std.proofs.lemmas.Bool.{cases_eq}
use Rattle.std.proofs.lemmas.Result.{err_from_is_err_and}
use Rattle.page_roots.specs.Root.{RootFields}
use Rattle.cow_pages.specs.Held.{part_of}
use Rattle.cow_pages.specs.PageMap.{IsChanged, HasMapPage}
use Rattle.cow_pages.proofs.MapSteps.{maps_joined}
use Rattle.cow_pages.proofs.page_map.PageMap.reserve_maps.Goals as goal

pub returns-in_err-reserve_map_page-clause-preserved : goal.returns-in_err-reserve_map_page-clause-preserved
returns-in_err-reserve_map_page-clause-preserved c =
    let so_far = c.loop-index.invariant in
    maps_joined _ _ _ (record { root = so_far.root; durable = so_far.durable; working = so_far.working }) c.reserve_map_page.ensures.preserved

pub returns-in_err-reserve_map_page-clause-full : goal.returns-in_err-reserve_map_page-clause-full
returns-in_err-reserve_map_page-clause-full c =
    let so_far = c.loop-index.invariant in
    let p = err_from_is_err_and c.from_residual.result c.from_residual.ensures.1 in
    let full = c.in_err-reserve_map_page.ensures.full in
    rw p.1 (rw (so_far.root, so_far.durable, so_far.working, sym full.0) at full.1)

pub returns-in_err-reserve_map_page-clause-some_left : goal.returns-in_err-reserve_map_page-clause-some_left
returns-in_err-reserve_map_page-clause-some_left c =
    let so_far = c.loop-index.invariant in
    let p = err_from_is_err_and c.from_residual.result c.from_residual.ensures.1 in
    let full = c.in_err-reserve_map_page.ensures.full in
    let changed = c.is_changed.ensures.changed c.if-is_changed.true in
    let index = c.loop-index.index in
    rw p.1 (
      index,
      c.loop-index-test.true,
      ap (λ (r : List ℕ). get_or r index 0) full.0 ∙ so_far.beyond index (omega arith),
      subst (λ (r : RootFields). IsChanged r.maps c.args.self.now.durable.items c.args.self.now.working.items index) so_far.root
          (subst (λ (d : List ℕ). IsChanged c.loop-index.self.root.maps d c.args.self.now.working.items index) so_far.durable
          (subst (λ (w : List ℕ). IsChanged c.loop-index.self.root.maps c.loop-index.self.durable.items w index) so_far.working changed)),
    )

pub returns-in_err-reserve_map_page-clause-only : goal.returns-in_err-reserve_map_page-clause-only
returns-in_err-reserve_map_page-clause-only c j some =
    let so_far = c.loop-index.invariant in
    let full = c.in_err-reserve_map_page.ensures.full in
    so_far.only j (subst (λ (r : List ℕ). 0 < get_or r j 0) full.0 some)

pub loop-index-preserved : goal.loop-index-preserved
loop-index-preserved c =
    let so_far = c.loop-index.invariant in
    let index = c.loop-index.index in
    let old = c.args.self.now in
    elim c.if-is_changed.branch [
      | goal.then-is_changed+in_ok-reserve_map_page w ↦
          let changed = subst (λ (r : RootFields). IsChanged r.maps old.durable.items old.working.items index) so_far.root
          (subst (λ (d : List ℕ). IsChanged c.loop-index.self.root.maps d old.working.items index) so_far.durable
          (subst (λ (x : List ℕ). IsChanged c.loop-index.self.root.maps c.loop-index.self.durable.items x index) so_far.working (c.is_changed.ensures.changed w.if-is_changed.true))) in
          let now = w.reserve_map_page.new.self in
          let steps = w.reserve_map_page.ensures in
          let some = w.in_ok-reserve_map_page.ensures.reserved in
          rw w.self-is (record {
            root = steps.preserved.root ∙ so_far.root;
            durable = steps.preserved.durable ∙ so_far.durable;
            working = steps.preserved.working ∙ so_far.working;
            each = λ j lt. elim (cases_eq j index) [
              | inl is ↦ inl (subst (λ (k : ℕ). 0 < get_or now.reserved k 0) (sym is) some)
              | inr apart ↦ elim (so_far.each j (omega (arith, lt, apart))) [
                | inl has ↦ inl (omega (arith, has, steps.others j apart))
                | inr stays ↦ inr (steps.others j apart ∙ stays.0, stays.1, stays.2)
              ]
            ];
            beyond = λ j past. steps.others j (omega (arith, past)) ∙ so_far.beyond j (omega (arith, past));
            only = λ j positive. elim (cases_eq j index) [
              | inl is ↦ subst (λ (k : ℕ). IsChanged old.root.maps old.durable.items old.working.items k) (sym is) changed
              | inr apart ↦ so_far.only j (omega (arith, positive, steps.others j apart))
            ];
          })
      | goal.else-is_changed w ↦
          let same = c.is_changed.ensures.same w.if-is_changed.false in
          let at = so_far.beyond index (omega arith) in
          let here : HasMapPage old.root.maps old.durable.items old.working.items c.loop-index.self.reserved index = inr (
            at,
            subst (λ (r : RootFields). index < length r.maps) so_far.root same.0,
            sym (ap (λ (x : List ℕ). part_of x index) so_far.working) ∙ same.1 ∙ ap (λ (x : List ℕ). part_of x index) so_far.durable,
          ) in
          rw w.self-is (record {
            root = so_far.root;
            durable = so_far.durable;
            working = so_far.working;
            each = λ j lt. elim (cases_eq j index) [
              | inl is ↦ subst (λ (k : ℕ). HasMapPage old.root.maps old.durable.items old.working.items c.loop-index.self.reserved k) (sym is) here
              | inr apart ↦ so_far.each j (omega (arith, lt, apart))
            ];
            beyond = λ j past. so_far.beyond j (omega (arith, past));
            only = so_far.only;
          })
    ]
