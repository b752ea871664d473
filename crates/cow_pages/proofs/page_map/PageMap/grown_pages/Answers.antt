use Rattle.std.proofs.Common.{◌≡◌, ◌≤◌, ℕ, get_or, inl, inr, sym, ◌∙◌, arith}
use Rattle.std.proofs.lemmas.Bool.{cases_lt}
use Rattle.std.proofs.lemmas.List.{get_or_past}
use Rattle.cow_pages.proofs.Counted.{same_below, grown_by}
use Rattle.cow_pages.proofs.page_map.PageMap.grown_pages.Goals as goal

pub loop-entry-init : goal.loop-entry-init
loop-entry-init c =
    let m = c.args.self.now in
    let same = same_below m.changed.from m.durable.items m.working.items (λ l lt. sym (m.within l (inl lt))) in
    record { few_before = omega arith; few_after = omega arith; counted = omega (arith, same) }

pub returns : goal.returns
returns c =
    let m = c.args.self.now in
    let past : (l : ℕ) → c.loop-entry.entry ≤ l → get_or m.working.items l 0 ≡ get_or m.durable.items l 0 = λ l le. elim (cases_lt l c.args.self.now.changed.to) [
      | inl inside ↦
          get_or_past m.working.items l 0 (omega (arith, le, inside, c.loop-entry-test.false, c.min-to.ensures, m.consistent.working_count))
          ∙ sym (get_or_past m.durable.items l 0 (omega (arith, le, inside, c.loop-entry-test.false, c.min-to.ensures, m.consistent.durable_count)))
      | inr outside ↦ m.within l (inr outside)
    ] in
    c.saturating_sub.ensures
    ∙ grown_by m.durable.items m.working.items c.loop-entry.entry c.loop-entry.before c.loop-entry.after (m.consistent.durable_count ∙ sym m.consistent.working_count) past
    c.loop-entry.invariant.counted
