use Rattle.std.proofs.Common.{◌<◌, ◌≤◌, ◌*◌, ◌+◌, inl, inr, sym, ◌∙◌, arith}
use Rattle.std.proofs.lemmas.Bool.{cases_lt}
use Rattle.std.proofs.lemmas.List.{get_or_default}
use Rattle.cow_pages.proofs.Parts.{parts_same, parts_differ}
use Rattle.cow_pages.proofs.ChangedParts.{unchanged_part}
use Rattle.cow_pages.proofs.page_map.PageMap.differs.Goals as goal

pub returns-clause-same : goal.returns-clause-same
returns-clause-same c is =
    let m = c.args.self.now in
    let j = c.args.index in
    parts_same m.working.items m.durable.items j (omega (arith, c.requires.inside, m.consistent.working_count)) (m.consistent.working_count ∙ sym m.consistent.durable_count)
    (λ k least lt. elim (cases_lt k c.max-from.result) [
      | inl before ↦ m.within k (inl (omega (arith, before, least, c.max-from.ensures)))
      | inr after ↦ elim (cases_lt k c.min-to.result) [
        | inl inside ↦ c.loop-entry.invariant k after (omega (arith, inside, c.loop-entry-test.false))
        | inr past ↦ m.within k (inr (omega (arith, past, lt, c.min-to.ensures)))
      ]
    ])

pub returns-then-index-clause-differ : goal.returns-then-index-clause-differ
returns-then-index-clause-differ c is =
    let m = c.args.self.now in
    let j = c.args.index in
    let k = c.loop-entry.entry in
    let least : 1024 * j ≤ k = omega (arith, c.loop-entry.auto.entry, c.max-from.ensures) in
    let most : k < 1024 * j + 1024 = omega (arith, c.loop-entry-test.true, c.min-to.ensures) in
    parts_differ m.working.items m.durable.items j k least most
    (λ same. c.if-index.true (c.index.ensures ∙ get_or_default m.working.items k c.index.result.now 0 (omega (arith, most, c.requires.inside, m.consistent.working_count))
    ∙ same ∙ sym (c.index-in-loop-entry.ensures ∙ get_or_default m.durable.items k c.index-in-loop-entry.result.now 0 (omega (arith, most, c.requires.inside, m.consistent.durable_count)))))

pub returns-then-not-self-index-clause-same : goal.returns-then-not-self-index-clause-same
returns-then-not-self-index-clause-same c is =
    let m = c.args.self.now in
    unchanged_part m.durable.items m.working.items m.changed_parts m.parts c.args.index c.requires.inside m.consistent.working_count m.consistent.durable_count c.if-not-self-index.true
