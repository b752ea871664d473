use Rattle.std.proofs.Common.{◌-◌, List, ◌∙◌, subst, arith}
use Rattle.page_nodes.specs.Map.{Entry}
use Rattle.pages.specs.State.{OnlyReads}
use Rattle.page_tree.specs.Forest.{Forest, next, IsFull, append}
use Rattle.page_tree.specs.Kept.{IsFoundIn}
use Rattle.page_tree.proofs.Faults.{fails, caused_since, gives_since, gives_unless_memory}
use Rattle.page_tree.proofs.Trees.{full_right}
use Rattle.page_tree.proofs.Descent.{lent_as, at_keep, node_at, leaf_at, inner_at, step, children_full}
use Rattle.page_tree.proofs.Place.{placed}
use Rattle.page_tree.proofs.Scans.{first_tree, first_tree_at, first_tree_full, found_as, given_here, given_none, later_first_tree, later_page, given_later, leaf_entries, place_here, place_later}
use Rattle.page_tree.proofs.Made.{reads_then}
use Rattle.page_tree.proofs.cursor.+entry_below.Goals as goal

pub returns-in_err-fetch_node-clause-found : goal.returns-in_err-fetch_node-clause-found
returns-in_err-fetch_node-clause-found g t c sound s at =
    let h = node_at g.P.Pages c.args.pages.now sound s c.args.page c.args.key.now c.args.levels c.ranges.page.fits at in
    fails c.from_residual.result c.in_err-fetch_node.field-0.0 _ _ c.from_residual.ensures.1 (c.in_err-fetch_node.ensures.found sound h.kind h.first h.cs h.holds)

pub returns-in-Leaf-clause-found : goal.returns-in-Leaf-clause-found
returns-in-Leaf-clause-found g t c sound s at =
    let l = leaf_at g.P.Pages c.args.pages.now sound s c.args.page c.args.key.now c.args.levels (g.P.Pages.fetched c.fetch_node.new.pages) c.ranges.page.fits at _ (c.in_ok-fetch_node.ensures.found sound) c.in-Leaf.is in
    gives_unless_memory g.P.Pages c.args.pages.now c.fetch_node.new.pages c.take_entry.result _ _
    (λ found is. subst (λ (es : List Entry). IsFoundIn es c.args.key.now found c.take_entry.new.self) (leaf_entries s.tree s.low c.args.page (g.P.Pages.fetched c.fetch_node.new.pages) l) is) (c.take_entry.ensures.taken l.es (lent_as (c.bytes.ensures ∙ c.fetched.ensures) l.node))

pub returns-in_default-clause-found : goal.returns-in_default-clause-found
returns-in_default-clause-found g t c sound s at =
    let i = inner_at g.P.Pages c.args.pages.now sound s c.args.page c.args.key.now c.args.levels (g.P.Pages.fetched c.fetch_node.new.pages) c.ranges.page.fits at _ (c.in_ok-fetch_node.ensures.found sound) c.in-Inner.is in
    absurd (c.in_default.ensures i.at.head.1 i.at.rest (lent_as c.fetched-in-Inner.ensures i.node))

pub returns-in_err-found-in-Inner-clause-found : goal.returns-in_err-found-in-Inner-clause-found
returns-in_err-found-in-Inner-clause-found g t c sound s at =
    let only_reads = c.in_ok-fetch_node.ensures.only_reads sound in
    let w = step g.P.Pages c.args.pages.now c.fetch_node.new.pages sound s c.args.page c.args.key.now c.args.levels (g.P.Pages.fetched c.fetch_node.new.pages) c.in-Some.branch.child c.ranges.page.fits at _
    (c.in_ok-fetch_node.ensures.found sound) c.in-Inner.is only_reads (λ first cs node. (c.in-Some.ensures first cs (lent_as c.fetched-in-Inner.ensures node)).0) in
    fails c.from_residual-in_err-found-in-Inner.result c.in_err-found-in-Inner.field-0.0 _ _ c.from_residual-in_err-found-in-Inner.ensures.1
    (caused_since g.P.Pages c.args.pages.now c.fetch_node.new.pages c.entry_below.new.pages c.in_err-found-in-Inner.field-0.0 c.in_ok-fetch_node.ensures.preserved
    (c.in_err-found-in-Inner.ensures.found only_reads.sound _ w.there))

pub returns-then-found-clause-found : goal.returns-then-found-clause-found
returns-then-found-clause-found g t c sound s at =
    let only_reads = c.in_ok-fetch_node.ensures.only_reads sound in
    let w = step g.P.Pages c.args.pages.now c.fetch_node.new.pages sound s c.args.page c.args.key.now c.args.levels (g.P.Pages.fetched c.fetch_node.new.pages) c.in-Some.branch.child c.ranges.page.fits at _
    (c.in_ok-fetch_node.ensures.found sound) c.in-Inner.is only_reads (λ first cs node. (c.in-Some.ensures first cs (lent_as c.fetched-in-Inner.ensures node)).0) in
    let is = c.in_ok-found-in-Inner.ensures.found only_reads.sound _ w.there in (
      given_here (g.P.Pages.state c.args.pages.now).array s.tree s.depth s.low s.high c.args.page c.args.key.now w.node.at w.place _ _ c.in_ok-found-in-Inner.found c.if-found.true is.0,
      place_here (g.P.Pages.state c.args.pages.now).array s.tree s.depth s.low s.high c.args.page c.args.key.now w.node.at w.place _ is.1,
    )

pub returns-in_default-later-clause-found : goal.returns-in_default-later-clause-found
returns-in_default-later-clause-found g t c sound s at =
    let only_reads = c.in_ok-fetch_node.ensures.only_reads sound in
    let w = step g.P.Pages c.args.pages.now c.fetch_node.new.pages sound s c.args.page c.args.key.now c.args.levels (g.P.Pages.fetched c.fetch_node.new.pages) c.in-Some.branch.child c.ranges.page.fits at _
    (c.in_ok-fetch_node.ensures.found sound) c.in-Inner.is only_reads (λ first cs node. (c.in-Some.ensures first cs (lent_as c.fetched-in-Inner.ensures node)).0) in
    let is = c.in_ok-found-in-Inner.ensures.found only_reads.sound _ w.there in (
      given_none (g.P.Pages.state c.args.pages.now).array s.tree s.depth s.low s.high c.args.page c.args.key.now w.node.at w.place _ _ c.in_ok-found-in-Inner.found c.if-found.false
          is.0 c.in-Some.branch.later c.in_default-later.is (c.in-Some.ensures w.node.at.head.1 w.node.at.rest (lent_as c.fetched-in-Inner.ensures w.node.node)).1,
      place_here (g.P.Pages.state c.args.pages.now).array s.tree s.depth s.low s.high c.args.page c.args.key.now w.node.at w.place _ is.1,
    )

pub returns-in-Some-later-clause-preserved : goal.returns-in-Some-later-clause-preserved
returns-in-Some-later-clause-preserved g t c =
    g.P.Pages.preserved_joined c.args.pages.now c.entry_below.new.pages c.least_below.new.pages
    (g.P.Pages.preserved_joined c.args.pages.now c.fetch_node.new.pages c.entry_below.new.pages c.in_ok-fetch_node.ensures.preserved c.in_ok-found-in-Inner.ensures.preserved) c.least_below.ensures.preserved

pub returns-in-Some-later-clause-found : goal.returns-in-Some-later-clause-found
returns-in-Some-later-clause-found g t c sound s at =
    let A = (g.P.Pages.state c.args.pages.now).array in
    let only_reads : OnlyReads (g.P.Pages.state c.args.pages.now) (g.P.Pages.state c.fetch_node.new.pages) = c.in_ok-fetch_node.ensures.only_reads sound in
    let w = step g.P.Pages c.args.pages.now c.fetch_node.new.pages sound s c.args.page c.args.key.now c.args.levels (g.P.Pages.fetched c.fetch_node.new.pages) c.in-Some.branch.child c.ranges.page.fits at _
    (c.in_ok-fetch_node.ensures.found sound) c.in-Inner.is only_reads (λ first cs node. (c.in-Some.ensures first cs (lent_as c.fetched-in-Inner.ensures node)).0) in
    let i = w.node.at in
    let p = w.place in
    let page_is = (c.in-Some.ensures i.head.1 i.rest (lent_as c.fetched-in-Inner.ensures w.node.node)).1 in
    let full_below = (children_full s.tree s.depth i.below s.low c.args.page i.c at.full i.is i.deep).1 in
    let full_after = full_right p.at p.after (full_right p.before (append p.at p.after) (subst (λ (x : Forest). IsFull x) p.whole full_below)) in
    let more = later_first_tree A s.tree s.depth s.low s.high c.args.page c.args.key.now i p c.in-Some-later.later c.in-Some.branch.later c.in-Some-later.is page_is in
    let r = first_tree p.after more.0 more.1 in
    let same = later_page A s.tree s.depth s.low s.high c.args.page c.args.key.now i p c.in-Some-later.later c.in-Some.branch.later c.in-Some-later.is page_is more.0 more.1 more.2 r in
    let later_reads : OnlyReads (g.P.Pages.state c.fetch_node.new.pages) (g.P.Pages.state c.entry_below.new.pages) = c.in_ok-found-in-Inner.ensures.only_reads only_reads.sound in
    let there = at_keep A (g.P.Pages.state c.entry_below.new.pages).array r.at i.below r.from (next r.after s.high) c.in-Some-later.later r.from (c.args.levels - 1) (λ l. later_reads.same l ∙ only_reads.same l)
    (first_tree_at A i.below s.high p.after r (c.args.levels - 1) c.in-Some-later.later (placed A i.below c.args.key.now s.high i.c p i.sound).after_sound full_after (omega (arith, at.shallow, i.deep)) same) in
    gives_since g.P.Pages c.args.pages.now c.entry_below.new.pages c.least_below.new.pages c.least_below.result _ _
    (g.P.Pages.preserved_joined c.args.pages.now c.fetch_node.new.pages c.entry_below.new.pages c.in_ok-fetch_node.ensures.preserved c.in_ok-found-in-Inner.ensures.preserved)
    (λ found is. (
      found_as _ _ found _ _ (given_later A s.tree s.depth s.low s.high c.args.page c.args.key.now i p _ _ c.in_ok-found-in-Inner.found c.if-found.false
          (c.in_ok-found-in-Inner.ensures.found only_reads.sound _ w.there).0 more.0 more.1 more.2 r full_after) (is.0 (first_tree_full p.after r full_after)),
      place_later A s.tree s.depth s.low s.high c.args.page c.args.key.now i p r c.least_below.new.cursor is.1,
    ))
    (c.least_below.ensures.found later_reads.sound _ r.from there)

pub returns-in_err-found-in-Inner-clause-preserved : goal.returns-in_err-found-in-Inner-clause-preserved
returns-in_err-found-in-Inner-clause-preserved g t c =
    g.P.Pages.preserved_joined c.args.pages.now c.fetch_node.new.pages c.entry_below.new.pages c.in_ok-fetch_node.ensures.preserved c.in_err-found-in-Inner.ensures.preserved

pub returns-in_err-found-in-Inner-clause-only_reads : goal.returns-in_err-found-in-Inner-clause-only_reads
returns-in_err-found-in-Inner-clause-only_reads g t c sound =
    let one = c.in_ok-fetch_node.ensures.only_reads sound in
    reads_then (g.P.Pages.state c.args.pages.now) (g.P.Pages.state c.fetch_node.new.pages) (g.P.Pages.state c.entry_below.new.pages) one (c.in_err-found-in-Inner.ensures.only_reads one.sound)

pub returns-then-found-clause-preserved : goal.returns-then-found-clause-preserved
returns-then-found-clause-preserved g t c =
    g.P.Pages.preserved_joined c.args.pages.now c.fetch_node.new.pages c.entry_below.new.pages c.in_ok-fetch_node.ensures.preserved c.in_ok-found-in-Inner.ensures.preserved

pub returns-then-found-clause-only_reads : goal.returns-then-found-clause-only_reads
returns-then-found-clause-only_reads g t c sound =
    let one = c.in_ok-fetch_node.ensures.only_reads sound in
    reads_then (g.P.Pages.state c.args.pages.now) (g.P.Pages.state c.fetch_node.new.pages) (g.P.Pages.state c.entry_below.new.pages) one (c.in_ok-found-in-Inner.ensures.only_reads one.sound)

pub returns-in_default-later-clause-preserved : goal.returns-in_default-later-clause-preserved
returns-in_default-later-clause-preserved g t c =
    g.P.Pages.preserved_joined c.args.pages.now c.fetch_node.new.pages c.entry_below.new.pages c.in_ok-fetch_node.ensures.preserved c.in_ok-found-in-Inner.ensures.preserved

pub returns-in_default-later-clause-only_reads : goal.returns-in_default-later-clause-only_reads
returns-in_default-later-clause-only_reads g t c sound =
    let one = c.in_ok-fetch_node.ensures.only_reads sound in
    reads_then (g.P.Pages.state c.args.pages.now) (g.P.Pages.state c.fetch_node.new.pages) (g.P.Pages.state c.entry_below.new.pages) one (c.in_ok-found-in-Inner.ensures.only_reads one.sound)

pub returns-in-Some-later-clause-only_reads : goal.returns-in-Some-later-clause-only_reads
returns-in-Some-later-clause-only_reads g t c sound =
    let one = c.in_ok-fetch_node.ensures.only_reads sound in
    let two = reads_then (g.P.Pages.state c.args.pages.now) (g.P.Pages.state c.fetch_node.new.pages) (g.P.Pages.state c.entry_below.new.pages) one (c.in_ok-found-in-Inner.ensures.only_reads one.sound) in
    reads_then (g.P.Pages.state c.args.pages.now) (g.P.Pages.state c.entry_below.new.pages) (g.P.Pages.state c.least_below.new.pages) two (c.least_below.ensures.only_reads two.sound)
