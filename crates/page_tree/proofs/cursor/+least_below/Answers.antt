use Rattle.std.proofs.Common.{◌-◌, List, [], ◌∙◌, subst, arith}
use Rattle.page_nodes.specs.Map.{Entry}
use Rattle.page_tree.specs.Forest.{next}
use Rattle.page_tree.specs.Kept.{KeepsPlace}
use Rattle.page_tree.proofs.Faults.{fails, gives_since, gives_unless_memory}
use Rattle.page_tree.proofs.Descent.{lent_as, at_keep, node_at, leaf_at, inner_at, children_full}
use Rattle.page_tree.proofs.Scans.{first_tree, first_tree_at, first_tree_full, found_as, leaf_first, leaf_entries, head_first_tree, least_inner, place_least}
use Rattle.page_tree.proofs.Made.{reads_then}
use Rattle.page_tree.proofs.cursor.+least_below.Goals as goal

pub returns-in_err-fetch_node-clause-found : goal.returns-in_err-fetch_node-clause-found
returns-in_err-fetch_node-clause-found g t c sound s key at =
    let h = node_at g.P.Pages c.args.pages.now sound s c.args.page key c.args.levels c.ranges.page.fits at in
    fails c.from_residual.result c.in_err-fetch_node.field-0.0 _ _ c.from_residual.ensures.1 (c.in_err-fetch_node.ensures.found sound h.kind h.first h.cs h.holds)

pub returns-in-Leaf-clause-found : goal.returns-in-Leaf-clause-found
returns-in-Leaf-clause-found g t c sound s key at =
    let l = leaf_at g.P.Pages c.args.pages.now sound s c.args.page key c.args.levels (g.P.Pages.fetched c.fetch_node.new.pages) c.ranges.page.fits at _ (c.in_ok-fetch_node.ensures.found sound) c.in-Leaf.is in
    gives_unless_memory g.P.Pages c.args.pages.now c.fetch_node.new.pages c.take_entry.result _ _
    (λ found is. (
      λ full. found_as _ _ found _ _ (leaf_first s.tree s.low c.args.page (g.P.Pages.fetched c.fetch_node.new.pages) [] l) is.0,
      subst (λ (es : List Entry). KeepsPlace es c.take_entry.new.self) (leaf_entries s.tree s.low c.args.page (g.P.Pages.fetched c.fetch_node.new.pages) l) is.1,
    )) (c.take_entry.ensures.taken l.es (lent_as (c.bytes.ensures ∙ c.fetched.ensures) l.node))

pub returns-in-Inner-clause-found : goal.returns-in-Inner-clause-found
returns-in-Inner-clause-found g t c sound s key at =
    let A = (g.P.Pages.state c.args.pages.now).array in
    let B = (g.P.Pages.state c.fetch_node.new.pages).array in
    let only_reads = c.in_ok-fetch_node.ensures.only_reads sound in
    let i = inner_at g.P.Pages c.args.pages.now sound s c.args.page key c.args.levels (g.P.Pages.fetched c.fetch_node.new.pages) c.ranges.page.fits at _ (c.in_ok-fetch_node.ensures.found sound) c.in-Inner.is in
    let full = (children_full s.tree s.depth i.at.below s.low c.args.page i.at.c at.full i.at.is i.at.deep).1 in
    let r = first_tree i.at.c s.low i.at.begins in
    let is = c.first_child-child.ensures i.at.head.1 i.at.rest (lent_as (c.bytes-in-Inner.ensures ∙ c.fetched-in-Inner.ensures) i.node) in
    let there = first_tree_at A i.at.below s.high i.at.c r (c.args.levels - 1) c.first_child-child.result i.at.sound full (omega (arith, at.shallow, i.at.deep)) (is ∙ head_first_tree i.at.c r i.at.head i.at.rest i.at.cells_are) in
    let below = at_keep A B r.at i.at.below r.from (next r.after s.high) c.first_child-child.result r.from (c.args.levels - 1) only_reads.same there in
    gives_since g.P.Pages c.args.pages.now c.fetch_node.new.pages c.least_below.new.pages c.least_below.result _ _ c.in_ok-fetch_node.ensures.preserved
    (λ found is. (
      λ _. found_as _ _ found _ _ (least_inner A s.tree s.depth s.low s.high c.args.page i.at r full) (is.0 (first_tree_full i.at.c r full)),
      place_least A s.tree s.depth s.low s.high c.args.page i.at r c.least_below.new.cursor is.1,
    ))
    (c.least_below.ensures.found only_reads.sound _ r.from below)

pub returns-in-Inner-clause-preserved : goal.returns-in-Inner-clause-preserved
returns-in-Inner-clause-preserved g t c =
    g.P.Pages.preserved_joined c.args.pages.now c.fetch_node.new.pages c.least_below.new.pages c.in_ok-fetch_node.ensures.preserved c.least_below.ensures.preserved

pub returns-in-Inner-clause-only_reads : goal.returns-in-Inner-clause-only_reads
returns-in-Inner-clause-only_reads g t c sound =
    let one = c.in_ok-fetch_node.ensures.only_reads sound in
    reads_then (g.P.Pages.state c.args.pages.now) (g.P.Pages.state c.fetch_node.new.pages) (g.P.Pages.state c.least_below.new.pages) one (c.least_below.ensures.only_reads one.sound)
