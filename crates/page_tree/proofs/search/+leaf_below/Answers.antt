use Rattle.page_tree.proofs.Faults.{fails, gives_since}
use Rattle.page_tree.proofs.Descent.{lent_as, node_at, leaf_at, inner_at, step, leaf_value, inner_value, leaf_as}
use Rattle.page_tree.proofs.Made.{reads_then}
use Rattle.page_tree.proofs.search.+leaf_below.Goals as goal

pub returns-in_err-fetch_node-clause-found : goal.returns-in_err-fetch_node-clause-found
returns-in_err-fetch_node-clause-found g t c sound s at =
    let h = node_at g.P.Pages c.args.pages.now sound s c.args.page c.args.key.now c.args.levels c.ranges.page.fits at in
    fails c.from_residual.result c.in_err-fetch_node.field-0.0 _ _ c.from_residual.ensures.1 (c.in_err-fetch_node.ensures.found sound h.kind h.first h.cs h.holds)

pub returns-in-Leaf-clause-found : goal.returns-in-Leaf-clause-found
returns-in-Leaf-clause-found g t c sound s at =
    let l = leaf_at g.P.Pages c.args.pages.now sound s c.args.page c.args.key.now c.args.levels (g.P.Pages.fetched c.fetch_node.new.pages) c.ranges.page.fits at _ (c.in_ok-fetch_node.ensures.found sound) c.in-Leaf.is in
    (l.es, l.node, leaf_value s.tree s.low c.args.page (g.P.Pages.fetched c.fetch_node.new.pages) c.args.key.now l)

pub returns-in_default-clause-found : goal.returns-in_default-clause-found
returns-in_default-clause-found g t c sound s at =
    let i = inner_at g.P.Pages c.args.pages.now sound s c.args.page c.args.key.now c.args.levels (g.P.Pages.fetched c.fetch_node.new.pages) c.ranges.page.fits at _ (c.in_ok-fetch_node.ensures.found sound) c.in-Inner.is in
    absurd (c.in_default.ensures i.at.head.1 i.at.rest (lent_as c.fetched.ensures i.node))

pub returns-in-Some-clause-found : goal.returns-in-Some-clause-found
returns-in-Some-clause-found g t c sound s at =
    let only_reads = c.in_ok-fetch_node.ensures.only_reads sound in
    let w = step g.P.Pages c.args.pages.now c.fetch_node.new.pages sound s c.args.page c.args.key.now c.args.levels (g.P.Pages.fetched c.fetch_node.new.pages) c.in-Some.branch.child c.ranges.page.fits at _
    (c.in_ok-fetch_node.ensures.found sound) c.in-Inner.is only_reads (λ first cs node. (c.in-Some.ensures first cs (lent_as c.fetched.ensures node)).0) in
    let same = inner_value (g.P.Pages.state c.args.pages.now).array s.tree s.depth s.low s.high c.args.page c.args.key.now w.node.at w.place in
    gives_since g.P.Pages c.args.pages.now c.fetch_node.new.pages c.leaf_below.new.pages c.leaf_below.result _ _ c.in_ok-fetch_node.ensures.preserved
    (λ _ found. leaf_as s.tree w.place.at c.args.key.now (g.P.Pages.fetched c.leaf_below.new.pages) same found) (c.leaf_below.ensures.found only_reads.sound _ w.there)

pub returns-in-Some-clause-preserved : goal.returns-in-Some-clause-preserved
returns-in-Some-clause-preserved g t c =
    g.P.Pages.preserved_joined c.args.pages.now c.fetch_node.new.pages c.leaf_below.new.pages c.in_ok-fetch_node.ensures.preserved c.leaf_below.ensures.preserved

pub returns-in-Some-clause-only_reads : goal.returns-in-Some-clause-only_reads
returns-in-Some-clause-only_reads g t c sound =
    let one = c.in_ok-fetch_node.ensures.only_reads sound in
    reads_then (g.P.Pages.state c.args.pages.now) (g.P.Pages.state c.fetch_node.new.pages) (g.P.Pages.state c.leaf_below.new.pages) one (c.leaf_below.ensures.only_reads one.sound)
