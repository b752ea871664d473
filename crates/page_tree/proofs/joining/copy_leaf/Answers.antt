use Rattle.std.proofs.Common.{[], sym, ◌∙◌}
use Rattle.page_nodes.specs.declared.cell.NodeKind.TheVariants.{Leaf}
use Rattle.page_tree.proofs.Descent.{lent_as}
use Rattle.page_tree.proofs.LeafChanges.{some_number}
use Rattle.page_tree.proofs.RemovalJoins.{read_holds}
use Rattle.page_tree.proofs.joining.copy_leaf.Goals as goal

pub returns-in-Some-clause-copied : goal.returns-in-Some-clause-copied
returns-in-Some-clause-copied g c sound es holds =
    let node = read_holds (g.P.Pages.state c.args.pages.now).array c.args.page Leaf [] es (g.P.Pages.fetched c.fetch.new.self) holds (c.in_ok-fetch.ensures.found sound) in
    let f = c.in_ok-copied.ensures.copied [] es (lent_as (c.bytes.ensures ∙ c.fetched.ensures) node) in
    (some_number _ _ _ c.in-Some.is f.0, f.1, node.sizes)

pub returns-in-None-clause-copied : goal.returns-in-None-clause-copied
returns-in-None-clause-copied g c sound es holds =
    let node = read_holds (g.P.Pages.state c.args.pages.now).array c.args.page Leaf [] es (g.P.Pages.fetched c.fetch.new.self) holds (c.in_ok-fetch.ensures.found sound) in
    let f = c.in_ok-copied.ensures.copied [] es (lent_as (c.bytes.ensures ∙ c.fetched.ensures) node) in
    absurd (let is = sym c.in-None.is ∙ f.0 in cc)
