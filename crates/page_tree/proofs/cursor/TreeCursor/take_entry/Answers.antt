use Rattle.std.proofs.Common.{[]}
use Rattle.page_nodes.specs.declared.cell.NodeKind.TheVariants.{Leaf}
use Rattle.page_nodes.specs.Map.{rest_entries}
use Rattle.page_nodes.specs.Node.{zeros_after}
use Rattle.page_nodes.specs.Search.{IsPosition}
use Rattle.page_tree.proofs.Kept.{entry_taken}
use Rattle.page_tree.proofs.cursor.TreeCursor.take_entry.Goals as goal

pub returns-in_default-clause-taken : goal.returns-in_default-clause-taken
returns-in_default-clause-taken c es node = absurd (c.in_default.ensures.sought [] es node)

pub returns-clause-taken : goal.returns-clause-taken
returns-clause-taken c es node =
    let s = c.in-Some.sought in
    let is : IsPosition Leaf c.args.self.now.leaf.page c.args.key.now es (zeros_after Leaf [] es) s.at s.index s.left = c.in-Some.ensures.sought [] es node in
    entry_taken c.args.key.now es c.take_next.new.self c.take_next.result
    (c.take_next.ensures.taken (rest_entries c.args.key.now es) (record { after = zeros_after Leaf [] es; spelled = is.rest; count = is.left_is }))
