use Rattle.std.proofs.Common.{[], length, refl, sym, ◌∙◌}
use Rattle.page_nodes.specs.declared.cell.NodeKind.TheVariants.{Leaf}
use Rattle.page_nodes.specs.Node.{zeros_after}
use Rattle.page_nodes.proofs.Cells.{two_same}
use Rattle.page_nodes.proofs.Scan.{begins}
use Rattle.page_nodes.proofs.Merging.{begun}
use Rattle.page_nodes.proofs.merge.LeafMerge.new.Goals as goal

pub returns-in_err-end : goal.returns-in_err-end
returns-in_err-end c cells node =
    let b = begins Leaf c.args.bytes.now [] cells node in
    let count = two_same c.two_at-left.result (length cells) _ _ c.two_at-left.ensures.fits b.small (sym c.two_at-left.ensures.spelled ∙ b.count) in
    absurd (c.in_err-end.ensures.end cells (zeros_after Leaf [] cells) (rw c.start-at.ensures b.ahead) count)

pub returns : goal.returns
returns c cells node =
    let b = begins Leaf c.args.bytes.now [] cells node in
    let count = two_same c.two_at-left.result (length cells) _ _ c.two_at-left.ensures.fits b.small (sym c.two_at-left.ensures.spelled ∙ b.count) in
    begun c.args.bytes.now cells _ node refl c.start-at.ensures count (c.in_ok-end.ensures.end cells (zeros_after Leaf [] cells) (rw c.start-at.ensures b.ahead) count)
