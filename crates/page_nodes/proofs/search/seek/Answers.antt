use Rattle.std.proofs.Common.{length, sym, ◌∙◌, arith}
use Rattle.page_nodes.specs.Node.{zeros_after}
use Rattle.page_nodes.proofs.Cells.{two_same}
use Rattle.page_nodes.proofs.Scan.{begins, start_small}
use Rattle.page_nodes.proofs.search.seek.Goals as goal

pub seek_on-requires : goal.seek_on-requires
seek_on-requires c = omega (arith, c.start.ensures, start_small c.args.kind)

pub returns-clause-sought : goal.returns-clause-sought
returns-clause-sought c first cells node =
    let b = begins c.args.kind c.args.bytes.now first cells node in
    let count = two_same c.two_at-count.result (length cells) _ _ c.two_at-count.ensures.fits b.small (sym c.two_at-count.ensures.spelled ∙ b.count) in
    c.seek_on.ensures.sought cells (zeros_after c.args.kind first cells) (rw c.start.ensures b.ahead) count
