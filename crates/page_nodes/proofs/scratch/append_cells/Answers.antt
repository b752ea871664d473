use Rattle.std.proofs.Common.{ℕ, List, length, sym, ◌∙◌, arith, ap, ◌++◌, Some}
use Rattle.page_nodes.specs.Node.{zeros_after, start, cells_bytes}
use Rattle.page_nodes.proofs.Cells.{two_same}
use Rattle.page_nodes.proofs.Scan.{begins, slice_is}
use Rattle.page_nodes.proofs.scratch.append_cells.Goals as goal

pub returns-in_default-clause-copied : goal.returns-in_default-clause-copied
returns-in_default-clause-copied c first cells node =
    let b = begins c.args.kind c.args.bytes.now first cells node in
    let count = two_same c.two_at-count.result (length cells) _ _ c.two_at-count.ensures.fits b.small (sym c.two_at-count.ensures.spelled ∙ b.count) in
    absurd (c.in_default.ensures.end cells (zeros_after c.args.kind first cells) (rw c.start.ensures b.ahead) count)

pub returns-clause-copied : goal.returns-clause-copied
returns-clause-copied c first cells node =
    let b = begins c.args.kind c.args.bytes.now first cells node in
    let count = two_same c.two_at-count.result (length cells) _ _ c.two_at-count.ensures.fits b.small (sym c.two_at-count.ensures.spelled ∙ b.count) in
    let end = c.in-Some.end in
    let after = c.in-Some.ensures.end cells (zeros_after c.args.kind first cells) (rw c.start.ensures b.ahead) count in
    let slice = slice_is (start c.args.kind) end c.args.bytes.now (cells_bytes c.args.kind cells) (b.ahead.spelled ∙ ap (λ (zs : List ℕ). cells_bytes c.args.kind cells ++ zs) (sym after))
    (omega (arith, c.in-Some.ensures.order, c.start.ensures)) c.in-Some.ensures.inside in
    (ap (λ (n : ℕ). Some n) count, c.in_ok-extend_from_slice.ensures.items ∙ ap (λ (zs : List ℕ). c.args.scratch.now.items ++ zs) (rw c.start-2.ensures slice))
