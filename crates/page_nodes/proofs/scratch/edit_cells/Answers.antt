use Rattle.std.proofs.Common.{◌≡◌, [], length, refl, ◌∙◌, arith}
use Rattle.page_nodes.specs.Map.{lent_bytes, rest_entries}
use Rattle.page_nodes.specs.Node.{zeros_after}
use Rattle.page_nodes.specs.Search.{IsPosition, AreCellsAt}
use Rattle.page_nodes.specs.Scratch.{cells_after}
use Rattle.page_nodes.proofs.Scan.{begins, edited_bytes}
use Rattle.page_nodes.proofs.scratch.edit_cells.Goals as goal

pub returns-in_default-clause-edited : goal.returns-in_default-clause-edited
returns-in_default-clause-edited c first cells node = absurd (c.in_default.ensures.sought first cells node)

pub returns-clause-edited : goal.returns-clause-edited
returns-clause-edited c first cells node =
    let kind = c.args.kind in
    let bytes = c.args.bytes.now in
    let key = c.args.key.now in
    let after = zeros_after kind first cells in
    let s = c.in-Some.sought in
    let p = c.in-Some-skip_key in
    let end = c.in-Some-cells_end.end in
    let b = begins kind bytes first cells node in
    let sought : IsPosition kind bytes key cells after s.at s.index s.left = c.in-Some.ensures.sought first cells node in
    let skipped : AreCellsAt kind bytes p.at (cells_after key (rest_entries key cells)) after × (p.left ≡ length (cells_after key (rest_entries key cells))) = p.ensures.skipped (rest_entries key cells) after sought.rest sought.left_is in
    let at_end = c.in-Some-cells_end.ensures.end (cells_after key (rest_entries key cells)) after skipped.0 skipped.1 in
    let all = edited_bytes kind bytes key (lent_bytes c.args.payload) cells after s.at s.index s.left p.at p.left end c.in_ok-added.added b.ahead sought c.in-Some.ensures.begins (omega (arith, c.in-Some.ensures.ends, c.told-bytes))
    skipped.0 skipped.1 at_end (omega (arith, c.in-Some-cells_end.ensures.order)) c.in-Some-cells_end.ensures.inside
    c.extend_from_slice.new.self.items c.push_payload.new.scratch.items c.extend_from_slice-2.new.self.items []
    (c.in_ok-extend_from_slice.ensures.items ∙ (rw (c.clear.ensures.items, c.start.ensures) refl)) c.in_ok-added.ensures.pushed.1 c.in_ok-extend_from_slice-2.ensures.items c.in_ok-added.ensures.pushed.0 in
    record { spelled = all.1; count_is = all.0; after_is = skipped.1 }
