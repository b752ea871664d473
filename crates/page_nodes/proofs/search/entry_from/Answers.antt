use Rattle.std.proofs.Common.{rules, ◌≡◌, length, refl, sym, ◌∙◌, arith}
use Rattle.page_nodes.specs.declared.cell.NodeKind.TheVariants.{Leaf}
use Rattle.page_nodes.specs.Node.{zeros_after}
use Rattle.page_nodes.proofs.Cells.{two_same}
use Rattle.page_nodes.proofs.Scan.{begins, unread, seeks_end, seeks_on, first_none, first_some}
use Rattle.page_nodes.proofs.Starts.{seeks_start}
use Rattle.page_nodes.proofs.search.entry_from.Goals as goal

pub loop-i-init : goal.loop-i-init
loop-i-init c = record {
  inside = c.start_for-start.ensures.inside;
  ahead = λ first cells node.
      let b = begins Leaf c.args.page.bytes.now first cells node in
      let count = two_same c.two_at-count.result (length cells) _ _ c.two_at-count.ensures.fits b.small (sym c.two_at-count.ensures.spelled ∙ b.count) in
      seeks_start Leaf c.args.page.bytes.now c.args.key.now cells (zeros_after Leaf first cells) _ _ _ (c.start_for-start.ensures.starts first cells node) count;
}

pub returns-in_err-entry : goal.returns-in_err-entry
returns-in_err-entry c first cells node =
    let s = c.loop-i.invariant.ahead first cells node in
    absurd (unread Leaf c.args.page.bytes.now c.loop-i.at s.rest (zeros_after Leaf first cells) s.here (omega (arith, s.total, c.loop-i-test.true)) (c.in_err-entry.ensures.none refl))

pub returns-then-not-is_less : goal.returns-then-not-is_less
returns-then-not-is_less c first cells node =
    let view = c.in_ok-entry.entry in
    let after = zeros_after Leaf first cells in
    let found = (seeks_on Leaf c.args.page.bytes.now c.args.key.now cells after c.loop-i.at c.loop-i.i _ view.key.now view.payload.now view.end
    (c.loop-i.invariant.ahead first cells node) c.loop-i-test.true c.in_ok-entry.ensures.found).stops c.if-not-is_less.ensures in
    first_some Leaf c.args.page.bytes.now c.args.key.now cells after _ _ _ view found (λ none. omega (arith, none, c.loop-i-test.true)) c.in_ok-entry.ensures.found

pub loop-i-preserved : goal.loop-i-preserved
loop-i-preserved c =
    let view = c.in_ok-entry.entry in
    let is = c.in_ok-entry.ensures.found in
    record {
      inside = let size : length c.args.page.bytes.now ≡ 4096 = search rules in omega (arith, is.inside, size);
      ahead = λ first cells node.
          (seeks_on Leaf c.args.page.bytes.now c.args.key.now cells (zeros_after Leaf first cells) c.loop-i.at c.loop-i.i _ view.key.now view.payload.now view.end
          (c.loop-i.invariant.ahead first cells node) c.loop-i-test.true is).goes_on c.if-not-is_less.ensures;
    }

pub returns : goal.returns
returns c first cells node =
    let after = zeros_after Leaf first cells in
    let position = seeks_end Leaf c.args.page.bytes.now c.args.key.now cells after c.loop-i.at c.loop-i.i _ (c.loop-i.invariant.ahead first cells node) c.loop-i-test.false in
    first_none Leaf c.args.page.bytes.now c.args.key.now cells after _ _ _ position refl
