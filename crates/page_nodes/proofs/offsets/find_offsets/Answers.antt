use Rattle.std.proofs.Common.{ℕ, ◌<◌, [], length, sym, ◌∙◌, arith, subst}
use Rattle.page_nodes.specs.Node.{zeros_after}
use Rattle.page_nodes.specs.Offsets.{HasCellAt}
use Rattle.page_nodes.proofs.Cells.{two_same}
use Rattle.page_nodes.proofs.Scan.{start_small, begins}
use Rattle.page_nodes.proofs.Starts.{Lists, lists_begin, lists_on, offsets_stored, inside_stored}
use Rattle.page_nodes.proofs.offsets.find_offsets.Goals as goal
use Rattle.page_nodes.proofs.offsets.find_offsets.Goals.{then-i-count+then-count-lt-MAX_OFFSETS, else-i-count}

pub loop-i-init : goal.loop-i-init
loop-i-init c = record {
  size = c.told-offsets;
  most = omega arith;
  within = omega (arith, c.start-at.ensures, start_small c.args.kind);
  inside = λ n less. absurd (omega (arith, less));
  listed = λ first cells node.
      let b = begins c.args.kind c.args.bytes.now first cells node in
      let count = two_same c.two_at-cells.result (length cells) _ _ c.two_at-cells.ensures.fits b.small (sym c.two_at-cells.ensures.spelled ∙ b.count) in (
        subst (λ (n : ℕ). Lists c.args.kind c.args.bytes.now [] cells (zeros_after c.args.kind first cells) n 0 c.two_at-cells.result) (sym c.start-at.ensures) (lists_begin c.args.kind c.args.bytes.now first cells c.two_at-cells.result node count),
        λ n less. absurd (omega (arith, less)),
      );
}

pub loop-i-preserved : goal.loop-i-preserved
loop-i-preserved c =
    let view = c.in-Some.cell in
    let found = c.in-Some.ensures.found in
    let at_end : c.loop-i.at < 4096 = omega (arith, found.order, found.inside, c.told-bytes) in
    elim c.if-i-count.branch [
      | then-i-count+then-count-lt-MAX_OFFSETS w ↦
          let room : c.loop-i.count < length c.loop-i.offsets = omega (arith, w.if-count-lt-MAX_OFFSETS.true, c.loop-i.invariant.size) in
          record {
            size = c.if-i-count.array_long;
            most = omega (arith, w.count-is, w.if-count-lt-MAX_OFFSETS.true);
            within = omega (arith, found.inside, c.told-bytes);
            inside = rw (w.offsets-is, w.count-is) (inside_stored c.loop-i.offsets c.loop-i.count c.loop-i.at room c.loop-i.invariant.inside at_end);
            listed = λ first cells node.
                let zeros = zeros_after c.args.kind first cells in
                let l = c.loop-i.invariant.listed first cells node in
                let next = lists_on c.args.kind c.args.bytes.now c.loop-i.last.now cells zeros c.loop-i.at c.loop-i.i _ view.key.now view.payload.now view.end l.0 c.loop-i-test.true found c.if-not-is_less.ensures in
                let stands = subst (λ (k : ℕ). HasCellAt c.args.kind c.args.bytes.now cells zeros k c.loop-i.at) w.if-i-count.true next.stands in
                (next.on, rw (w.offsets-is, w.count-is) (offsets_stored c.args.kind c.args.bytes.now cells zeros c.loop-i.offsets c.loop-i.count c.loop-i.at room l.1 stands));
          }
      | else-i-count w ↦ record {
        size = c.if-i-count.array_long;
        most = omega (arith, w.count-is, c.loop-i.invariant.most);
        within = omega (arith, found.inside, c.told-bytes);
        inside = rw (w.offsets-is, w.count-is) c.loop-i.invariant.inside;
        listed = λ first cells node.
            let zeros = zeros_after c.args.kind first cells in
            let l = c.loop-i.invariant.listed first cells node in
            let next = lists_on c.args.kind c.args.bytes.now c.loop-i.last.now cells zeros c.loop-i.at c.loop-i.i _ view.key.now view.payload.now view.end l.0 c.loop-i-test.true found c.if-not-is_less.ensures in
            (next.on, rw (w.offsets-is, w.count-is) l.1);
      }
    ]

pub returns-after-loop-i-clause-found : goal.returns-after-loop-i-clause-found
returns-after-loop-i-clause-found c first cells node = (c.loop-i.invariant.listed first cells node).1

pub returns-in_default-clause-found : goal.returns-in_default-clause-found
returns-in_default-clause-found c first cells node = (c.loop-i.invariant.listed first cells node).1

pub returns-then-not-is_less-clause-found : goal.returns-then-not-is_less-clause-found
returns-then-not-is_less-clause-found c first cells node = (c.loop-i.invariant.listed first cells node).1
