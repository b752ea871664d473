use Rattle.std.proofs.Common.{ℕ, ◌+◌, ◌-◌, ◌<◌, ◌/◌, length, sym, arith, subst}
use Rattle.page_nodes.specs.Node.{zeros_after}
use Rattle.page_nodes.specs.Search.{IsStart}
use Rattle.page_nodes.proofs.Scan.{start_small}
use Rattle.page_nodes.proofs.Starts.{starts_first, starts_at}
use Rattle.page_nodes.proofs.start.start_for.Goals as goal

pub loop-low-init : goal.loop-low-init
loop-low-init c =
    let at = c.start.ensures in
    record {
      order = omega arith;
      within = omega (arith, at, start_small c.args.kind);
      starts = λ first cells node.
          subst (λ (n : ℕ). IsStart c.args.kind c.args.page.bytes.now c.args.key.now cells (zeros_after c.args.kind first cells) n 0) (sym at) (starts_first c.args.kind c.args.page.bytes.now c.args.key.now first cells node);
    }

pub loop-low-preserved : goal.loop-low-preserved
loop-low-preserved c =
    let view = c.in-Some.cell in
    let middle = c.loop-low.low + (c.loop-low.high - c.loop-low.low) / 2 in
    let within : middle < length c.args.page.offsets.now = omega (arith, c.loop-low-test.true, c.loop-low.invariant.order) in
    record {
      order = c.loop-low.invariant.order;
      within = omega (arith, c.args.page.inside middle within);
      starts = λ first cells node.
          starts_at c.args.kind c.args.page.bytes.now c.args.key.now cells (zeros_after c.args.kind first cells) _ _ view.key.now view.payload.now view.end node.sizes (c.args.page.are_offsets c.args.kind first cells node middle within)
          c.in-Some.ensures.found c.if-is_less.ensures;
    }
