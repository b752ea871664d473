use Rattle.std.proofs.Common.{◌≡◌, ℕ, [], ◌++◌, length, drop, refl, sym, ◌∙◌, arith, ap, subst}
use Rattle.std.proofs.lemmas.Bool.{false≢true}
use Rattle.page_nodes.specs.Node.{start, two_bytes, zeros_after, IsCellAt}
use Rattle.page_nodes.specs.Search.{AreCellsAt}
use Rattle.page_nodes.proofs.Cells.{two_same}
use Rattle.page_nodes.proofs.Scan.{begins, unread}
use Rattle.page_nodes.proofs.Whole.{reads_begin, reads_on, rises_begin, rises_on, no_cells}
use Rattle.page_nodes.proofs.Ends.{passes_begin, passes_on, passes_end, no_entries}
use Rattle.page_nodes.proofs.page.rising_cells.Goals as goal

pub returns-then-count-eq0-clause-end : goal.returns-then-count-eq0-clause-end
returns-then-count-eq0-clause-end c first cells node rising =
    let b = begins c.args.kind c.args.bytes.now first cells node in
    let count = two_same c.two_at-count.result (length cells) _ _ c.two_at-count.ensures.fits b.small (sym c.two_at-count.ensures.spelled ∙ b.count) in
    rw c.start-start.ensures (no_cells c.args.kind c.args.bytes.now (start c.args.kind) cells (zeros_after c.args.kind first cells) b.ahead (sym count ∙ c.if-count-eq0.true))

pub returns-then-count-eq0-clause-read : goal.returns-then-count-eq0-clause-read
returns-then-count-eq0-clause-read c = record {
  cells = [];
  are = record { sizes = tt; spelled = rw c.start-start.ensures refl };
  rising = tt;
  count = c.two_at-count.ensures.spelled ∙ ap (λ n. two_bytes n ++ drop 4 c.args.bytes.now) c.if-count-eq0.true;
}

pub returns-in_err-last-clause-end : goal.returns-in_err-last-clause-end
returns-in_err-last-clause-end c first cells node rising =
    let b = begins c.args.kind c.args.bytes.now first cells node in
    let count = two_same c.two_at-count.result (length cells) _ _ c.two_at-count.ensures.fits b.small (sym c.two_at-count.ensures.spelled ∙ b.count) in
    let here = subst (λ (n : ℕ). AreCellsAt c.args.kind c.args.bytes.now n cells (zeros_after c.args.kind first cells)) (sym c.start-start.ensures) b.ahead in
    absurd (unread c.args.kind c.args.bytes.now c.start-start.result cells (zeros_after c.args.kind first cells) here (omega (arith, count, c.if-count-eq0.false)) (c.in_err-last.ensures.none refl))

pub loop-i-init : goal.loop-i-init
loop-i-init c =
    let view = c.in_ok-last.last in
    let found = subst (λ (n : ℕ). IsCellAt c.args.kind c.args.bytes.now n view.key.now view.payload.now view.end) c.start-start.ensures c.in_ok-last.ensures.found in
    record {
      begins = omega (arith, found.order);
      inside = omega (arith, found.inside, c.told-bytes);
      reads = reads_begin c.args.kind c.args.bytes.now view.key.now view.payload.now view.end found;
      rises = λ first cells node rising.
          let b = begins c.args.kind c.args.bytes.now first cells node in
          let count = two_same c.two_at-count.result (length cells) _ _ c.two_at-count.ensures.fits b.small (sym c.two_at-count.ensures.spelled ∙ b.count) in
          rises_begin c.args.kind c.args.bytes.now first cells view.key.now view.payload.now view.end c.two_at-count.result node rising count c.if-count-eq0.false found;
      ends = λ first cells node.
          let b = begins c.args.kind c.args.bytes.now first cells node in
          let count = two_same c.two_at-count.result (length cells) _ _ c.two_at-count.ensures.fits b.small (sym c.two_at-count.ensures.spelled ∙ b.count) in
          passes_begin c.args.kind c.args.bytes.now first cells view.key.now view.payload.now view.end c.two_at-count.result node count c.if-count-eq0.false found;
    }

pub returns-in_err-next-clause-end : goal.returns-in_err-next-clause-end
returns-in_err-next-clause-end c first cells node rising =
    let r = c.loop-i.invariant.rises first cells node rising in
    absurd (unread c.args.kind c.args.bytes.now c.loop-i.last.end r.rest (zeros_after c.args.kind first cells) r.here (omega (arith, r.total, c.loop-i-test.true)) (c.in_err-next.ensures.none refl))

pub returns-then-not-is_less-clause-end : goal.returns-then-not-is_less-clause-end
returns-then-not-is_less-clause-end c first cells node rising =
    let view = c.in_ok-next.next in
    let r = rises_on c.args.kind c.args.bytes.now c.loop-i.last.key.now c.loop-i.last.payload.now c.loop-i.last.end c.loop-i.i _ (zeros_after c.args.kind first cells) view.key.now view.payload.now view.end
    (c.loop-i.invariant.rises first cells node rising) c.loop-i-test.true c.in_ok-next.ensures.found in
    false≢true (c.if-not-is_less.ensures ∙ r.below)

pub loop-i-preserved : goal.loop-i-preserved
loop-i-preserved c =
    let view = c.in_ok-next.next in
    let found = c.in_ok-next.ensures.found in
    record {
      begins = omega (arith, found.order, c.loop-i.invariant.begins);
      inside = omega (arith, found.inside, c.told-bytes);
      reads = reads_on c.args.kind c.args.bytes.now c.loop-i.last.key.now c.loop-i.last.payload.now view.key.now view.payload.now c.loop-i.last.end view.end c.loop-i.i c.loop-i.invariant.reads found c.if-not-is_less.ensures;
      rises = λ first cells node rising. (rises_on c.args.kind c.args.bytes.now c.loop-i.last.key.now c.loop-i.last.payload.now c.loop-i.last.end c.loop-i.i _ (zeros_after c.args.kind first cells) view.key.now view.payload.now view.end
          (c.loop-i.invariant.rises first cells node rising) c.loop-i-test.true found).on;
      ends = λ first cells node.
          passes_on c.args.kind c.args.bytes.now cells c.in_ok-last.last.key.now c.loop-i.last.key.now c.loop-i.last.end c.loop-i.i _ (zeros_after c.args.kind first cells) view.key.now view.payload.now view.end
          (c.loop-i.invariant.ends first cells node) c.loop-i-test.true found;
    }

pub returns-clause-read : goal.returns-clause-read
returns-clause-read c =
    let after = drop c.loop-i.last.end c.args.bytes.now in
    let all = c.loop-i.invariant.reads [] after (record { sizes = tt; spelled = refl }) (tt, tt) in
    let number : c.two_at-count.result ≡ length all.0 = omega (arith, all.3, c.loop-i-test.false, c.loop-i.auto.i-end, c.if-count-eq0.false) in
    record {
      cells = all.0;
      are = all.1;
      rising = all.2;
      count = c.two_at-count.ensures.spelled ∙ ap (λ n. two_bytes n ++ drop 4 c.args.bytes.now) number;
    }

pub returns-clause-end : goal.returns-clause-end
returns-clause-end c first cells node rising =
    let r = c.loop-i.invariant.rises first cells node rising in
    no_cells c.args.kind c.args.bytes.now c.loop-i.last.end r.rest (zeros_after c.args.kind first cells) r.here (omega (arith, r.total, c.loop-i-test.false))

pub returns-then-count-eq0-clause-keys : goal.returns-then-count-eq0-clause-keys
returns-then-count-eq0-clause-keys c first cells node rising =
    let b = begins c.args.kind c.args.bytes.now first cells node in
    let count = two_same c.two_at-count.result (length cells) _ _ c.two_at-count.ensures.fits b.small (sym c.two_at-count.ensures.spelled ∙ b.count) in
    no_entries cells (sym count ∙ c.if-count-eq0.true)

pub returns-clause-keys : goal.returns-clause-keys
returns-clause-keys c first cells node rising =
    passes_end c.args.kind c.args.bytes.now cells _ c.loop-i.last.key.now c.loop-i.last.end c.loop-i.i _ (zeros_after c.args.kind first cells) (c.loop-i.invariant.ends first cells node) c.loop-i-test.false
