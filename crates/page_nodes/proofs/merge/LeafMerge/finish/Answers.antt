use Rattle.std.proofs.Common.{ℕ, List, length, ap, Some, arith}
use Rattle.std.proofs.lemmas.Bool.{false≢true}
use Rattle.page_nodes.proofs.Merging.{front_few, rest_few, merged_end, all_spelled, all_counted}
use Rattle.page_nodes.proofs.merge.LeafMerge.finish.Goals as goal

pub returns-then-self-clause-finished : goal.returns-then-self-clause-finished
returns-then-self-clause-finished c last cells a =
    absurd (omega (arith, merged_end c.args.bytes.now c.args.scratch.now.items last cells c.args.self a c.told-bytes c.args.self.begins c.args.self.ends, c.if-self.true))

pub returns-then-self-gt-PAGE_SIZE-clause-finished : goal.returns-then-self-gt-PAGE_SIZE-clause-finished
returns-then-self-gt-PAGE_SIZE-clause-finished c last cells a =
    absurd (omega (arith, front_few c.args.bytes.now c.args.scratch.now.items last cells c.args.self a, c.if-self-gt-PAGE_SIZE.true))

pub returns-then-self-gt-PAGE_SIZE-2-clause-finished : goal.returns-then-self-gt-PAGE_SIZE-2-clause-finished
returns-then-self-gt-PAGE_SIZE-2-clause-finished c last cells a =
    absurd (omega (arith, rest_few c.args.bytes.now c.args.scratch.now.items last cells c.args.self a, c.if-self-gt-PAGE_SIZE-2.true))

pub returns-then-not-fits-clause-finished : goal.returns-then-not-fits-clause-finished
returns-then-not-fits-clause-finished c last cells a =
    let m = c.args.self in
    let spelled = all_spelled c.args.bytes.now c.args.scratch.now.items last cells m a c.told-bytes (omega (arith, c.if-self.false)) m.ends c.extend_from_slice.new.self.items c.in_ok-extend_from_slice.ensures.items in
    absurd (false≢true (c.if-not-fits.ensures.1 (omega (arith, a.fits, ap (λ (xs : List ℕ). length xs) spelled, c.len.ensures))))

pub returns-clause-finished : goal.returns-clause-finished
returns-clause-finished c last cells a =
    let m = c.args.self in
    let spelled = all_spelled c.args.bytes.now c.args.scratch.now.items last cells m a c.told-bytes (omega (arith, c.if-self.false)) m.ends c.extend_from_slice.new.self.items c.in_ok-extend_from_slice.ensures.items in
    (ap (λ (n : ℕ). Some n) (all_counted c.args.bytes.now c.args.scratch.now.items last cells m a), spelled)
