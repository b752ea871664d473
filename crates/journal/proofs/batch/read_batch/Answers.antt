use Rattle.std.proofs.Common.{◌≡◌, false, true, Some, refl, sym, ap}
use Rattle.store.specs.Records.{Changes}
use Rattle.journal.specs.Changes.{lent}
use Rattle.journal.proofs.Rising.{next_rises, reads_more, read_whole, spells_read}
use Rattle.journal.proofs.batch.read_batch.Goals as goal

pub returns-then-not-comes_before-clause-only : goal.returns-then-not-comes_before-clause-only
returns-then-not-comes_before-clause-only c changes spells =
    absurd (next_rises c.args.bytes.now c.loop-key.batch c.loop-key.last.now c.loop-key.rest.now c.in-Some.key.now (lent c.in-Some.value) c.in-Some.after.now
    c.loop-key.invariant c.in-Some.ensures.found changes spells (sym c.if-not-comes_before.ensures))

pub loop-key-preserved : goal.loop-key-preserved
loop-key-preserved c =
    reads_more c.args.bytes.now c.loop-key.batch c.loop-key.last.now c.loop-key.rest.now c.in-Some.key.now (lent c.in-Some.value) c.in-Some.after.now
    c.loop-key.invariant c.in-Some.ensures.found c.change.new.batch (sym c.if-not-comes_before.ensures) c.in_ok-change.ensures

pub returns-then-not-ends_batch-clause-only : goal.returns-then-not-ends_batch-clause-only
returns-then-not-ends_batch-clause-only c changes spells =
    let ends : false ≡ true = c.if-not-ends_batch.ensures.1
    (read_whole c.args.bytes.now c.loop-key.batch c.loop-key.last.now c.loop-key.rest.now changes c.loop-key.invariant c.in_default.ensures.only spells).1 in
    cc

pub returns-clause-found : goal.returns-clause-found
returns-clause-found c =
    spells_read c.args.bytes.now c.loop-key.batch c.loop-key.last.now c.loop-key.rest.now c.loop-key.invariant
    c.pieces-is_batch.ensures.ordered c.pieces-is_batch.ensures.sizes (c.if-not-ends_batch.ensures.0 refl)

pub returns-clause-only : goal.returns-clause-only
returns-clause-only c changes spells =
    ap (λ (cs : Changes). Some cs)
    (read_whole c.args.bytes.now c.loop-key.batch c.loop-key.last.now c.loop-key.rest.now changes c.loop-key.invariant c.in_default.ensures.only spells).0
