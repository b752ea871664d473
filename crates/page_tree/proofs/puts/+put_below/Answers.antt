use Rattle.std.proofs.Common.{None, Some, ◌+◌, ◌*◌, [], ◌∷◌, arith}
use Rattle.page_tree.specs.Forest.{next}
use Rattle.page_tree.proofs.Faults.{fails, caused_since, gives_since}
use Rattle.page_tree.proofs.Descent.{lent_as, numbered_of, node_at, leaf_at, inner_at, step, present}
use Rattle.page_tree.proofs.PutSteps.{some_now, leaf_on, below_from, at_made, still_there, inner_same, inner_grown}
use Rattle.page_tree.proofs.Taking.{none_taken, taken_then, named_too, put_after, one_made, taken_in_all}
use Rattle.page_tree.specs.Taking.{count_made}
use Rattle.page_tree.proofs.puts.+put_below.Goals as goal

pub returns-in_err-read_node-clause-put : goal.returns-in_err-read_node-clause-put
returns-in_err-read_node-clause-put g t c sound s at =
    let h = node_at g.P.Pages c.args.pages.now sound s c.args.page c.args.key.now c.args.levels c.ranges.page.fits at in
    fails c.from_residual.result c.in_err-read_node.field-0.0 _ _ c.from_residual.ensures.1 (c.in_err-read_node.ensures.found sound h.kind h.first h.cs h.holds)

pub returns-in-Leaf-clause-put : goal.returns-in-Leaf-clause-put
returns-in-Leaf-clause-put g t c sound s at =
    let A = (g.P.Pages.state c.args.pages.now).array in
    let B = (g.P.Pages.state c.read_node.new.pages).array in
    let only_reads = c.in_ok-read_node.ensures.only_reads sound in
    let l = leaf_at g.P.Pages c.args.pages.now sound s c.args.page c.args.key.now c.args.levels c.read_node.new.bytes c.ranges.page.fits at _ (c.in_ok-read_node.ensures.found sound) c.in-Leaf.is in
    let used = some_now A B c.args.page only_reads.same (present A (numbered_of g.P.Pages c.args.pages.now sound) s.tree s.depth s.low s.high c.args.page at.sound at.top c.ranges.page.fits) in
    gives_since g.P.Pages c.args.pages.now c.read_node.new.pages c.put_entry.new.pages c.put_entry.result _ _ c.in_ok-read_node.ensures.preserved
    (λ made w. leaf_on _ A B (g.P.Pages.state c.put_entry.new.pages).array c.args.key.now c.args.value.now s c.args.page c.args.levels c.put_entry.new.scratch.separator.items l.es made l.is at only_reads.same w)
    (c.put_entry.ensures.stored only_reads.sound used l.es l.node)

pub returns-in_default-clause-put : goal.returns-in_default-clause-put
returns-in_default-clause-put g t c sound s at =
    let i = inner_at g.P.Pages c.args.pages.now sound s c.args.page c.args.key.now c.args.levels c.read_node.new.bytes c.ranges.page.fits at _ (c.in_ok-read_node.ensures.found sound) c.in-Inner.is in
    absurd (c.in_default.ensures i.at.head.1 i.at.rest (lent_as c.plain.ensures i.node))

pub returns-in_err-made-in-Inner-clause-put : goal.returns-in_err-made-in-Inner-clause-put
returns-in_err-made-in-Inner-clause-put g t c sound s at =
    let only_reads = c.in_ok-read_node.ensures.only_reads sound in
    let w = step g.P.Pages c.args.pages.now c.read_node.new.pages sound s c.args.page c.args.key.now c.args.levels c.read_node.new.bytes c.in-Some.branch.child c.ranges.page.fits at _
    (c.in_ok-read_node.ensures.found sound) c.in-Inner.is only_reads (λ first cs node. (c.in-Some.ensures first cs (lent_as c.plain.ensures node)).0) in
    fails c.from_residual-in_err-made-in-Inner.result c.in_err-made-in-Inner.field-0.0 _ _ c.from_residual-in_err-made-in-Inner.ensures.1
    (caused_since g.P.Pages c.args.pages.now c.read_node.new.pages c.put_below.new.pages c.in_err-made-in-Inner.field-0.0 c.in_ok-read_node.ensures.preserved
    (c.in_err-made-in-Inner.ensures.put only_reads.sound _ w.there))

pub returns-in_default-made-clause-put : goal.returns-in_default-made-clause-put
returns-in_default-made-clause-put g t c sound s at =
    let A = (g.P.Pages.state c.args.pages.now).array in
    let B = (g.P.Pages.state c.put_below.new.pages).array in
    let key = c.args.key.now in
    let value = c.args.value.now in
    let separator = c.put_below.new.scratch.separator.items in
    let child = c.in-Some.branch.child in
    let only_reads = c.in_ok-read_node.ensures.only_reads sound in
    let w = step g.P.Pages c.args.pages.now c.read_node.new.pages sound s c.args.page key c.args.levels c.read_node.new.bytes child c.ranges.page.fits at _
    (c.in_ok-read_node.ensures.found sound) c.in-Inner.is only_reads (λ first cs node. (c.in-Some.ensures first cs (lent_as c.plain.ensures node)).0) in
    let i = w.node.at in
    let p = w.place in
    let below = c.in_ok-made-in-Inner.ensures.put only_reads.sound _ w.there in
    let put = below_from A (g.P.Pages.state c.read_node.new.pages).array B key value i.below p.from (next p.after s.high) child p.at c.in_ok-made-in-Inner.made separator only_reads.same below.1 in
    let same = at_made A B key value i.below p.from (next p.after s.high) child p.at c.in_ok-made-in-Inner.made None separator c.in_default-made.is put in
    (below.0, inner_same A B key value s.low s.high c.args.page s.depth child c.args.levels s.tree at i p w.there.top separator same)

pub returns-in-Some-made-clause-preserved : goal.returns-in-Some-made-clause-preserved
returns-in-Some-made-clause-preserved g t c =
    g.P.Pages.preserved_joined c.args.pages.now c.put_below.new.pages c.put_child.new.pages
    (g.P.Pages.preserved_joined c.args.pages.now c.read_node.new.pages c.put_below.new.pages c.in_ok-read_node.ensures.preserved c.in_ok-made-in-Inner.ensures.preserved) c.put_child.ensures.preserved

pub returns-in-Some-made-clause-put : goal.returns-in-Some-made-clause-put
returns-in-Some-made-clause-put g t c sound s at =
    let A = (g.P.Pages.state c.args.pages.now).array in
    let B = (g.P.Pages.state c.put_below.new.pages).array in
    let C = (g.P.Pages.state c.put_child.new.pages).array in
    let key = c.args.key.now in
    let value = c.args.value.now in
    let separator = c.put_below.new.scratch.separator.items in
    let child = c.in-Some.branch.child in
    let second = c.in-Some-made.child in
    let only_reads = c.in_ok-read_node.ensures.only_reads sound in
    let w = step g.P.Pages c.args.pages.now c.read_node.new.pages sound s c.args.page key c.args.levels c.read_node.new.bytes child c.ranges.page.fits at _
    (c.in_ok-read_node.ensures.found sound) c.in-Inner.is only_reads (λ first cs node. (c.in-Some.ensures first cs (lent_as c.plain.ensures node)).0) in
    let i = w.node.at in
    let p = w.place in
    let below = c.in_ok-made-in-Inner.ensures.put only_reads.sound _ w.there in
    let put = below_from A (g.P.Pages.state c.read_node.new.pages).array B key value i.below p.from (next p.after s.high) child p.at c.in_ok-made-in-Inner.made separator only_reads.same below.1 in
    let two = at_made A B key value i.below p.from (next p.after s.high) child p.at c.in_ok-made-in-Inner.made (Some second) separator c.in-Some-made.is put in
    let holds = still_there A B key value s.low s.high c.args.page s.depth child c.args.levels s.tree at i p w.there.top (Some second) separator two in
    gives_since g.P.Pages c.args.pages.now c.put_below.new.pages c.put_child.new.pages c.put_child.result _ _
    (g.P.Pages.preserved_joined c.args.pages.now c.read_node.new.pages c.put_below.new.pages c.in_ok-read_node.ensures.preserved c.in_ok-made-in-Inner.ensures.preserved)
    (λ made f. (f.0, inner_grown A B key value s.low s.high c.args.page s.depth child c.args.levels s.tree at i p w.there.top C second separator c.put_child.new.scratch.separator.items two made f.1))
    (c.put_child.ensures.stored below.0 i.head.1 i.rest holds)

pub returns-in_err-read_node-clause-takes : goal.returns-in_err-read_node-clause-takes
returns-in_err-read_node-clause-takes g t c sound s at =
    fails c.from_residual.result c.in_err-read_node.field-0.0 _ _ c.from_residual.ensures.1 (λ is. absurd (c.in_err-read_node.ensures.faults is))

pub returns-in-Leaf-clause-takes : goal.returns-in-Leaf-clause-takes
returns-in-Leaf-clause-takes g t c sound s at =
    put_after g.P.Pages c.args.pages.now c.read_node.new.pages c.put_entry.new.pages c.args.page 0 s.depth c.put_entry.result
    (none_taken g.P.Pages c.args.pages.now c.read_node.new.pages 0 c.in_ok-read_node.ensures.own) (omega arith) c.put_entry.ensures.takes

pub returns-in_err-made-in-Inner-clause-takes : goal.returns-in_err-made-in-Inner-clause-takes
returns-in_err-made-in-Inner-clause-takes g t c sound s at =
    let only_reads = c.in_ok-read_node.ensures.only_reads sound in
    let w = step g.P.Pages c.args.pages.now c.read_node.new.pages sound s c.args.page c.args.key.now c.args.levels c.read_node.new.bytes c.in-Some.branch.child c.ranges.page.fits at _
    (c.in_ok-read_node.ensures.found sound) c.in-Inner.is only_reads (λ first cs node. (c.in-Some.ensures first cs (lent_as c.plain.ensures node)).0) in
    let i = w.node.at in
    let read = none_taken g.P.Pages c.args.pages.now c.read_node.new.pages 0 c.in_ok-read_node.ensures.own in
    fails c.from_residual-in_err-made-in-Inner.result c.in_err-made-in-Inner.field-0.0 _ _ c.from_residual-in_err-made-in-Inner.ensures.1
    (λ is. taken_then g.P.Pages c.args.pages.now c.read_node.new.pages c.put_below.new.pages [] [] 0 (2 * i.below + 1) (2 * s.depth + 1) read
    (c.in_err-made-in-Inner.ensures.takes only_reads.sound _ w.there is) (omega (arith, i.deep)))

pub returns-in_default-made-clause-takes : goal.returns-in_default-made-clause-takes
returns-in_default-made-clause-takes g t c sound s at =
    let only_reads = c.in_ok-read_node.ensures.only_reads sound in
    let w = step g.P.Pages c.args.pages.now c.read_node.new.pages sound s c.args.page c.args.key.now c.args.levels c.read_node.new.bytes c.in-Some.branch.child c.ranges.page.fits at _
    (c.in_ok-read_node.ensures.found sound) c.in-Inner.is only_reads (λ first cs node. (c.in-Some.ensures first cs (lent_as c.plain.ensures node)).0) in
    let i = w.node.at in
    let read = none_taken g.P.Pages c.args.pages.now c.read_node.new.pages 0 c.in_ok-read_node.ensures.own in
    let child = c.in-Some.branch.child in
    let most = 2 * i.below + count_made c.in_ok-made-in-Inner.made in
    let below = taken_then g.P.Pages c.args.pages.now c.read_node.new.pages c.put_below.new.pages [] (child ∷ []) 0 most most read (c.in_ok-made-in-Inner.ensures.takes only_reads.sound _ w.there) (omega arith) in
    named_too g.P.Pages c.args.pages.now c.put_below.new.pages c.args.page (2 * s.depth + 0)
    (taken_in_all g.P.Pages c.args.pages.now c.put_below.new.pages (child ∷ []) most (2 * s.depth + 0) below (omega (arith, i.deep, one_made c.in_ok-made-in-Inner.made)))

pub returns-in-Some-made-clause-takes : goal.returns-in-Some-made-clause-takes
returns-in-Some-made-clause-takes g t c sound s at =
    let only_reads = c.in_ok-read_node.ensures.only_reads sound in
    let w = step g.P.Pages c.args.pages.now c.read_node.new.pages sound s c.args.page c.args.key.now c.args.levels c.read_node.new.bytes c.in-Some.branch.child c.ranges.page.fits at _
    (c.in_ok-read_node.ensures.found sound) c.in-Inner.is only_reads (λ first cs node. (c.in-Some.ensures first cs (lent_as c.plain.ensures node)).0) in
    let i = w.node.at in
    let read = none_taken g.P.Pages c.args.pages.now c.read_node.new.pages 0 c.in_ok-read_node.ensures.own in
    let child = c.in-Some.branch.child in
    let most = 2 * i.below + count_made c.in_ok-made-in-Inner.made in
    let below = taken_then g.P.Pages c.args.pages.now c.read_node.new.pages c.put_below.new.pages [] (child ∷ []) 0 most most read (c.in_ok-made-in-Inner.ensures.takes only_reads.sound _ w.there) (omega arith) in
    put_after g.P.Pages c.args.pages.now c.put_below.new.pages c.put_child.new.pages c.args.page (2 * s.depth) s.depth c.put_child.result
    (taken_in_all g.P.Pages c.args.pages.now c.put_below.new.pages (child ∷ []) most (2 * s.depth) below (omega (arith, i.deep, one_made c.in_ok-made-in-Inner.made))) (omega arith) c.put_child.ensures.takes

pub returns-in-Leaf-clause-preserved : goal.returns-in-Leaf-clause-preserved
returns-in-Leaf-clause-preserved g t c =
    g.P.Pages.preserved_joined c.args.pages.now c.read_node.new.pages c.put_entry.new.pages c.in_ok-read_node.ensures.preserved c.put_entry.ensures.preserved

pub returns-in_err-made-in-Inner-clause-preserved : goal.returns-in_err-made-in-Inner-clause-preserved
returns-in_err-made-in-Inner-clause-preserved g t c =
    g.P.Pages.preserved_joined c.args.pages.now c.read_node.new.pages c.put_below.new.pages c.in_ok-read_node.ensures.preserved c.in_err-made-in-Inner.ensures.preserved

pub returns-in_default-made-clause-preserved : goal.returns-in_default-made-clause-preserved
returns-in_default-made-clause-preserved g t c =
    g.P.Pages.preserved_joined c.args.pages.now c.read_node.new.pages c.put_below.new.pages c.in_ok-read_node.ensures.preserved c.in_ok-made-in-Inner.ensures.preserved

pub returns-then-levels-eq0-clause-put : goal.returns-then-levels-eq0-clause-put
returns-then-levels-eq0-clause-put g t c sound s at = absurd (omega (arith, at.shallow, c.if-levels-eq0.true))

pub returns-then-levels-eq0-clause-takes : goal.returns-then-levels-eq0-clause-takes
returns-then-levels-eq0-clause-takes g t c sound s at = absurd (omega (arith, at.shallow, c.if-levels-eq0.true))

pub returns-in_default-clause-takes : goal.returns-in_default-clause-takes
returns-in_default-clause-takes g t c sound s at =
    let i = inner_at g.P.Pages c.args.pages.now sound s c.args.page c.args.key.now c.args.levels c.read_node.new.bytes c.ranges.page.fits at _ (c.in_ok-read_node.ensures.found sound) c.in-Inner.is in
    absurd (c.in_default.ensures i.at.head.1 i.at.rest (lent_as c.plain.ensures i.node))
