use Rattle.std.proofs.Common.{refl, ◌∷◌, arith, []}
use Rattle.page_nodes.specs.Map.{without}
use Rattle.page_nodes.specs.Search.{pair_from}
use Rattle.page_tree.specs.Forest.{no_trees, inner, entries}
use Rattle.page_tree.proofs.Faults.{fails, gives_since}
use Rattle.page_tree.proofs.Descent.{numbered_of}
use Rattle.page_tree.proofs.RemovalJoins.{parent_keep, becomes_read}
use Rattle.page_tree.proofs.LeafJoins.{beside_in, left_holds, right_holds, without_right_leaf, not_joined, reads_nothing, found_is}
use Rattle.page_tree.proofs.Taking.{none_taken, takes_since, taken_in_all, same_taken}
use Rattle.page_tree.proofs.joining.join_leaves.Goals as goal

pub returns-in_default-clause-joined : goal.returns-in_default-clause-joined
returns-in_default-clause-joined g c sound d low high first cell cs children flat par holds node =
    let old = g.P.Pages.state c.args.pages.now in
    not_joined old old c.args.page d low high first (cell ∷ cs) children (reads_nothing old sound) par (omega arith) holds

pub returns-then-not-may_join-clause-joined : goal.returns-then-not-may_join-clause-joined
returns-then-not-may_join-clause-joined g c sound d low high first cell cs children flat par holds node =
    let old = g.P.Pages.state c.args.pages.now in
    not_joined old old c.args.page d low high first (cell ∷ cs) children (reads_nothing old sound) par (omega arith) holds

pub returns-in_err-copied-clause-joined : goal.returns-in_err-copied-clause-joined
returns-in_err-copied-clause-joined g c sound d low high first cell cs children flat par holds node =
    let A = (g.P.Pages.state c.args.pages.now).array in
    let page = c.args.page in
    let leaves = c.in-Some.leaves in
    let t = found_is c.in_ok-taken.taken leaves _ c.in-Some.is (c.in_ok-taken.ensures.taken first cell cs node) in
    let small = found_is c.in_ok-taken.taken leaves _ c.in-Some.is c.in_ok-taken.ensures.numbers in
    let b = beside_in A page d low high c.args.key.now first cell cs children c.take_cell.new.bytes leaves (numbered_of g.P.Pages c.args.pages.now sound) flat par t small in
    fails c.from_residual-in_err-copied.result c.in_err-copied.field-0.0 _ _ c.from_residual-in_err-copied.ensures.1
    (c.in_err-copied.ensures.copied sound b.beside.left b.beside.right (left_holds A page d low high first (cell ∷ cs) children leaves b.beside par) (right_holds A page d low high first (cell ∷ cs) children leaves b.beside par))

pub returns-in_default-copied-clause-joined : goal.returns-in_default-copied-clause-joined
returns-in_default-copied-clause-joined g c sound d low high first cell cs children flat par holds node =
    not_joined (g.P.Pages.state c.args.pages.now) (g.P.Pages.state c.copy_leaves.new.pages) c.args.page d low high first (cell ∷ cs) children (c.in_ok-copied.ensures.only_reads sound) par (omega arith) holds

pub returns-clause-joined : goal.returns-clause-joined
returns-clause-joined g c sound d low high first cell cs children flat par holds node =
    let old = g.P.Pages.state c.args.pages.now in
    let mid = g.P.Pages.state c.copy_leaves.new.pages in
    let new = g.P.Pages.state c.store_joined.new.pages in
    let page = c.args.page in
    let leaves = c.in-Some.leaves in
    let key = (pair_from c.args.key.now first cell cs).1.0 in
    let t = found_is c.in_ok-taken.taken leaves _ c.in-Some.is (c.in_ok-taken.ensures.taken first cell cs node) in
    let small = found_is c.in_ok-taken.taken leaves _ c.in-Some.is c.in_ok-taken.ensures.numbers in
    let b = beside_in old.array page d low high c.args.key.now first cell cs children c.take_cell.new.bytes leaves (numbered_of g.P.Pages c.args.pages.now sound) flat par t small in
    let p = b.beside in
    let only_reads = c.in_ok-copied.ensures.only_reads sound in
    let copied = found_is c.in_ok-copied.copied c.in-Some-copied.count _ c.in-Some-copied.is (c.in_ok-copied.ensures.copied sound p.left p.right (left_holds old.array page d low high first (cell ∷ cs) children leaves p par) (right_holds old.array page d low high first (cell ∷ cs) children leaves p par)) in
    gives_since g.P.Pages c.args.pages.now c.copy_leaves.new.pages c.store_joined.new.pages c.store_joined.result _ _ c.in_ok-copied.ensures.preserved
    (λ _ x. becomes_read old mid new (inner low page children no_trees) (entries children) _ only_reads x)
    (c.store_joined.ensures.stored only_reads.sound d low high first (cell ∷ cs) (without key (cell ∷ cs)) children p (parent_keep old.array mid.array page d low high first (cell ∷ cs) children only_reads.same par)
    (without_right_leaf old.array page d low high first (cell ∷ cs) children leaves p par key cell cs refl b.key_is) t.some t.node copied)

pub returns-clause-takes : goal.returns-clause-takes
returns-clause-takes g c =
    takes_since g.P.Pages c.args.pages.now c.copy_leaves.new.pages c.store_joined.new.pages c.store_joined.result (λ _. 2) (λ _. 2) 0 1 1 (none_taken g.P.Pages c.args.pages.now c.copy_leaves.new.pages 0 c.in_ok-copied.ensures.own) (λ x. omega arith) (omega arith) c.store_joined.ensures.takes

pub returns-clause-preserved : goal.returns-clause-preserved
returns-clause-preserved g c =
    g.P.Pages.preserved_joined c.args.pages.now c.copy_leaves.new.pages c.store_joined.new.pages c.in_ok-copied.ensures.preserved c.store_joined.ensures.preserved

pub returns-in_default-copied-clause-takes : goal.returns-in_default-copied-clause-takes
returns-in_default-copied-clause-takes g c =
    none_taken g.P.Pages c.args.pages.now c.copy_leaves.new.pages 2 c.in_ok-copied.ensures.own

pub returns-in_err-taken-clause-takes : goal.returns-in_err-taken-clause-takes
returns-in_err-taken-clause-takes g c =
    fails c.from_residual.result c.in_err-taken.field-0.0 _ _ c.from_residual.ensures.1 (λ is. absurd (c.in_err-taken.ensures.faults is))

pub returns-in_default-clause-takes : goal.returns-in_default-clause-takes
returns-in_default-clause-takes g c =
    taken_in_all g.P.Pages c.args.pages.now c.args.pages.now [] 0 2 (same_taken g.P.Pages c.args.pages.now) (omega arith)

pub returns-then-not-may_join-clause-takes : goal.returns-then-not-may_join-clause-takes
returns-then-not-may_join-clause-takes g c =
    taken_in_all g.P.Pages c.args.pages.now c.args.pages.now [] 0 2 (same_taken g.P.Pages c.args.pages.now) (omega arith)

pub returns-in_err-copied-clause-takes : goal.returns-in_err-copied-clause-takes
returns-in_err-copied-clause-takes g c =
    fails c.from_residual-in_err-copied.result c.in_err-copied.field-0.0 _ _ c.from_residual-in_err-copied.ensures.1 (λ is. absurd (c.in_err-copied.ensures.faults is))
