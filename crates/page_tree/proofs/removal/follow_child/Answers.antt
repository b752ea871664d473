use Rattle.std.proofs.Common.{ℕ, Option, Some, None, ◌∷◌, ap, ◌∙◌, arith, ◌+◌, ◌*◌, suc, [], subst, ◌-◌, Err}
use Rattle.page_nodes.specs.declared.cell.NodeKind.TheVariants.{Inner}
use Rattle.page_nodes.specs.Map.{with_entry}
use Rattle.page_nodes.specs.Node.{four_bytes}
use Rattle.page_tree.specs.Forest.{no_trees, inner, append, entries, next}
use Rattle.page_tree.specs.declared.removal.Underflow.TheVariants.{Nothing, Child, Trees, FewCells}
use Rattle.page_tree.proofs.Faults.{fails, caused_since, gives_since, caused_used}
use Rattle.page_tree.proofs.PutKeys.{with_some}
use Rattle.page_tree.proofs.RemovalTrees.{stored, stored_becomes}
use Rattle.page_tree.proofs.RemovalJoins.{read_holds, becomes_read, parent_keep}
use Rattle.page_tree.proofs.LeafJoins.{holds_then}
use Rattle.page_tree.proofs.RemovalSteps.{followed_parent, same_becomes}
use Rattle.page_tree.proofs.RemovalFollows.{given_back, emptied_meets, after_emptied, child_meets, left_between, left_spells, after_left, left_as, stays_used}
use Rattle.page_tree.proofs.Taking.{none_taken, taken_then, takes_since, removed_next, merged_next, not_read, one_made, taken_in_all}
use Rattle.page_tree.specs.declared.removal.Underflow.{Underflow}
use Rattle.page_tree.specs.Taking.{TakesPages, count_made, most_left, most_stored, most_merged}
use Rattle.pages.specs.declared.array.PageFault.{PageFault}
use Rattle.page_tree.proofs.removal.follow_child.Goals as goal

pub returns-in_err-split-in-Trees-clause-followed : goal.returns-in_err-split-in-Trees-clause-followed
returns-in_err-split-in-Trees-clause-followed g c sound w between around left apart holds =
    fails c.from_residual-in_err-split-in-Trees.result c.in_err-split-in-Trees.field-0.0 _ _ c.from_residual-in_err-split-in-Trees.ensures.1 (c.in_err-split-in-Trees.ensures.stored sound w.first (w.c ∷ w.cs) holds)

pub returns-in_ok-read-in-Nothing-clause-preserved : goal.returns-in_ok-read-in-Nothing-clause-preserved
returns-in_ok-read-in-Nothing-clause-preserved g c = g.P.Pages.preserved_joined c.args.pages.now c.read.new.self c.remove_child.new.pages (g.P.Pages.preserved_joined c.args.pages.now c.free_page.new.self c.read.new.self c.in_ok-free_page-in-Nothing.ensures.preserved c.in_ok-read-in-Nothing.ensures.preserved) c.remove_child.ensures.preserved

pub returns-in_ok-read-in-Nothing-clause-followed : goal.returns-in_ok-read-in-Nothing-clause-followed
returns-in_ok-read-in-Nothing-clause-followed g c sound w between around left apart holds =
    let old = g.P.Pages.state c.args.pages.now in
    let one = g.P.Pages.state c.free_page.new.self in
    let two = g.P.Pages.state c.read.new.self in
    let e = left_as old.array w.depth w.from (next w.after w.high) c.args.child c.args.scratch.now.separator.items between c.args.underflow Nothing c.in-Nothing.is left in
    let frees = c.in_ok-free_page-in-Nothing.ensures.freed sound e.there in
    let only_reads = c.in_ok-read-in-Nothing.ensures.only_reads frees.sound in
    let given = given_back old one two c.args.page w.depth w.low w.high c.args.key.now c.args.child w.first (w.c ∷ w.cs) w.from w.before between w.after c.read.new.bytes around (emptied_meets old one two two w.depth w.low w.high c.args.page c.args.child w.from w.before between w.after (λ y. Unit {0}) e) apart holds frees only_reads (c.in_ok-read-in-Nothing.ensures.found frees.sound) in
    let new = g.P.Pages.state c.remove_child.new.pages in
    gives_since g.P.Pages c.args.pages.now c.read.new.self c.remove_child.new.pages c.remove_child.result _ _
    (g.P.Pages.preserved_joined c.args.pages.now c.free_page.new.self c.read.new.self c.in_ok-free_page-in-Nothing.ensures.preserved c.in_ok-read-in-Nothing.ensures.preserved)
    (λ _ b. after_emptied old one two new w.depth w.low w.high c.args.page c.args.child w.from w.before between w.after _ e frees only_reads b)
    (c.remove_child.ensures.removed only_reads.sound w e.flat given.around given.node)

pub returns-in_ok-read-in-Child-clause-preserved : goal.returns-in_ok-read-in-Child-clause-preserved
returns-in_ok-read-in-Child-clause-preserved g c = g.P.Pages.preserved_joined c.args.pages.now c.read-in-Child.new.self c.merge_child.new.pages (g.P.Pages.preserved_joined c.args.pages.now c.free_page-in-Child.new.self c.read-in-Child.new.self c.in_ok-free_page-in-Child.ensures.preserved c.in_ok-read-in-Child.ensures.preserved) c.merge_child.ensures.preserved

pub returns-in_ok-read-in-Child-clause-followed : goal.returns-in_ok-read-in-Child-clause-followed
returns-in_ok-read-in-Child-clause-followed g c sound w between around left apart holds =
    let old = g.P.Pages.state c.args.pages.now in
    let one = g.P.Pages.state c.free_page-in-Child.new.self in
    let two = g.P.Pages.state c.read-in-Child.new.self in
    let e = left_as old.array w.depth w.from (next w.after w.high) c.args.child c.args.scratch.now.separator.items between c.args.underflow (Child c.in-Child.left) c.in-Child.is left in
    let frees = c.in_ok-free_page-in-Child.ensures.freed sound e.there in
    let only_reads = c.in_ok-read-in-Child.ensures.only_reads frees.sound in
    let given = given_back old one two c.args.page w.depth w.low w.high c.args.key.now c.args.child w.first (w.c ∷ w.cs) w.from w.before between w.after c.read-in-Child.new.bytes around (child_meets old one two two w.depth w.low w.high c.args.page c.args.child w.from w.before between w.after (λ y. Unit {0}) c.in-Child.left e) apart holds frees only_reads (c.in_ok-read-in-Child.ensures.found frees.sound) in
    let new = g.P.Pages.state c.merge_child.new.pages in
    gives_since g.P.Pages c.args.pages.now c.read-in-Child.new.self c.merge_child.new.pages c.merge_child.result _ _
    (g.P.Pages.preserved_joined c.args.pages.now c.free_page-in-Child.new.self c.read-in-Child.new.self c.in_ok-free_page-in-Child.ensures.preserved c.in_ok-read-in-Child.ensures.preserved)
    (λ _ b. after_left old one two new w.depth w.low w.high c.args.page c.args.child w.from w.before between w.after _ c.in-Child.left e frees only_reads b)
    (c.merge_child.ensures.merged only_reads.sound w e.children e.below e.deep given.around given.node (left_spells old one two two w.depth w.low w.high c.args.page c.args.child w.from w.before between w.after (λ y. Unit {0}) c.in-Child.left e frees only_reads) (left_between old one two two w.depth w.low w.high c.args.page c.args.child w.from w.before between w.after (λ y. Unit {0}) c.in-Child.left e apart))

pub returns-in_default-clause-followed : goal.returns-in_default-clause-followed
returns-in_default-clause-followed g c sound w between around left apart holds =
    let old = g.P.Pages.state c.args.pages.now in
    let e = left_as old.array w.depth w.from (next w.after w.high) c.args.child c.args.scratch.now.separator.items between c.args.underflow (Trees None) (c.in-Trees.is ∙ ap (λ (m : Option ℕ). Trees m) c.in_default.is) left in
    same_becomes old c.args.page w.depth w.low w.high w.first (w.c ∷ w.cs) (append w.before (append between w.after)) sound
    (followed_parent old.array c.args.page w.depth w.low w.high c.args.key.now c.args.child w.first w.c w.cs w.from w.before between w.after None c.args.scratch.now.separator.items around apart e) (omega arith) holds

pub returns-in_ok-split-in-Trees-clause-followed : goal.returns-in_ok-split-in-Trees-clause-followed
returns-in_ok-split-in-Trees-clause-followed g c sound w between around left apart holds =
    let old = g.P.Pages.state c.args.pages.now in
    let new = g.P.Pages.state c.put_child.new.pages in
    let separator = c.args.scratch.now.separator.items in
    let second = c.in-Some.second in
    let e = left_as old.array w.depth w.from (next w.after w.high) c.args.child separator between c.args.underflow (Trees (Some second)) (c.in-Trees.is ∙ ap (λ (m : Option ℕ). Trees m) c.in-Some.is) left in
    let s = c.in_ok-split-in-Trees.ensures.stored sound w.first (w.c ∷ w.cs) holds in
    let later_separator = c.put_child.new.scratch.separator.items in
    stored_becomes old new c.args.page w.depth w.low w.high c.in_ok-split-in-Trees.split later_separator (append w.before (append between w.after)) s.0
    (stored old.array new.array c.args.page w.depth w.low w.high w.first later_separator (with_entry separator (four_bytes second) (w.c ∷ w.cs)) (append w.before (append between w.after)) c.in_ok-split-in-Trees.split
    (followed_parent old.array c.args.page w.depth w.low w.high c.args.key.now c.args.child w.first w.c w.cs w.from w.before between w.after (Some second) separator around apart e) (with_some separator (four_bytes second) (w.c ∷ w.cs)) s.1)

pub returns-in_err-free_page-in-Nothing-clause-takes : goal.returns-in_err-free_page-in-Nothing-clause-takes
returns-in_err-free_page-in-Nothing-clause-takes g c before depth deep taken =
    fails c.from_residual.result c.in_err-free_page-in-Nothing.field-0.0 _ _ c.from_residual.ensures.1 (λ is. not_read c.in_err-free_page-in-Nothing.field-0.0 c.in_err-free_page-in-Nothing.ensures.faults is)

pub returns-in_err-read-in-Nothing-clause-takes : goal.returns-in_err-read-in-Nothing-clause-takes
returns-in_err-read-in-Nothing-clause-takes g c before depth deep taken =
    fails c.from_residual-in_err-read-in-Nothing.result c.in_err-read-in-Nothing.field-0.0 _ _ c.from_residual-in_err-read-in-Nothing.ensures.1 (λ is. not_read c.in_err-read-in-Nothing.field-0.0 c.in_err-read-in-Nothing.ensures.faults is)

pub returns-in_ok-read-in-Nothing-clause-takes : goal.returns-in_ok-read-in-Nothing-clause-takes
returns-in_ok-read-in-Nothing-clause-takes g c before depth deep taken =
    let start = subst (λ (u : Underflow). TakesPages g.P.Pages before c.args.pages.now [] (most_left depth u)) c.in-Nothing.is taken in
    let free = taken_then g.P.Pages before c.args.pages.now c.free_page.new.self [] [] (most_left depth Nothing) 0 (most_left depth Nothing) start (none_taken g.P.Pages c.args.pages.now c.free_page.new.self 0 c.in_ok-free_page-in-Nothing.ensures.own) (omega arith) in
    let read = taken_then g.P.Pages before c.free_page.new.self c.read.new.self [] [] (most_left depth Nothing) 0 (most_left depth Nothing) free (none_taken g.P.Pages c.free_page.new.self c.read.new.self 0 c.in_ok-read-in-Nothing.ensures.own) (omega arith) in
    takes_since g.P.Pages before c.read.new.self c.remove_child.new.pages c.remove_child.result (λ left. most_stored left) (λ left. most_left (suc depth) left) (2 * depth) 1 (2 * suc depth + 2)
    read (removed_next depth) (omega arith) c.remove_child.ensures.takes

pub returns-in_err-free_page-in-Child-clause-takes : goal.returns-in_err-free_page-in-Child-clause-takes
returns-in_err-free_page-in-Child-clause-takes g c before depth deep taken =
    fails c.from_residual-in_err-free_page-in-Child.result c.in_err-free_page-in-Child.field-0.0 _ _ c.from_residual-in_err-free_page-in-Child.ensures.1 (λ is. not_read c.in_err-free_page-in-Child.field-0.0 c.in_err-free_page-in-Child.ensures.faults is)

pub returns-in_err-read-in-Child-clause-takes : goal.returns-in_err-read-in-Child-clause-takes
returns-in_err-read-in-Child-clause-takes g c before depth deep taken =
    fails c.from_residual-in_err-read-in-Child.result c.in_err-read-in-Child.field-0.0 _ _ c.from_residual-in_err-read-in-Child.ensures.1 (λ is. not_read c.in_err-read-in-Child.field-0.0 c.in_err-read-in-Child.ensures.faults is)

pub returns-in_ok-read-in-Child-clause-takes : goal.returns-in_ok-read-in-Child-clause-takes
returns-in_ok-read-in-Child-clause-takes g c before depth deep taken =
    let start = subst (λ (u : Underflow). TakesPages g.P.Pages before c.args.pages.now [] (most_left depth u)) c.in-Child.is taken in
    let free = taken_then g.P.Pages before c.args.pages.now c.free_page-in-Child.new.self [] [] (most_left depth (Child c.in-Child.left)) 0 (most_left depth (Child c.in-Child.left)) start (none_taken g.P.Pages c.args.pages.now c.free_page-in-Child.new.self 0 c.in_ok-free_page-in-Child.ensures.own) (omega arith) in
    let read = taken_then g.P.Pages before c.free_page-in-Child.new.self c.read-in-Child.new.self [] [] (most_left depth (Child c.in-Child.left)) 0 (most_left depth (Child c.in-Child.left)) free (none_taken g.P.Pages c.free_page-in-Child.new.self c.read-in-Child.new.self 0 c.in_ok-read-in-Child.ensures.own) (omega arith) in
    let some = deep c.in-Child.left c.in-Child.is in
    takes_since g.P.Pages before c.read-in-Child.new.self c.merge_child.new.pages c.merge_child.result (λ left. most_merged left) (λ left. most_left (suc depth) left) (2 * depth - 2) 4 (2 * suc depth + 2)
    read (λ left. merged_next depth left some) (omega (arith, some)) c.merge_child.ensures.takes

pub returns-in_default-clause-takes : goal.returns-in_default-clause-takes
returns-in_default-clause-takes g c before depth deep taken =
    let start = subst (λ (u : Underflow). TakesPages g.P.Pages before c.args.pages.now [] (most_left depth u)) c.in-Trees.is taken in
    taken_in_all g.P.Pages before c.args.pages.now [] (2 * depth + 1) (2 * suc depth + 1) start (omega arith)

pub returns-in_err-split-in-Trees-clause-takes : goal.returns-in_err-split-in-Trees-clause-takes
returns-in_err-split-in-Trees-clause-takes g c before depth deep taken =
    let start = subst (λ (u : Underflow). TakesPages g.P.Pages before c.args.pages.now [] (most_left depth u)) c.in-Trees.is taken in
    fails c.from_residual-in_err-split-in-Trees.result c.in_err-split-in-Trees.field-0.0 _ _ c.from_residual-in_err-split-in-Trees.ensures.1
    (λ is. taken_then g.P.Pages before c.args.pages.now c.put_child.new.pages [] [] (2 * depth + 1) 1 (2 * suc depth + 2) start (c.in_err-split-in-Trees.ensures.takes is) (omega arith))

pub returns-in_ok-split-in-Trees-clause-takes : goal.returns-in_ok-split-in-Trees-clause-takes
returns-in_ok-split-in-Trees-clause-takes g c before depth deep taken =
    let start = subst (λ (u : Underflow). TakesPages g.P.Pages before c.args.pages.now [] (most_left depth u)) c.in-Trees.is taken in
    let count = 0 + count_made c.in_ok-split-in-Trees.split in
    taken_in_all g.P.Pages before c.put_child.new.pages (c.args.page ∷ []) (2 * depth + 1 + count) (2 * suc depth + 1)
    (taken_then g.P.Pages before c.args.pages.now c.put_child.new.pages [] (c.args.page ∷ []) (2 * depth + 1) count (2 * depth + 1 + count) start c.in_ok-split-in-Trees.ensures.takes (omega arith)) (omega (arith, one_made c.in_ok-split-in-Trees.split))

pub returns-in_err-join_leaves-in-FewCells-clause-followed : goal.returns-in_err-join_leaves-in-FewCells-clause-followed
returns-in_err-join_leaves-in-FewCells-clause-followed g c sound w between around left apart holds =
    let old = g.P.Pages.state c.args.pages.now in
    let mid = g.P.Pages.state c.read-in-FewCells.new.self in
    let e = left_as old.array w.depth w.from (next w.after w.high) c.args.child c.args.scratch.now.separator.items between c.args.underflow FewCells c.in-FewCells.is left in
    let parent = followed_parent old.array c.args.page w.depth w.low w.high c.args.key.now c.args.child w.first w.c w.cs w.from w.before between w.after None c.args.scratch.now.separator.items around apart e.spells in
    let only_reads = c.in_ok-read-in-FewCells.ensures.only_reads sound in
    let node = read_holds old.array c.args.page Inner w.first (w.c ∷ w.cs) c.read-in-FewCells.new.bytes holds (c.in_ok-read-in-FewCells.ensures.found sound) in
    fails c.from_residual-in_err-join_leaves-in-FewCells.result c.in_err-join_leaves-in-FewCells.field-0.0 _ _ c.from_residual-in_err-join_leaves-in-FewCells.ensures.1
    (caused_since g.P.Pages c.args.pages.now c.read-in-FewCells.new.self c.join_leaves.new.pages c.in_err-join_leaves-in-FewCells.field-0.0 c.in_ok-read-in-FewCells.ensures.preserved
    (c.in_err-join_leaves-in-FewCells.ensures.joined only_reads.sound w.depth w.low w.high w.first w.c w.cs (append w.before (append between w.after)) e.flat
    (parent_keep old.array mid.array c.args.page w.depth w.low w.high w.first (w.c ∷ w.cs) (append w.before (append between w.after)) only_reads.same parent) (holds_then old mid c.args.page Inner w.first (w.c ∷ w.cs) only_reads holds) node))

pub returns-in_ok-join_leaves-in-FewCells-clause-followed : goal.returns-in_ok-join_leaves-in-FewCells-clause-followed
returns-in_ok-join_leaves-in-FewCells-clause-followed g c sound w between around left apart holds =
    let old = g.P.Pages.state c.args.pages.now in
    let mid = g.P.Pages.state c.read-in-FewCells.new.self in
    let new = g.P.Pages.state c.join_leaves.new.pages in
    let e = left_as old.array w.depth w.from (next w.after w.high) c.args.child c.args.scratch.now.separator.items between c.args.underflow FewCells c.in-FewCells.is left in
    let parent = followed_parent old.array c.args.page w.depth w.low w.high c.args.key.now c.args.child w.first w.c w.cs w.from w.before between w.after None c.args.scratch.now.separator.items around apart e.spells in
    let only_reads = c.in_ok-read-in-FewCells.ensures.only_reads sound in
    let node = read_holds old.array c.args.page Inner w.first (w.c ∷ w.cs) c.read-in-FewCells.new.bytes holds (c.in_ok-read-in-FewCells.ensures.found sound) in
    becomes_read old mid new (inner w.low c.args.page (append w.before (append between w.after)) no_trees) (entries (append w.before (append between w.after))) _ only_reads
    (c.in_ok-join_leaves-in-FewCells.ensures.joined only_reads.sound w.depth w.low w.high w.first w.c w.cs (append w.before (append between w.after)) e.flat
    (parent_keep old.array mid.array c.args.page w.depth w.low w.high w.first (w.c ∷ w.cs) (append w.before (append between w.after)) only_reads.same parent) (holds_then old mid c.args.page Inner w.first (w.c ∷ w.cs) only_reads holds) node)

pub returns-in_err-read-in-FewCells-clause-takes : goal.returns-in_err-read-in-FewCells-clause-takes
returns-in_err-read-in-FewCells-clause-takes g c before depth deep taken =
    fails c.from_residual-in_err-read-in-FewCells.result c.in_err-read-in-FewCells.field-0.0 _ _ c.from_residual-in_err-read-in-FewCells.ensures.1 (λ is. not_read c.in_err-read-in-FewCells.field-0.0 c.in_err-read-in-FewCells.ensures.faults is)

pub returns-in_err-join_leaves-in-FewCells-clause-takes : goal.returns-in_err-join_leaves-in-FewCells-clause-takes
returns-in_err-join_leaves-in-FewCells-clause-takes g c before depth deep taken =
    let start = subst (λ (u : Underflow). TakesPages g.P.Pages before c.args.pages.now [] (most_left depth u)) c.in-FewCells.is taken in
    let read = taken_then g.P.Pages before c.args.pages.now c.read-in-FewCells.new.self [] [] (2 * depth + 1) 0 (2 * depth + 1) start (none_taken g.P.Pages c.args.pages.now c.read-in-FewCells.new.self 0 c.in_ok-read-in-FewCells.ensures.own) (omega arith) in
    fails c.from_residual-in_err-join_leaves-in-FewCells.result c.in_err-join_leaves-in-FewCells.field-0.0 _ _ c.from_residual-in_err-join_leaves-in-FewCells.ensures.1
    (λ is. taken_then g.P.Pages before c.read-in-FewCells.new.self c.join_leaves.new.pages [] [] (2 * depth + 1) 1 (2 * suc depth + 2) read (c.in_err-join_leaves-in-FewCells.ensures.takes is) (omega arith))

pub returns-in_ok-join_leaves-in-FewCells-clause-takes : goal.returns-in_ok-join_leaves-in-FewCells-clause-takes
returns-in_ok-join_leaves-in-FewCells-clause-takes g c before depth deep taken =
    let start = subst (λ (u : Underflow). TakesPages g.P.Pages before c.args.pages.now [] (most_left depth u)) c.in-FewCells.is taken in
    let read = taken_then g.P.Pages before c.args.pages.now c.read-in-FewCells.new.self [] [] (2 * depth + 1) 0 (2 * depth + 1) start (none_taken g.P.Pages c.args.pages.now c.read-in-FewCells.new.self 0 c.in_ok-read-in-FewCells.ensures.own) (omega arith) in
    taken_then g.P.Pages before c.read-in-FewCells.new.self c.join_leaves.new.pages [] [] (2 * depth + 1) 2 (2 * suc depth + 1) read c.in_ok-join_leaves-in-FewCells.ensures.takes (omega arith)

pub returns-in_err-join_leaves-in-FewCells-clause-preserved : goal.returns-in_err-join_leaves-in-FewCells-clause-preserved
returns-in_err-join_leaves-in-FewCells-clause-preserved g c = g.P.Pages.preserved_joined c.args.pages.now c.read-in-FewCells.new.self c.join_leaves.new.pages c.in_ok-read-in-FewCells.ensures.preserved c.in_err-join_leaves-in-FewCells.ensures.preserved

pub returns-in_ok-join_leaves-in-FewCells-clause-preserved : goal.returns-in_ok-join_leaves-in-FewCells-clause-preserved
returns-in_ok-join_leaves-in-FewCells-clause-preserved g c = g.P.Pages.preserved_joined c.args.pages.now c.read-in-FewCells.new.self c.join_leaves.new.pages c.in_ok-read-in-FewCells.ensures.preserved c.in_ok-join_leaves-in-FewCells.ensures.preserved

pub returns-in_err-read-in-Nothing-clause-preserved : goal.returns-in_err-read-in-Nothing-clause-preserved
returns-in_err-read-in-Nothing-clause-preserved g c =
    g.P.Pages.preserved_joined c.args.pages.now c.free_page.new.self c.read.new.self c.in_ok-free_page-in-Nothing.ensures.preserved c.in_err-read-in-Nothing.ensures.preserved

pub returns-in_err-free_page-in-Nothing-clause-followed : goal.returns-in_err-free_page-in-Nothing-clause-followed
returns-in_err-free_page-in-Nothing-clause-followed g c sound w between around left apart holds =
    let old = g.P.Pages.state c.args.pages.now in
    let e = left_as old.array w.depth w.from (next w.after w.high) c.args.child c.args.scratch.now.separator.items between c.args.underflow Nothing c.in-Nothing.is left in
    fails c.from_residual.result c.in_err-free_page-in-Nothing.field-0.0 _ _ c.from_residual.ensures.1
    (caused_used _ c.in_err-free_page-in-Nothing.field-0.0 (old.array c.args.child) e.there (λ bad. c.in_err-free_page-in-Nothing.ensures.malformed sound (ap (λ (x : PageFault). Err x) bad)) (c.in_err-free_page-in-Nothing.ensures.cause sound))

pub returns-in_err-read-in-Nothing-clause-followed : goal.returns-in_err-read-in-Nothing-clause-followed
returns-in_err-read-in-Nothing-clause-followed g c sound w between around left apart holds =
    let old = g.P.Pages.state c.args.pages.now in
    let one = g.P.Pages.state c.free_page.new.self in
    let e = left_as old.array w.depth w.from (next w.after w.high) c.args.child c.args.scratch.now.separator.items between c.args.underflow Nothing c.in-Nothing.is left in
    let frees = c.in_ok-free_page-in-Nothing.ensures.freed sound e.there in
    let there = stays_used old one c.args.page c.args.child w.before between w.after (emptied_meets old one one one w.depth w.low w.high c.args.page c.args.child w.from w.before between w.after (λ y. Unit {0}) e) apart around.there frees in
    fails c.from_residual-in_err-read-in-Nothing.result c.in_err-read-in-Nothing.field-0.0 _ _ c.from_residual-in_err-read-in-Nothing.ensures.1
    (caused_since g.P.Pages c.args.pages.now c.free_page.new.self c.read.new.self c.in_err-read-in-Nothing.field-0.0 c.in_ok-free_page-in-Nothing.ensures.preserved
    (caused_used _ c.in_err-read-in-Nothing.field-0.0 (one.array c.args.page) there (λ bad. c.in_err-read-in-Nothing.ensures.malformed frees.sound (ap (λ (x : PageFault). Err x) bad)) (c.in_err-read-in-Nothing.ensures.cause frees.sound)))

pub returns-in_err-read-in-Child-clause-preserved : goal.returns-in_err-read-in-Child-clause-preserved
returns-in_err-read-in-Child-clause-preserved g c =
    g.P.Pages.preserved_joined c.args.pages.now c.free_page-in-Child.new.self c.read-in-Child.new.self c.in_ok-free_page-in-Child.ensures.preserved c.in_err-read-in-Child.ensures.preserved

pub returns-in_err-free_page-in-Child-clause-followed : goal.returns-in_err-free_page-in-Child-clause-followed
returns-in_err-free_page-in-Child-clause-followed g c sound w between around left apart holds =
    let old = g.P.Pages.state c.args.pages.now in
    let e = left_as old.array w.depth w.from (next w.after w.high) c.args.child c.args.scratch.now.separator.items between c.args.underflow (Child c.in-Child.left) c.in-Child.is left in
    fails c.from_residual-in_err-free_page-in-Child.result c.in_err-free_page-in-Child.field-0.0 _ _ c.from_residual-in_err-free_page-in-Child.ensures.1
    (caused_used _ c.in_err-free_page-in-Child.field-0.0 (old.array c.args.child) e.there (λ bad. c.in_err-free_page-in-Child.ensures.malformed sound (ap (λ (x : PageFault). Err x) bad)) (c.in_err-free_page-in-Child.ensures.cause sound))

pub returns-in_err-read-in-Child-clause-followed : goal.returns-in_err-read-in-Child-clause-followed
returns-in_err-read-in-Child-clause-followed g c sound w between around left apart holds =
    let old = g.P.Pages.state c.args.pages.now in
    let one = g.P.Pages.state c.free_page-in-Child.new.self in
    let e = left_as old.array w.depth w.from (next w.after w.high) c.args.child c.args.scratch.now.separator.items between c.args.underflow (Child c.in-Child.left) c.in-Child.is left in
    let frees = c.in_ok-free_page-in-Child.ensures.freed sound e.there in
    let there = stays_used old one c.args.page c.args.child w.before between w.after (child_meets old one one one w.depth w.low w.high c.args.page c.args.child w.from w.before between w.after (λ y. Unit {0}) c.in-Child.left e) apart around.there frees in
    fails c.from_residual-in_err-read-in-Child.result c.in_err-read-in-Child.field-0.0 _ _ c.from_residual-in_err-read-in-Child.ensures.1
    (caused_since g.P.Pages c.args.pages.now c.free_page-in-Child.new.self c.read-in-Child.new.self c.in_err-read-in-Child.field-0.0 c.in_ok-free_page-in-Child.ensures.preserved
    (caused_used _ c.in_err-read-in-Child.field-0.0 (one.array c.args.page) there (λ bad. c.in_err-read-in-Child.ensures.malformed frees.sound (ap (λ (x : PageFault). Err x) bad)) (c.in_err-read-in-Child.ensures.cause frees.sound)))

pub returns-in_err-read-in-FewCells-clause-followed : goal.returns-in_err-read-in-FewCells-clause-followed
returns-in_err-read-in-FewCells-clause-followed g c sound w between around left apart holds =
    let A = (g.P.Pages.state c.args.pages.now).array in
    fails c.from_residual-in_err-read-in-FewCells.result c.in_err-read-in-FewCells.field-0.0 _ _ c.from_residual-in_err-read-in-FewCells.ensures.1
    (caused_used _ c.in_err-read-in-FewCells.field-0.0 (A c.args.page) around.there (λ bad. c.in_err-read-in-FewCells.ensures.malformed sound (ap (λ (x : PageFault). Err x) bad)) (c.in_err-read-in-FewCells.ensures.cause sound))
