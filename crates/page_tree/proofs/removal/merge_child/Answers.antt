use Rattle.std.proofs.Common.{ℕ, Some, None, List, ◌∷◌, subst, [], arith, ◌+◌}
use Rattle.page_nodes.specs.declared.cell.NodeKind.TheVariants.{Inner}
use Rattle.page_nodes.specs.Map.{with_entry, without}
use Rattle.page_nodes.specs.Node.{four_bytes}
use Rattle.page_nodes.specs.Search.{pair_from}
use Rattle.page_tree.specs.Forest.{append}
use Rattle.page_tree.specs.Puts.{AreWritten}
use Rattle.page_tree.proofs.Faults.{fails, memory_is, caused_since, gives_since}
use Rattle.page_tree.proofs.PutKeys.{with_some}
use Rattle.page_tree.proofs.RemovalNodes.{copied_slice}
use Rattle.page_tree.proofs.RemovalSteps.{joined_parent, joined_becomes, split_becomes}
use Rattle.page_tree.proofs.Taking.{taken_then, taken_in_all, takes_since, stored_merged, one_made}
use Rattle.page_tree.specs.Taking.{count_made, most_stored, most_merged}
use Rattle.page_tree.proofs.removal.merge_child.Goals as goal

pub returns-in_err-made-clause-merged : goal.returns-in_err-made-clause-merged
returns-in_err-made-clause-merged g c sound w lone below deep around node spells between =
    fails c.from_residual.result c.in_err-made.field-0.0 _ _ c.from_residual.ensures.1 (c.in_err-made.ensures.joined sound w c.args.page lone below deep around node spells between)

pub returns-in_err-rest-clause-merged : goal.returns-in_err-rest-clause-merged
returns-in_err-rest-clause-merged g c sound w lone below deep around node spells between =
    fails c.from_residual-in_err-rest.result c.in_err-rest.field-0.0 _ _ c.from_residual-in_err-rest.ensures.1 (memory_is _ c.in_err-rest.field-0.0 (c.in_err-rest.ensures.copied w.first w.c w.cs node))

pub returns-in_default-clause-merged : goal.returns-in_default-clause-merged
returns-in_default-clause-merged g c sound w lone below deep around node spells between =
    let old = g.P.Pages.state c.args.pages.now in
    let mid = g.P.Pages.state c.join.new.pages in
    let new = g.P.Pages.state c.store_rest.new.pages in
    let rest = c.in_ok-rest.rest in
    let gone = without (pair_from c.args.key.now w.first w.c w.cs).1.0 (w.c ∷ w.cs) in
    let r = c.in_ok-rest.ensures.copied w.first w.c w.cs node in
    let b = c.in_ok-made.ensures.joined sound w c.args.page lone below deep around node spells between in
    let j = joined_parent old mid c.args.page w.depth w.low w.high c.args.key.now c.args.child w.first w.c w.cs w.from w.before lone w.after rest.first rest.count c.copy_rest.new.cells.items c.in_ok-made.made None c.join.new.scratch.separator.items around between r c.in_default.is b in
    gives_since g.P.Pages c.args.pages.now c.join.new.pages c.store_rest.new.pages c.store_rest.result _ _ c.in_ok-made.ensures.preserved
    (λ left s. joined_becomes old mid new c.args.page w.depth w.low w.high (four_bytes rest.first) gone (append w.before (append lone w.after)) _ j s)
    (c.store_rest.ensures.stored b.sound w.depth w.low w.high gone j.children j.parent r.copied)

pub returns-in_err-write_cells-clause-merged : goal.returns-in_err-write_cells-clause-merged
returns-in_err-write_cells-clause-merged g c sound w lone below deep around node spells between =
    let old = g.P.Pages.state c.args.pages.now in
    let mid = g.P.Pages.state c.join.new.pages in
    let rest = c.in_ok-rest.rest in
    let gone = without (pair_from c.args.key.now w.first w.c w.cs).1.0 (w.c ∷ w.cs) in
    let r = c.in_ok-rest.ensures.copied w.first w.c w.cs node in
    let b = c.in_ok-made.ensures.joined sound w c.args.page lone below deep around node spells between in
    let j = joined_parent old mid c.args.page w.depth w.low w.high c.args.key.now c.args.child w.first w.c w.cs w.from w.before lone w.after rest.first rest.count c.copy_rest.new.cells.items c.in_ok-made.made (Some c.in-Some.second) c.join.new.scratch.separator.items around between r c.in-Some.is b in
    let copied = copied_slice Inner gone c.copy_rest.new.cells.items c.as_slice-cells.result.now rest.count c.as_slice-cells.ensures.value r.copied in
    fails c.from_residual-in_err-write_cells.result c.in_err-write_cells.field-0.0 _ _ c.from_residual-in_err-write_cells.ensures.1
    (caused_since g.P.Pages c.args.pages.now c.join.new.pages c.write_cells.new.pages c.in_err-write_cells.field-0.0 c.in_ok-made.ensures.preserved
    (c.in_err-write_cells.ensures.written b.sound j.parent.there gone copied))

pub returns-in_err-split-clause-preserved : goal.returns-in_err-split-clause-preserved
returns-in_err-split-clause-preserved g c =
    g.P.Pages.preserved_joined c.args.pages.now c.write_cells.new.pages c.put_child.new.pages
    (g.P.Pages.preserved_joined c.args.pages.now c.join.new.pages c.write_cells.new.pages c.in_ok-made.ensures.preserved c.in_ok-write_cells.ensures.preserved) c.in_err-split.ensures.preserved

pub returns-in_err-split-clause-merged : goal.returns-in_err-split-clause-merged
returns-in_err-split-clause-merged g c sound w lone below deep around node spells between =
    let old = g.P.Pages.state c.args.pages.now in
    let mid = g.P.Pages.state c.join.new.pages in
    let rest = c.in_ok-rest.rest in
    let gone = without (pair_from c.args.key.now w.first w.c w.cs).1.0 (w.c ∷ w.cs) in
    let r = c.in_ok-rest.ensures.copied w.first w.c w.cs node in
    let b = c.in_ok-made.ensures.joined sound w c.args.page lone below deep around node spells between in
    let j = joined_parent old mid c.args.page w.depth w.low w.high c.args.key.now c.args.child w.first w.c w.cs w.from w.before lone w.after rest.first rest.count c.copy_rest.new.cells.items c.in_ok-made.made (Some c.in-Some.second) c.join.new.scratch.separator.items around between r c.in-Some.is b in
    let copied = copied_slice Inner gone c.copy_rest.new.cells.items c.as_slice-cells.result.now rest.count c.as_slice-cells.ensures.value r.copied in
    let wrote = c.in_ok-write_cells.ensures.written b.sound j.parent.there gone copied in
    fails c.from_residual-in_err-split.result c.in_err-split.field-0.0 _ _ c.from_residual-in_err-split.ensures.1
    (caused_since g.P.Pages c.args.pages.now c.write_cells.new.pages c.put_child.new.pages c.in_err-split.field-0.0
    (g.P.Pages.preserved_joined c.args.pages.now c.join.new.pages c.write_cells.new.pages c.in_ok-made.ensures.preserved c.in_ok-write_cells.ensures.preserved)
    (c.in_err-split.ensures.stored wrote.0 c.to_be_bytes-first.result gone (wrote.1.bytes, wrote.1.here, wrote.1.node)))

pub returns-clause-merged : goal.returns-clause-merged
returns-clause-merged g c sound w lone below deep around node spells between =
    let old = g.P.Pages.state c.args.pages.now in
    let mid = g.P.Pages.state c.join.new.pages in
    let low_mid = g.P.Pages.state c.write_cells.new.pages in
    let new = g.P.Pages.state c.put_child.new.pages in
    let rest = c.in_ok-rest.rest in
    let separator = c.join.new.scratch.separator.items in
    let gone = without (pair_from c.args.key.now w.first w.c w.cs).1.0 (w.c ∷ w.cs) in
    let grown = with_entry separator (four_bytes c.in-Some.second) gone in
    let r = c.in_ok-rest.ensures.copied w.first w.c w.cs node in
    let b = c.in_ok-made.ensures.joined sound w c.args.page lone below deep around node spells between in
    let j = joined_parent old mid c.args.page w.depth w.low w.high c.args.key.now c.args.child w.first w.c w.cs w.from w.before lone w.after rest.first rest.count c.copy_rest.new.cells.items c.in_ok-made.made (Some c.in-Some.second) separator around between r c.in-Some.is b in
    let copied = copied_slice Inner gone c.copy_rest.new.cells.items c.as_slice-cells.result.now rest.count c.as_slice-cells.ensures.value r.copied in
    let wrote = c.in_ok-write_cells.ensures.written b.sound j.parent.there gone copied in
    let written : AreWritten Inner (four_bytes rest.first) gone c.args.page mid.array low_mid.array = subst (λ (x : List ℕ). AreWritten Inner x gone c.args.page mid.array low_mid.array) c.to_be_bytes-first.ensures wrote.1 in
    let s = c.in_ok-split.ensures.stored wrote.0 (four_bytes rest.first) gone (written.bytes, written.here, written.node) in
    joined_becomes old mid new c.args.page w.depth w.low w.high (four_bytes rest.first) grown (append w.before (append lone w.after)) _ j
    (split_becomes mid low_mid new c.args.page w.depth w.low w.high (four_bytes rest.first) c.put_child.new.scratch.separator.items grown gone j.children c.in_ok-split.split j.parent (with_some separator (four_bytes c.in-Some.second) gone) written s.0 s.1)

pub returns-in_err-made-clause-takes : goal.returns-in_err-made-clause-takes
returns-in_err-made-clause-takes g c =
    fails c.from_residual.result c.in_err-made.field-0.0 _ _ c.from_residual.ensures.1
    (λ is. taken_in_all g.P.Pages c.args.pages.now c.join.new.pages [] 1 4 (c.in_err-made.ensures.takes is) (omega arith))

pub returns-in_err-rest-clause-takes : goal.returns-in_err-rest-clause-takes
returns-in_err-rest-clause-takes g c =
    fails c.from_residual-in_err-rest.result c.in_err-rest.field-0.0 _ _ c.from_residual-in_err-rest.ensures.1 (λ is. absurd (c.in_err-rest.ensures.faults is))

pub returns-in_default-clause-takes : goal.returns-in_default-clause-takes
returns-in_default-clause-takes g c =
    takes_since g.P.Pages c.args.pages.now c.join.new.pages c.store_rest.new.pages c.store_rest.result (λ left. most_stored left) (λ left. most_merged left) 2 1 4
    c.in_ok-made.ensures.takes stored_merged (omega arith) c.store_rest.ensures.takes

pub returns-in_err-write_cells-clause-takes : goal.returns-in_err-write_cells-clause-takes
returns-in_err-write_cells-clause-takes g c =
    fails c.from_residual-in_err-write_cells.result c.in_err-write_cells.field-0.0 _ _ c.from_residual-in_err-write_cells.ensures.1
    (λ is. taken_then g.P.Pages c.args.pages.now c.join.new.pages c.write_cells.new.pages [] [] 2 0 4 c.in_ok-made.ensures.takes (c.in_err-write_cells.ensures.takes is) (omega arith))

pub returns-in_err-split-clause-takes : goal.returns-in_err-split-clause-takes
returns-in_err-split-clause-takes g c =
    let wrote = taken_then g.P.Pages c.args.pages.now c.join.new.pages c.write_cells.new.pages [] [] 2 1 3 c.in_ok-made.ensures.takes c.in_ok-write_cells.ensures.takes (omega arith) in
    fails c.from_residual-in_err-split.result c.in_err-split.field-0.0 _ _ c.from_residual-in_err-split.ensures.1
    (λ is. taken_then g.P.Pages c.args.pages.now c.write_cells.new.pages c.put_child.new.pages [] [] 3 1 4 wrote (c.in_err-split.ensures.takes is) (omega arith))

pub returns-clause-takes : goal.returns-clause-takes
returns-clause-takes g c =
    let wrote = taken_then g.P.Pages c.args.pages.now c.join.new.pages c.write_cells.new.pages [] [] 2 1 3 c.in_ok-made.ensures.takes c.in_ok-write_cells.ensures.takes (omega arith) in
    let count = 0 + count_made c.in_ok-split.split in
    taken_in_all g.P.Pages c.args.pages.now c.put_child.new.pages (c.args.page ∷ []) (3 + count) 5
    (taken_then g.P.Pages c.args.pages.now c.write_cells.new.pages c.put_child.new.pages [] (c.args.page ∷ []) 3 count (3 + count) wrote c.in_ok-split.ensures.takes (omega arith)) (omega (arith, one_made c.in_ok-split.split))

pub returns-clause-preserved : goal.returns-clause-preserved
returns-clause-preserved g c =
    g.P.Pages.preserved_joined c.args.pages.now c.write_cells.new.pages c.put_child.new.pages
    (g.P.Pages.preserved_joined c.args.pages.now c.join.new.pages c.write_cells.new.pages c.in_ok-made.ensures.preserved c.in_ok-write_cells.ensures.preserved) c.in_ok-split.ensures.preserved

pub returns-in_default-clause-preserved : goal.returns-in_default-clause-preserved
returns-in_default-clause-preserved g c =
    g.P.Pages.preserved_joined c.args.pages.now c.join.new.pages c.store_rest.new.pages c.in_ok-made.ensures.preserved c.store_rest.ensures.preserved

pub returns-in_err-write_cells-clause-preserved : goal.returns-in_err-write_cells-clause-preserved
returns-in_err-write_cells-clause-preserved g c =
    g.P.Pages.preserved_joined c.args.pages.now c.join.new.pages c.write_cells.new.pages c.in_ok-made.ensures.preserved c.in_err-write_cells.ensures.preserved
