use Rattle.std.proofs.Common.{◌∙◌, arith, [], ◌∷◌}
use Rattle.page_tree.proofs.Faults.{fails, caused_since}
use Rattle.page_tree.proofs.PutNodes.{cut_parts, copied_now, suffix_is}
use Rattle.page_tree.proofs.PutSteps.{split_stored, split_ended}
use Rattle.page_tree.proofs.Taking.{none_taken, one_taken, taken_then, taken_and}
use Rattle.page_tree.proofs.puts.store_cells.Goals as goal

pub returns-in_err-made-clause-stored : goal.returns-in_err-made-clause-stored
returns-in_err-made-clause-stored g c sound used cs d =
    let now = c.as_slice-cells.result.now in
    let e = copied_now c.args.kind cs c.args.scratch.now.cells.items now c.args.count c.as_slice-cells.ensures.value d in
    let cut = c.in-Some.ensures.cut cs e.sizes e.spelled e.count_is e.short in
    let parts = cut_parts c.args.kind cs now c.in-Some.cut.at c.in-Some.cut.index c.args.count e cut in
    let written = c.in_ok-write-2.ensures.written sound used in
    fails c.from_residual-in_err-made.result c.in_err-made.field-0.0 _ _ c.from_residual-in_err-made.ensures.1
    (caused_since g.P.Pages c.args.pages.now c.write-2.new.self c.write_back.new.pages c.in_err-made.field-0.0 c.in_ok-write-2.ensures.preserved
    (c.in_err-made.ensures.taken written.sound parts.c parts.back parts.back_sizes (suffix_is c.in-Some.cut.at now ∙ parts.back_spelled) parts.left_is))

pub returns-clause-stored : goal.returns-clause-stored
returns-clause-stored g c sound used cs d =
    let now = c.as_slice-cells.result.now in
    let e = copied_now c.args.kind cs c.args.scratch.now.cells.items now c.args.count c.as_slice-cells.ensures.value d in
    let cut = c.in-Some.ensures.cut cs e.sizes e.spelled e.count_is e.short in
    let parts = cut_parts c.args.kind cs now c.in-Some.cut.at c.in-Some.cut.index c.args.count e cut in
    let written = c.in_ok-write-2.ensures.written sound used in
    let taken = c.in_ok-made.ensures.taken written.sound parts.c parts.back parts.back_sizes (suffix_is c.in-Some.cut.at now ∙ parts.back_spelled) parts.left_is in
    let node = c.write_node-2.ensures parts.front parts.front_sizes parts.front_spelled parts.index_is in (
      taken.takes.writes.sound,
      split_stored c.args.kind c.args.first.now cs c.args.page c.in_ok-made.made c.in-Some.cut.at c.in-Some.cut.index c.args.count c.write_back.new.separator.items c.write_node-2.new.page now
          (g.P.Pages.state c.args.pages.now) (g.P.Pages.state c.write-2.new.self) (g.P.Pages.state c.write_back.new.pages) parts used node written taken,
    )

pub returns-clause-end : goal.returns-clause-end
returns-clause-end g c at_end sound used cs d fits =
    let now = c.as_slice-cells.result.now in
    let e = copied_now c.args.kind cs c.args.scratch.now.cells.items now c.args.count c.as_slice-cells.ensures.value d in
    let cut = c.in-Some.ensures.cut cs e.sizes e.spelled e.count_is e.short in
    let least = c.in-Some.ensures.end at_end cs e.sizes e.spelled e.count_is fits in
    let parts = cut_parts c.args.kind cs now c.in-Some.cut.at c.in-Some.cut.index c.args.count e cut in
    let written = c.in_ok-write-2.ensures.written sound used in
    let taken = c.in_ok-made.ensures.taken written.sound parts.c parts.back parts.back_sizes (suffix_is c.in-Some.cut.at now ∙ parts.back_spelled) parts.left_is in
    let node = c.write_node-2.ensures parts.front parts.front_sizes parts.front_spelled parts.index_is in
    split_ended c.args.kind c.args.first.now cs c.args.page c.in_ok-made.made c.in-Some.cut.at c.in-Some.cut.index c.args.count c.write_back.new.separator.items c.write_node-2.new.page now
    (g.P.Pages.state c.args.pages.now) (g.P.Pages.state c.write-2.new.self) (g.P.Pages.state c.write_back.new.pages) parts used node written taken fits least

pub returns-in_err-write-clause-takes : goal.returns-in_err-write-clause-takes
returns-in_err-write-clause-takes g c =
    fails c.from_residual.result c.in_err-write.field-0.0 _ _ c.from_residual.ensures.1
    (λ is. none_taken g.P.Pages c.args.pages.now c.write.new.self 1 (c.in_err-write.ensures.full is).0)

pub returns-in_err-write-2-clause-takes : goal.returns-in_err-write-2-clause-takes
returns-in_err-write-2-clause-takes g c =
    fails c.from_residual-in_err-write-2.result c.in_err-write-2.field-0.0 _ _ c.from_residual-in_err-write-2.ensures.1
    (λ is. none_taken g.P.Pages c.args.pages.now c.write-2.new.self 1 (c.in_err-write-2.ensures.full is).0)

pub returns-in_err-made-clause-takes : goal.returns-in_err-made-clause-takes
returns-in_err-made-clause-takes g c =
    let wrote = one_taken g.P.Pages c.args.pages.now c.write-2.new.self c.args.page 0 c.in_ok-write-2.ensures.own in
    fails c.from_residual-in_err-made.result c.in_err-made.field-0.0 _ _ c.from_residual-in_err-made.ensures.1
    (λ is. taken_then g.P.Pages c.args.pages.now c.write-2.new.self c.write_back.new.pages (c.args.page ∷ []) [] 0 0 1 wrote (c.in_err-made.ensures.takes is) (omega arith))

pub returns-clause-takes : goal.returns-clause-takes
returns-clause-takes g c =
    let wrote = one_taken g.P.Pages c.args.pages.now c.write-2.new.self c.args.page 0 c.in_ok-write-2.ensures.own in
    taken_and g.P.Pages c.args.pages.now c.write-2.new.self c.write_back.new.pages (c.args.page ∷ []) [] 0 1 1 wrote c.in_ok-made.ensures.takes (omega arith)

pub returns-in_err-made-clause-preserved : goal.returns-in_err-made-clause-preserved
returns-in_err-made-clause-preserved g c =
    g.P.Pages.preserved_joined c.args.pages.now c.write-2.new.self c.write_back.new.pages c.in_ok-write-2.ensures.preserved c.in_err-made.ensures.preserved

pub returns-clause-preserved : goal.returns-clause-preserved
returns-clause-preserved g c =
    g.P.Pages.preserved_joined c.args.pages.now c.write-2.new.self c.write_back.new.pages c.in_ok-write-2.ensures.preserved c.in_ok-made.ensures.preserved
