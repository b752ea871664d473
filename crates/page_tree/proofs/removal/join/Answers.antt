use Rattle.std.proofs.Common.{refl, sym, ◌∙◌}
use Rattle.std.proofs.lemmas.Bool.{false≢true}
use Rattle.page_nodes.specs.Map.{with_entry}
use Rattle.page_nodes.specs.Node.{four_bytes}
use Rattle.page_tree.proofs.Faults.{gives_as, fails}
use Rattle.page_tree.proofs.Descent.{numbered_of}
use Rattle.page_tree.proofs.PutKeys.{with_some}
use Rattle.page_tree.proofs.RemovalTrees.{stored, stored_becomes}
use Rattle.page_tree.proofs.RemovalSides.{side_first, side_later}
use Rattle.page_tree.proofs.RemovalMoved.{joins_first, joins_later}
use Rattle.page_tree.proofs.Taking.{same_taken, put_two, not_memory}
use Rattle.page_tree.proofs.removal.join.Goals as goal

pub returns-then-is_same_page-clause-joined : goal.returns-then-is_same_page-clause-joined
returns-then-is_same_page-clause-joined g c sound w page lone below deep around node spells between =
    let old = g.P.Pages.state c.args.pages.now in
    let new = g.P.Pages.state c.join_before.new.pages in
    let numbered = numbered_of g.P.Pages c.args.pages.now sound in
    let pair = c.in_ok-pair.ensures.pair w.first w.c w.cs node in
    let f = side_first old.array page w.depth w.low w.high c.args.key.now c.args.child w.first w.c w.cs w.from w.before w.after around numbered c.ranges.child.fits (sym pair.0 ∙ c.if-is_same_page.ensures.same.0 refl) in
    let j = joins_first old page w.depth w.low w.high c.args.key.now c.args.child w.first w.c w.cs w.from c.args.left w.before w.after lone below deep around f spells between numbered c.in_ok-pair.pair.right c.in_ok-pair.pair.key.now c.join_before.ensures.number pair.1 pair.2 in
    gives_as g.P.Pages c.args.pages.now c.join_before.new.pages c.join_before.result _ _ (λ made b. j.above new made c.join_before.new.scratch.separator.items b)
    (c.join_before.ensures.joined sound j.below j.from j.to j.head j.rest j.children j.parent j.holds)

pub returns-clause-joined : goal.returns-clause-joined
returns-clause-joined g c sound w page lone below deep around node spells between =
    let old = g.P.Pages.state c.args.pages.now in
    let new = g.P.Pages.state c.put_child.new.pages in
    let numbered = numbered_of g.P.Pages c.args.pages.now sound in
    let pair = c.in_ok-pair.ensures.pair w.first w.c w.cs node in
    let neighbour = c.in_ok-pair.pair.left in
    let key = c.set_separator.new.separator.items in
    let separator = c.put_child.new.scratch.separator.items in
    let f = side_later old.array page w.depth w.low w.high c.args.key.now c.args.child w.first w.c w.cs w.from w.before w.after around numbered c.ranges.child.fits (λ e. false≢true (c.if-is_same_page.ensures.same.1 (pair.0 ∙ e))) in
    let j = joins_later old page w.depth w.low w.high c.args.key.now c.args.child w.first w.c w.cs w.from c.args.left w.before w.after lone below deep around f spells between numbered neighbour key c.if-is_same_page.ensures.number
    (c.in_ok-set_separator.ensures.set ∙ pair.1) pair.0 in
    gives_as g.P.Pages c.args.pages.now c.put_child.new.pages c.put_child.result _ _
    (λ made s. j.above new made separator
    (stored_becomes old new neighbour j.below j.from j.to made separator j.children s.0
    (stored old.array new.array neighbour j.below j.from j.to j.head separator (with_entry key (four_bytes c.args.left) j.rest) j.children made j.parent (with_some key (four_bytes c.args.left) j.rest) s.1)))
    (c.put_child.ensures.stored sound j.head j.rest j.holds)

pub returns-in_err-pair-clause-takes : goal.returns-in_err-pair-clause-takes
returns-in_err-pair-clause-takes g c =
    fails c.from_residual.result c.in_err-pair.field-0.0 _ _ c.from_residual.ensures.1 (λ is. absurd (c.in_err-pair.ensures.faults is))

pub returns-then-is_same_page-clause-takes : goal.returns-then-is_same_page-clause-takes
returns-then-is_same_page-clause-takes g c =
    c.join_before.ensures.takes

pub returns-in_err-set_separator-clause-takes : goal.returns-in_err-set_separator-clause-takes
returns-in_err-set_separator-clause-takes g c =
    fails c.from_residual-in_err-set_separator.result c.in_err-set_separator.field-0.0 _ _ c.from_residual-in_err-set_separator.ensures.1 (λ is. not_memory c.in_err-set_separator.field-0.0 c.in_err-set_separator.ensures.fault is)

pub returns-clause-takes : goal.returns-clause-takes
returns-clause-takes g c =
    put_two g.P.Pages c.args.pages.now c.args.pages.now c.put_child.new.pages c.in_ok-pair.pair.left c.put_child.result (same_taken g.P.Pages c.args.pages.now) c.put_child.ensures.takes
