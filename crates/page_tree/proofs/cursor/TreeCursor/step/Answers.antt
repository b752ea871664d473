use Rattle.std.proofs.Common.{◌≡◌, ℕ, List, ◌∷◌, true, false, ap, sym, ◌∙◌, arith, subst}
use Rattle.std.proofs.lemmas.Bool.{false≢true}
use Rattle.page_nodes.specs.Map.{is_below, Entry}
use Rattle.page_tree.specs.Search.{key_of}
use Rattle.page_tree.specs.Kept.{AreLeft}
use Rattle.page_tree.proofs.Kept.{head_left, stepped, takes_some}
use Rattle.page_tree.proofs.cursor.TreeCursor.step.Goals as goal

first_same : (c d : Entry) (cs ds : List Entry) → c ∷ cs ≡ d ∷ ds → c ≡ d
first_same c d cs ds same = cc

pub returns-clause-stepped : goal.returns-clause-stepped
returns-clause-stepped c map rising keeps =
    let before = c.args.self.now in
    let some = c.if-self-eq0.false in
    let p = keeps (omega (arith, some)) in
    let view = c.in-Some.cell in
    let h = head_left p.cells before view.key.now view.payload.now view.end p.left (omega (arith, some)) c.in-Some.ensures.found in
    let below : is_below (key_of before) c.args.key.now ≡ true = ap (λ (k : List ℕ). is_below k c.args.key.now) (sym c.deref.ensures.value) ∙ sym c.if-not-is_less.ensures in
    let not : is_below h.c.0 c.args.key.now ≡ false = ap (λ (k : List ℕ). is_below k c.args.key.now) (sym h.key_is) ∙ sym c.if-is_less.ensures in
    stepped map c.args.key.now before c.take_next.new.self rising p h.c h.cs h.cells_are below not c.take_next.result
    (c.take_next.ensures.taken (h.c ∷ h.cs) (subst (λ (xs : List Entry). AreLeft xs before) h.cells_are p.left))

pub returns-then-is_less-clause-tells : goal.returns-then-is_less-clause-tells
returns-then-is_less-clause-tells c next same =
    let view = c.in-Some.cell in
    let h = head_left (next.cell ∷ next.cells) c.args.self.now view.key.now view.payload.now view.end next.left (omega (arith, c.if-self-eq0.false)) c.in-Some.ensures.found in
    let one : next.cell ≡ h.c = first_same next.cell h.c next.cells h.cs h.cells_are in
    absurd (false≢true (sym next.reaches ∙ (ap (λ (e : Entry). is_below e.0 c.args.key.now) one ∙ (ap (λ (k : List ℕ). is_below k c.args.key.now) (sym h.key_is) ∙ sym c.if-is_less.ensures))))

pub returns-clause-tells : goal.returns-clause-tells
returns-clause-tells c next =
    takes_some next.cell next.cells c.take_next.new.self c.take_next.result _ (c.take_next.ensures.taken (next.cell ∷ next.cells) next.left)
