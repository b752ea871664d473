use Rattle.std.proofs.Common.{◌≡◌, ℕ, ◌<◌, get_or, length-drop, List, length, drop, refl, sym, ◌∙◌, arith, subst}
use Rattle.std.proofs.lemmas.Bool.{false≢true}
use Rattle.page_nodes.specs.declared.cell.NodeKind.{NodeKind}
use Rattle.page_nodes.specs.Map.{Entry, IsRising}
use Rattle.page_nodes.specs.Node.{HasCell, IsWhole}
use Rattle.page_nodes.specs.Search.{RiseTo}
use Rattle.page_nodes.proofs.Cells.{two_same}
use Rattle.page_nodes.proofs.Scan.{begins}
use Rattle.page_nodes.proofs.Whole.{node_read, zeros_are, kind_is, no_kind, take_all, node_same}
use Rattle.page_nodes.proofs.page.whole_node.Goals as goal

pub returns-in_err-kind-clause-none : goal.returns-in_err-kind-clause-none
returns-in_err-kind-clause-none c none kind whole = no_kind kind (c.in_err-kind.ensures.spelled kind whole.first whole.cells whole.node)

pub returns-then-not-may_have-clause-none : goal.returns-then-not-may_have-clause-none
returns-then-not-may_have-clause-none c none kind whole =
    let same : c.in_ok-kind.kind ≡ kind = kind_is _ _ (c.in_ok-kind.ensures.spelled kind whole.first whole.cells whole.node) in
    let w = subst (λ (k : NodeKind). IsWhole c.args.bytes.now k) (sym same) whole in
    let b = begins c.in_ok-kind.kind c.args.bytes.now w.first w.cells w.node in
    let count = two_same c.two_at.result (length w.cells) _ _ c.two_at.ensures.fits b.small (sym c.two_at.ensures.spelled ∙ b.count) in
    false≢true (c.if-not-may_have.ensures.1 (subst (λ n. HasCell c.in_ok-kind.kind n) (sym count) w.some))

pub returns-in_err-read-clause-none : goal.returns-in_err-read-clause-none
returns-in_err-read-clause-none c none kind whole =
    let same : c.in_ok-kind.kind ≡ kind = kind_is _ _ (c.in_ok-kind.ensures.spelled kind whole.first whole.cells whole.node) in
    let w = subst (λ (k : NodeKind). IsWhole c.args.bytes.now k) (sym same) whole in
    absurd (c.in_err-read.ensures.end w.first w.cells w.node w.rising)

pub returns-clause-node : goal.returns-clause-node
returns-clause-node c =
    let read : RiseTo c.in_ok-kind.kind c.args.bytes.now c.in_ok-read.read.end = c.in_ok-read.ensures.read in
    let rest = drop c.in_ok-read.read.end c.args.bytes.now in
    let all = take_all _ rest (omega (arith, length-drop c.in_ok-read.read.end c.args.bytes.now, c.told-bytes)) in
    let zeros : (k : ℕ) → k < length rest → get_or rest k 0 ≡ 0 =
    subst (λ (xs : List ℕ). (k : ℕ) → k < length xs → get_or xs k 0 ≡ 0) all (c.if-not-are_zeros.ensures.0 refl) in
    let node = node_read c.in_ok-kind.kind c.args.bytes.now c.in_ok-read.read.end read c.told-bytes c.in_ok-kind.ensures.tagged c.if-bytes-ne0.false c.in_ok-read.ensures.inside (zeros_are rest zeros) in
    let b = begins c.in_ok-kind.kind c.args.bytes.now _ read.cells node in
    let count = two_same c.two_at.result (length read.cells) _ _ c.two_at.ensures.fits b.small (sym c.two_at.ensures.spelled ∙ read.count) in
    record { first = _; cells = read.cells; node = node; rising = read.rising; some = subst (λ n. HasCell c.in_ok-kind.kind n) count (c.if-not-may_have.ensures.0 refl) }

pub returns-clause-keys : goal.returns-clause-keys
returns-clause-keys c first cells node =
    let w : IsWhole c.args.bytes.now c.in_ok-kind.kind = returns-clause-node c in
    let same : w.cells ≡ cells = node_same c.in_ok-kind.kind c.args.bytes.now w.first first w.cells cells w.node node in
    c.in_ok-read.ensures.keys first cells node (subst (λ (xs : List Entry). IsRising xs) same w.rising)
