use Rattle.std.proofs.Common.{◌≡◌, ◌∙◌, List, length, sym, ap, arith, eq-eqb}
use Rattle.std.proofs.lemmas.Bool.{eqb-true}
use Rattle.std.proofs.lemmas.List.{nil_from_length}
use Rattle.store.specs.Records.{Changes}
use Rattle.store.specs.Batch.{all_changes}
use Rattle.store.proofs.InPieces.{no_pieces}
use Rattle.store.proofs.pieces.Pieces.is_empty.Goals as goal

-- no piece is empty
pub returns : goal.returns
returns c = (
  λ empty.
      let ps = c.args.self.now.list.items in
      let none : c.args.self.now.list.len ≡ 0 = eqb-true c.args.self.now.list.len 0 (sym c.is_empty.ensures ∙ empty) in
      ap all_changes (nil_from_length ps (omega (arith, none, c.args.self.now.list.ok))),
  λ nothing.
      let ps = c.args.self.now.list.items in
      let none : length ps ≡ 0 = ap (λ (qs : List Changes). length qs) (no_pieces ps c.args.self.now.filled nothing) in
      c.is_empty.ensures ∙ eq-eqb c.args.self.now.list.len 0 (omega (arith, none, c.args.self.now.list.ok)),
)
