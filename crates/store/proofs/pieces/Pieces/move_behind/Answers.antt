use Rattle.std.proofs.Common.{◌∙◌, List, is_ok, sym, ap, subst}
use Rattle.store.specs.Records.{Changes}
use Rattle.store.specs.Batch.{all_changes}
use Rattle.store.proofs.InPieces.{ArePieces, all_changes-append}
use Rattle.store.proofs.Apart.{pieces_behind, pieces_left}
use Rattle.store.proofs.pieces.Pieces.move_behind.Goals as goal

-- keys rise still, and no piece is empty
pub invariant_of-self : goal.invariant_of-self
invariant_of-self c =
    let s = c.args.self.now in
    let later = c.args.later.now in
    let made = pieces_behind s.list.items later.list.items (is_ok c.append.result) s.ordered s.filled c.requires later.filled in
    let all = subst (λ (qs : List Changes). ArePieces qs) (sym c.append.ensures.items) made in
    record { ordered = all.ordered; filled = all.filled }

pub invariant_of-later : goal.invariant_of-later
invariant_of-later c =
    let later = c.args.later.now in
    let all = subst (λ (qs : List Changes). ArePieces qs) (sym c.append.ensures.other_items) (pieces_left later.list.items (is_ok c.append.result) later.ordered later.filled) in
    record { ordered = all.ordered; filled = all.filled }

-- the later pieces stand behind all others
pub returns-clause-ok : goal.returns-clause-ok
returns-clause-ok c =
    let s = c.args.self.now in
    ap all_changes c.in_ok-append.ensures.items
    ∙ all_changes-append s.list.items c.args.later.now.list.items
