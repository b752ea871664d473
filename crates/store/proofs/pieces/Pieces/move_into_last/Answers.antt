use Rattle.std.proofs.Common.{◌≡◌, ◌-◌, ◌++◌, ◌∙◌, suc, length, sym, ap, subst, arith}
use Rattle.store.specs.Records.{Changes, IsOrdered}
use Rattle.store.specs.Batch.{all_changes}
use Rattle.store.proofs.InPieces.{either}
use Rattle.store.proofs.Apart.{longer_pieces, longer_same, only_piece}
use Rattle.store.proofs.pieces.Pieces.move_into_last.Goals as goal

-- keys rise still, and no piece is empty
pub invariant_of-self : goal.invariant_of-self
invariant_of-self c =
    let s = c.args.self.now in
    let later = c.args.later.now.list.items in
    let piece = c.index_mut-2.result.now in
    let all : suc (c.len-at.result - 1) ≡ length s.list.items = omega (arith, c.requires.there, c.len-at.ensures, s.list.ok) in
    let rising = subst (λ (cs : Changes). IsOrdered (all_changes s.list.items ++ cs)) (only_piece later piece c.requires.only c.index_mut-2.ensures.value) c.requires.ordered in
    let made = longer_pieces s.list.items (c.len-at.result - 1) c.index_mut.result.now c.move_behind.new.self piece s.ordered s.filled all rising c.index_mut.ensures.value (either c.move_behind.result c.move_behind.ensures.ok c.move_behind.ensures.err) in
    record { ordered = made.ordered; filled = made.filled }

-- the last piece has more changes
pub returns-clause-ok : goal.returns-clause-ok
returns-clause-ok c =
    let s = c.args.self.now in
    let later = c.args.later.now.list.items in
    let piece = c.index_mut-2.result.now in
    let all : suc (c.len-at.result - 1) ≡ length s.list.items = omega (arith, c.requires.there, c.len-at.ensures, s.list.ok) in
    longer_same s.list.items (c.len-at.result - 1) c.index_mut.result.now c.move_behind.new.self piece all c.index_mut.ensures.value c.in_ok-move_behind.ensures.ok
    ∙ ap (λ (cs : Changes). all_changes s.list.items ++ cs) (sym (only_piece later piece c.requires.only c.index_mut-2.ensures.value))
