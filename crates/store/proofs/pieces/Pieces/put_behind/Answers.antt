use Rattle.std.proofs.Common.{◌≡◌, ◌∙◌, ◌-◌, ◌++◌, ◌∷◌, [], ◌≤◌, ℕ, List, suc, length, sym, ap, subst, arith, is_ok}
use Rattle.store.specs.Records.{Changes}
use Rattle.store.specs.Batch.{all_changes}
use Rattle.store.specs.Pieces.{IsIndex}
use Rattle.store.proofs.InPieces.{ArePieces, last_home, behind_all, put_behind_all}
use Rattle.store.proofs.pieces.Pieces.put_behind.Goals as goal

-- the key belongs in the last piece
pub put_in-requires-clause-home : goal.put_in-requires-clause-home
put_in-requires-clause-home c =
    let ps = c.args.self.now.list.items in
    let len : suc (c.len-len.result - 1) ≡ length ps = omega (arith, c.if-len-gt0.true, c.len-len.ensures, c.args.self.now.list.ok) in
    let next = len ∙ sym c.args.self.now.list.ok.0 in
    last_home c.args.change.0 (c.len-len.result - 1) ps c.args.self.now.ordered (subst (λ (n : ℕ). IsIndex c.args.change.0 n ps) (sym next) c.requires) len

-- keys rise still, and no piece is empty
pub invariant_of-self : goal.invariant_of-self
invariant_of-self c =
    let ps = c.args.self.now.list.items in
    let past : length ps ≤ c.args.self.now.list.len = omega (arith, c.args.self.now.list.ok) in
    let made = behind_all c.args.change.0 c.args.change.1 c.args.self.now.list.len ps c.in_ok-piece.piece (is_ok c.push.result) c.args.self.now.ordered c.args.self.now.filled c.requires past c.in_ok-piece.ensures in
    let all = subst (λ (qs : List Changes). ArePieces qs) (sym c.push.ensures.items) made in
    record { ordered = all.ordered; filled = all.filled }

-- a new piece stands behind all others
pub returns-clause-ok : goal.returns-clause-ok
returns-clause-ok c =
    let ps = c.args.self.now.list.items in
    ap all_changes c.in_ok-push.ensures.items
    ∙ ap (λ (p : Changes). all_changes (ps ++ (p ∷ []))) c.in_ok-piece.ensures
    ∙ put_behind_all c.args.change.0 c.args.change.1 _ ps c.args.self.now.ordered c.requires (omega (arith, c.args.self.now.list.ok))
