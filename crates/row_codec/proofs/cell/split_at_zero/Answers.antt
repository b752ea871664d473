use Rattle.std.proofs.Common.{◌≡◌, sym, ◌∙◌, None, Some, ap, position, nat_eq, length, List, ℕ}
use Rattle.row_codec.proofs.Zero.{front_free, at_zero, same_parts, zero_after}
use Rattle.row_codec.proofs.cell.split_at_zero.Goals as goal

pub returns-in_err-end-clause-only : goal.returns-in_err-end-clause-only
returns-in_err-end-clause-only c front rest free spelled =
    let there : position (λ b. nat_eq b 0) c.args.bytes.now ≡ Some (length front) = ap (λ (zs : List ℕ). position (λ b. nat_eq b 0) zs) spelled ∙ zero_after front rest free in
    let none : None ≡ position (λ b. nat_eq b 0) c.args.bytes.now = c.in_err-end.ensures in
    cc

pub returns-clause-found : goal.returns-clause-found
returns-clause-found c = (front_free _ _ (sym c.in_ok-end.ensures), at_zero _ _ (sym c.in_ok-end.ensures))

pub returns-clause-only : goal.returns-clause-only
returns-clause-only c front rest free spelled = same_parts _ _ _ _ (sym c.in_ok-end.ensures) free spelled
