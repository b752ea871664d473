use Rattle.std.proofs.Common.{refl, sym, ◌∙◌, ⊎_elim, length, arith}
use Rattle.page_nodes.specs.declared.cell.NodeKind.TheVariants.{Inner}
use Rattle.page_nodes.proofs.Cells.{inner_ahead, cell_inside, cell_long, two_same, inner_found}
use Rattle.page_nodes.proofs.cell.inner_cell_at.Goals as goal

pub returns-then-bytes-at-lt6-clause-none : goal.returns-then-bytes-at-lt6-clause-none
returns-then-bytes-at-lt6-clause-none c none cell rest key_size payload_size spelled =
    omega (arith, cell_inside Inner c.args.at c.args.bytes.now cell rest c.requires spelled, cell_long Inner cell, payload_size)

pub returns-then-key_len-eq0-clause-none : goal.returns-then-key_len-eq0-clause-none
returns-then-key_len-eq0-clause-none c none cell rest key_size payload_size spelled =
    let key_len = two_same c.two_at-key_len.result (length cell.0) _ _ c.two_at-key_len.ensures.fits (omega (arith, key_size.1)) (sym c.two_at-key_len.ensures.spelled ∙ inner_ahead c.args.at c.args.bytes.now cell rest spelled) in
    ⊎_elim (λ zero. omega (arith, key_len, key_size.0, zero)) (λ more. omega (arith, key_len, key_size.1, more.1)) c.then-key_len-eq0.either

pub returns-then-bytes-at-clause-none : goal.returns-then-bytes-at-clause-none
returns-then-bytes-at-clause-none c none cell rest key_size payload_size spelled =
    let key_len = two_same c.two_at-key_len.result (length cell.0) _ _ c.two_at-key_len.ensures.fits (omega (arith, key_size.1)) (sym c.two_at-key_len.ensures.spelled ∙ inner_ahead c.args.at c.args.bytes.now cell rest spelled) in
    omega (arith, key_len, c.if-bytes-at.true, cell_inside Inner c.args.at c.args.bytes.now cell rest c.requires spelled, cell_long Inner cell, payload_size)

pub returns-clause-found : goal.returns-clause-found
returns-clause-found c =
    inner_found c.args.at c.two_at-key_len.result _ _ _ c.args.bytes.now c.two_at-key_len.ensures.spelled
    (omega arith) (omega arith) refl (omega (arith, c.if-key_len-eq0.false)) c.if-key_len-gt-MAX_KEY_LENGTH.false (omega (arith, c.if-bytes-at.false, c.if-bytes-at-lt6.false, c.requires))
