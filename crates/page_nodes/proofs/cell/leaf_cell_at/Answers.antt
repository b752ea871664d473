use Rattle.std.proofs.Common.{refl, sym, ◌∙◌, length, arith}
use Rattle.page_nodes.specs.declared.cell.NodeKind.TheVariants.{Leaf}
use Rattle.page_nodes.proofs.Cells.{leaf_ahead, cell_inside, cell_long, two_same, leaf_found}
use Rattle.page_nodes.proofs.cell.leaf_cell_at.Goals as goal
use Rattle.page_nodes.proofs.cell.leaf_cell_at.Goals.{then-key_len-eq0-via-then-key_len-eq0, then-key_len-eq0-via-else-key_len-eq0+then-key_len-gt-MAX_KEY_LENGTH, then-key_len-eq0-via-else-key_len-eq0+else-key_len-gt-MAX_KEY_LENGTH+then-value_len-gt-MAX_VALUE_LENGTH}

pub returns-then-bytes-at-lt4-clause-none : goal.returns-then-bytes-at-lt4-clause-none
returns-then-bytes-at-lt4-clause-none c none cell rest key_size payload_size spelled =
    omega (arith, cell_inside Leaf c.args.at c.args.bytes.now cell rest c.requires spelled, cell_long Leaf cell)

pub returns-then-key_len-eq0-clause-none : goal.returns-then-key_len-eq0-clause-none
returns-then-key_len-eq0-clause-none c none cell rest key_size payload_size spelled =
    let ahead = leaf_ahead c.args.at c.args.bytes.now cell rest spelled in
    let key_len = two_same c.two_at-key_len.result (length cell.0) _ _ c.two_at-key_len.ensures.fits (omega (arith, key_size.1)) (sym c.two_at-key_len.ensures.spelled ∙ ahead.key_len) in
    let value_len = two_same c.two_at-value_len.result (length cell.1) _ _ c.two_at-value_len.ensures.fits (omega (arith, payload_size)) (sym c.two_at-value_len.ensures.spelled ∙ ahead.value_len) in
    elim c.then-key_len-eq0.branch [
      | then-key_len-eq0-via-then-key_len-eq0 w ↦ omega (arith, key_len, key_size.0, w.if-key_len-eq0.true)
      | then-key_len-eq0-via-else-key_len-eq0+then-key_len-gt-MAX_KEY_LENGTH w ↦ omega (arith, key_len, key_size.1, w.if-key_len-gt-MAX_KEY_LENGTH.true)
      | then-key_len-eq0-via-else-key_len-eq0+else-key_len-gt-MAX_KEY_LENGTH+then-value_len-gt-MAX_VALUE_LENGTH w ↦ omega (arith, value_len, payload_size, w.if-value_len-gt-MAX_VALUE_LENGTH.true)
    ]

pub returns-then-bytes-at-clause-none : goal.returns-then-bytes-at-clause-none
returns-then-bytes-at-clause-none c none cell rest key_size payload_size spelled =
    let ahead = leaf_ahead c.args.at c.args.bytes.now cell rest spelled in
    let key_len = two_same c.two_at-key_len.result (length cell.0) _ _ c.two_at-key_len.ensures.fits (omega (arith, key_size.1)) (sym c.two_at-key_len.ensures.spelled ∙ ahead.key_len) in
    let value_len = two_same c.two_at-value_len.result (length cell.1) _ _ c.two_at-value_len.ensures.fits (omega (arith, payload_size)) (sym c.two_at-value_len.ensures.spelled ∙ ahead.value_len) in
    omega (arith, key_len, value_len, c.if-bytes-at.true, cell_inside Leaf c.args.at c.args.bytes.now cell rest c.requires spelled, cell_long Leaf cell)

pub returns-clause-found : goal.returns-clause-found
returns-clause-found c =
    leaf_found c.args.at c.two_at-key_len.result c.two_at-value_len.result _ _ _ c.args.bytes.now c.two_at-key_len.ensures.spelled
    (c.two_at-value_len.ensures.spelled) (omega arith) (omega arith) refl (omega (arith, c.if-key_len-eq0.false)) c.if-key_len-gt-MAX_KEY_LENGTH.false c.if-value_len-gt-MAX_VALUE_LENGTH.false (omega (arith, c.if-bytes-at.false, c.if-bytes-at-lt4.false, c.requires))
