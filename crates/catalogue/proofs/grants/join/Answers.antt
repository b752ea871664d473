use Rattle.std.proofs.Common.{◌≡◌, ◌∙◌, ◌-◌, suc, length, true, false, get_or, set, sym, ap, arith}
use Rattle.std.specs.Ordering.{is_eq}
use Rattle.catalogue.specs.declared.grants.Granted.{Granted}
use Rattle.catalogue.specs.Grants.{granted_cmp, joined}
use Rattle.catalogue.proofs.Granting.{joined_last, pushed_last, pushed_first}
use Rattle.catalogue.proofs.grants.join.Goals.{else-count-gt0-via-then-count-gt0+else-is_eq, else-count-gt0-via-else-count-gt0}
use Rattle.catalogue.proofs.grants.join.Goals as goal

pub returns-then-is_eq : goal.returns-then-is_eq
returns-then-is_eq c =
    let z = c.args.entry in
    let xs = c.args.all.now.items in
    let n = c.len-count.result - 1 in
    let x = c.index.result.now in
    let y = c.index_mut.result.now in
    let count : length xs ≡ suc n = omega (arith, c.len-count.ensures, c.args.all.now.ok.0, c.if-count-gt0.true) in
    let same : is_eq (granted_cmp (get_or xs n x) z) ≡ true = ap (λ (v : Granted). is_eq (granted_cmp v z)) (sym c.index.ensures) ∙ ap is_eq (sym c.compare_granted.ensures) ∙ sym c.is_eq.ensures ∙ c.if-is_eq.true in
    ap (λ (v : Granted). set xs n (joined v z)) c.index_mut.ensures.value ∙ joined_last z xs n x y count same

pub returns-in_ok-push : goal.returns-in_ok-push
returns-in_ok-push c =
    let z = c.args.entry in
    let xs = c.args.all.now.items in
    let n = c.len-count.result - 1 in
    c.in_ok-push.ensures.items
    ∙ elim c.else-count-gt0.branch [
      | else-count-gt0-via-then-count-gt0+else-is_eq w ↦
          let x = w.index.result.now in
          let count : length xs ≡ suc n = omega (arith, c.len-count.ensures, c.args.all.now.ok.0, w.if-count-gt0.true) in
          let other : is_eq (granted_cmp (get_or xs n x) z) ≡ false = ap (λ (v : Granted). is_eq (granted_cmp v z)) (sym w.index.ensures) ∙ ap is_eq (sym w.compare_granted.ensures) ∙ sym w.is_eq.ensures ∙ w.if-is_eq.false in
          pushed_last z xs n x count other
      | else-count-gt0-via-else-count-gt0 w ↦ pushed_first z xs (omega (arith, c.len-count.ensures, c.args.all.now.ok.0, w.if-count-gt0.false))
    ]
