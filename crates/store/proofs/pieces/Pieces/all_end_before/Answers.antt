use Rattle.std.proofs.Common.{◌≡◌, ◌-◌, ◌∙◌, suc, length, sym, ap, subst, arith}
use Rattle.std.proofs.lemmas.List.{nil_from_length}
use Rattle.store.specs.Records.{Changes}
use Rattle.store.specs.Batch.{all_changes}
use Rattle.store.specs.Pieces.{AreLess, ends_before}
use Rattle.store.proofs.Apart.{ends_all}
use Rattle.store.proofs.pieces.Pieces.all_end_before.Goals as goal

-- there is none
pub returns-then-len-eq0 : goal.returns-then-len-eq0
returns-then-len-eq0 c =
    λ is.
    let none = nil_from_length c.args.self.now.list.items (omega (arith, c.if-len-eq0.true, c.len-len.ensures, c.args.self.now.list.ok)) in
    subst (λ (cs : Changes). AreLess c.args.key.now cs) (sym (ap all_changes none)) tt

-- the last piece ends before it
pub returns : goal.returns
returns c =
    λ is.
    let s = c.args.self.now in
    let all : suc (c.len-len.result - 1) ≡ length s.list.items = omega (arith, c.if-len-eq0.false, c.len-len.ensures, s.list.ok) in
    ends_all c.args.key.now (c.len-len.result - 1) s.list.items c.index.result.now s.ordered s.filled all
    (sym (ap (ends_before c.args.key.now) c.index.ensures) ∙ sym c.ends_before.ensures ∙ is)
