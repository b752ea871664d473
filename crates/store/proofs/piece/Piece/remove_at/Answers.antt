use Rattle.std.proofs.Common.{◌<◌, ◌∙◌, sym, ap, subst, refl, length, arith}
use Rattle.std.specs.List.{remove}
use Rattle.store.specs.Records.{Changes}
use Rattle.store.proofs.Places.{key_inside, removed_there, removed_new}
use Rattle.store.proofs.Counting.{recounted_remove}
use Rattle.store.proofs.piece.Piece.remove_at.Goals as goal

-- the change of the key is taken out
pub returns-then-has_key_at : goal.returns-then-has_key_at
returns-then-has_key_at c =
    c.remove.ensures.items ∙ ap (λ (cs : Changes). remove cs c.args.at) c.self.view_is
    ∙ removed_there c.args.key.now c.args.at c.args.self.now c.requires (sym c.has_key_at.ensures ∙ c.if-has_key_at.true)

-- where there is none, nothing changes
pub returns-else-has_key_at : goal.returns-else-has_key_at
returns-else-has_key_at c = removed_new c.args.key.now c.args.at c.args.self.now c.requires (sym c.has_key_at.ensures ∙ c.if-has_key_at.false)

-- the change of the key was counted
pub overflow_sub-self : goal.overflow_sub-self
overflow_sub-self c =
    let es = c.self.inside.changes.items in
    let at = c.args.at in
    let there = sym c.has_key_at.ensures ∙ c.if-has_key_at.true in
    let inside : at < length es = subst (λ (cs : Changes). at < length cs) (sym c.self.view_is) (key_inside c.args.key.now at c.args.self.now there) in
    (recounted_remove at es (remove es at) c.index.result.now c.self.inside.put_count c.count_put.result inside c.index.ensures refl c.self.invariant c.count_put.ensures.exact).there

pub remove-requires : goal.remove-requires
remove-requires c =
    let es = c.self.inside.changes.items in
    let at = c.args.at in
    let there = sym c.has_key_at.ensures ∙ c.if-has_key_at.true in
    let inside : at < length es = subst (λ (cs : Changes). at < length cs) (sym c.self.view_is) (key_inside c.args.key.now at c.args.self.now there) in
    omega (arith, inside, c.self.inside.changes.ok)

pub invariant_of-self : goal.invariant_of-self
invariant_of-self c =
    let es = c.self.inside.changes.items in
    let at = c.args.at in
    let there = sym c.has_key_at.ensures ∙ c.if-has_key_at.true in
    let inside : at < length es = subst (λ (cs : Changes). at < length cs) (sym c.self.view_is) (key_inside c.args.key.now at c.args.self.now there) in
    let made = (recounted_remove at es c.remove.new.self.items c.index.result.now c.self.inside.put_count c.count_put.result inside c.index.ensures c.remove.ensures.items c.self.invariant c.count_put.ensures.exact).exact in
    omega (arith, made)
