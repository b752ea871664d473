use Rattle.std.proofs.Common.{◌<◌, ◌∙◌, List, length, ap, sym, subst, arith}
use Rattle.store.specs.Records.{Changes, IsOrdered}
use Rattle.store.specs.Batch.{all_changes}
use Rattle.store.specs.Pieces.{AreFilled}
use Rattle.store.proofs.InPieces.{halved, ok_there}
use Rattle.store.proofs.pieces.Pieces.halve.Goals as goal

-- the changes are the same, and neither half is empty
pub invariant_of-self-2 : goal.invariant_of-self-2
invariant_of-self-2 c =
    let s = c.args.self.now in
    let inside : c.args.at < length s.list.items = omega (arith, c.requires.inside, s.list.ok) in
    let cut = halved c.args.at c.len-half.result s.list.items c.reserve.new.self.items c.index.result.now c.index_mut.result.now c.split_off.new.self c.in_ok-behind.behind c.reserve.ensures.items inside c.requires.long c.len-half.ensures c.index.ensures c.index_mut.ensures.value c.in_ok-behind.ensures.kept c.in_ok-behind.ensures.behind in
    let made = c.insert.ensures.items ∙ ok_there c.insert.result _ _ (c.insert.ensures.succeeds (omega (arith, c.in_ok-reserve.ensures.ok))) in
    record {
      ordered = subst (λ (es : Changes). IsOrdered es) (sym (ap all_changes made ∙ cut.same)) s.ordered;
      filled = subst (λ (ps : List Changes). AreFilled ps) (sym made) (cut.filled s.filled);
    }

pub returns : goal.returns
returns c =
    let s = c.args.self.now in
    let inside : c.args.at < length s.list.items = omega (arith, c.requires.inside, s.list.ok) in
    let cut = halved c.args.at c.len-half.result s.list.items c.reserve.new.self.items c.index.result.now c.index_mut.result.now c.split_off.new.self c.in_ok-behind.behind c.reserve.ensures.items inside c.requires.long c.len-half.ensures c.index.ensures c.index_mut.ensures.value c.in_ok-behind.ensures.kept c.in_ok-behind.ensures.behind in
    ap all_changes c.in-Ok.ensures.items ∙ cut.same
