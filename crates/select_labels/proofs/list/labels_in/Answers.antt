use Rattle.std.proofs.Common.{refl, arith}
use Rattle.std.proofs.lemmas.List.{take_rest}
use Rattle.sql_lexer.specs.Lexeme.{lexemes}
use Rattle.select_labels.proofs.Reading.{behind_more, comma_misplaced, comma_put, deeper_most, fewer, item_more, place_more}
use Rattle.select_labels.proofs.list.labels_in.Goals as goal

pub returns-then-not-branch : goal.returns-then-not-branch
returns-then-not-branch c =
    comma_misplaced _ _ _ c.loop-rest.item.now _ c.loop-rest.rest.now _ _ c.loop-rest.count c.loop-rest.depth _ c.in_ok-put_label.field-0 c.in-len1-up.len_at_least (take_rest c.loop-rest.rest.now 1) refl
    c.loop-rest.invariant.whole c.parts_items.ensures c.if-parts_items.true c.in_ok-put_label.ensures c.if-not-branch.true

pub loop-rest-preserved-else-not-branch : goal.loop-rest-preserved-else-not-branch
loop-rest-preserved-else-not-branch c = record {
  whole =
      comma_put _ _ _ c.loop-rest.item.now _ c.loop-rest.rest.now _ _ c.loop-rest.count c.loop-rest.depth _ c.in_ok-put_label.field-0 c.in-len1-up.len_at_least (take_rest c.loop-rest.rest.now 1) refl
      c.loop-rest.invariant.whole c.parts_items.ensures c.if-parts_items.true c.in_ok-put_label.ensures c.if-not-branch.false;
  behind = refl;
  place = omega arith;
  shallow = omega arith;
  inside = fewer _ c.loop-rest.rest.now _ c.in-len1-up.len_at_least (take_rest c.loop-rest.rest.now 1) (omega (arith, c.loop-rest.invariant.place, c.loop-rest.invariant.inside));
}

pub loop-rest-preserved : goal.loop-rest-preserved
loop-rest-preserved c = record {
  whole =
      item_more _ _ (lexemes c.loop-rest.item.now) c.loop-rest.rest.now _ _ c.loop-rest.count c.loop-rest.depth _ _ c.in-len1-up.len_at_least (take_rest c.loop-rest.rest.now 1) c.loop-rest.invariant.behind
      c.loop-rest.invariant.whole c.parts_items.ensures c.if-parts_items.false c.open_after-depth.ensures;
  behind = behind_more (lexemes c.loop-rest.item.now) c.loop-rest.rest.now _ c.loop-rest.count c.in-len1-up.len_at_least (take_rest c.loop-rest.rest.now 1) c.loop-rest.invariant.behind;
  place = place_more c.loop-rest.count _ c.loop-rest.rest.now _ c.in-len1-up.len_at_least (take_rest c.loop-rest.rest.now 1) c.loop-rest.invariant.place;
  shallow = deeper_most c.loop-rest.count c.loop-rest.depth _ _ c.open_after-depth.ensures c.loop-rest.invariant.shallow;
  inside = c.loop-rest.invariant.inside;
}
