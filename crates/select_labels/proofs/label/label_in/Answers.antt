use Rattle.std.proofs.Common.{refl}
use Rattle.std.proofs.lemmas.List.{take_rest}
use Rattle.std.proofs.lemmas.Result.{IfOk-weaker}
use Rattle.sql_lexer.specs.Lexeme.{lexemes}
use Rattle.select_labels.proofs.Reading.{behind_more, deeper_most, label_more, labelled_here, place_more}
use Rattle.select_labels.proofs.label.label_in.Goals as goal

pub returns-then-is_as : goal.returns-then-is_as
returns-then-is_as c =
    IfOk-weaker c.label_behind.result _ _
    (λ label found. labelled_here c.args.item.now _ c.loop-rest.rest.now _ _ c.loop-rest.count _ _ label c.in-len1-up.len_at_least (take_rest c.loop-rest.rest.now 1) refl c.loop-rest.invariant.whole c.is_as.ensures c.if-is_as.true found)
    c.label_behind.ensures

pub loop-rest-preserved : goal.loop-rest-preserved
loop-rest-preserved c = record {
  whole = label_more _ (lexemes c.args.item.now) c.loop-rest.rest.now _ _ c.loop-rest.count c.loop-rest.depth _ _ c.in-len1-up.len_at_least (take_rest c.loop-rest.rest.now 1) c.loop-rest.invariant.behind c.loop-rest.invariant.whole c.is_as.ensures c.if-is_as.false c.open_after-depth.ensures;
  behind = behind_more (lexemes c.args.item.now) c.loop-rest.rest.now _ c.loop-rest.count c.in-len1-up.len_at_least (take_rest c.loop-rest.rest.now 1) c.loop-rest.invariant.behind;
  place = place_more c.loop-rest.count _ c.loop-rest.rest.now _ c.in-len1-up.len_at_least (take_rest c.loop-rest.rest.now 1) c.loop-rest.invariant.place;
  shallow = deeper_most c.loop-rest.count c.loop-rest.depth _ _ c.open_after-depth.ensures c.loop-rest.invariant.shallow;
}
