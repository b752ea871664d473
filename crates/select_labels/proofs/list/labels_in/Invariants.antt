use Rattle.std.proofs.Common.{◌≡◌, ◌+◌, ◌≤◌, length, take, drop}
use Rattle.sql_lexer.specs.Lexeme.{lexemes}
use Rattle.select_labels.specs.Labels.{labels_in}
use Rattle.select_labels.specs.Lists.{items_from, items_of}
use Rattle.select_labels.specs.Putting.{labels_behind}
use Rattle.select_labels.specs.Views.{viewed_labels}
use Rattle.select_labels.proofs.list.labels_in.Given as goal

-- what was found, and what the tokens of an item and those behind it have, are all
abbrev pub invariant-loop-rest : goal.invariant-loop-rest
invariant-loop-rest l = record {
  whole : labels_in (items_of (lexemes l.list)) ≡ labels_behind (viewed_labels l.labels.items) (labels_in (items_from l.depth (take l.count (lexemes l.item)) (lexemes l.rest)));
  behind : lexemes l.rest ≡ drop l.count (lexemes l.item);
  place : l.count + length l.rest ≡ length l.item;
  shallow : l.depth ≤ l.count;
  inside : length l.item ≤ length l.list;
}

abbrev pub decreases-loop-rest : goal.decreases-loop-rest
decreases-loop-rest l = length l.rest
