-- What the program finds, as the labels that it is.
use Rattle.std.specs.Prelude.{List, map, Option, Vec}
use Rattle.std.specs.Option.{option_map}
use Rattle.std.specs.declared.alloc.Global.{Global}
use Rattle.sql_lexer.specs.Lexeme.{lexeme}
use Rattle.select_labels.specs.declared.label.ItemLabel.{ItemLabel}
use Rattle.select_labels.specs.Labels.{TheLabel}

abbrev pub viewed_label : ItemLabel → TheLabel
viewed_label l = record { sign = lexeme l.sign; word = lexeme l.word; name = l.name; column = l.column }

abbrev pub viewed_labels : List (Option ItemLabel) → List (Option TheLabel)
viewed_labels ls = map (option_map viewed_label) ls
