use Rattle.std.proofs.Common.{◌≡◌, true, map, flat_map, take, bytes_eq}
use Rattle.std.specs.List.{list_any, list_all}
use Rattle.abstract_database.specs.Definitions.{index_of}
use Rattle.schema_statements.proofs.new_columns.key_indexes.Given as goal

-- each name before names a column, whose index is there
abbrev pub invariant-loop-name : goal.invariant-loop-name
invariant-loop-name l =
    (l.indexes.items ≡ flat_map (index_of (map (λ d. d.now) l.definitions)) (map (λ n. n.now) (take l.name-index l.key)))
    × (list_all (λ name. list_any (λ d. bytes_eq d.column name) (map (λ d. d.now) l.definitions)) (map (λ n. n.now) (take l.name-index l.key)) ≡ true)
