use Rattle.std.proofs.Common.{◌≡◌, ◌∙◌, sym, bytes_eq, Bor, true, false, map, refl}
use Rattle.abstract_database.specs.Lists.{TheName, has_name}
use Rattle.catalogue.proofs.NameLemmas.{any_map}
use Rattle.schema_statements.proofs.new_columns.is_not_null.Goals as goal

pub returns-then-is_named_by : goal.returns-then-is_named_by
returns-then-is_named_by c =
    let column = c.args.definition.now.column in
    let named : has_name column (map (λ (n : Bor TheName). n.now) c.args.key.now) ≡ true = any_map (bytes_eq column) (λ (n : Bor TheName). n.now) c.args.key.now ∙ sym c.is_named_by.ensures ∙ c.if-is_named_by.true in
    rw (c.if-is_named_by.true, named) refl

pub returns-else-is_named_by : goal.returns-else-is_named_by
returns-else-is_named_by c =
    let column = c.args.definition.now.column in
    let named : has_name column (map (λ (n : Bor TheName). n.now) c.args.key.now) ≡ false = any_map (bytes_eq column) (λ (n : Bor TheName). n.now) c.args.key.now ∙ sym c.is_named_by.ensures ∙ c.if-is_named_by.false in
    rw named c.is_marked_not_null.ensures
