use Rattle.std.proofs.Common.{◌≡◌, List, [], ◌∷◌, map, filter, refl, ap, sym, ◌∙◌}
use Rattle.abstract_database.specs.Database.{TableOf}
use Rattle.stored_database.specs.Definitions.{TableDefinition, table_with}
use Rattle.table_access.specs.Powers.{is_owned_by}
use Rattle.table_access.proofs.powers.role_powers.Goals as goal

-- the definitions of tables, seen beside no rows
same_definitions : (ts : List TableDefinition) → map (λ (t : TableDefinition). t.definition) ts ≡ map (λ t. t.definition) (map (λ t. table_with t []) ts)
same_definitions [] = refl
same_definitions (t ∷ ts) = ap (λ l. t.definition ∷ l) (same_definitions ts)

pub returns-clause-powers : goal.returns-clause-powers
returns-clause-powers c =
    let name = c.args.role.now.name in
    record {
      owns = c.in_ok-owns.ensures ∙ ap (filter (is_owned_by name)) (ap (map (λ (t : TableDefinition). t.definition)) c.tables.ensures.tables ∙ same_definitions c.args.catalogue.now.tables);
      others = c.in_ok-others.ensures.others;
      memberships = c.in_ok-others.ensures.memberships;
    }
