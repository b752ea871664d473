use Rattle.std.proofs.Common.{◌≡◌, ◌+◌, ◌++◌, ◌∷◌, [], bytes_eq, map, drop, ap, sym, ◌∙◌, subst}
use Rattle.std.specs.Borrow.{Bor}
use Rattle.std.proofs.lemmas.List.{map-append}
use Rattle.abstract_database.specs.Database.{TableOf}
use Rattle.stored_database.specs.Definitions.{TableDefinition}
use Rattle.descriptions.proofs.Finding.{Finds}
use Rattle.table_access.specs.Powers.{is_owned_by}
use Rattle.table_access.proofs.Gathering.{seen_takes, seen_passes}
use Rattle.table_access.proofs.powers.tables_of.Goals.{then-eq+in_ok-push, else-eq}
use Rattle.table_access.proofs.powers.tables_of.Goals as goal

abbrev its_definition : TableDefinition → TableOf
its_definition t = t.definition

abbrev lent_definition : Bor TableDefinition → TableOf
lent_definition t = t.now.definition

pub loop-table-preserved : goal.loop-table-preserved
loop-table-preserved c =
    let xs = c.args.tables.now in
    let i = c.loop-table.table-index in
    let x = c.table-item.result in
    let old = c.loop-table.found.items in
    let test = is_owned_by c.args.owner.now in
    let told = c.eq.ensures ∙ ap (λ n. bytes_eq n c.args.owner.now) c.owner.ensures in
    elim c.if-eq.branch [
      | then-eq+in_ok-push w ↦
          subst (Finds test (map its_definition xs) (map its_definition (drop (i + 1) xs))) (sym (ap (λ v. map lent_definition v.items) w.found-is ∙ ap (map lent_definition) w.in_ok-push.ensures.items ∙ map-append lent_definition old _))
          (seen_takes its_definition test (map its_definition xs) xs i x c.table-item.is c.loop-table-test.true (map lent_definition old) (sym told ∙ w.if-eq.true) c.loop-table.invariant)
      | else-eq w ↦
          subst (λ l. Finds test (map its_definition xs) (map its_definition (drop (i + 1) xs)) (map lent_definition l)) (ap (λ v. v.items) (sym w.found-is))
          (seen_passes its_definition test (map its_definition xs) xs i x c.table-item.is c.loop-table-test.true (map lent_definition old) (sym told ∙ w.if-eq.false) c.loop-table.invariant)
    ]
