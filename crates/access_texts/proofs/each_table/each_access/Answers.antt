use Rattle.std.proofs.Common.{sym, subst, arith}
use Rattle.std.proofs.lemmas.Grind.{common_steps}
use Rattle.abstract_database.specs.Whole.{Each}
use Rattle.descriptions.proofs.Finding.{each_more}
use Rattle.access_texts.specs.Access.{StandsForTable}
use Rattle.access_texts.proofs.each_table.each_access.Goals as goal

pub loop-rest-preserved : goal.loop-rest-preserved
loop-rest-preserved c = record {
  tables = grind (arith, common_steps);
  found =
      let P = StandsForTable c.args.catalogue.now in
      subst (Each P) (sym c.in_ok-push.ensures.items) (each_more P c.loop-rest.found.items _ c.loop-rest.invariant.found c.in_ok-access_of.ensures.found);
}
