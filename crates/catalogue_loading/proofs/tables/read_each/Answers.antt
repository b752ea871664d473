use Rattle.std.proofs.Common.{◌≡◌, ◌∷◌, ◌∙◌, List, Err, length, sym, subst, arith}
use Rattle.std.proofs.lemmas.List.{nil_from_length}
use Rattle.store.specs.Records.{Records}
use Rattle.store.proofs.Reading.{reads_joined}
use Rattle.stored_database.specs.Definitions.{TableDefinition}
use Rattle.catalogue_loading.specs.Found.{Finds}
use Rattle.catalogue_loading.specs.Held.{IsHeldTable}
use Rattle.catalogue_loading.proofs.TableLemmas.{AreHeldSoFar, one_so_far, all_so_far, fault_so_far}
use Rattle.catalogue_loading.proofs.tables.read_each.Goals as goal

pub loop-own-preserved : goal.loop-own-preserved
loop-own-preserved g c =
    let reads = c.loop-own.invariant.reads in
    let records = (g.M.Map.state c.args.map.now).map in
    let rest = c.next.new.self.rest.items in
    let steps : c.loop-own.own-iterator.rest.items ≡ c.in-Some.own ∷ rest = c.in-Some.ensures.steps.0 in
    record {
      preserved = g.M.Map.preserved_joined c.args.map.now c.loop-own.map c.read_table.new.map c.loop-own.invariant.preserved c.in-Ok.ensures.preserved;
      reads = reads_joined (g.M.Map.state c.args.map.now) (g.M.Map.state c.loop-own.map) (g.M.Map.state c.read_table.new.map) reads c.in-Ok.ensures.read.only_reads;
      unfailed = c.in-Ok.ensures.read.failed ∙ c.loop-own.invariant.unfailed;
      held = λ s.
          let so_far = subst (λ (own : List TableDefinition). AreHeldSoFar records c.args.records own c.loop-own.tables) steps (c.loop-own.invariant.held s) in
          let is = subst (λ (es : Records). IsHeldTable es c.in-Some.own c.in-Ok.table) (reads.unchanged s).map (c.in-Ok.ensures.found (reads.history.sound s)) in
          subst (λ (ts : List TableDefinition). AreHeldSoFar records c.args.records rest ts) {y = c.push.new.self} (sym c.in_ok-push-in-Ok.ensures.ok)
          (one_so_far records c.args.records rest c.loop-own.tables c.in-Some.own c.in-Ok.table so_far is);
    }

pub returns-in-Err-clause-found : goal.returns-in-Err-clause-found
returns-in-Err-clause-found g c = λ s.
    let reads = c.loop-own.invariant.reads in
    let records = (g.M.Map.state c.args.map.now).map in
    let rest = c.next.new.self.rest.items in
    let steps : c.loop-own.own-iterator.rest.items ≡ c.in-Some.own ∷ rest = c.in-Some.ensures.steps.0 in
    let so_far = subst (λ (own : List TableDefinition). AreHeldSoFar records c.args.records own c.loop-own.tables) steps (c.loop-own.invariant.held s) in
    let found = subst (λ (es : Records). Finds (IsHeldTable es c.in-Some.own) (Err c.in-Err.fault)) (reads.unchanged s).map (c.in-Err.ensures.found (reads.history.sound s)) in
    fault_so_far records c.args.records rest c.loop-own.tables c.in-Some.own c.in-Err.fault so_far found

pub returns-clause-found : goal.returns-clause-found
returns-clause-found g c = λ s.
    let none : length c.loop-own.own-iterator.rest.items ≡ 0 = grind (arith, c.in-None.ensures.steps.0, c.loop-own.own-iterator.rest.ok) in
    all_so_far (g.M.Map.state c.args.map.now).map c.args.records c.loop-own.own-iterator.rest.items c.loop-own.tables (nil_from_length c.loop-own.own-iterator.rest.items none) (c.loop-own.invariant.held s)
