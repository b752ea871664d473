use Rattle.std.proofs.Common.{◌∙◌, ◌≤◌, arith, sym, refl}
use Rattle.store.proofs.Reading.{none_read}
use Rattle.table_rows.proofs.Putting.{key_in_changes, read_is}
use Rattle.table_rows.proofs.puts.has_key.Goals as goal

pub returns-in-Some-clause-finds : goal.returns-in-Some-clause-finds
returns-in-Some-clause-finds g c = record {
  only_reads = none_read (g.M.Map.state c.args.records.now) (g.met.M.Map.only_now c.args.records.now);
  found = λ s. c.is_put.ensures ∙ sym (key_in_changes c.args.key.now c.in-Some.change.now c.args.changes.now (g.M.Map.state c.args.records.now).map (g.met.M.Map.ordered c.args.records.now s) (sym c.in-Some.ensures));
  cause = tt;
  failed = refl;
}

pub returns-in-None-clause-finds : goal.returns-in-None-clause-finds
returns-in-None-clause-finds g c = record {
  only_reads = c.contains.ensures.goes.only_reads;
  found = λ s. read_is c.args.key.now c.contains.result c.args.changes.now (g.M.Map.state c.args.records.now).map (g.met.M.Map.ordered c.args.records.now s) (sym c.in-None.ensures) (c.contains.ensures.goes.answer s);
  cause = c.contains.ensures.goes.cause;
  failed = c.contains.ensures.goes.failed;
}

pub returns-in-Some-clause-cost : goal.returns-in-Some-clause-cost
returns-in-Some-clause-cost g c = g.M.Map.cost_within c.args.records.now c.args.records.now 0 1 (omega arith) (g.M.Map.cost_none c.args.records.now)
