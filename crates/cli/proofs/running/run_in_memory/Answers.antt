use Rattle.sql_types.specs.Name.{IsUtf8Name}
use Rattle.cli.proofs.ScriptEnds.{runs_over_new}
use Rattle.cli.proofs.running.run_in_memory.Goals as goal

pub returns : goal.returns
returns g c =
    let named : IsUtf8Name c.args.admin.now = record { name = c.know_name.ensures.name; utf8 = c.know_name.ensures.utf8 } in
    let stands = c.new_records_stand_for_a_new_database.ensures c.args.admin.now named in
    record {
      runs =
          runs_over_new g.row.X.Denot g.X.EventHandler.Reads g.K.Sink c.args.admin.now c.one_database.ensures stands c.in-Ok.store c.in-Ok.ensures.records c.in-Ok.ensures.record_format c.args.script.now c.args.out.now c.run_script_over.result.ending c.run_script_over.result.store
          c.run_script_over.new.out c.run_script_over.ensures.runs;
    }
