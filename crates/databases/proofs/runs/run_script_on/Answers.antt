use Rattle.std.proofs.Common.{◌∙◌, ap, sym, subst}
use Rattle.journal_store.specs.DeviceStores.{device_of, store_state}
use Rattle.wire.specs.ScriptRun.{lines_of}
use Rattle.databases.specs.Answered.{IsOfScript, LivesFrom}
use Rattle.databases.proofs.DeviceLiving.{script_life}
use Rattle.databases.proofs.runs.run_script_on.Goals as goal

pub returns : goal.returns
returns g c =
    let last = c.run_script-end.new.server in
    let ran = c.run_script-end.ensures.runs in
    let left_is = c.into_device.ensures ∙ ap (λ s. device_of s) c.into_store.ensures in
    record {
      last = last;
      history = c.run_script-end.ensures.history;
      ran = ran;
      closed = c.run_script-end.ensures.left;
      left_is = left_is;
      life = subst (λ (left : _). LivesFrom g.D.Device g.X.EventHandler.Reads c.args.server (IsOfScript g.X.EventHandler.Reads store_state g.K.Sink c.args.server last c.args.sink.now ran) (g.D.Device.state left)) (sym left_is)
          (script_life g.met.D.Device.only_now (λ device faithful s lt. g.met.D.Device.content_left device s faithful lt) c.one_database.ensures g.X.EventHandler.Reads g.K.Sink
          c.args.server last (lines_of c.args.script.now) c.args.sink.now c.run_script-end.new.sink c.run_script-end.result c.run_script-end.ensures.history ran);
    }
