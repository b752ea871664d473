use Rattle.std.proofs.Common.{subst}
use Rattle.storage_sizes.specs.declared.record_format.RecordFormat.{RecordFormat}
use Rattle.kv_store.specs.Formatting.{Formats}
use Rattle.kv_store.proofs.page_store.PageStore.format.Goals as goal

pub returns : goal.returns
returns g c =
    subst (λ (s : RecordFormat). Formats g.D.Device s c.args.first.now c.format_as.result c.args.device.now c.format_as.new.device) c.current.ensures c.format_as.ensures
