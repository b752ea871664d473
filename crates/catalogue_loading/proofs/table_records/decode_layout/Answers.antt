use Rattle.catalogue_loading.proofs.Laid.{layout_whole}
use Rattle.catalogue_loading.proofs.table_records.decode_layout.Goals as goal

pub returns-in-Some-new : goal.returns-in-Some-new
returns-in-Some-new c =
    layout_whole c.args.bytes.now c.in-Some.rest.now c.in-Ok.front.1.now c.in-Some.count.now c.in-Ok.front.0 c.in-Ok-decode_key.key c.in-Some-new.columns
    c.in-Some.ensures.cases.0 c.in-Ok.ensures.0 c.in-Ok-decode_key.ensures.spelled c.in-Some-new.ensures.0 c.in-Some-new.ensures.1
