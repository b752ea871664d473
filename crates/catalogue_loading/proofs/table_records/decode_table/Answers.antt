use Rattle.catalogue_loading.proofs.Laid.{no_flags}
use Rattle.catalogue_loading.proofs.table_records.decode_table.Goals as goal

pub returns-in_default-security_of : goal.returns-in_default-security_of
returns-in_default-security_of c =
    no_flags c.args.entry.now c.value.result.now c.in-Some.rest.now c.in-Ok.front.0 c.in-Ok.front.1.now c.in-Some.id c.in-Some-split_first.flags.now c.in-Some-split_first.layout.now
    c.value.ensures c.in-Some.ensures.only c.in-Ok.ensures.1 c.in-Some-split_first.ensures.cases.0 c.in_default-security_of.ensures
