use Rattle.std.proofs.Common.{◌∙◌, sym}
use Rattle.catalogue_loading.proofs.PrivilegeRecords.{key_of, no_column, no_parties}
use Rattle.catalogue_loading.proofs.descriptor_records.decode_descriptor.Goals as goal

pub returns-in_default : goal.returns-in_default
returns-in_default c d is = c.in_default.ensures _ (c.key.ensures ∙ key_of c.args.id c.args.entry.now d is.spelled)

pub returns-in-Err : goal.returns-in-Err
returns-in-Err c =
    no_column c.args.table.now c.args.id c.in-Some.rest.now c.in-Some-split_first.number.now c.in-Some-split_first-2.place.now c.in-Some-split_first.placed.now
    c.in-Some-split_first-2.parties.now c.args.entry.now c.in-Err.fault
    (sym c.key.ensures ∙ c.in-Some.ensures) c.in-Some-split_first.ensures.cases.0 c.in-Some-split_first-2.ensures.cases.0 c.in-Err.ensures

pub returns-in-Err-decode_parties : goal.returns-in-Err-decode_parties
returns-in-Err-decode_parties c =
    no_parties c.args.table.now c.args.id c.in-Some.rest.now c.in-Some-split_first.number.now c.in-Some-split_first-2.place.now c.in-Some-split_first.placed.now
    c.in-Some-split_first-2.parties.now c.args.entry.now c.in-Err-decode_parties.fault
    (sym c.key.ensures ∙ c.in-Some.ensures) c.in-Some-split_first.ensures.cases.0 c.in-Some-split_first-2.ensures.cases.0 c.in-Err-decode_parties.ensures
