use Rattle.std.proofs.Common.{◌≤◌, ◌-◌, ◌/◌, ◌∙◌, length, sym, arith}
use Rattle.journal_store.specs.Encoded.{encoded_length}
use Rattle.journal_store.proofs.EncodedLengths.{fits_in, few_parts}
use Rattle.journal_store.proofs.stores.JournalStore.may_record.Goals as goal

pub returns-then-is_some-clause-sectors : goal.returns-then-is_some-clause-sectors
returns-then-is_some-clause-sectors g c has_pages bytes spells =
    let s = c.args.self.now in
    let room = fits_in c.left_after_encoded.result _ (encoded_length c.args.batch.now) (sym c.is_some.ensures ∙ c.if-is_some.true) c.left_after_encoded.ensures in
    let few : length bytes / 488 ≤ 6 - s.end = few_parts c.args.batch.now bytes (6 - s.end) (omega (arith, room)) spells in
    omega (arith, few, s.inside)
