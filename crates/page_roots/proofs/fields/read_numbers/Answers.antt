use Rattle.page_roots.proofs.Numbers.{numbers_read}
use Rattle.page_roots.proofs.fields.read_numbers.Goals as goal

pub returns : goal.returns
returns c = numbers_read c.args.bytes.now c.read_u32_into.new.dst _ c.read_u32_into.auto.dst c.requires c.read_u32_into.ensures
