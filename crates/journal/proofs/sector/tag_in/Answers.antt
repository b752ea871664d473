use Rattle.std.proofs.Common.{refl}
use Rattle.journal.specs.Sectors.{part_at}
use Rattle.journal.proofs.sector.tag_in.Goals as goal

pub returns : goal.returns
unfolding part_at
returns c = rw (c.u64_at.ensures, c.u64_at-2.ensures, c.u16_at.ensures, c.u16_at-2.ensures) refl
