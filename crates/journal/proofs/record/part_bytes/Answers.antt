use Rattle.std.proofs.Common.{drop, arith}
use Rattle.std.proofs.lemmas.List.{take_all, length-drop}
use Rattle.journal.proofs.record.part_bytes.Goals as goal

pub returns-clause-part : goal.returns-clause-part
returns-clause-part c = take_all 488 (drop 24 c.args.bytes.now) (omega (arith, c.told-bytes, length-drop 24 c.args.bytes.now))
