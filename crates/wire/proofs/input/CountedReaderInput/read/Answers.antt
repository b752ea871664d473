use Rattle.std.proofs.KnownBytes.{Keeps-refl}
use Rattle.std.proofs.Common.{refl}
use Rattle.wire.proofs.input.CountedReaderInput.read.Goals as goal

pub loop-init : goal.loop-init
loop-init g c = record { kept = Keeps-refl (g.R.Read.remaining c.args.self.now.reader); counted = refl }
