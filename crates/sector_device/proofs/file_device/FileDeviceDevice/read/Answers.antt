use Rattle.sector_device.proofs.Files.{file_history, only_reads, no_time, none_read}
use Rattle.std.proofs.Common.{sym, refl, ◌∙◌, arith}
use Rattle.std.proofs.lemmas.Bool.{false≢true}
use Rattle.sector_device.proofs.file_device.FileDeviceDevice.read.Goals as goal

pub returns-in-Ok-clause-only_reads : goal.returns-in-Ok-clause-only_reads
returns-in-Ok-clause-only_reads g c faithful =
    only_reads _ _ _ _ c.args.self.now.sectors c.args.self.now.failures _ (c.read_at.ensures.only_reads faithful)

pub returns-then-self-clause-history : goal.returns-then-self-clause-history
returns-then-self-clause-history g c =
    let d = c.args.self.now in
    let file = g.F.RawFile.state d.file in
    file_history _ _ file file d.sectors d.failures _ (λ is. is) (λ is. is) (omega arith) (λ is. no_time file)

pub returns-then-self-clause-closed : goal.returns-then-self-clause-closed
returns-then-self-clause-closed g c was = (refl, refl)

pub returns-then-self-clause-only_reads : goal.returns-then-self-clause-only_reads
returns-then-self-clause-only_reads g c faithful =
    let d = c.args.self.now in
    let file = g.F.RawFile.state d.file in
    only_reads _ _ file file d.sectors d.failures _ (none_read file)

pub returns-then-self-clause-bytes : goal.returns-then-self-clause-bytes
returns-then-self-clause-bytes g c faithful = tt

pub returns-then-self-clause-has_failed_sync : goal.returns-then-self-clause-has_failed_sync
returns-then-self-clause-has_failed_sync g c = refl

pub returns-in-Ok-clause-history : goal.returns-in-Ok-clause-history
returns-in-Ok-clause-history g c =
    let d = c.args.self.now in
    let file = g.F.RawFile.state d.file in
    let kept = c.read_at.ensures.history in
    file_history _ _ file (g.F.RawFile.state c.read_at.new.self) d.sectors d.failures _ (λ is. kept.0 is) (λ is. kept.1 is) (omega arith)
    (λ is. (c.read_at.ensures.only_reads is).time)

pub returns-in-Ok-clause-closed : goal.returns-in-Ok-clause-closed
returns-in-Ok-clause-closed g c was = absurd (false≢true (sym c.if-self.false ∙ was))

pub returns-in-Ok-clause-has_failed_sync : goal.returns-in-Ok-clause-has_failed_sync
returns-in-Ok-clause-has_failed_sync g c = refl

pub returns-in-Err-clause-history : goal.returns-in-Err-clause-history
returns-in-Err-clause-history g c =
    let d = c.args.self.now in
    let file = g.F.RawFile.state d.file in
    let kept = c.read_at.ensures.history in
    file_history _ _ file (g.F.RawFile.state c.read_at.new.self) d.sectors d.failures _ (λ is. kept.0 is) (λ is. kept.1 is) (omega arith)
    (λ is. (c.read_at.ensures.only_reads is).time)

pub returns-in-Err-clause-closed : goal.returns-in-Err-clause-closed
returns-in-Err-clause-closed g c was = absurd (false≢true (sym c.if-self.false ∙ was))

pub returns-in-Err-clause-has_failed_sync : goal.returns-in-Err-clause-has_failed_sync
returns-in-Err-clause-has_failed_sync g c = refl

pub returns-in-Ok-clause-bytes : goal.returns-in-Ok-clause-bytes
returns-in-Ok-clause-bytes g c faithful = c.in-Ok.ensures.bytes faithful

pub returns-in-Err-clause-only_reads : goal.returns-in-Err-clause-only_reads
returns-in-Err-clause-only_reads g c faithful =
    only_reads _ _ _ _ c.args.self.now.sectors c.args.self.now.failures _ (c.read_at.ensures.only_reads faithful)

pub returns-in-Err-clause-bytes : goal.returns-in-Err-clause-bytes
returns-in-Err-clause-bytes g c faithful = tt
