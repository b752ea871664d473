use Rattle.std.proofs.Common.{sym, refl, ◌∙◌, arith}
use Rattle.std.proofs.lemmas.Bool.{false≢true}
use Rattle.sector_device.proofs.Files.{file_history, only_reads, no_time, none_read}
use Rattle.sector_device.proofs.file_device.FileDeviceDevice.sync.Goals as goal

pub returns-then-self-clause-history : goal.returns-then-self-clause-history
returns-then-self-clause-history g c =
    let d = c.args.self.now in
    let file = g.F.RawFile.state d.file in
    file_history _ _ file file d.sectors d.failures _ (λ is. is) (λ is. is) (omega arith) (λ is. no_time file)

pub returns-then-self-clause-closed : goal.returns-then-self-clause-closed
returns-then-self-clause-closed g c was = (refl, refl)

pub returns-then-self-clause-only_reads : goal.returns-then-self-clause-only_reads
returns-then-self-clause-only_reads g c faithful =
    let d = c.args.self.now in
    let file = g.F.RawFile.state d.file in
    only_reads _ _ file file d.sectors d.failures _ (none_read file)

pub returns-then-self-clause-synced : goal.returns-then-self-clause-synced
returns-then-self-clause-synced g c faithful = tt

pub returns-then-self-clause-remembered : goal.returns-then-self-clause-remembered
returns-then-self-clause-remembered g c = c.if-self.true

pub returns-then-self-clause-has_not_failed : goal.returns-then-self-clause-has_not_failed
returns-then-self-clause-has_not_failed g c = tt

pub returns-in-Ok-clause-history : goal.returns-in-Ok-clause-history
returns-in-Ok-clause-history g c =
    let d = c.args.self.now in
    let file = g.F.RawFile.state d.file in
    let kept = c.sync.ensures.history in
    file_history _ _ file (g.F.RawFile.state c.sync.new.self) d.sectors d.failures _ (λ is. kept.0 is) (λ is. kept.1 is) (omega arith)
    (λ is. (c.sync.ensures.only_reads is).time)

pub returns-in-Ok-clause-closed : goal.returns-in-Ok-clause-closed
returns-in-Ok-clause-closed g c was = absurd (false≢true (sym c.if-self.false ∙ was))

pub returns-in-Ok-clause-only_reads : goal.returns-in-Ok-clause-only_reads
returns-in-Ok-clause-only_reads g c faithful =
    only_reads _ _ _ _ c.args.self.now.sectors c.args.self.now.failures _ (c.sync.ensures.only_reads faithful)

pub returns-in-Err-clause-history : goal.returns-in-Err-clause-history
returns-in-Err-clause-history g c =
    let d = c.args.self.now in
    let file = g.F.RawFile.state d.file in
    let kept = c.sync.ensures.history in
    file_history _ _ file (g.F.RawFile.state c.sync.new.self) d.sectors d.failures _ (λ is. kept.0 is) (λ is. kept.1 is) (omega arith)
    (λ is. (c.sync.ensures.only_reads is).time)

pub returns-in-Err-clause-closed : goal.returns-in-Err-clause-closed
returns-in-Err-clause-closed g c was = absurd (false≢true (sym c.if-self.false ∙ was))

pub returns-in-Err-clause-only_reads : goal.returns-in-Err-clause-only_reads
returns-in-Err-clause-only_reads g c faithful =
    only_reads _ _ _ _ c.args.self.now.sectors c.args.self.now.failures _ (c.sync.ensures.only_reads faithful)

pub returns-in-Ok-clause-cause : goal.returns-in-Ok-clause-cause
returns-in-Ok-clause-cause g c = tt

pub returns-in-Ok-clause-remembered : goal.returns-in-Ok-clause-remembered
returns-in-Ok-clause-remembered g c = tt

pub returns-in-Ok-clause-has_not_failed : goal.returns-in-Ok-clause-has_not_failed
returns-in-Ok-clause-has_not_failed g c = c.if-self.false

pub returns-in-Err-clause-synced : goal.returns-in-Err-clause-synced
returns-in-Err-clause-synced g c faithful = tt

pub returns-in-Err-clause-remembered : goal.returns-in-Err-clause-remembered
returns-in-Err-clause-remembered g c = refl

pub returns-in-Err-clause-has_not_failed : goal.returns-in-Err-clause-has_not_failed
returns-in-Err-clause-has_not_failed g c = tt
