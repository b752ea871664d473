use Rattle.std.proofs.Common.{refl, arith, ℕ, List, sym, ap, ◌∙◌}
use Rattle.sector_device.specs.FileState.{sector_of}
use Rattle.sector_device.proofs.Devices.{plain_history}
use Rattle.sector_device.proofs.Files.{elapses, file_history, reads_page, no_time, none_read}
use Rattle.sector_device.proofs.PutBytes.{sector_of-page}
use Rattle.std.proofs.lemmas.Bool.{false≢true}
use Rattle.sector_device.proofs.file_device.FileDeviceDevice.read_page.Goals as goal

pub returns-in-Ok-clause-only_reads : goal.returns-in-Ok-clause-only_reads
returns-in-Ok-clause-only_reads g c faithful =
    let d = c.args.self.now in
    reads_page _ _ _ _ d.sectors d.failures _ (g.met.F.RawFile.only_now d.file faithful) (c.read_page_at.ensures.only_reads faithful)

pub returns-in-Ok-clause-bytes : goal.returns-in-Ok-clause-bytes
returns-in-Ok-clause-bytes g c faithful k lt =
    sector_of-page c.args.first k (g.F.RawFile.state c.args.self.now.file).bytes lt ∙ ap (λ (xs : List ℕ). sector_of k xs) (sym (c.in-Ok.ensures.bytes faithful))

pub returns-in-Err-clause-only_reads : goal.returns-in-Err-clause-only_reads
returns-in-Err-clause-only_reads g c faithful =
    let d = c.args.self.now in
    reads_page _ _ _ _ d.sectors d.failures _ (g.met.F.RawFile.only_now d.file faithful) (c.read_page_at.ensures.only_reads faithful)

pub returns-in-Ok-clause-history : goal.returns-in-Ok-clause-history
returns-in-Ok-clause-history g c =
    let d = c.args.self.now in
    let kept = c.read_page_at.ensures.history in
    plain_history _ _ (λ s none. none) (λ s none. none) refl (λ is. kept.0 is) (λ is. kept.1 is) (omega arith)
    (λ is. elapses (Unit {0}) (Unit {0}) (g.F.RawFile.state d.file) (g.F.RawFile.state c.read_page_at.new.self) d.sectors 0 0 (c.read_page_at.ensures.only_reads is).time)

pub returns-then-self-clause-history : goal.returns-then-self-clause-history
returns-then-self-clause-history g c =
    let d = c.args.self.now in
    let file = g.F.RawFile.state d.file in
    file_history _ _ file file d.sectors d.failures _ (λ is. is) (λ is. is) (omega arith) (λ is. no_time file)

pub returns-then-self-clause-closed : goal.returns-then-self-clause-closed
returns-then-self-clause-closed g c was = (refl, refl)

pub returns-then-self-clause-only_reads : goal.returns-then-self-clause-only_reads
returns-then-self-clause-only_reads g c faithful =
    let d = c.args.self.now in
    let file = g.F.RawFile.state d.file in
    reads_page _ _ file file d.sectors d.failures _ (g.met.F.RawFile.only_now d.file faithful) (none_read file)

pub returns-then-self-clause-bytes : goal.returns-then-self-clause-bytes
returns-then-self-clause-bytes g c faithful = tt

pub returns-then-self-clause-has_failed_sync : goal.returns-then-self-clause-has_failed_sync
returns-then-self-clause-has_failed_sync g c = refl

pub returns-in-Err-clause-history : goal.returns-in-Err-clause-history
returns-in-Err-clause-history g c =
    let d = c.args.self.now in
    let file = g.F.RawFile.state d.file in
    let kept = c.read_page_at.ensures.history in
    file_history _ _ file (g.F.RawFile.state c.read_page_at.new.self) d.sectors d.failures _ (λ is. kept.0 is) (λ is. kept.1 is) (omega arith)
    (λ is. (c.read_page_at.ensures.only_reads is).time)

pub returns-in-Ok-clause-closed : goal.returns-in-Ok-clause-closed
returns-in-Ok-clause-closed g c was = absurd (false≢true (sym c.if-self.false ∙ was))

pub returns-in-Ok-clause-has_failed_sync : goal.returns-in-Ok-clause-has_failed_sync
returns-in-Ok-clause-has_failed_sync g c = refl

pub returns-in-Err-clause-closed : goal.returns-in-Err-clause-closed
returns-in-Err-clause-closed g c was = absurd (false≢true (sym c.if-self.false ∙ was))

pub returns-in-Err-clause-has_failed_sync : goal.returns-in-Err-clause-has_failed_sync
returns-in-Err-clause-has_failed_sync g c = refl

pub returns-in-Err-clause-bytes : goal.returns-in-Err-clause-bytes
returns-in-Err-clause-bytes g c faithful = tt
