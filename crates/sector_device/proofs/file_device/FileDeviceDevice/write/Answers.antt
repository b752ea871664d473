use Rattle.std.proofs.Common.{◌≤◌, ◌+◌, ◌*◌, ◌∙◌, ap, ℕ, List, length, arith, refl, sym}
use Rattle.sector_device.specs.RawFile.{IsSectorAt}
use Rattle.sector_device.specs.FileState.{sector_of}
use Rattle.sector_device.proofs.PutBytes.{sector_of-put}
use Rattle.sector_device.proofs.Files.{file_history, writes, no_time, none_written}
use Rattle.std.proofs.lemmas.Bool.{false≢true}
use Rattle.sector_device.proofs.file_device.FileDeviceDevice.write.Goals as goal

pub returns-in-Ok-clause-writes : goal.returns-in-Ok-clause-writes
returns-in-Ok-clause-writes g c faithful =
    let d = c.args.self.now in
    let file = g.F.RawFile.state d.file in
    let within : 512 * c.args.sector + 512 ≤ length file.bytes = omega (arith, d.inside faithful, c.requires) in
    let place : IsSectorAt (512 * c.args.sector) file = record { sector = c.args.sector; aligned = refl; inside = within } in
    writes _ _ _ _ d.sectors d.failures _ c.args.sector c.args.bytes.now c.told-bytes within (λ x left. g.met.F.RawFile.keeps_length d.file x faithful left) (c.write_at.ensures.writes faithful place)

pub returns-in-Ok-clause-written : goal.returns-in-Ok-clause-written
returns-in-Ok-clause-written g c faithful =
    let d = c.args.self.now in
    let file = g.F.RawFile.state d.file in
    let within : 512 * c.args.sector + 512 ≤ length file.bytes = omega (arith, d.inside faithful, c.requires) in
    let place : IsSectorAt (512 * c.args.sector) file = record { sector = c.args.sector; aligned = refl; inside = within } in
    ap (λ (xs : List ℕ). sector_of c.args.sector xs) (c.in-Ok.ensures.written faithful place) ∙ sector_of-put c.args.sector c.args.bytes.now file.bytes c.told-bytes within

pub returns-in-Err-clause-writes : goal.returns-in-Err-clause-writes
returns-in-Err-clause-writes g c faithful =
    let d = c.args.self.now in
    let file = g.F.RawFile.state d.file in
    let within : 512 * c.args.sector + 512 ≤ length file.bytes = omega (arith, d.inside faithful, c.requires) in
    let place : IsSectorAt (512 * c.args.sector) file = record { sector = c.args.sector; aligned = refl; inside = within } in
    writes _ _ _ _ d.sectors d.failures _ c.args.sector c.args.bytes.now c.told-bytes within (λ x left. g.met.F.RawFile.keeps_length d.file x faithful left) (c.write_at.ensures.writes faithful place)

-- once a sync has failed
pub returns-then-self-clause-writes : goal.returns-then-self-clause-writes
returns-then-self-clause-writes g c faithful =
    let d = c.args.self.now in
    let file = g.F.RawFile.state d.file in
    let within : 512 * c.args.sector + 512 ≤ length file.bytes = omega (arith, d.inside faithful, c.requires) in
    writes _ _ _ _ d.sectors d.failures _ c.args.sector c.args.bytes.now c.told-bytes within (λ x left. g.met.F.RawFile.keeps_length d.file x faithful left) (none_written (512 * c.args.sector) c.args.bytes.now file)

pub returns-then-self-clause-history : goal.returns-then-self-clause-history
returns-then-self-clause-history g c =
    let d = c.args.self.now in
    let file = g.F.RawFile.state d.file in
    file_history _ _ file file d.sectors d.failures _ (λ is. is) (λ is. is) (omega arith) (λ is. no_time file)

pub returns-then-self-clause-closed : goal.returns-then-self-clause-closed
returns-then-self-clause-closed g c was = (refl, refl)

pub returns-then-self-clause-written : goal.returns-then-self-clause-written
returns-then-self-clause-written g c faithful = tt

pub returns-then-self-clause-has_failed_sync : goal.returns-then-self-clause-has_failed_sync
returns-then-self-clause-has_failed_sync g c = refl

pub returns-in-Ok-clause-history : goal.returns-in-Ok-clause-history
returns-in-Ok-clause-history g c =
    let d = c.args.self.now in
    let file = g.F.RawFile.state d.file in
    let kept = c.write_at.ensures.history in
    file_history _ _ file (g.F.RawFile.state c.write_at.new.self) d.sectors d.failures _ (λ is. kept.0 is) (λ is. kept.1 is) (omega arith)
    (λ is.
    let within : 512 * c.args.sector + 512 ≤ length file.bytes = omega (arith, d.inside is, c.requires) in
    let place : IsSectorAt (512 * c.args.sector) file = record { sector = c.args.sector; aligned = refl; inside = within } in
    (c.write_at.ensures.writes is place).time)

pub returns-in-Ok-clause-closed : goal.returns-in-Ok-clause-closed
returns-in-Ok-clause-closed g c was = absurd (false≢true (sym c.if-self.false ∙ was))

pub returns-in-Ok-clause-has_failed_sync : goal.returns-in-Ok-clause-has_failed_sync
returns-in-Ok-clause-has_failed_sync g c = refl

pub returns-in-Err-clause-history : goal.returns-in-Err-clause-history
returns-in-Err-clause-history g c =
    let d = c.args.self.now in
    let file = g.F.RawFile.state d.file in
    let kept = c.write_at.ensures.history in
    file_history _ _ file (g.F.RawFile.state c.write_at.new.self) d.sectors d.failures _ (λ is. kept.0 is) (λ is. kept.1 is) (omega arith)
    (λ is.
    let within : 512 * c.args.sector + 512 ≤ length file.bytes = omega (arith, d.inside is, c.requires) in
    let place : IsSectorAt (512 * c.args.sector) file = record { sector = c.args.sector; aligned = refl; inside = within } in
    (c.write_at.ensures.writes is place).time)

pub returns-in-Err-clause-closed : goal.returns-in-Err-clause-closed
returns-in-Err-clause-closed g c was = absurd (false≢true (sym c.if-self.false ∙ was))

pub returns-in-Err-clause-has_failed_sync : goal.returns-in-Err-clause-has_failed_sync
returns-in-Err-clause-has_failed_sync g c = refl

pub returns-in-Err-clause-written : goal.returns-in-Err-clause-written
returns-in-Err-clause-written g c faithful = tt
