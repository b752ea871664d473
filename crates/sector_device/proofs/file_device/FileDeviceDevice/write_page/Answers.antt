use Rattle.std.proofs.Common.{◌≤◌, ◌+◌, ◌*◌, ◌∙◌, ap, ℕ, List, length, arith, refl, sym}
use Rattle.sector_device.specs.FileState.{sector_of}
use Rattle.sector_device.specs.FilePage.{IsPageAt}
use Rattle.sector_device.proofs.Devices.{plain_history}
use Rattle.sector_device.proofs.Files.{elapses, file_history, writes_page, no_time, no_page_written}
use Rattle.sector_device.proofs.PutBytes.{sector_of-put_page}
use Rattle.std.proofs.lemmas.Bool.{false≢true}
use Rattle.sector_device.proofs.file_device.FileDeviceDevice.write_page.Goals as goal

pub returns-then-self-clause-writes : goal.returns-then-self-clause-writes
returns-then-self-clause-writes g c faithful =
    let d = c.args.self.now in
    writes_page _ _ _ _ d.sectors d.failures _ c.args.first c.args.bytes.now (g.met.F.RawFile.only_now d.file faithful) (no_page_written c.args.first c.args.bytes.now (g.F.RawFile.state d.file))

pub invariant_of-self-in-Ok : goal.invariant_of-self-in-Ok
invariant_of-self-in-Ok g c = record {
  inside = λ after.
      let d = c.args.self.now in
      let faithful = c.write_page_at.ensures.history.1 after in
      let within : 512 * c.args.first + 4096 ≤ length (g.F.RawFile.state d.file).bytes = omega (arith, d.inside faithful, c.requires) in
      let place : IsPageAt c.args.first (512 * c.args.first) (g.F.RawFile.state d.file) = record { aligned = refl; inside = within } in
      omega (arith, d.inside faithful, (c.write_page_at.ensures.writes faithful c.args.first place).bytes.length);
  works = λ after none.
      let faithful = c.write_page_at.ensures.history.1 after in
      c.write_page_at.ensures.works faithful ∙ c.args.self.now.works faithful none;
}

pub invariant_of-self-in-Err : goal.invariant_of-self-in-Err
invariant_of-self-in-Err g c = record {
  inside = λ after.
      let d = c.args.self.now in
      let faithful = c.write_page_at.ensures.history.1 after in
      let within : 512 * c.args.first + 4096 ≤ length (g.F.RawFile.state d.file).bytes = omega (arith, d.inside faithful, c.requires) in
      let place : IsPageAt c.args.first (512 * c.args.first) (g.F.RawFile.state d.file) = record { aligned = refl; inside = within } in
      omega (arith, d.inside faithful, (c.write_page_at.ensures.writes faithful c.args.first place).bytes.length);
  works = λ after none.
      let faithful = c.write_page_at.ensures.history.1 after in
      c.write_page_at.ensures.works faithful ∙ c.args.self.now.works faithful none;
}

pub returns-in-Ok-clause-writes : goal.returns-in-Ok-clause-writes
returns-in-Ok-clause-writes g c faithful =
    let d = c.args.self.now in
    let within : 512 * c.args.first + 4096 ≤ length (g.F.RawFile.state d.file).bytes = omega (arith, d.inside faithful, c.requires) in
    let place : IsPageAt c.args.first (512 * c.args.first) (g.F.RawFile.state d.file) = record { aligned = refl; inside = within } in
    writes_page _ _ _ _ d.sectors d.failures _ c.args.first c.args.bytes.now (g.met.F.RawFile.only_now d.file faithful) (c.write_page_at.ensures.writes faithful c.args.first place)

pub returns-in-Ok-clause-written : goal.returns-in-Ok-clause-written
returns-in-Ok-clause-written g c faithful k lt =
    let d = c.args.self.now in
    let file = g.F.RawFile.state d.file in
    let within : 512 * c.args.first + 4096 ≤ length file.bytes = omega (arith, d.inside faithful, c.requires) in
    let place : IsPageAt c.args.first (512 * c.args.first) file = record { aligned = refl; inside = within } in
    ap (λ (xs : List ℕ). sector_of (c.args.first + k) xs) (c.in-Ok.ensures.written faithful c.args.first place) ∙ sector_of-put_page c.args.first k c.args.bytes.now file.bytes lt c.told-bytes within

pub returns-in-Err-clause-writes : goal.returns-in-Err-clause-writes
returns-in-Err-clause-writes g c faithful =
    let d = c.args.self.now in
    let within : 512 * c.args.first + 4096 ≤ length (g.F.RawFile.state d.file).bytes = omega (arith, d.inside faithful, c.requires) in
    let place : IsPageAt c.args.first (512 * c.args.first) (g.F.RawFile.state d.file) = record { aligned = refl; inside = within } in
    writes_page _ _ _ _ d.sectors d.failures _ c.args.first c.args.bytes.now (g.met.F.RawFile.only_now d.file faithful) (c.write_page_at.ensures.writes faithful c.args.first place)

pub returns-in-Ok-clause-history : goal.returns-in-Ok-clause-history
returns-in-Ok-clause-history g c =
    let d = c.args.self.now in
    let kept = c.write_page_at.ensures.history in
    plain_history _ _ (λ s none. none) (λ s none. none) refl (λ is. kept.0 is) (λ is. kept.1 is) (omega arith)
    (λ is.
    let within : 512 * c.args.first + 4096 ≤ length (g.F.RawFile.state d.file).bytes = omega (arith, d.inside is, c.requires) in
    let place : IsPageAt c.args.first (512 * c.args.first) (g.F.RawFile.state d.file) = record { aligned = refl; inside = within } in
    elapses (Unit {0}) (Unit {0}) (g.F.RawFile.state d.file) (g.F.RawFile.state c.write_page_at.new.self) d.sectors 0 0 (c.write_page_at.ensures.writes is c.args.first place).time)

pub returns-in-Err-clause-history : goal.returns-in-Err-clause-history
returns-in-Err-clause-history g c =
    let d = c.args.self.now in
    let kept = c.write_page_at.ensures.history in
    plain_history _ _ (λ s none. none) (λ s none. none) refl (λ is. kept.0 is) (λ is. kept.1 is) (omega arith)
    (λ is.
    let within : 512 * c.args.first + 4096 ≤ length (g.F.RawFile.state d.file).bytes = omega (arith, d.inside is, c.requires) in
    let place : IsPageAt c.args.first (512 * c.args.first) (g.F.RawFile.state d.file) = record { aligned = refl; inside = within } in
    elapses (Unit {0}) (Unit {0}) (g.F.RawFile.state d.file) (g.F.RawFile.state c.write_page_at.new.self) d.sectors 0 0 (c.write_page_at.ensures.writes is c.args.first place).time)

pub returns-then-self-clause-history : goal.returns-then-self-clause-history
returns-then-self-clause-history g c =
    let d = c.args.self.now in
    let file = g.F.RawFile.state d.file in
    file_history _ _ file file d.sectors d.failures _ (λ is. is) (λ is. is) (omega arith) (λ is. no_time file)

pub returns-then-self-clause-closed : goal.returns-then-self-clause-closed
returns-then-self-clause-closed g c was = (refl, refl)

pub returns-then-self-clause-written : goal.returns-then-self-clause-written
returns-then-self-clause-written g c faithful = tt

pub returns-then-self-clause-has_failed_sync : goal.returns-then-self-clause-has_failed_sync
returns-then-self-clause-has_failed_sync g c = refl

pub returns-in-Ok-clause-closed : goal.returns-in-Ok-clause-closed
returns-in-Ok-clause-closed g c was = absurd (false≢true (sym c.if-self.false ∙ was))

pub returns-in-Ok-clause-has_failed_sync : goal.returns-in-Ok-clause-has_failed_sync
returns-in-Ok-clause-has_failed_sync g c = refl

pub returns-in-Err-clause-closed : goal.returns-in-Err-clause-closed
returns-in-Err-clause-closed g c was = absurd (false≢true (sym c.if-self.false ∙ was))

pub returns-in-Err-clause-has_failed_sync : goal.returns-in-Err-clause-has_failed_sync
returns-in-Err-clause-has_failed_sync g c = refl

pub returns-in-Err-clause-written : goal.returns-in-Err-clause-written
returns-in-Err-clause-written g c faithful = tt
