use Rattle.std.proofs.Common.{◌≤◌, ℕ, List, take, ap, subst, ◌∙◌, arith}
use Rattle.sha2.specs.Hashers.{Holds256}
use Rattle.dumps.proofs.HeadBytes.{head_written}
use Rattle.dumps.proofs.writing.begin_dump.Goals as goal

pub write-requires-clause-not_beside : goal.write-requires-clause-not_beside
write-requires-clause-not_beside g c = λ beside.
    let behind = g.met.E.Device.beside_behind c.args.device.now 0 beside in
    absurd (omega (arith, behind.0))

pub returns-clause-begun : goal.returns-clause-begun
returns-clause-begun g c = λ faithful zeros.
    let old = g.E.Device.state c.args.device.now in
    let new = g.E.Device.state c.write.new.self in
    let some : 8 ≤ old.sectors = omega (arith, c.write.ensures.history.sectors) in
    let spelled = c.as_slice.ensures.value ∙ c.in_ok-head.ensures.spelled in
    record {
      fits = omega (arith, c.ranges.number);
      whole = omega (arith, c.write.ensures.history.sectors);
      some = omega (arith, c.write.ensures.history.sectors);
      there = head_written c.args.number new.content
          (c.in-Ok.ensures.written faithful ∙ c.first_sector_of-sector.ensures ∙ ap (λ (l : List ℕ). take 512 l) spelled)
          (λ s one lt. (c.write.ensures.writes faithful).others s (λ is. omega (arith, one, is)) ∙ zeros s lt (omega (arith, lt, some)));
      page = c.behind_head.ensures.page;
      lists = c.behind_head.ensures.lists;
      hashed = subst (λ (l : List ℕ). Holds256 c.behind_head.result.hasher l) (c.as_slice-2.ensures.value ∙ c.in_ok-head.ensures.spelled) c.behind_head.ensures.hashed;
    }
