use Rattle.std.proofs.Common.{◌≡◌, ◌+◌, ◌-◌, ℕ, List, take, drop, ap, ◌∙◌, arith}
use Rattle.sector_device.proofs.memory_file.MemFileRawFile.read_page_at.Goals as goal

pub returns-clause-bytes : goal.returns-clause-bytes
returns-clause-bytes c =
    let start = c.in_ok-start.start in
    let size : start + 4096 - start ≡ 4096 = omega arith in
    c.copy_from_slice.ensures.after ∙ ap (λ (n : ℕ). take n (drop start c.deref.result.now)) size
    ∙ ap (λ (i : ℕ). take 4096 (drop i c.deref.result.now)) c.in_ok-start.ensures.start
    ∙ ap (λ (xs : List ℕ). take 4096 (drop c.args.offset xs)) c.deref.ensures.value
