use Rattle.std.proofs.Common.{◌≡◌, ◌+◌, ◌*◌, ◌-◌, ℕ, take, drop, ap, ◌∙◌, arith}
use Rattle.cow_pages.proofs.root_switch.put_map.Goals as goal

pub returns : goal.returns
returns c =
    let count : 1024 * c.args.index + 1024 - 1024 * c.args.index ≡ 1024 = omega arith in
    c.put_map_page.ensures.read ∙ ap (λ (n : ℕ). take n (drop (1024 * c.args.index) c.args.entries.now)) count
