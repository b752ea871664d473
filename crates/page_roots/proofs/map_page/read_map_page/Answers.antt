use Rattle.std.proofs.Common.{ℕ, ◌∙◌, ap}
use Rattle.page_roots.specs.Numbers.{bytes_of_numbers, numbers_in}
use Rattle.page_roots.proofs.Numbers.{bytes_of_numbers-numbers_in}
use Rattle.page_roots.proofs.map_page.read_map_page.Goals as goal

pub returns-clause-spelled : goal.returns-clause-spelled
returns-clause-spelled c =
    ap bytes_of_numbers (c.read_numbers.ensures ∙ ap (λ (n : ℕ). numbers_in n c.args.bytes.now) c.requires)
    ∙ bytes_of_numbers-numbers_in 1024 c.args.bytes.now c.fits-bytes c.told-bytes
