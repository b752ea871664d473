use Rattle.std.proofs.Common.{◌≡◌, ◌∙◌, ◌-◌, ◌+◌, ◌*◌, ℕ, ap, length, take, drop, arith}
use Rattle.std.proofs.lemmas.List.{take_at, length-drop, length-take-le}
use Rattle.page_roots.specs.Numbers.{numbers_in}
use Rattle.page_roots.proofs.Numbers.{numbers_in-take}
use Rattle.page_roots.proofs.fields.read_numbers_at.Goals as goal

pub returns : goal.returns
returns c =
    let count : length (take c.args.count c.args.numbers.now) ≡ c.args.count = length-take-le c.args.count c.args.numbers.now (omega (arith, c.told-numbers)) in
    let width : c.args.place + 4 * c.args.count - c.args.place ≡ 4 * c.args.count = omega arith in
    take_at c.read_numbers.new.numbers _ c.args.count (omega (arith, count, c.read_numbers.auto.numbers))
    ∙ c.read_numbers.ensures
    ∙ ap (λ (n : ℕ). numbers_in n (take (c.args.place + 4 * c.args.count - c.args.place) (drop c.args.place c.args.bytes.now))) count
    ∙ ap (λ (n : ℕ). numbers_in c.args.count (take n (drop c.args.place c.args.bytes.now))) width
    ∙ numbers_in-take c.args.count (drop c.args.place c.args.bytes.now) (omega (arith, c.told-bytes, length-drop c.args.place c.args.bytes.now))
