use Rattle.std.proofs.Common.{◌∙◌, ◌<◌, ◌^◌, ◌++◌, [], ℕ, List, All, ap, sym, arith}
use Rattle.std.proofs.lemmas.List.{append-nil, get_or_default}
use Rattle.page_roots.specs.Numbers.{bytes_of_numbers, numbers_in}
use Rattle.page_roots.proofs.Numbers.{numbers_in-bytes_of_numbers}
use Rattle.page_roots.proofs.map_page.put_map_page.Goals as goal

pub returns-clause-read : goal.returns-clause-read
returns-clause-read c =
    let fit : All (λ n. n < 2 ^ 32) c.args.entries.now = (λ k d lt. let e = get_or_default c.args.entries.now k d 0 lt in omega (arith, e, c.type_inv.entries k)) in
    ap (λ (bytes : List ℕ). numbers_in 1024 bytes) (c.write_u32_into.ensures ∙ sym (append-nil (bytes_of_numbers c.args.entries.now)))
    ∙ ap (λ (n : ℕ). numbers_in n (bytes_of_numbers c.args.entries.now ++ [])) (sym c.requires)
    ∙ numbers_in-bytes_of_numbers c.args.entries.now [] fit
