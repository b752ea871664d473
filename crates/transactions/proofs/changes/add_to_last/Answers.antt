use Rattle.std.proofs.Common.{◌≡◌, ◌+◌, ◌-◌, None, length, vec_len, refl, arith}
use Rattle.store.specs.Records.{lookup}
use Rattle.transactions.proofs.Recording.{last_replaced, when_ok}
use Rattle.transactions.proofs.changes.add_to_last.Goals as goal

pub returns-in-Some-clause-added : goal.returns-in-Some-clause-added
returns-in-Some-clause-added c is_so key =
    let lists = c.args.lists.now in
    let some = c.in-Some.ensures.variant.0 refl in
    let end : vec_len lists - 1 + 1 ≡ length lists.items = omega (arith, some, lists.ok.0) in
    last_replaced key lists.items (vec_len lists - 1) c.in-Some.last.now c.add_list.new.joined (lookup key c.args.changes.now) end c.in-Some.ensures.value
    (when_ok c.add_list.result c.is_ok.result c.is_ok.ensures.value is_so c.add_list.ensures.added key)

pub returns-in-Some-clause-elsewhere : goal.returns-in-Some-clause-elsewhere
returns-in-Some-clause-elsewhere c key none =
    let lists = c.args.lists.now in
    let some = c.in-Some.ensures.variant.0 refl in
    let end : vec_len lists - 1 + 1 ≡ length lists.items = omega (arith, some, lists.ok.0) in
    last_replaced key lists.items (vec_len lists - 1) c.in-Some.last.now c.add_list.new.joined None end c.in-Some.ensures.value (c.add_list.ensures.elsewhere key none)
