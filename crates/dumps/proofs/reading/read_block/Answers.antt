use Rattle.std.proofs.Common.{ℕ, ◌/◌, length, ap, ◌∙◌, arith}
use Rattle.dumps.proofs.Following.{no_room_for_list, list_there}
use Rattle.dumps.proofs.reading.read_block.Goals as goal

pub returns-in_default-clause-damaged : goal.returns-in_default-clause-damaged
returns-in_default-clause-damaged g c = λ faithful before list lists hashed on number damaged.
    let d = g.D.Device.state c.args.device.now in
    no_room_for_list d.sectors c.args.place.now.page d.content before c.args.place.now.lists list lists c.args.length (c.sectors-pages.result / 8) (ap (λ (n : ℕ). n / 8) c.sectors-pages.ensures) on number
    c.in_default.ensures.none

pub returns-in_default-2-clause-damaged : goal.returns-in_default-2-clause-damaged
returns-in_default-2-clause-damaged g c = λ faithful before list lists hashed on number damaged.
    let d = g.D.Device.state c.args.device.now in
    let found = c.in-Some.ensures.found in
    let is = list_there d.sectors c.args.place.now.page d.content before c.args.place.now.lists list lists c.args.length c.in-Some.count c.as_slice.result.now found.0
    (omega (arith, found.2, c.sectors-pages.ensures)) on number (c.as_slice.ensures.value ∙ c.in_ok-block.ensures.bytes faithful) (ap length c.as_slice.ensures.value ∙ c.in_ok-block.ensures.count) in
    let read = c.in_ok-batch.ensures.only list is in
    let none = c.in_default-2.is in
    cc
