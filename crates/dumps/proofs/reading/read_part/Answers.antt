use Rattle.std.proofs.Common.{◌≡◌, ◌+◌, ◌*◌, ◌-◌, ℕ, ◌/◌, List, get_or, sym, ap, subst, ◌∙◌, arith}
use Rattle.store.specs.Records.{Changes}
use Rattle.dumps.specs.OnDevice.{DumpGoesOn, bytes_from}
use Rattle.dumps.proofs.Following.{end_there, first_left, first_page, leaves_to_read, none_left, number_of_first}
use Rattle.dumps.proofs.reading.read_part.Goals as goal

pub returns-in-Ok-clause-goes_on : goal.returns-in-Ok-clause-goes_on
returns-in-Ok-clause-goes_on g c = λ faithful is before lists hashed on.
    let d = g.D.Device.state c.args.device.now in
    leaves_to_read d.sectors d.content before c.in-Ok.batch lists c.args.place.now c.read_block.new.place c.one_batch.ensures.batch (c.in-Ok.ensures.read faithful before hashed) on

pub returns-in-Err-clause-damaged : goal.returns-in-Err-clause-damaged
returns-in-Err-clause-damaged g c = λ faithful is before lists hashed on damaged.
    let d = g.D.Device.state c.args.device.now in
    let page = c.args.place.now.page in
    let first = c.args.first.now in
    let rest = bytes_from d.content (8 * (page + 1)) (d.sectors - 8 * (page + 1)) in
    let all = first_page d.sectors page d.content first is c.requires.inside in
    let one : get_or first 0 0 ≡ 1 = sym c.kind_of.ensures ∙ c.if-kind_of-eq-BLOCK.true in
    first_left ⊥ d.sectors page d.content before c.args.place.now.lists first rest lists all (omega (arith, c.requires.long)) one on
    (λ list others left. c.in-Err.ensures.damaged faithful before list others hashed left
    (sym (number_of_first (bytes_from d.content (8 * page) (d.sectors - 8 * page)) first rest all (omega (arith, c.requires.long))) ∙ sym c.spelled_length.ensures) damaged)

pub returns-in-Ok-read_end-clause-next : goal.returns-in-Ok-read_end-clause-next
returns-in-Ok-read_end-clause-next g c = λ faithful is before hashed.
    let read = c.in-Ok-read_end.ensures.read before hashed in
    record { there = sym is ∙ read.0; last = read.1 ∙ ap (λ (n : ℕ). n / 8) c.sectors-pages.ensures }

pub returns-in-Ok-read_end-clause-goes_on : goal.returns-in-Ok-read_end-clause-goes_on
returns-in-Ok-read_end-clause-goes_on g c = λ faithful is before lists hashed on.
    let d = g.D.Device.state c.args.device.now in
    let page = c.args.place.now.page in
    let first = c.args.first.now in
    none_left d.sectors page d.content before c.args.place.now.lists first (bytes_from d.content (8 * (page + 1)) (d.sectors - 8 * (page + 1))) lists
    (first_page d.sectors page d.content first is c.requires.inside) (omega (arith, c.requires.long))
    (λ one. c.if-kind_of-eq-BLOCK.false (c.kind_of.ensures ∙ one)) on

pub returns-in-Err-read_end-clause-damaged : goal.returns-in-Err-read_end-clause-damaged
returns-in-Err-read_end-clause-damaged g c = λ faithful is before lists hashed on damaged.
    let d = g.D.Device.state c.args.device.now in
    let page = c.args.place.now.page in
    let first = c.args.first.now in
    let rest = bytes_from d.content (8 * (page + 1)) (d.sectors - 8 * (page + 1)) in
    let all = first_page d.sectors page d.content first is c.requires.inside in
    let none = none_left d.sectors page d.content before c.args.place.now.lists first rest lists all (omega (arith, c.requires.long)) (λ one. c.if-kind_of-eq-BLOCK.false (c.kind_of.ensures ∙ one)) on in
    let there = end_there d.sectors page d.content before c.args.place.now.lists first rest all c.requires.long (subst (λ (ls : List Changes). DumpGoesOn d.sectors d.content page before c.args.place.now.lists ls) none on) in
    c.in-Err-read_end.ensures.damaged before hashed there.0 (there.1 ∙ sym (ap (λ (n : ℕ). n / 8) c.sectors-pages.ensures)) damaged
