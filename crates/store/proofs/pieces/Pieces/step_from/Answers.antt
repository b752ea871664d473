use Rattle.std.proofs.Common.{◌<◌, ◌≤◌, ◌+◌, ◌-◌, ℕ, List, ◌∷◌, Some, length, sym, ◌∙◌, ap, arith}
use Rattle.store.specs.Records.{Changes}
use Rattle.store.specs.Pieces.{from_place, puts}
use Rattle.store.proofs.Stepping.{puts_passed, puts_read, read_before}
use Rattle.store.proofs.InPlaces.{one_read, next_read, past_all}
use Rattle.store.proofs.pieces.Pieces.step_from.Goals as goal

-- a value that is put
pub returns-in-Some : goal.returns-in-Some
returns-in-Some c =
    let ps = c.args.self.now.list.items in
    let here = c.loop-place.place in
    let change = c.index-changes-place.result in
    let value = c.in-Some.value.now in
    let inside : here.piece < length ps = omega (arith, c.loop-place-test.true, c.len.ensures, c.args.self.now.list.ok) in
    let read = one_read here.piece here.at ps c.index.result.now c.as_slice-changes.result.now change inside c.index.ensures c.as_slice-changes.ensures c.if-place-changes.true c.index-changes-place.is in
    let next = from_place here.piece (here.at + 1) ps in
    let key = sym c.key-key.ensures in
    let first = sym c.loop-place.invariant ∙ puts_read change value (from_place here.piece here.at ps) next read c.in-Some.ensures in
    let before = read_before here.piece here.at ps c.index.result.now c.as_slice-changes.result.now change value inside c.index.ensures c.as_slice-changes.ensures c.if-place-changes.true c.index-changes-place.is c.in-Some.ensures in
    (first ∙ ap (λ (k : List ℕ). (k, value) ∷ puts next) key, (omega arith, before ∙ ap (λ (k : List ℕ). Some (k, Some value)) key))

pub loop-place-smaller-in-None : goal.loop-place-smaller-in-None
loop-place-smaller-in-None c =
    let ps = c.args.self.now.list.items in
    let here = c.loop-place.place in
    let change = c.index-changes-place.result in
    let inside : here.piece < length ps = omega (arith, c.loop-place-test.true, c.len.ensures, c.args.self.now.list.ok) in
    let read = ap (λ (cs : Changes). length cs) (one_read here.piece here.at ps c.index.result.now c.as_slice-changes.result.now change inside c.index.ensures c.as_slice-changes.ensures c.if-place-changes.true c.index-changes-place.is) in
    let less : length (from_place here.piece (here.at + 1) ps) + (length ps - here.piece) < length (from_place here.piece here.at ps) + (length ps - here.piece) = omega (arith, read) in
    less

pub loop-place-preserved-in-None : goal.loop-place-preserved-in-None
loop-place-preserved-in-None c =
    let ps = c.args.self.now.list.items in
    let here = c.loop-place.place in
    let change = c.index-changes-place.result in
    let inside : here.piece < length ps = omega (arith, c.loop-place-test.true, c.len.ensures, c.args.self.now.list.ok) in
    let read = one_read here.piece here.at ps c.index.result.now c.as_slice-changes.result.now change inside c.index.ensures c.as_slice-changes.ensures c.if-place-changes.true c.index-changes-place.is in
    sym (puts_passed change (from_place here.piece here.at ps) (from_place here.piece (here.at + 1) ps) read c.in-None.ensures) ∙ c.loop-place.invariant

pub loop-place-smaller : goal.loop-place-smaller
loop-place-smaller c =
    let ps = c.args.self.now.list.items in
    let here = c.loop-place.place in
    let inside : here.piece < length ps = omega (arith, c.loop-place-test.true, c.len.ensures, c.args.self.now.list.ok) in
    let past : length c.as_slice-changes.result.now ≤ here.at = omega (arith, c.if-place-changes.false) in
    let next = ap (λ (cs : Changes). length cs) (next_read here.piece here.at ps c.index.result.now c.as_slice-changes.result.now inside c.index.ensures c.as_slice-changes.ensures past) in
    let less : length (from_place (here.piece + 1) 0 ps) + (length ps - (here.piece + 1)) < length (from_place here.piece here.at ps) + (length ps - here.piece) = omega (arith, next, inside) in
    less

pub loop-place-preserved : goal.loop-place-preserved
loop-place-preserved c =
    let ps = c.args.self.now.list.items in
    let here = c.loop-place.place in
    let inside : here.piece < length ps = omega (arith, c.loop-place-test.true, c.len.ensures, c.args.self.now.list.ok) in
    let past : length c.as_slice-changes.result.now ≤ here.at = omega (arith, c.if-place-changes.false) in
    ap puts (sym (next_read here.piece here.at ps c.index.result.now c.as_slice-changes.result.now inside c.index.ensures c.as_slice-changes.ensures past)) ∙ c.loop-place.invariant

-- past the last piece nothing is put
pub returns : goal.returns
returns c =
    let ps = c.args.self.now.list.items in
    let here = c.loop-place.place in
    let past : length ps ≤ here.piece = omega (arith, c.loop-place-test.false, c.len.ensures, c.args.self.now.list.ok) in
    sym c.loop-place.invariant ∙ ap puts (past_all here.piece here.at ps past)
