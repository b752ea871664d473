use Rattle.std.proofs.Common.{ℕ, length, Some, sym, ◌∙◌, ap, arith}
use Rattle.std.proofs.lemmas.List.{take_all}
use Rattle.abstract_database.specs.Machine.{own_sessions}
use Rattle.server.proofs.Clients.{counted, passed_by, own_found, own_missing}
use Rattle.server.proofs.numbers.own_at.Goals as goal

pub loop-place-preserved-then-client_of-from : goal.loop-place-preserved-then-client_of-from
loop-place-preserved-then-client_of-from c = record {
  own = passed_by c.args.client c.args.sessions.now.entries c.loop-place.place c.loop-place.before (c.in_ok-number.number.now, c.in_ok-number.field-0-1.now) (sym c.in_ok-number.ensures.entry)
      (λ same. c.if-client_of-from.true (c.client_of.ensures ∙ same ∙ sym c.from.ensures)) c.loop-place.invariant.own;
  within = c.loop-place.invariant.within;
}

pub returns-then-before-index : goal.returns-then-before-index
returns-then-before-index c =
    ap (λ (n : ℕ). Some n) c.own_number.ensures
    ∙ own_found c.args.client c.args.sessions.now.entries c.loop-place.place c.args.index (c.in_ok-number.number.now, c.in_ok-number.field-0-1.now) (sym c.in_ok-number.ensures.entry)
    (sym c.client_of.ensures ∙ c.if-client_of-from.false ∙ c.from.ensures) (sym c.if-before-index.true ∙ c.loop-place.invariant.own)

pub loop-place-preserved : goal.loop-place-preserved
loop-place-preserved c = record {
  own = counted c.args.client c.args.sessions.now.entries c.loop-place.place c.loop-place.before (c.in_ok-number.number.now, c.in_ok-number.field-0-1.now) (sym c.in_ok-number.ensures.entry)
      (sym c.client_of.ensures ∙ c.if-client_of-from.false ∙ c.from.ensures) c.loop-place.invariant.own;
  within = (let within = c.loop-place.invariant.within in let other = c.if-before-index.false in omega (arith, within, other));
}

pub returns : goal.returns
returns c =
    let all = take_all c.loop-place.place c.args.sessions.now.entries (let len = c.len-place-end.ensures.len in let past = c.loop-place-test.false in omega (arith, len, past)) in
    own_missing c.args.client c.args.sessions.now.entries c.args.index
    (let is = c.loop-place.invariant.own ∙ ap (λ l. length (own_sessions c.args.client l)) all in let within = c.loop-place.invariant.within in omega (arith, is, within))
