use Rattle.std.proofs.Common.{◌≡◌, ◌++◌, sym, ◌∙◌, ◌≤◌, length}
use Rattle.std.specs.Prelude.{All, codes}
use Rattle.std.proofs.lemmas.List.{append_cancel_left}
use Rattle.scram.specs.Messages.{IsNonceByte}
use Rattle.scram.proofs.Firsts.{has_comma, named_of, nonce_of}
use Rattle.scram.proofs.first_message.read_first.Goals as goal

pub returns-in_default-cut_at_comma : goal.returns-in_default-cut_at_comma
returns-in_default-cut_at_comma c binding bare nonce it =
    let named = named_of c.args.text.now c.in-Some.binding binding bare nonce c.in-Some.bare.now c.in-Some-behind.named.now it c.in-Some.ensures c.in-Some-behind.ensures in
    has_comma c.in-Some-behind.named.now it.name (codes "r=" ++ nonce) named c.in_default-cut_at_comma.ensures

pub returns-in_default-behind-2 : goal.returns-in_default-behind-2
returns-in_default-behind-2 c binding bare nonce it =
    let named = named_of c.args.text.now c.in-Some.binding binding bare nonce c.in-Some.bare.now c.in-Some-behind.named.now it c.in-Some.ensures c.in-Some-behind.ensures in
    let attributes = nonce_of c.in-Some-behind.named.now c.in-Some-cut_at_comma.field-0-0.now c.in-Some-cut_at_comma.attributes.now it.name nonce
    c.in-Some-cut_at_comma.ensures.0 named c.in-Some-cut_at_comma.ensures.1 it.no_comma in
    c.in_default-behind-2.ensures nonce attributes

pub returns-else-is_nonce : goal.returns-else-is_nonce
returns-else-is_nonce c binding bare nonce it =
    let named = named_of c.args.text.now c.in-Some.binding binding bare nonce c.in-Some.bare.now c.in-Some-behind.named.now it c.in-Some.ensures c.in-Some-behind.ensures in
    let attributes = nonce_of c.in-Some-behind.named.now c.in-Some-cut_at_comma.field-0-0.now c.in-Some-cut_at_comma.attributes.now it.name nonce
    c.in-Some-cut_at_comma.ensures.0 named c.in-Some-cut_at_comma.ensures.1 it.no_comma in
    let same : c.in-Some-behind-2.nonce.now ≡ nonce =
    append_cancel_left (codes "r=") c.in-Some-behind-2.nonce.now nonce (sym c.in-Some-behind-2.ensures ∙ attributes) in
    let is : All IsNonceByte c.in-Some-behind-2.nonce.now × (1 ≤ length c.in-Some-behind-2.nonce.now) = rw same (it.nonce_bytes, it.some_nonce) in
    let yes = c.is_nonce.ensures.1 is in
    let never = rw c.if-is_nonce.false at yes in
    cc never
