use Rattle.std.proofs.Common.{◌≡◌, ◌∙◌, ap, map, true, false, arith}
use Rattle.std.specs.Prelude.{slice_set, string_bytes}
use Rattle.std.specs.List.{insert}
use Rattle.section_texts.specs.LineTexts.{texts_of}
use Rattle.access_texts.specs.Lines.{put_place, stands}
use Rattle.access_texts.proofs.Placed.{inserted, placed_within, put_over}
use Rattle.access_texts.proofs.lines.put.Goals as goal

pub index_mut-requires : goal.index_mut-requires
index_mut-requires c =
    let x = c.args.line in
    let ls = c.args.lines.now.items in
    let at : c.place_of-place.result ≡ put_place (string_bytes x.subject) (map texts_of ls) = (let place = c.place_of-place.ensures.place in let text = c.as_str.ensures.value in let lent = c.as_slice.ensures.value in cc) in
    let there : stands (string_bytes x.subject) (map texts_of ls) ≡ true = (let found = c.stands.ensures in let text = c.as_str-2.ensures.value in let lent = c.as_slice-2.ensures.value in let is = c.if-stands.true in cc) in
    omega (arith, at, placed_within x ls there)

pub returns-then-stands : goal.returns-then-stands
returns-then-stands c =
    let x = c.args.line in
    let ls = c.args.lines.now.items in
    let at : c.place_of-place.result ≡ put_place (string_bytes x.subject) (map texts_of ls) = (let place = c.place_of-place.ensures.place in let text = c.as_str.ensures.value in let lent = c.as_slice.ensures.value in cc) in
    let there : stands (string_bytes x.subject) (map texts_of ls) ≡ true = (let found = c.stands.ensures in let text = c.as_str-2.ensures.value in let lent = c.as_slice-2.ensures.value in let is = c.if-stands.true in cc) in
    ap (λ n. map texts_of (slice_set ls n x)) at ∙ put_over x ls there

pub returns-in_ok-insert : goal.returns-in_ok-insert
returns-in_ok-insert c =
    let x = c.args.line in
    let ls = c.args.lines.now.items in
    let at : c.place_of-place.result ≡ put_place (string_bytes x.subject) (map texts_of ls) = (let place = c.place_of-place.ensures.place in let text = c.as_str.ensures.value in let lent = c.as_slice.ensures.value in cc) in
    let none : stands (string_bytes x.subject) (map texts_of ls) ≡ false = (let found = c.stands.ensures in let text = c.as_str-2.ensures.value in let lent = c.as_slice-2.ensures.value in let is = c.if-stands.false in cc) in
    ap (map texts_of) c.in_ok-insert.ensures.items ∙ (ap (λ n. map texts_of (insert ls n x)) at ∙ inserted x ls none)
