use Rattle.std.proofs.Common.{◌≡◌, ◌++◌, ◌∙◌, [], ℕ, List, drop, take, ap, arith}
use Rattle.std.proofs.lemmas.List.{nil_from_length, length-drop}
use Rattle.journal.proofs.Numbers.{append_nothing}
use Rattle.journal.proofs.fields.put_part.Goals as goal

pub returns : goal.returns
returns c =
    let behind : drop 488 (drop 24 c.args.bytes.now) ≡ [] = nil_from_length _ (omega (arith, c.told-bytes, length-drop 24 c.args.bytes.now, length-drop 488 (drop 24 c.args.bytes.now))) in
    ap (λ (rest : List ℕ). take 24 c.args.bytes.now ++ (c.copy_from_slice.new.self ++ rest)) behind
    ∙ ap (λ (part : List ℕ). take 24 c.args.bytes.now ++ part) (append_nothing c.copy_from_slice.new.self ∙ c.copy_from_slice.ensures.after)
