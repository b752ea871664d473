use Rattle.std.proofs.Common.{List, ap, sym, ◌∙◌, arith}
use Rattle.std.specs.Ordering.{is_gt}
use Rattle.std.specs.List.{insert}
use Rattle.std.proofs.lemmas.List.Sums.{prefix_len-le-length}
use Rattle.abstract_database.specs.Lists.{TheName, name_cmp}
use Rattle.schema_statements.proofs.Putting.{place, put_there, put_new}
use Rattle.schema_statements.proofs.policy_names.put_name.Goals as goal

pub returns-then-is_at : goal.returns-then-is_at
returns-then-is_at c =
    let names = c.args.names.now.items in
    sym (put_there c.args.name names
    (rw (← c.as_slice.ensures.value) (rw (← c.place_of-place.ensures, c.as_slice.ensures.value, ← c.as_slice-2.ensures.value) (sym c.is_at.ensures ∙ c.if-is_at.true))))

pub insert-requires : goal.insert-requires
insert-requires c =
    let within = prefix_len-le-length (λ (other : TheName). is_gt (name_cmp c.args.name other)) c.as_slice.result.now in
    omega (arith, within, c.place_of-place.ensures, c.as_slice.ensures.len)

pub returns : goal.returns
returns c =
    let names = c.args.names.now.items in
    c.in_ok-insert.ensures.items
    ∙ ap (λ n. insert names n c.args.name) c.place_of-place.ensures
    ∙ ap (λ (l : List TheName). insert names (place c.args.name l) c.args.name) c.as_slice.ensures.value
    ∙ sym (put_new c.args.name names
    (rw (← c.as_slice.ensures.value) (rw (← c.place_of-place.ensures, c.as_slice.ensures.value, ← c.as_slice-2.ensures.value) (sym c.is_at.ensures ∙ c.if-is_at.false))))
