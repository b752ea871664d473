use Rattle.std.proofs.Common.{◌≡◌, ◌∙◌, sym, ap, true, false, ◌||◌, map, take, drop, Bor, List, ◌+◌, bytes_eq, nat_eq, refl}
use Rattle.std.proofs.lemmas.List.{map_more, map-append, take-append-drop}
use Rattle.std.proofs.lemmas.List.Folds.{list_any_more}
use Rattle.std.specs.List.{list_any}
use Rattle.std.specs.HashSet.{contains}
use Rattle.std.specs.Cmp.Lexicographic.{pointwise}
use Rattle.abstract_database.specs.Lists.{TheName, has_double}
use Rattle.catalogue.proofs.NameLemmas.{any_map, new_differs, stands_twice, still_double, told_true, told_false, cond_or}
use Rattle.catalogue.proofs.names.has_double.Goals as goal

pub returns-then-not-branch : goal.returns-then-not-branch
returns-then-not-branch c =
    let names = c.args.names.now in
    let i = c.loop-name.name-index in
    let name : Bor TheName = c.name-item.result in
    let held = told_true c.in_ok-insert.field-0 _ c.in_ok-insert.ensures.added c.if-not-branch.true in
    let there : list_any (λ (n : Bor TheName). pointwise nat_eq n.now name.now) (take i names) ≡ true = rw (← c.as_str.ensures.text) (sym (c.loop-name.invariant.1 c.as_str.result) ∙ held) in
    let seen : list_any (λ n. bytes_eq n name.now) (map (λ (n : Bor TheName). n.now) (take i names)) ≡ true = any_map (λ n. bytes_eq n name.now) (λ (n : Bor TheName). n.now) (take i names) ∙ there in
    let twice : has_double (map (λ (n : Bor TheName). n.now) (take (i + 1) names)) ≡ true =
    rw (map_more (λ (n : Bor TheName). n.now) names i name c.loop-name-test.true, ← c.name-item.is) (stands_twice (map (λ (n : Bor TheName). n.now) (take i names)) name.now seen) in
    sym (ap (λ (l : List (Bor TheName)). has_double (map (λ (n : Bor TheName). n.now) l)) (sym (take-append-drop (i + 1) names))
    ∙ rw (map-append (λ (n : Bor TheName). n.now) (take (i + 1) names) (drop (i + 1) names)) (still_double (map (λ (n : Bor TheName). n.now) (take (i + 1) names)) (map (λ (n : Bor TheName). n.now) (drop (i + 1) names)) twice))

pub loop-name-preserved : goal.loop-name-preserved
loop-name-preserved c =
    let names = c.args.names.now in
    let i = c.loop-name.name-index in
    let name : Bor TheName = c.name-item.result in
    let held = told_false c.in_ok-insert.field-0 _ c.in_ok-insert.ensures.added c.if-not-branch.false in
    let there : list_any (λ (n : Bor TheName). pointwise nat_eq n.now name.now) (take i names) ≡ false = rw (← c.as_str.ensures.text) (sym (c.loop-name.invariant.1 c.as_str.result) ∙ held) in
    let seen : list_any (λ n. bytes_eq n name.now) (map (λ (n : Bor TheName). n.now) (take i names)) ≡ false = any_map (λ n. bytes_eq n name.now) (λ (n : Bor TheName). n.now) (take i names) ∙ there in (
      rw (map_more (λ (n : Bor TheName). n.now) names i name c.loop-name-test.true, ← c.name-item.is) (new_differs (map (λ (n : Bor TheName). n.now) (take i names)) name.now c.loop-name.invariant.0 seen),
      λ q. c.in_ok-insert.ensures.updates.0 q ∙ cond_or (pointwise nat_eq c.as_str.result.now q.now) (contains (λ a b. pointwise nat_eq a.now b.now) c.loop-name.seen q) ∙ ap (λ b. b || pointwise nat_eq c.as_str.result.now q.now) (c.loop-name.invariant.1 q)
          ∙ sym (rw (list_any_more (λ (n : Bor TheName). pointwise nat_eq n.now q.now) names i name c.loop-name-test.true, ← c.name-item.is, c.as_str.ensures.text) refl),
    )
