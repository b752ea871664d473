-- What the commits of a copy make of its records.
use Rattle.std.proofs.Common.{◌≡◌, ℕ, Bool, true, false, if◌then◌else◌, List, [], ◌∷◌, ◌++◌, Some, None, refl, sym, ap, subst, ◌∙◌}
use Rattle.std.proofs.lemmas.List.{append_assoc}
use Rattle.std.specs.declared.cmp.Ordering.{Ordering}
use Rattle.std.specs.declared.cmp.Ordering.TheVariants.{Less, Equal, Greater}
use Rattle.std.specs.Ordering.{is_gt}
use Rattle.store.specs.Records.{Record, Records, Changes, key_cmp, IsBefore, IsOrdered, changed, changed_by, applied, is_from}
use Rattle.store.proofs.Changes.{put_applied, after, itself, reversed, ordered_changed, ordered_entries_where}
use Rattle.store.proofs.InOrder.{start_ordered}
use Rattle.store.proofs.Scans.{next_key}
use Rattle.copies.specs.RecordCopies.{put_in, mark, behind_mark, unmarked}

-- a record behind all others
put_last : (e : Record) (es more : Records) → IsOrdered (es ++ (e ∷ more)) → changed e.0 (Some e.1) es ≡ es ++ (e ∷ [])
put_last e [] more o = refl
put_last e (x ∷ es) more o = last (key_cmp e.0 x.0) (after x.0 e.0 (less es o.0)) (put_last e es more o.1)
  where
    less : (xs : Records) → IsBefore x.0 (xs ++ (e ∷ more)) → key_cmp x.0 e.0 ≡ Less
    less [] h = h.0
    less (y ∷ ys) h = less ys h.1

    last : (r : Ordering) → r ≡ Greater → changed e.0 (Some e.1) es ≡ es ++ (e ∷ []) → changed_by r e.0 (Some e.1) x es (changed e.0 (Some e.1) es) ≡ x ∷ (es ++ (e ∷ []))
    last Greater is later = ap (λ (xs : Records). x ∷ xs) later
    last Less is later = absurd cc
    last Equal is later = absurd cc

ordered_put_in : (xs : Records) (cs : Changes) → IsOrdered cs → IsOrdered (put_in xs cs)
ordered_put_in [] cs o = o
ordered_put_in (x ∷ xs) cs o = ordered_put_in xs _ (ordered_changed x.0 (Some (Some x.1)) cs o)

-- records in order that are put into changes come behind what these make
pub puts_append : (xs more : Records) (cs : Changes) (es : Records) → IsOrdered cs → IsOrdered es → IsOrdered (applied cs es ++ (xs ++ more)) → applied (put_in xs cs) es ≡ applied cs es ++ xs
puts_append [] more cs es oc oe o = none (applied cs es)
  where
    none : (ys : Records) → ys ≡ ys ++ []
    none [] = refl
    none (y ∷ ys) = ap (λ (zs : Records). y ∷ zs) (none ys)
puts_append (x ∷ xs) more cs es oc oe o =
    let step : applied (changed x.0 (Some (Some x.1)) cs) es ≡ applied cs es ++ (x ∷ []) = put_applied x.0 (Some x.1) cs es oc oe ∙ put_last x (applied cs es) (xs ++ more) o in
    let same : applied cs es ++ (x ∷ (xs ++ more)) ≡ (applied cs es ++ (x ∷ [])) ++ (xs ++ more) = sym (append_assoc (applied cs es) (x ∷ []) (xs ++ more)) in
    let later : IsOrdered (applied (changed x.0 (Some (Some x.1)) cs) es ++ (xs ++ more)) = subst (λ (ys : Records). IsOrdered (ys ++ (xs ++ more))) (sym step) (subst IsOrdered same o) in
    puts_append xs more (changed x.0 (Some (Some x.1)) cs) es (ordered_changed x.0 (Some (Some x.1)) cs oc) oe later ∙ ap (λ (ys : Records). ys ++ xs) step ∙ append_assoc (applied cs es) (x ∷ []) xs

-- a commit of records behind those that the copy has
pub grows : (had xs more : Records) → IsOrdered (mark ∷ (had ++ (xs ++ more))) → applied (put_in xs []) (mark ∷ had) ≡ mark ∷ (had ++ xs)
grows had xs more o = puts_append xs more [] (mark ∷ had) tt (start_ordered (mark ∷ had) (xs ++ more) o) o

-- the mark goes with the last of them
pub ends : (had xs : Records) → IsOrdered (mark ∷ (had ++ xs)) → applied (unmarked (put_in xs [])) (mark ∷ had) ≡ had ++ xs
ends had xs o =
    put_applied (0 ∷ []) None (put_in xs []) (mark ∷ had) (ordered_put_in xs [] tt) (start_ordered (mark ∷ had) xs o)
    ∙ ap (λ (ys : Records). changed (0 ∷ []) None ys) (puts_append xs [] [] (mark ∷ had) tt (start_ordered (mark ∷ had) xs o) (subst (λ (ys : Records). IsOrdered (mark ∷ (had ++ ys))) (none xs) o))
    ∙ gone (key_cmp (0 ∷ []) (0 ∷ [])) (itself (0 ∷ []))
  where
    none : (ys : Records) → ys ≡ ys ++ []
    none [] = refl
    none (y ∷ ys) = ap (λ (zs : Records). y ∷ zs) (none ys)

    gone : (r : Ordering) → r ≡ Equal → changed_by r (0 ∷ []) None mark (had ++ xs) (changed (0 ∷ []) None (had ++ xs)) ≡ had ++ xs
    gone Equal is = refl
    gone Less is = absurd cc
    gone Greater is = absurd cc

-- the mark comes before the records behind it, which are in order
pub marked_in_order : (records : Records) → IsOrdered records → IsOrdered (mark ∷ behind_mark records)
marked_in_order records o = (behind records, ordered_entries_where (is_from (0 ∷ 0 ∷ [])) records o)
  where
    greater : (r : Ordering) → is_gt r ≡ true → r ≡ Greater
    greater Greater is = refl
    greater Less is = absurd cc
    greater Equal is = absurd cc

    less : (key : List ℕ) → is_from (0 ∷ 0 ∷ []) key ≡ true → key_cmp (0 ∷ []) key ≡ Less
    less key is = reversed key (0 ∷ []) (greater (key_cmp key (0 ∷ [])) (sym (next_key (0 ∷ []) key) ∙ is))

    one : (b : Bool) (e : Record) (es : Records) → (b ≡ true → key_cmp (0 ∷ []) e.0 ≡ Less) → IsBefore (0 ∷ []) es → IsBefore (0 ∷ []) (if b then e ∷ es else es)
    one true e es h later = (h refl, later)
    one false e es h later = later

    behind : (es : Records) → IsBefore (0 ∷ []) (behind_mark es)
    behind [] = tt
    behind (e ∷ es) = one (is_from (0 ∷ 0 ∷ []) e.0) e (behind_mark es) (less e.0) (behind es)
