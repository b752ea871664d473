-- The differences of two lists of which one has an item more, another in its place, or an item less: those of the item alone.
use Rattle.std.proofs.Common.{◌≡◌, ℕ, Bool, true, false, not, cond, List, [], ◌∷◌, map, filter, find, bytes_eq, Option, Some, option_to_list, refl, ap, sym, ◌∙◌, subst, inl, inr}
use Rattle.std.specs.declared.cmp.Ordering.{Ordering}
use Rattle.std.specs.declared.cmp.Ordering.TheVariants.{Less, Equal, Greater}
use Rattle.std.specs.Ordering.{is_lt, is_eq, ordering_reverse}
use Rattle.std.proofs.lemmas.Cmp.{nat_list_cmp_total}
use Rattle.std.proofs.lemmas.Map.Text.{is_eq-slice_cmp}
use Rattle.store.specs.Records.{Record, Records, Changes, key_cmp}
use Rattle.store.proofs.Changes.{itself, same_key, key_trans}
use Rattle.abstract_database.specs.Lists.{TheName, name_cmp, Among, Rising, put, the_new, drop_where}
use Rattle.abstract_database.proofs.ListLemmas.{bytes_same, same_bytes}
use Rattle.catalogue_changes.specs.Differences.{removal, put_of, replaced, differences, differences_by, differences_from}

turned : (a b : List ℕ) (o : Ordering) → key_cmp a b ≡ o → key_cmp b a ≡ ordering_reverse o
turned a b o e = nat_list_cmp_total.antisymm b a ∙ ap ordering_reverse e

nothing_left : (e : Record) (later : Changes) → replaced e e later ≡ later
nothing_left e later = ap (λ (b : Bool). cond b later (put_of e ∷ later)) (same_bytes e.1 e.1 refl)

-- what is in both, by itself
pub same_front : (e : Record) (es fs : Records) → differences (e ∷ es) (e ∷ fs) ≡ differences es fs
same_front e es fs =
    ap (λ (o : Ordering). differences_by o e e (differences es (e ∷ fs)) (differences es fs) (differences_from e (differences es) fs)) (itself e.0) ∙ nothing_left e (differences es fs)

pub none_differs : (es : Records) → differences es es ≡ []
none_differs [] = refl
none_differs (e ∷ es) = same_front e es es ∙ none_differs es

-- items in the order of their names, whose keys compare as these
module _ {X : Type 0} (name : X → TheName) (spell : X → Record) (agrees : (a b : X) → key_cmp (spell a).0 (spell b).0 ≡ name_cmp (name a) (name b)) where
  abbrev pub by_name : X → X → Ordering
  by_name a b = name_cmp (name a) (name b)

  abbrev pub named : TheName → X → Bool
  named n y = bytes_eq (name y) n

  not_named : (n : TheName) (y : X) (o : Ordering) → name_cmp (name y) n ≡ o → is_eq o ≡ false → named n y ≡ false
  not_named n y o c e = sym (is_eq-slice_cmp (name y) n) ∙ ap is_eq c ∙ e

  none_named : (n : TheName) (ys : List X) → ((y : X) → Among y ys → name_cmp n (name y) ≡ Less) → filter (named n) ys ≡ []
  none_named n [] h = refl
  none_named n (y ∷ ys) h =
      ap (λ (b : Bool). cond b (y ∷ filter (named n) ys) (filter (named n) ys)) (not_named n y Greater (turned n (name y) Less (h y (inl refl))) refl)
      ∙ none_named n ys (λ z among. h z (inr among))

  all_stay : (n : TheName) (ys : List X) → ((y : X) → Among y ys → name_cmp n (name y) ≡ Less) → drop_where (named n) ys ≡ ys
  all_stay n [] h = refl
  all_stay n (y ∷ ys) h =
      ap (λ (b : Bool). cond (not b) (y ∷ drop_where (named n) ys) (drop_where (named n) ys)) (not_named n y Greater (turned n (name y) Less (h y (inl refl))) refl)
      ∙ ap (λ (zs : List X). y ∷ zs) (all_stay n ys (λ z among. h z (inr among)))

  -- the item that is found is the only one of its name
  pub found_named : (n : TheName) (xs : List X) → Rising by_name xs → option_to_list (find (named n) xs) ≡ filter (named n) xs
  found_named n [] r = refl
  found_named n (y ∷ ys) r = go (named n y) refl (found_named n ys r.1) where
    go : (b : Bool) → named n y ≡ b → option_to_list (find (named n) ys) ≡ filter (named n) ys
        → option_to_list (cond b (Some y) (find (named n) ys)) ≡ cond b (y ∷ filter (named n) ys) (filter (named n) ys)
    go true c later = ap (λ (zs : List X). y ∷ zs) (sym (none_named n ys (λ z among. subst (λ (m : TheName). name_cmp m (name z) ≡ Less) (bytes_same (name y) n c) (r.0 z among))))
    go false c later = later

  -- ---- an item that is put

  module _ (x : X) where
    abbrev with_x : List X → List X
    with_x xs = put by_name the_new x xs

    abbrev put_by : Ordering → X → List X → List X
    put_by o y ys = cond (is_lt o) (x ∷ y ∷ ys) (cond (is_eq o) (x ∷ ys) (y ∷ with_x ys))

    abbrev of_item : List X → Changes
    of_item xs = differences (map spell (filter (named (name x)) xs)) (spell x ∷ [])

    abbrev kept : Bool → X → List X → Changes
    kept b y ys = differences (map spell (cond b (y ∷ ys) ys)) (spell x ∷ [])

    put_of_item : (xs : List X) → Rising by_name xs → differences (map spell xs) (map spell (with_x xs)) ≡ of_item xs
    put_of_item [] r = refl
    put_of_item (y ∷ ys) r = go (name_cmp (name x) (name y)) refl (put_of_item ys r.1) where
      sy : Record
      sy = spell y

      sx : Record
      sx = spell x

      mine : Records
      mine = map spell ys

      beside : (o : Ordering) → name_cmp (name x) (name y) ≡ o → key_cmp sy.0 sx.0 ≡ ordering_reverse o
      beside o c = agrees y x ∙ turned (name x) (name y) o c

      go : (o : Ordering) → name_cmp (name x) (name y) ≡ o → differences mine (map spell (with_x ys)) ≡ of_item ys
          → differences (sy ∷ mine) (map spell (put_by o y ys)) ≡ of_item (y ∷ ys)
      go Less c later =
          ap (λ (o : Ordering). differences_by o sy sx (differences mine (sx ∷ sy ∷ mine)) (differences mine (sy ∷ mine)) (differences_from sy (differences mine) (sy ∷ mine))) (beside Less c)
          ∙ ap (λ (cs : Changes). put_of sx ∷ cs) (none_differs (sy ∷ mine))
          ∙ sym (ap (λ (b : Bool). kept b y (filter (named (name x)) ys)) (not_named (name x) y Greater (turned (name x) (name y) Less c) refl)
          ∙ ap (λ (zs : List X). differences (map spell zs) (sx ∷ []))
          (none_named (name x) ys (λ z among. key_trans (name x) (name y) (name z) c (r.0 z among))))
      go Equal c later =
          ap (λ (o : Ordering). differences_by o sy sx (differences mine (sx ∷ mine)) (differences mine mine) (differences_from sy (differences mine) mine)) (beside Equal c)
          ∙ ap (replaced sy sx) (none_differs mine)
          ∙ sym (ap (λ (b : Bool). kept b y (filter (named (name x)) ys)) (sym (is_eq-slice_cmp (name y) (name x)) ∙ ap is_eq (turned (name x) (name y) Equal c))
          ∙ ap (λ (zs : List X). differences (map spell (y ∷ zs)) (sx ∷ []))
          (none_named (name x) ys (λ z among. subst (λ (n : TheName). name_cmp n (name z) ≡ Less) (sym (same_key (name x) (name y) c)) (r.0 z among)))
          ∙ ap (λ (o : Ordering). differences_by o sy sx (differences [] (sx ∷ [])) (differences [] []) (differences_from sy (differences []) [])) (beside Equal c))
      go Greater c later =
          same_front sy mine (map spell (with_x ys)) ∙ later
          ∙ sym (ap (λ (b : Bool). kept b y (filter (named (name x)) ys)) (not_named (name x) y Less (turned (name x) (name y) Greater c) refl))

    -- from the record that the item had, if any, to the one that it has
    pub changes_of_put : (xs : List X) → Rising by_name xs → (old : Option X) → old ≡ find (named (name x)) xs
        → differences (map spell (option_to_list old)) (spell x ∷ []) ≡ differences (map spell xs) (map spell (with_x xs))
    changes_of_put xs r old is =
        ap (λ (zs : List X). differences (map spell zs) (spell x ∷ [])) (ap option_to_list is ∙ found_named (name x) xs r) ∙ sym (put_of_item xs r)

  -- ---- an item that goes

  module _ (n : TheName) where
    abbrev removed : List X → Changes
    removed xs = differences (map spell (filter (named n) xs)) []

    first_goes : (y : X) (ys : List X) → Rising by_name (y ∷ ys) → differences (spell y ∷ map spell ys) (map spell ys) ≡ removal (spell y) ∷ []
    first_goes y [] r = refl
    first_goes y (z ∷ zs) r =
        let sy = spell y in
        let rest = map spell (z ∷ zs) in
        ap (λ (o : Ordering). differences_by o sy (spell z) (differences rest rest) (differences rest (map spell zs)) (differences_from sy (differences rest) (map spell zs)))
        (agrees y z ∙ r.0 z (inl refl))
        ∙ ap (λ (cs : Changes). removal sy ∷ cs) (none_differs rest)

    drop_of_item : (xs : List X) → Rising by_name xs → differences (map spell xs) (map spell (drop_where (named n) xs)) ≡ removed xs
    drop_of_item [] r = refl
    drop_of_item (y ∷ ys) r = go (named n y) refl (drop_of_item ys r.1) where
      go : (b : Bool) → named n y ≡ b → differences (map spell ys) (map spell (drop_where (named n) ys)) ≡ removed ys
          → differences (map spell (y ∷ ys)) (map spell (cond (not b) (y ∷ drop_where (named n) ys) (drop_where (named n) ys)))
          ≡ differences (map spell (cond b (y ∷ filter (named n) ys) (filter (named n) ys))) []
      go true c later =
          let later_than : (z : X) → Among z ys → name_cmp n (name z) ≡ Less = λ z among. subst (λ (m : TheName). name_cmp m (name z) ≡ Less) (bytes_same (name y) n c) (r.0 z among) in
          ap (λ (zs : List X). differences (map spell (y ∷ ys)) (map spell zs)) (all_stay n ys later_than)
          ∙ first_goes y ys r
          ∙ sym (ap (λ (zs : List X). differences (map spell (y ∷ zs)) []) (none_named n ys later_than))
      go false c later = same_front (spell y) (map spell ys) (map spell (drop_where (named n) ys)) ∙ later

    -- the removal of the record that the item had, if any
    pub changes_of_drop : (xs : List X) → Rising by_name xs → (old : Option X) → old ≡ find (named n) xs
        → differences (map spell (option_to_list old)) [] ≡ differences (map spell xs) (map spell (drop_where (named n) xs))
    changes_of_drop xs r old is =
        ap (λ (zs : List X). differences (map spell zs) []) (ap option_to_list is ∙ found_named n xs r) ∙ sym (drop_of_item xs r)
