-- Where nothing is named, all of the descriptors are left.
use Rattle.std.proofs.Common.{◌≡◌, ◌<◌, ℕ, Bool, true, false, List, [], ◌∷◌, Some, map, replicate, length, slice_get, get_or, refl, sym, ap, ◌∙◌, inl, inr, arith}
use Rattle.std.specs.List.{list_all}
use Rattle.std.proofs.lemmas.Bool.{and_parts, and_from}
use Rattle.std.proofs.lemmas.Option.{slice_get_within, slice_get_cases, get_or_from_slice_get}
use Rattle.sql_ast.specs.declared.privilege.Descriptor.{Descriptor}
use Rattle.abstract_database.specs.Lists.{Among, drop_where}
use Rattle.abstract_database.specs.Privileges.{is_supported}
use Rattle.abstract_database.proofs.ElementLemmas.{among_at, index_of}
use Rattle.role_membership.proofs.Names.{same_tests}
use Rattle.grant_graph.specs.Supports.{MarkSupported, itself}

abbrev none : Descriptor → Bool
none d = false

none_named : (ds : List Descriptor) → replicate (length ds) false ≡ map none ds
none_named [] = refl
none_named (d ∷ ds) = ap (λ (l : List Bool). false ∷ l) (none_named ds)

none_dropped : (ds : List Descriptor) → drop_where none ds ≡ ds
none_dropped [] = refl
none_dropped (d ∷ ds) = ap (λ (l : List Descriptor). d ∷ l) (none_dropped ds)

pub all_holds : {X : Type 0} (f : X → Bool) (xs : List X) → ((x : X) → Among x xs → f x ≡ true) → list_all f xs ≡ true
all_holds f [] h = refl
all_holds f (x ∷ xs) h = and_from (f x) (list_all f xs) (h x (inl refl)) (all_holds f xs (λ y k. h y (inr k)))

pub all_found : {X : Type 0} (f : X → Bool) (xs : List X) → list_all f xs ≡ true → (x : X) → Among x xs → f x ≡ true
all_found f [] e x h = absurd h
all_found f (y ∷ ys) e x (inl is) = ap f (sym is) ∙ (and_parts (f y) (list_all f ys) e).0
all_found f (y ∷ ys) e x (inr later) = all_found f ys (and_parts (f y) (list_all f ys) e).1 x later

module _ (ds : List Descriptor) (named marks : List Bool) (is : named ≡ replicate (length ds) false) (are : MarkSupported named ds marks) where
  -- each mark is the test
  mark_is : (i : ℕ) (d : Descriptor) → slice_get ds i ≡ Some d → get_or marks i false ≡ is_supported ds d
  mark_is i d at = are.each false none (is ∙ none_named ds) i d d at refl ∙ ap (λ (set : List Descriptor). is_supported set d) (none_dropped ds)

  pub marks_are : list_all itself marks ≡ list_all (is_supported ds) ds
  marks_are = same_tests (list_all itself marks) (list_all (is_supported ds) ds)
      (λ e. all_holds (is_supported ds) ds (λ d h.
      let place = index_of ds d h in
      let inside = slice_get_within ds place.0 d place.1 in
      sym (mark_is place.0 d place.1) ∙ marked e place.0 (omega (arith, inside, are.count))))
      (λ e. all_holds itself marks (λ b h.
      let place = index_of marks b h in
      let inside = slice_get_within marks place.0 b place.1 in
      elim ((slice_get_cases ds place.0).1) [
        | inl there ↦ sym (get_or_from_slice_get marks place.0 b false place.1) ∙ mark_is place.0 there.0 there.2 ∙ all_found (is_supported ds) ds e there.0 (among_at ds place.0 there.0 there.2)
        | inr past ↦ absurd (omega (arith, inside, past.0, are.count))
      ]))
    where
      marked : list_all itself marks ≡ true → (i : ℕ) → i < length marks → get_or marks i false ≡ true
      marked e i lt = elim ((slice_get_cases marks i).1) [
        | inl there ↦ get_or_from_slice_get marks i there.0 false there.2 ∙ all_found itself marks e there.0 (among_at marks i there.0 there.2)
        | inr past ↦ absurd (omega (arith, lt, past.0))
      ]
