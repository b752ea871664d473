-- Who holds a grant option.
use Rattle.std.proofs.Common.{◌≡◌, ◌<◌, ◌+◌, ◌++◌, ◌∷◌, ◌&&◌, ◌||◌, ℕ, zero, suc, Bool, true, false, cond, List, [], Option, Some, None, Bor, filter, take, drop, length, get_or, refl, sym, ap, ◌∙◌, arith}
use Rattle.std.specs.List.{list_any, flat_map}
use Rattle.std.specs.Option.{option_map}
use Rattle.std.proofs.lemmas.Bool.{or_left, or_right}
use Rattle.std.proofs.lemmas.List.{append-nil, take_more, drop_more}
use Rattle.std.proofs.lemmas.List.Folds.{list_any-append}
use Rattle.sql_ast.specs.declared.privilege.Privilege.{Privilege}
use Rattle.sql_ast.specs.declared.privilege.Descriptor.{Descriptor}
use Rattle.abstract_database.specs.Lists.{TheName, has_name, least, lesser}
use Rattle.abstract_database.specs.Privileges.{is_for, role_of, grant_option_holders}
use Rattle.grant_graph.specs.Keys.{now_of}
use Rattle.grant_graph.specs.Acting.{lent_names, least_with}

module _ (table : TheName) (p : Privilege) where
  abbrev holders : List Descriptor → List TheName
  holders ds = grant_option_holders ds table p

  cons_at : (b : Bool) (d : Descriptor) (rest : List Descriptor) → flat_map (λ x. role_of x.grantee) (cond b (d ∷ rest) rest) ≡ flat_map (λ x. role_of x.grantee) (cond b (d ∷ []) []) ++ flat_map (λ x. role_of x.grantee) rest
  cons_at true d rest = ap (λ (l : List TheName). l ++ flat_map (λ x. role_of x.grantee) rest) (sym (append-nil (role_of d.grantee)))
  cons_at false d rest = refl

  pub holders_cons : (d : Descriptor) (ds : List Descriptor) → holders (d ∷ ds) ≡ holders (d ∷ []) ++ holders ds
  holders_cons d ds = cons_at (is_for table p d && d.grantable) d (filter (λ x. is_for table p x && x.grantable) ds)

  -- none of the first n and none of one more
  none_pushed : (f : TheName → Bool) (ds : List Descriptor) (d : Descriptor) → list_any f (holders ds) ≡ false → list_any f (holders (d ∷ [])) ≡ false → list_any f (holders (ds ++ d ∷ [])) ≡ false
  none_pushed f [] d none here = here
  none_pushed f (x ∷ xs) d none here =
      let split : (list_any f (holders (x ∷ [])) || list_any f (holders xs)) ≡ false = sym (ap (list_any f) (holders_cons x xs) ∙ list_any-append f (holders (x ∷ [])) (holders xs)) ∙ none in
      let parts = or_none (list_any f (holders (x ∷ []))) (list_any f (holders xs)) split in
      ap (list_any f) (holders_cons x (xs ++ d ∷ [])) ∙ list_any-append f (holders (x ∷ [])) (holders (xs ++ d ∷ []))
      ∙ ap (λ (b : Bool). b || list_any f (holders (xs ++ d ∷ []))) parts.0 ∙ none_pushed f xs d parts.1 here
    where
      or_none : (b c : Bool) → (b || c) ≡ false → (b ≡ false) × (c ≡ false)
      or_none true c e = cc
      or_none false c e = (refl, e)

  pub none_more : (f : TheName → Bool) (ds : List Descriptor) (i : ℕ) (d : Descriptor) → i < length ds → d ≡ get_or ds i d → list_any f (holders (take i ds)) ≡ false → list_any f (holders (d ∷ [])) ≡ false → list_any f (holders (take (i + 1) ds)) ≡ false
  none_more f ds i d lt is none here =
      let front : take (i + 1) ds ≡ take i ds ++ d ∷ [] = take_more ds i d lt ∙ ap (λ (x : Descriptor). take i ds ++ x ∷ []) (sym is) in
      ap (λ (l : List Descriptor). list_any f (holders l)) front ∙ none_pushed f (take i ds) d none here

  pub one_holds : (f : TheName → Bool) (ds : List Descriptor) (i : ℕ) (d : Descriptor) → i < length ds → d ≡ get_or ds i d → list_any f (holders (d ∷ [])) ≡ true → list_any f (holders ds) ≡ true
  one_holds f [] i d lt is here = absurd (omega (arith, lt))
  one_holds f (x ∷ xs) zero d lt is here =
      ap (list_any f) (holders_cons x xs) ∙ list_any-append f (holders (x ∷ [])) (holders xs)
      ∙ or_left (list_any f (holders (x ∷ []))) (list_any f (holders xs)) (ap (λ (y : Descriptor). list_any f (holders (y ∷ []))) (sym is) ∙ here)
  one_holds f (x ∷ xs) (suc i) d lt is here =
      ap (list_any f) (holders_cons x xs) ∙ list_any-append f (holders (x ∷ [])) (holders xs)
      ∙ or_right (list_any f (holders (x ∷ []))) (list_any f (holders xs)) (one_holds f xs i d (omega (arith, lt)) is here)

  -- the least with one holder more
  module _ (roles : List TheName) where
    abbrev is_one : TheName → Bool
    is_one name = has_name name roles

    least_at : (b : Bool) (name : TheName) (rest : List TheName) → cond b (Some (lesser name (least (filter is_one rest)))) (least (filter is_one rest)) ≡ least (cond b (name ∷ filter is_one rest) (filter is_one rest))
    least_at true name rest = refl
    least_at false name rest = refl

    least_more : (h : Option (Bor TheName)) (rest : List TheName) → least_with roles (option_map now_of h) (least (filter is_one rest)) ≡ least (filter is_one (lent_names h ++ rest))
    least_more None rest = refl
    least_more (Some name) rest = least_at (is_one name.now) name.now rest

    pub best_more : (ds : List Descriptor) (i n : ℕ) (d : Descriptor) (h : Option (Bor TheName)) (best : Option TheName) → n ≡ i + 1 → i < length ds → d ≡ get_or ds i d → lent_names h ≡ holders (d ∷ [])
        → best ≡ least (filter is_one (holders (drop n ds))) → least_with roles (option_map now_of h) best ≡ least (filter is_one (holders (drop i ds)))
    best_more ds i n d h best next lt is names so_far =
        let front : drop i ds ≡ d ∷ drop n ds = drop_more ds i d lt ∙ ap (λ (x : Descriptor). x ∷ drop (i + 1) ds) (sym is) ∙ ap (λ (k : ℕ). d ∷ drop k ds) (sym next) in
        ap (λ (b : Option TheName). least_with roles (option_map now_of h) b) so_far
        ∙ least_more h (holders (drop n ds))
        ∙ ap (λ (l : List TheName). least (filter is_one (l ++ holders (drop n ds)))) names
        ∙ ap (λ (l : List TheName). least (filter is_one l)) (sym (holders_cons d (drop n ds)))
        ∙ ap (λ (l : List Descriptor). least (filter is_one (holders l))) (sym front)
