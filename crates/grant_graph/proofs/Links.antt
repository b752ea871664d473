-- Chains of elements are chains of supports in what is left of the descriptors.
use Rattle.std.proofs.Common.{◌≡◌, ◌⊎◌, ◌+◌, ◌-◌, ◌++◌, ◌&&◌, ◌||◌, length, take, drop, ℕ, Bool, true, false, not, cond, List, [], ◌∷◌, Option, Some, None, Bor, bytes_eq, nat_eq, map, slice_get, get_or, refl, sym, ap, ◌∙◌, subst, inl, inr, arith}
use Rattle.std.specs.Option.{option_map, option_eq}
use Rattle.std.proofs.lemmas.Bool.{false≢true, cases_lt, or_cases, or_left, or_right, and_parts, and_from}
use Rattle.std.proofs.lemmas.List.{length-append, get_or_append_left, get_or-append-add, get_or-take, get_or-drop}
use Rattle.std.proofs.lemmas.Option.{same_Some, slice_get_within, slice_get-map, slice_get-get_or, get_or_from_slice_get, slice_get_cases}
use Rattle.sql_ast.specs.declared.privilege.Grantor.{Grantor}
use Rattle.sql_ast.specs.declared.privilege.Grantor.TheVariants as grantor
use Rattle.sql_ast.specs.declared.privilege.Grantee.{Grantee}
use Rattle.sql_ast.specs.declared.privilege.Grantee.TheVariants as grantee
use Rattle.sql_ast.specs.declared.privilege.Descriptor.{Descriptor}
use Rattle.reachability.specs.declared.keyed.Element.{Element}
use Rattle.reachability.specs.Keyed.{gives_key, IsReachedByKeys, AreReachedByKeys}
use Rattle.reachability.specs.Keyed.{by_start as start_by_keys, by_step as step_by_keys}
use Rattle.abstract_database.specs.Chains.{by_start, by_step}
use Rattle.abstract_database.specs.Lists.{TheName, Among, change_where}
use Rattle.abstract_database.specs.Database.{action_number, same_action}
use Rattle.abstract_database.specs.Privileges.{covers, is_of_system, supports, is_same_role, IsSupported, is_supported, without_option}
use Rattle.abstract_database.proofs.ElementLemmas.{among_at, index_of, of_filter, into_filter}
use Rattle.abstract_database.proofs.ChainLemmas.{found_support, support_found, led_among}
use Rattle.role_membership.proofs.Elements.{same_lent}
use Rattle.role_membership.proofs.Names.{same_tests}
use Rattle.grant_graph.specs.Keys.{Right, LentRight, lent_right, column_needed, right_needed, grantor_role, grantee_role, now_of}
use Rattle.grant_graph.specs.Supports.{GivesRight, IsElementOf, AreElementsOfFirst, AreElementsOf, AreEitherOfFirst, left, left_of, MarkSupported}

-- ---- one right is another one

abbrev pub same_right : LentRight → LentRight → Bool
same_right a b = ((option_eq same_lent a.0 b.0 && bytes_eq a.1.now b.1.now) && nat_eq a.2 b.2) && option_eq nat_eq a.3 b.3

-- both are roles, of one name
abbrev is_role_of : Option TheName → Option TheName → Bool
is_role_of None other = false
is_role_of (Some name) None = false
is_role_of (Some name) (Some other) = bytes_eq name other

role_of : (r : TheName) (a b : Option (Bor TheName)) → option_map now_of a ≡ Some r → option_eq same_lent a b ≡ is_role_of (Some r) (option_map now_of b)
role_of r None b e = cc
role_of r (Some x) None e = refl
role_of r (Some x) (Some y) e = ap (λ (n : TheName). bytes_eq n y.now) (same_Some x.now r e)

and_false : (a : Bool) → (a && false) ≡ false
and_false true = refl
and_false false = refl

no_option : (a r : Bool) → ((a && false) && r) ≡ false
no_option true r = refl
no_option false r = refl

turned : (o t a c : Bool) → (((o && t) && a) && c) ≡ ((((t && a) && c) && true) && o)
turned true true true true = refl
turned true true true false = refl
turned true true false c = refl
turned true false a c = refl
turned false true true true = refl
turned false true true false = refl
turned false true false c = refl
turned false false a c = refl

-- whether a descriptor of these parts gives the right
abbrev gives_it : Bool → Option TheName → TheName → ℕ → Option ℕ → LentRight → Bool
gives_it grantable role table number column w = (bytes_eq table w.1.now && nat_eq number w.2 && option_eq nat_eq column w.3 && grantable) && is_role_of role (option_map now_of w.0)

right_is_given : (grantable : Bool) (role : Option TheName) (table : TheName) (number : ℕ) (column : Option ℕ) (given : Option LentRight) (w : LentRight) → GivesRight grantable role (role, table, number, column) given → gives_key same_right given w ≡ gives_it grantable role table number column w
right_is_given true (Some r) table number column (Some k) w h =
    let roles : option_map now_of k.0 ≡ Some r = ap (λ (x : Right). x.0) h in
    let tables : k.1.now ≡ table = ap (λ (x : Right). x.1) h in
    let numbers : k.2 ≡ number = ap (λ (x : Right). x.2) h in
    let columns : k.3 ≡ column = ap (λ (x : Right). x.3) h in
    rw (role_of r k.0 w.0 roles, tables, numbers, columns) (turned (is_role_of (Some r) (option_map now_of w.0)) (bytes_eq table w.1.now) (nat_eq number w.2) (option_eq nat_eq column w.3))
right_is_given true (Some r) table number column None w h = absurd h
right_is_given true None table number column given w h = rw h (sym (and_false (bytes_eq table w.1.now && nat_eq number w.2 && option_eq nat_eq column w.3 && true)))
right_is_given false role table number column given w h = rw h (sym (no_option (bytes_eq table w.1.now && nat_eq number w.2 && option_eq nat_eq column w.3) (is_role_of role (option_map now_of w.0))))

same_roles : (g : Grantee) (h : Grantor) → is_role_of (grantee_role g) (grantor_role h) ≡ is_same_role g h
same_roles grantee.Public h = refl
same_roles (grantee.Role name) grantor.System = refl
same_roles (grantee.Role name) (grantor.Role other) = refl

-- whether the one supports the other by the right on its column, or by that on the whole table
abbrev supports_by : Bool → Descriptor → Descriptor → Bool
supports_by on_table x y = (bytes_eq x.table y.table && same_action x.action y.action && option_eq nat_eq x.column (column_needed on_table y) && x.grantable) && is_same_role x.grantee y.grantor

-- what gives the right that is needed supports what needs it
by_right : (x y : Descriptor) (on_table : Bool) (w : LentRight) → lent_right w ≡ right_needed on_table y → gives_it x.grantable (grantee_role x.grantee) x.table (action_number x.action) x.column w ≡ supports_by on_table x y
by_right x y on_table w is =
    let roles : option_map now_of w.0 ≡ grantor_role y.grantor = ap (λ (r : Right). r.0) is in
    let tables : w.1.now ≡ y.table = ap (λ (r : Right). r.1) is in
    let numbers : w.2 ≡ action_number y.action = ap (λ (r : Right). r.2) is in
    let columns : w.3 ≡ column_needed on_table y = ap (λ (r : Right). r.3) is in
    rw (roles, tables, numbers, columns, same_roles x.grantee y.grantor) refl

covering : (on_table : Bool) (c : Option ℕ) (y : Descriptor) → option_eq nat_eq c (column_needed on_table y) ≡ true → covers c y.column ≡ true
covering on_table None y e = refl
covering true (Some i) y e = cc
covering false (Some i) y e = at y.column e where
  at : (k : Option ℕ) → option_eq nat_eq (Some i) k ≡ true → covers (Some i) k ≡ true
  at None e = cc
  at (Some j) e = e

covered : (c : Option ℕ) (y : Descriptor) → covers c y.column ≡ true → (on_table : Bool) × (option_eq nat_eq c (column_needed on_table y) ≡ true)
covered None y e = (true, refl)
covered (Some i) y e = (false, at y.column e) where
  at : (k : Option ℕ) → covers (Some i) k ≡ true → option_eq nat_eq (Some i) k ≡ true
  at None e = cc
  at (Some j) e = e

supports_from : (on_table : Bool) (x y : Descriptor) → supports_by on_table x y ≡ true → supports x y ≡ true
supports_from on_table x y e =
    let c = option_eq nat_eq x.column (column_needed on_table y) in
    let front = bytes_eq x.table y.table && same_action x.action y.action in
    let whole = and_parts (front && c && x.grantable) (is_same_role x.grantee y.grantor) e in
    let option = and_parts (front && c) x.grantable whole.0 in
    let column = and_parts front c option.0 in
    and_from (front && covers x.column y.column && x.grantable) (is_same_role x.grantee y.grantor)
    (and_from (front && covers x.column y.column) x.grantable (and_from front (covers x.column y.column) column.0 (covering on_table x.column y column.1)) option.1) whole.1

supports_to : (x y : Descriptor) → supports x y ≡ true → (on_table : Bool) × (supports_by on_table x y ≡ true)
supports_to x y e =
    let front = bytes_eq x.table y.table && same_action x.action y.action in
    let whole = and_parts (front && covers x.column y.column && x.grantable) (is_same_role x.grantee y.grantor) e in
    let option = and_parts (front && covers x.column y.column) x.grantable whole.0 in
    let column = and_parts front (covers x.column y.column) option.0 in
    let by = covered x.column y column.1 in
    let c = option_eq nat_eq x.column (column_needed by.0 y) in
    (by.0, and_from (front && c && x.grantable) (is_same_role x.grantee y.grantor) (and_from (front && c) x.grantable (and_from front c column.0 by.1) option.1) whole.1)

-- ---- what is left of a descriptor

left_needs : (option named on_table : Bool) (d x : Descriptor) → left_of option named d ≡ Some x → right_needed on_table x ≡ right_needed on_table d
left_needs false true on_table d x e = cc
left_needs true true false d x e = ap (right_needed false) (sym (same_Some (without_option d) x e))
left_needs true true true d x e = ap (right_needed true) (sym (same_Some (without_option d) x e))
left_needs true false on_table d x e = ap (right_needed on_table) (sym (same_Some d x e))
left_needs false false on_table d x e = ap (right_needed on_table) (sym (same_Some d x e))

left_starts : (option named : Bool) (d x : Descriptor) → left_of option named d ≡ Some x → is_of_system d ≡ is_of_system x
left_starts false true d x e = cc
left_starts true true d x e = ap is_of_system (same_Some (without_option d) x e)
left_starts true false d x e = ap is_of_system (same_Some d x e)
left_starts false false d x e = ap is_of_system (same_Some d x e)

left_gives : (option named on_table : Bool) (d x : Descriptor) (e : Element LentRight) (w : LentRight) → left_of option named d ≡ Some x → IsElementOf on_table d named e
    → gives_key same_right e.gives w ≡ gives_it x.grantable (grantee_role x.grantee) x.table (action_number x.action) x.column w
left_gives false true on_table d x e w is el = cc
left_gives true true on_table d x e w is el =
    let same = same_Some (without_option d) x is in
    rw (el.nothing refl, ← same) (sym (no_option (bytes_eq d.table w.1.now && nat_eq (action_number d.action) w.2 && option_eq nat_eq d.column w.3) (is_role_of (grantee_role d.grantee) (option_map now_of w.0))))
left_gives true false on_table d x e w is el =
    let same = same_Some d x is in
    rw (← same) (right_is_given d.grantable (grantee_role d.grantee) d.table (action_number d.action) d.column e.gives w (el.gives refl))
left_gives false false on_table d x e w is el =
    let same = same_Some d x is in
    rw (← same) (right_is_given d.grantable (grantee_role d.grantee) d.table (action_number d.action) d.column e.gives w (el.gives refl))

-- what gives a right is left
left_some : (option named on_table : Bool) (d : Descriptor) (e : Element LentRight) (k : LentRight) → IsElementOf on_table d named e → e.gives ≡ Some k → (x : Descriptor) × (left_of option named d ≡ Some x)
left_some option true on_table d e k el given = let none = el.nothing refl in cc
left_some true false on_table d e k el given = (d, refl)
left_some false false on_table d e k el given = (d, refl)

gives_some : (g : Option LentRight) (w : LentRight) → gives_key same_right g w ≡ true → (k : LentRight) × (g ≡ Some k)
gives_some None w e = absurd (false≢true e)
gives_some (Some k) w e = (k, refl)

-- ---- what is left of all

pub changed_among : (test : Descriptor → Bool) (f : Descriptor → Descriptor) (ds : List Descriptor) (d : Descriptor) → Among d ds → Among (cond (test d) (f d) d) (change_where test f ds)
changed_among test f [] d h = absurd h
changed_among test f (y ∷ ys) d (inl is) = inl (ap (λ (x : Descriptor). cond (test x) (f x) x) is)
changed_among test f (y ∷ ys) d (inr later) = inr (changed_among test f ys d later)

changed_from : (test : Descriptor → Bool) (f : Descriptor → Descriptor) (ds : List Descriptor) (x : Descriptor) → Among x (change_where test f ds) → (d : Descriptor) × Among d ds × (cond (test d) (f d) d ≡ x)
changed_from test f [] x h = absurd h
changed_from test f (y ∷ ys) x (inl is) = (y, inl refl, is)
changed_from test f (y ∷ ys) x (inr later) = let rest = changed_from test f ys x later in (rest.0, inr rest.1, rest.2)

left_in_place : (named : Bool) (d x : Descriptor) → left_of true named d ≡ Some x → cond named (without_option d) d ≡ x
left_in_place true d x e = same_Some (without_option d) x e
left_in_place false d x e = same_Some d x e

pub in_place_left : (named : Bool) (d x : Descriptor) → cond named (without_option d) d ≡ x → left_of true named d ≡ Some x
in_place_left true d x e = ap (λ (y : Descriptor). Some y) e
in_place_left false d x e = ap (λ (y : Descriptor). Some y) e

pub kept_alone : (named : Bool) (d x : Descriptor) → left_of false named d ≡ Some x → (not named ≡ true) × (d ≡ x)
kept_alone true d x e = cc
kept_alone false d x e = (refl, same_Some d x e)

pub alone_kept : (named : Bool) (x : Descriptor) → not named ≡ true → left_of false named x ≡ Some x
alone_kept true x e = cc
alone_kept false x e = refl

-- ---- the marks

pub mark_at : (test : Descriptor → Bool) (ds : List Descriptor) (marks : List Bool) (i : ℕ) (d : Descriptor) → marks ≡ map test ds → slice_get ds i ≡ Some d → get_or marks i false ≡ test d
mark_at test ds marks i d is at = ap (λ (l : List Bool). get_or l i false) is ∙ get_or_from_slice_get (map test ds) i (test d) false (slice_get-map test ds i ∙ ap (λ (o : Option Descriptor). option_map test o) at)

module _ (ds : List Descriptor) (test : Descriptor → Bool) where
  pub among_left : (o : Bool) (i : ℕ) (d x : Descriptor) → slice_get ds i ≡ Some d → left_of o (test d) d ≡ Some x → Among x (left o test ds)
  among_left false i d x at e =
      let kept = kept_alone (test d) d x e in
      subst (λ (y : Descriptor). Among y (left false test ds)) kept.1 (into_filter (λ (y : Descriptor). not (test y)) ds d (among_at ds i d at) kept.0)
  among_left true i d x at e = subst (λ (y : Descriptor). Among y (left true test ds)) (left_in_place (test d) d x e) (changed_among test without_option ds d (among_at ds i d at))

  pub place_of : (o : Bool) (x : Descriptor) → Among x (left o test ds) → (i : ℕ) × (d : Descriptor) × (slice_get ds i ≡ Some d) × (left_of o (test d) d ≡ Some x)
  place_of false x h =
      let kept = of_filter (λ (y : Descriptor). not (test y)) ds x h in
      let place = index_of ds x kept.0 in
      (place.0, x, place.1, alone_kept (test x) x kept.1)
  place_of true x h =
      let from = changed_from test without_option ds x h in
      let place = index_of ds from.0 from.1 in
      (place.0, from.0, place.1, in_place_left (test from.0) from.0 x from.2)

-- ---- two lists, one after the other

module _ {X : Type 0} (xs ys : List X) where
  get_left : (i : ℕ) (x : X) → slice_get xs i ≡ Some x → slice_get (xs ++ ys) i ≡ Some x
  get_left i x at =
      let inside = slice_get_within xs i x at in
      slice_get-get_or (xs ++ ys) i x (omega (arith, inside, length-append xs ys))
      ∙ ap (λ (y : X). Some y) (get_or_append_left xs ys x i inside ∙ get_or_from_slice_get xs i x x at)

  get_right : (i : ℕ) (y : X) → slice_get ys i ≡ Some y → slice_get (xs ++ ys) (length xs + i) ≡ Some y
  get_right i y at =
      let inside = slice_get_within ys i y at in
      slice_get-get_or (xs ++ ys) (length xs + i) y (omega (arith, inside, length-append xs ys))
      ∙ ap (λ (x : X). Some x) (get_or-append-add xs ys i y ∙ get_or_from_slice_get ys i y y at)

  get_either : (j : ℕ) (x : X) → slice_get (xs ++ ys) j ≡ Some x → (slice_get xs j ≡ Some x) ⊎ ((i : ℕ) × (j ≡ length xs + i) × (slice_get ys i ≡ Some x))
  get_either j x at =
      let within = slice_get_within (xs ++ ys) j x at in
      let is : get_or (xs ++ ys) j x ≡ x = get_or_from_slice_get (xs ++ ys) j x x at in
      elim (cases_lt j (length xs)) [
        | inl before ↦ inl (slice_get-get_or xs j x before ∙ ap (λ (y : X). Some y) (sym (get_or_append_left xs ys x j before) ∙ is))
        | inr from ↦
            let i = j - length xs in
            let j_is : j ≡ length xs + i = omega (arith, from) in
            inr (
              i,
              j_is,
              slice_get-get_or ys i x (omega (arith, from, within, length-append xs ys))
                  ∙ ap (λ (y : X). Some y) (sym (get_or-append-add xs ys i x) ∙ ap (λ (k : ℕ). get_or (xs ++ ys) k x) (sym j_is) ∙ is),
            )
      ]

-- ---- the elements

-- the index of the element of the descriptor at i that waits for the right on its column, or on the whole table
abbrev at_index : List Descriptor → Bool → ℕ → ℕ
at_index ds false i = i
at_index ds true i = length ds + i

-- the descriptor of which this is the element at j
record ComesFrom (ds : List Descriptor) (test : Descriptor → Bool) (j : ℕ) (e : Element LentRight) : Type 0 where
  on_table : Bool
  place : ℕ
  descriptor : Descriptor
  there : slice_get ds place ≡ Some descriptor
  index : j ≡ at_index ds on_table place
  element : IsElementOf on_table descriptor (test descriptor) e

module _ (named : List Bool) (ds : List Descriptor) (es : List (Element LentRight)) (are : AreElementsOf named ds es) (option : Bool) (test : Descriptor → Bool) (is : named ≡ map test ds) where
  one_of_first : (on_table : Bool) (list : List (Element LentRight)) → AreElementsOfFirst on_table (length ds) named ds list → (i : ℕ) (d : Descriptor) → slice_get ds i ≡ Some d → (e : Element LentRight) × (slice_get list i ≡ Some e) × IsElementOf on_table d (test d) e
  one_of_first on_table list first i d at = elim ((slice_get_cases list i).1) [
    | inl there ↦ (there.0, there.2, subst (λ (b : Bool). IsElementOf on_table d b there.0) (mark_at test ds named i d is at) (first.each i d there.0 at there.2))
    | inr past ↦ absurd (let inside = slice_get_within ds i d at in omega (arith, inside, past.0, first.count))
  ]

  element_at : (on_table : Bool) (i : ℕ) (d : Descriptor) → slice_get ds i ≡ Some d → (e : Element LentRight) × (slice_get es (at_index ds on_table i) ≡ Some e) × IsElementOf on_table d (test d) e
  element_at false i d at =
      let found = one_of_first false are.on_columns are.columns i d at in
      (found.0, ap (λ (l : List (Element LentRight)). slice_get l i) are.list ∙ get_left are.on_columns are.on_tables i found.0 found.1, found.2)
  element_at true i d at =
      let found = one_of_first true are.on_tables are.tables i d at in (
        found.0,
        ap (λ (l : List (Element LentRight)). slice_get l (length ds + i)) are.list
            ∙ ap (λ (k : ℕ). slice_get (are.on_columns ++ are.on_tables) (k + i)) (sym are.columns.count)
            ∙ get_right are.on_columns are.on_tables i found.0 found.1,
        found.2,
      )

  comes_from : (j : ℕ) (e : Element LentRight) → slice_get es j ≡ Some e → ComesFrom ds test j e
  comes_from j e at = elim (get_either are.on_columns are.on_tables j e (ap (λ (l : List (Element LentRight)). slice_get l j) (sym are.list) ∙ at)) [
    | inl own ↦ from_first false are.on_columns are.columns j own refl
    | inr later ↦ from_first true are.on_tables are.tables later.0 later.2 (later.1 ∙ ap (λ (k : ℕ). k + later.0) are.columns.count)
  ] where
    from_first : (on_table : Bool) (list : List (Element LentRight)) → AreElementsOfFirst on_table (length ds) named ds list → (i : ℕ) → slice_get list i ≡ Some e → j ≡ at_index ds on_table i → ComesFrom ds test j e
    from_first on_table list first i there j_is = elim ((slice_get_cases ds i).1) [
      | inl d ↦ record {
        on_table = on_table;
        place = i;
        descriptor = d.0;
        there = d.2;
        index = j_is;
        element = subst (λ (b : Bool). IsElementOf on_table d.0 b e) (mark_at test ds named i d.0 is d.2) (first.each i d.0 e d.2 there);
      }
      | inr past ↦ absurd (let inside = slice_get_within list i e there in omega (arith, inside, past.0, first.count))
    ]

  -- what an element that is reached stands for is supported
  supported_if : (j : ℕ) → IsReachedByKeys same_right es j → (on_table : Bool) (i : ℕ) (d x : Descriptor) → j ≡ at_index ds on_table i → slice_get ds i ≡ Some d → left_of option (test d) d ≡ Some x → IsSupported (left option test ds) x
  supported_if _ (start_by_keys j e at start) on_table i d x j_is there l =
      let here = element_at on_table i d there in
      let same : here.0 ≡ e = same_Some here.0 e (sym here.1 ∙ ap (λ (k : ℕ). slice_get es k) (sym j_is) ∙ at) in
      by_start x (among_left ds test option i d x there l) (sym (left_starts option (test d) d x l) ∙ sym here.2.start ∙ ap (λ (f : Element LentRight). f.is_start) same ∙ start)
  supported_if _ (step_by_keys p q f e r at_p at_q k) on_table i d x q_is there l =
      let from = comes_from p f at_p in
      let some = gives_some f.gives e.waits_for k in
      let before = left_some option (test from.descriptor) from.on_table from.descriptor f some.0 from.element some.1 in
      let here = element_at on_table i d there in
      let same : here.0 ≡ e = same_Some here.0 e (sym here.1 ∙ ap (λ (m : ℕ). slice_get es m) (sym q_is) ∙ at_q) in
      let needs : lent_right e.waits_for ≡ right_needed on_table x = ap (λ (g : Element LentRight). lent_right g.waits_for) (sym same) ∙ here.2.waits_for ∙ sym (left_needs option (test d) on_table d x l) in
      let given = sym (left_gives option (test from.descriptor) from.on_table from.descriptor before.0 f e.waits_for before.1 from.element) ∙ k in
      by_step before.0 x (supported_if p r from.on_table from.place from.descriptor before.0 from.index from.there before.1) (among_left ds test option i d x there l)
      (supports_from on_table before.0 x (sym (by_right before.0 x on_table e.waits_for needs) ∙ given))

  -- and of what is supported one of the two elements is reached
  reached_if : (x : Descriptor) → IsSupported (left option test ds) x → (i : ℕ) (d : Descriptor) → slice_get ds i ≡ Some d → left_of option (test d) d ≡ Some x → (on_table : Bool) × IsReachedByKeys same_right es (at_index ds on_table i)
  reached_if _ (by_start x h start) i d there l =
      let here = element_at false i d there in
      (false, start_by_keys i here.0 here.1 (here.2.start ∙ left_starts option (test d) d x l ∙ start))
  reached_if _ (by_step p x c h e) i d there l =
      let place = place_of ds test option p (led_among is_of_system supports (left option test ds) p c) in
      let before = reached_if p c place.0 place.1 place.2 place.3 in
      let at_p = element_at before.0 place.0 place.1 place.2 in
      let by = supports_to p x e in
      let here = element_at by.0 i d there in
      let needs : lent_right here.0.waits_for ≡ right_needed by.0 x = here.2.waits_for ∙ sym (left_needs option (test d) by.0 d x l) in (
        by.0,
        step_by_keys (at_index ds before.0 place.0) (at_index ds by.0 i) at_p.0 here.0 before.1 at_p.1 here.1
            (left_gives option (test place.1) before.0 place.1 p at_p.0 here.0.waits_for place.3 at_p.2 ∙ by_right p x by.0 here.0.waits_for needs ∙ by.1),
      )

  supported_at : (marks : List Bool) → AreReachedByKeys same_right es marks → (i : ℕ) (d x : Descriptor) → slice_get ds i ≡ Some d → left_of option (test d) d ≡ Some x
      → (get_or marks i false || get_or marks (length ds + i) false) ≡ is_supported (left option test ds) x
  supported_at marks reached i d x there l = same_tests (get_or marks i false || get_or marks (length ds + i) false) (is_supported (left option test ds) x)
      (λ either. support_found (left option test ds) x (elim (or_cases (get_or marks i false) (get_or marks (length ds + i) false) either) [
        | inl own ↦ supported_if i ((reached.each i).0 own) false i d x refl there l
        | inr whole ↦ supported_if (length ds + i) ((reached.each (length ds + i)).0 whole) true i d x refl there l
      ]))
      (λ found. let way = reached_if x (found_support (left option test ds) x (among_left ds test option i d x there l) found) i d there l in marked way.0 way.1)
    where
      marked : (on_table : Bool) → IsReachedByKeys same_right es (at_index ds on_table i) → (get_or marks i false || get_or marks (length ds + i) false) ≡ true
      marked false r = or_left (get_or marks i false) (get_or marks (length ds + i) false) ((reached.each i).1 r)
      marked true r = or_right (get_or marks i false) (get_or marks (length ds + i) false) ((reached.each (length ds + i)).1 r)

pub marks_supported : (named : List Bool) (ds : List Descriptor) (es : List (Element LentRight)) → AreElementsOf named ds es → (all : List Bool) → AreReachedByKeys same_right es all
    → (marks : List Bool) → AreEitherOfFirst (length ds) (take (length ds) all) (drop (length ds) all) marks → MarkSupported named ds marks
marks_supported named ds es are all reached marks either = record {
  count = either.count;
  each = λ option test is i d x at l.
      let inside = slice_get_within ds i d at in
      either.each i inside
      ∙ ap (λ (b : Bool). b || get_or (drop (length ds) all) i false) (get_or-take (length ds) all i false inside)
      ∙ ap (λ (b : Bool). get_or all i false || b) (get_or-drop (length ds) all i false)
      ∙ supported_at named ds es are option test is all reached i d x at l;
}
