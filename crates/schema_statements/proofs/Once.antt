-- The privileges that a statement names, each once, grant what all of them do, in whatever order and however often it names them.
use Rattle.std.proofs.Common.{◌≡◌, ◌+◌, ◌++◌, ◌&&◌, ◌||◌, ℕ, nat_eq, Bool, true, false, not, cond, List, [], ◌∷◌, map, flat_map, Option, Some, None, is_some, position, option_to_list, take, Result, Ok, Err, refl, sym, ap, ◌∙◌, Ordering, Less, Equal, Greater, is_eq}
use Rattle.std.specs.List.{list_any, list_all}
use Rattle.std.specs.Option.{option_map, option_eq, option_cmp}
use Rattle.std.specs.Borrow.{Bor}
use Rattle.std.specs.Ordering.{nat_cmp, ordering_then}
use Rattle.std.proofs.lemmas.Bool.{and_parts}
use Rattle.std.proofs.lemmas.List.Folds.{list_any-append, list_all-append}
use Rattle.std.proofs.lemmas.List.{append_assoc, append-nil, map-append}
use Rattle.std.proofs.lemmas.Grind.{flat_map-append}
use Rattle.sql_types.specs.declared.state.SqlState.{SqlState}
use Rattle.sql_types.specs.declared.state.SqlState.TheVariants.{UndefinedColumn}
use Rattle.sql_ast.specs.Layout.{Layout}
use Rattle.sql_ast.specs.declared.privilege.Action.{Action}
use Rattle.sql_ast.specs.declared.privilege.Action.TheVariants.{Select, Insert, Update, Delete}
use Rattle.sql_ast.specs.declared.privilege.Privilege.{Privilege}
use Rattle.sql_ast.specs.declared.privilege.Grantee.{Grantee}
use Rattle.sql_ast.specs.declared.privilege.Descriptor.{Descriptor}
use Rattle.sql_ast.specs.declared.statement.Privileges.{Privileges}
use Rattle.sql_ast.specs.declared.statement.NamedAction.{NamedAction}
use Rattle.sql_ast.specs.declared.statement.Privileges.TheVariants.{All, Actions}
use Rattle.expressions.specs.Stages.{◌>>=◌, require, each}
use Rattle.abstract_database.specs.Lists.{TheName, name_cmp, found_or}
use Rattle.abstract_database.specs.Database.{Database, TableOf, same_action, action_number}
use Rattle.abstract_database.specs.Privileges.{is_column_named, on_column, indices_of, on_each, privileges_of, privilege_of, acting_grantor, leaves_out, descriptors_by, granted_by, with_descriptors}
use Rattle.abstract_database.specs.Checks.{found_column}
use Rattle.abstract_database.proofs.Actions.{actions_same}
use Rattle.abstract_database.proofs.ElementLemmas.{any_found, any_holds}
use Rattle.grant_graph.specs.Keys.{now_of}
use Rattle.grant_graph.proofs.Marks.{same_column_is, same_numbers, turned_numbers}
use Rattle.schema_statements.specs.declared.grantors.NamedPrivilege.{NamedPrivilege}
use Rattle.schema_statements.specs.PrivilegeUnits.{is_column, same_privilege, with_one, with_each, ByRole, by_role, with_grantor, has_grantor, leaves_out_by, descriptors_for}
use Rattle.schema_statements.specs.NamedDescriptors.{descriptor_of}
use Rattle.schema_statements.proofs.Orders.{all_found, matching, joined, joined_none, joined_same, all_found_append, same_granted}

-- ---- columns that are named

found_at : (layout : Layout) (name : TheName) (b : Bool) → is_column layout name ≡ b → (found_column layout name >>= λ i. Ok tt) ≡ require b UndefinedColumn
found_at layout name b e = go (position (is_column_named name) layout.columns) b e where
  go : (o : Option ℕ) (b : Bool) → is_some o ≡ b → (found_or UndefinedColumn o >>= λ i. Ok tt) ≡ require b UndefinedColumn
  go None true e = cc
  go None false e = refl
  go (Some i) true e = refl
  go (Some i) false e = cc

one_stage : (x : Result ℕ SqlState) (xs : Result (List ℕ) SqlState) (a b : Bool) → (x >>= λ i. Ok tt) ≡ require a UndefinedColumn → (xs >>= λ is. Ok tt) ≡ require b UndefinedColumn
    → ((x >>= λ i. xs >>= λ is. Ok (i ∷ is)) >>= λ all. Ok tt) ≡ require (a && b) UndefinedColumn
one_stage (Ok i) (Ok is) true true e f = refl
one_stage (Ok i) (Ok is) true false e f = f
one_stage (Ok i) (Ok is) false b e f = e
one_stage (Ok i) (Err c) true true e f = f
one_stage (Ok i) (Err c) true false e f = f
one_stage (Ok i) (Err c) false b e f = let no : Ok tt ≡ Err UndefinedColumn = e in cc
one_stage (Err c) xs true b e f = let no : Err c ≡ Ok tt = e in cc
one_stage (Err c) xs false b e f = e

-- each of the names is found where each is one of a column
pub each_found : (layout : Layout) (names : List TheName) → (each (found_column layout) names >>= λ all. Ok tt) ≡ require (list_all (is_column layout) names) UndefinedColumn
each_found layout [] = refl
each_found layout (name ∷ names) =
    one_stage (found_column layout name) (each (found_column layout) names) (is_column layout name) (list_all (is_column layout) names)
    (found_at layout name (is_column layout name) refl) (each_found layout names)

-- ---- the same privileges

privileges_same : (p q : Privilege) → same_privilege p q ≡ true → p ≡ q
privileges_same p q e =
    let parts = and_parts (same_action p.action q.action) (option_eq nat_eq p.column q.column) e in
    ap (λ (a : Action). record p { action = a }) (actions_same p.action q.action parts.0)
    ∙ ap (λ (c : Option ℕ). record q { column = c }) (same_column_is p.column q.column parts.1)

-- ---- each once

absorbed : (a b : Bool) → (b ≡ true → a ≡ true) → a ≡ (a || (b || false))
absorbed true b h = refl
absorbed false true h = h refl
absorbed false false h = refl

or_or : (a b c : Bool) → ((a || (b || false)) || c) ≡ (a || (b || c))
or_or true b c = refl
or_or false true c = refl
or_or false false c = refl

any_with_one : (f : Privilege → Bool) (units : List Privilege) (p : Privilege) (b : Bool) → list_any (same_privilege p) units ≡ b → list_any f (cond b units (units ++ p ∷ [])) ≡ (list_any f units || (f p || false))
any_with_one f units p false e = list_any-append f units (p ∷ [])
any_with_one f units p true e = absorbed (list_any f units) (f p) (λ it.
    let found = any_found (same_privilege p) units e in
    any_holds f units found.0 found.1 (ap f (sym (privileges_same p found.0 found.2)) ∙ it))

any_with_each : (f : Privilege → Bool) (units ps : List Privilege) → list_any f (with_each units ps) ≡ (list_any f units || list_any f ps)
any_with_each f units [] = or_nothing (list_any f units) where
  or_nothing : (b : Bool) → b ≡ (b || false)
  or_nothing true = refl
  or_nothing false = refl
any_with_each f units (p ∷ ps) =
    any_with_each f (with_one units p) ps
    ∙ ap (λ (b : Bool). b || list_any f ps) (any_with_one f units p (list_any (same_privilege p) units) refl)
    ∙ or_or (list_any f units) (f p) (list_any f ps)

-- one of them passes a test where one of all does
any_of_each : (f : Privilege → Bool) (ps : List Privilege) → list_any f (with_each [] ps) ≡ list_any f ps
any_of_each f ps = any_with_each f [] ps

by_any : (f : Privilege → Bool) (ps : List Privilege) → list_all f ps ≡ not (list_any (λ p. not (f p)) ps)
by_any f [] = refl
by_any f (p ∷ ps) = go (f p) (by_any f ps) where
  go : (b : Bool) → list_all f ps ≡ not (list_any (λ q. not (f q)) ps) → (b && list_all f ps) ≡ not (not b || list_any (λ q. not (f q)) ps)
  go true e = e
  go false e = refl

-- each of them does where each of all does
all_of_each : (f : Privilege → Bool) (ps : List Privilege) → list_all f (with_each [] ps) ≡ list_all f ps
all_of_each f ps = by_any f (with_each [] ps) ∙ ap not (any_of_each (λ p. not (f p)) ps) ∙ sym (by_any f ps)

-- with some, and then with others
pub with_each_append : (units ps qs : List Privilege) → with_each units (ps ++ qs) ≡ with_each (with_each units ps) qs
with_each_append units [] qs = refl
with_each_append units (p ∷ ps) qs = with_each_append (with_one units p) ps qs

module _ (layout : Layout) (units : List Privilege) where
  -- the columns of one name more
  pub one_name_more : (a : Action) (names : List TheName) (i : ℕ) (name : TheName) → take (i + 1) names ≡ take i names ++ name ∷ []
      → with_each (with_each units (map (on_column a) (indices_of layout (take i names)))) (map (on_column a) (option_to_list (position (is_column_named name) layout.columns))) ≡ with_each units (map (on_column a) (indices_of layout (take (i + 1) names)))
  one_name_more a names i name front =
      let found = option_to_list (position (is_column_named name) layout.columns) in
      sym (with_each_append units (map (on_column a) (indices_of layout (take i names))) (map (on_column a) found))
      ∙ ap (with_each units) (sym (map-append (on_column a) (indices_of layout (take i names)) found))
      ∙ ap (λ (is : List ℕ). with_each units (map (on_column a) is)) (ap (λ (l : List ℕ). indices_of layout (take i names) ++ l) (sym (append-nil found)) ∙ sym (flat_map-append (λ n. option_to_list (position (is_column_named n) layout.columns)) (take i names) (name ∷ [])))
      ∙ ap (λ (ns : List TheName). with_each units (map (on_column a) (indices_of layout ns))) (sym front)

  -- one action more
  pub one_action_more : (actions : List NamedAction) (i : ℕ) (named : NamedAction) → take (i + 1) actions ≡ take i actions ++ named ∷ []
      → with_each (with_each units (flat_map (λ a. on_each layout a.columns a.action) (take i actions))) (on_each layout named.columns named.action) ≡ with_each units (flat_map (λ a. on_each layout a.columns a.action) (take (i + 1) actions))
  one_action_more actions i named front =
      let on = on_each layout named.columns named.action in
      let before = flat_map (λ a. on_each layout a.columns a.action) (take i actions) in
      sym (with_each_append units before on)
      ∙ ap (λ (l : List Privilege). with_each units (before ++ l)) (sym (append-nil on))
      ∙ ap (with_each units) (sym (flat_map-append (λ a. on_each layout a.columns a.action) (take i actions) (named ∷ [])))
      ∙ ap (λ (l : List NamedAction). with_each units (flat_map (λ a. on_each layout a.columns a.action) l)) (sym front)

  -- ALL names three actions on columns
  pub all_on_columns : (names : Option (List TheName)) → is_some names ≡ true
      → with_each (with_each (with_each units (on_each layout names Select)) (on_each layout names Insert)) (on_each layout names Update) ≡ with_each units (privileges_of layout (All names))
  all_on_columns None e = cc
  all_on_columns (Some names) e =
      let on = on_each layout (Some names) in
      ap (λ (l : List Privilege). with_each l (on Update)) (sym (with_each_append units (on Select) (on Insert)))
      ∙ sym (with_each_append units (on Select ++ on Insert) (on Update))
      ∙ ap (with_each units) (append_assoc (on Select) (on Insert) (on Update) ∙ ap (λ (l : List Privilege). on Select ++ (on Insert ++ l)) (sym (append-nil (on Update))))

-- a test of each of the lists is one of all their elements
pub all_of_lists : {X Y : Type 0} (f : Y → Bool) (g : X → List Y) (xs : List X) → list_all (λ x. list_all f (g x)) xs ≡ list_all f (flat_map g xs)
all_of_lists f g [] = refl
all_of_lists f g (x ∷ xs) = ap (λ (b : Bool). list_all f (g x) && b) (all_of_lists f g xs) ∙ sym (list_all-append f (g x) (flat_map g xs))

-- ---- the descriptors that are found of one

numbers_apart : (a b : Action) → same_action a b ≡ false → is_eq (nat_cmp (action_number a) (action_number b)) ≡ false
numbers_apart Select Select e = cc
numbers_apart Select Insert e = refl
numbers_apart Select Update e = refl
numbers_apart Select Delete e = refl
numbers_apart Insert Select e = refl
numbers_apart Insert Insert e = cc
numbers_apart Insert Update e = refl
numbers_apart Insert Delete e = refl
numbers_apart Update Select e = refl
numbers_apart Update Insert e = refl
numbers_apart Update Update e = cc
numbers_apart Update Delete e = refl
numbers_apart Delete Select e = refl
numbers_apart Delete Insert e = refl
numbers_apart Delete Update e = refl
numbers_apart Delete Delete e = cc

unequal_then : (t a c o : Ordering) (x y : Bool) → is_eq a ≡ x → is_eq c ≡ y → (x && y) ≡ false → is_eq (ordering_then t (ordering_then a (ordering_then c o))) ≡ false
unequal_then Less a c o x y e f g = refl
unequal_then Greater a c o x y e f g = refl
unequal_then Equal Less c o x y e f g = refl
unequal_then Equal Greater c o x y e f g = refl
unequal_then Equal Equal Less o x y e f g = refl
unequal_then Equal Equal Greater o x y e f g = refl
unequal_then Equal Equal Equal o true true e f g = cc
unequal_then Equal Equal Equal o true false e f g = cc
unequal_then Equal Equal Equal o false y e f g = cc

actions_apart : (a b : Action) (x : Bool) → same_action a b ≡ x → is_eq (nat_cmp (action_number a) (action_number b)) ≡ x
actions_apart a b false e = numbers_apart a b e
actions_apart a b true e = ap (λ (c : Action). is_eq (nat_cmp (action_number a) (action_number c))) (sym (actions_same a b e)) ∙ itself a where
  itself : (a : Action) → is_eq (nat_cmp (action_number a) (action_number a)) ≡ true
  itself Select = refl
  itself Insert = refl
  itself Update = refl
  itself Delete = refl

-- descriptors of other privileges are not equal in order
none_matches : (k d : Descriptor) → same_privilege (privilege_of k) (privilege_of d) ≡ false → matching k d ≡ None
none_matches k d e =
    ap (λ (b : Bool). cond b (Some d) None)
    (unequal_then (name_cmp k.table d.table) (nat_cmp (action_number k.action) (action_number d.action)) (option_cmp nat_cmp k.column d.column) _
    (same_action k.action d.action) (option_eq nat_eq k.column d.column)
    (actions_apart k.action d.action (same_action k.action d.action) refl) (same_columns_also k.column d.column) e)
  where
    same_columns_also : (i j : Option ℕ) → is_eq (option_cmp nat_cmp i j) ≡ option_eq nat_eq i j
    same_columns_also None None = refl
    same_columns_also None (Some j) = refl
    same_columns_also (Some i) None = refl
    same_columns_also (Some i) (Some j) = same_numbers i j ∙ turned_numbers j i

-- what a privilege grants, by a list of roles that grant
module _ (table : TheName) (grantees : List Grantee) (grantable : Bool) (acts : Privilege → Option TheName) where
  abbrev of_privilege : Privilege → List Descriptor
  of_privilege p = descriptors_by table grantees grantable p (acts p)

  none_of_each : (k : Descriptor) (p : Privilege) (name : TheName) (gs : List Grantee) → same_privilege (privilege_of k) p ≡ false → all_found k (map (descriptor_of table grantable p name) gs) ≡ None
  none_of_each k p name [] e = refl
  none_of_each k p name (g ∷ gs) e =
      ap (λ (o : Option Descriptor). joined o (all_found k (map (descriptor_of table grantable p name) gs))) (none_matches k (descriptor_of table grantable p name g) e)
      ∙ none_of_each k p name gs e

  none_by : (k : Descriptor) (p : Privilege) (name : Option TheName) → same_privilege (privilege_of k) p ≡ false → all_found k (descriptors_by table grantees grantable p name) ≡ None
  none_by k p None e = refl
  none_by k p (Some name) e = none_of_each k p name grantees e

  -- of the privileges of a list those of one privilege are found
  found_with : (k : Descriptor) (p : Privilege) (b : Bool) (rest : Bool) → same_privilege (privilege_of k) p ≡ b →
      joined (all_found k (of_privilege p)) (cond rest (all_found k (of_privilege (privilege_of k))) None) ≡ cond (b || rest) (all_found k (of_privilege (privilege_of k))) None
  found_with k p false rest e = ap (λ (o : Option Descriptor). joined o (cond rest (all_found k (of_privilege (privilege_of k))) None)) (none_by k p (acts p) e)
  found_with k p true true e =
      ap (λ (x : Privilege). joined (all_found k (of_privilege x)) (all_found k (of_privilege (privilege_of k)))) (sym (privileges_same (privilege_of k) p e))
      ∙ joined_same (all_found k (of_privilege (privilege_of k)))
  found_with k p true false e =
      joined_none (all_found k (of_privilege p))
      ∙ ap (λ (x : Privilege). all_found k (of_privilege x)) (sym (privileges_same (privilege_of k) p e))

  found_of : (k : Descriptor) (ps : List Privilege) → all_found k (flat_map of_privilege ps) ≡ cond (list_any (same_privilege (privilege_of k)) ps) (all_found k (of_privilege (privilege_of k))) None
  found_of k [] = refl
  found_of k (p ∷ others) =
      all_found_append k (of_privilege p) (flat_map of_privilege others)
      ∙ ap (joined (all_found k (of_privilege p))) (found_of k others)
      ∙ found_with k p (same_privilege (privilege_of k) p) (list_any (same_privilege (privilege_of k)) others) refl

  each_once : (ps : List Privilege) → with_descriptors (flat_map of_privilege (with_each [] ps)) [] ≡ with_descriptors (flat_map of_privilege ps) []
  each_once ps =
      same_granted _ _ [] tt (λ k.
      found_of k (with_each [] ps)
      ∙ ap (λ (b : Bool). cond b (all_found k (of_privilege (privilege_of k))) None) (any_of_each (same_privilege (privilege_of k)) ps)
      ∙ sym (found_of k ps))

-- ---- what a statement names

module _ (db : Database) (role : TheName) (table : TableOf) (all : List NamedPrivilege) (units : List Privilege) (are : map by_role all ≡ map (with_grantor db role table) units) where
  module _ (grantees : List Grantee) (grantable : Bool) where
    abbrev for_role : ByRole → List Descriptor
    for_role r = descriptors_by table.name grantees grantable r.0 r.1

    by_roles : (ns : List NamedPrivilege) → flat_map (descriptors_for table.name grantees grantable) ns ≡ flat_map for_role (map by_role ns)
    by_roles [] = refl
    by_roles (n ∷ ns) = ap (λ (l : List Descriptor). descriptors_for table.name grantees grantable n ++ l) (by_roles ns)

    by_grantors : (ps : List Privilege) → flat_map for_role (map (with_grantor db role table) ps) ≡ granted_by db role table ps grantees grantable
    by_grantors [] = refl
    by_grantors (p ∷ ps) = ap (λ (l : List Descriptor). descriptors_by table.name grantees grantable p (acting_grantor db role table p) ++ l) (by_grantors ps)

    pub granted_by_units : (ps : List Privilege) → units ≡ with_each [] ps → with_descriptors (flat_map (descriptors_for table.name grantees grantable) all) [] ≡ with_descriptors (granted_by db role table ps grantees grantable) []
    granted_by_units ps is =
        ap (λ (l : List Descriptor). with_descriptors l []) (by_roles all ∙ ap (flat_map for_role) are ∙ by_grantors units ∙ ap (λ (us : List Privilege). granted_by db role table us grantees grantable) is)
        ∙ each_once table.name grantees grantable (acting_grantor db role table) ps

  -- ---- what is left out

  abbrev acts : Privilege → Bool
  acts p = is_some (acting_grantor db role table p)

  some_now : (o : Option (Bor TheName)) → is_some o ≡ is_some (option_map now_of o)
  some_now None = refl
  some_now (Some name) = refl

  any_by_role : (ns : List NamedPrivilege) → list_any has_grantor ns ≡ list_any (λ (r : ByRole). is_some r.1) (map by_role ns)
  any_by_role [] = refl
  any_by_role (n ∷ ns) = ap (λ (b : Bool). b || list_any has_grantor ns) (some_now n.by) ∙ ap (λ (b : Bool). is_some (option_map now_of n.by) || b) (any_by_role ns)

  all_by_role : (ns : List NamedPrivilege) → list_all has_grantor ns ≡ list_all (λ (r : ByRole). is_some r.1) (map by_role ns)
  all_by_role [] = refl
  all_by_role (n ∷ ns) = ap (λ (b : Bool). b && list_all has_grantor ns) (some_now n.by) ∙ ap (λ (b : Bool). is_some (option_map now_of n.by) && b) (all_by_role ns)

  any_acts : (ps : List Privilege) → list_any (λ (r : ByRole). is_some r.1) (map (with_grantor db role table) ps) ≡ list_any acts ps
  any_acts [] = refl
  any_acts (p ∷ ps) = ap (λ (b : Bool). acts p || b) (any_acts ps)

  all_act : (ps : List Privilege) → list_all (λ (r : ByRole). is_some r.1) (map (with_grantor db role table) ps) ≡ list_all acts ps
  all_act [] = refl
  all_act (p ∷ ps) = ap (λ (b : Bool). acts p && b) (all_act ps)

  pub leaves_out_same : (privileges : Privileges) → units ≡ with_each [] (privileges_of table.layout privileges) → leaves_out_by all privileges ≡ leaves_out db role table privileges
  leaves_out_same (All columns) is =
      ap not (any_by_role all ∙ ap (list_any (λ (r : ByRole). is_some r.1)) are ∙ any_acts units ∙ ap (list_any acts) is ∙ any_of_each acts (privileges_of table.layout (All columns)))
  leaves_out_same (Actions actions) is =
      ap not (all_by_role all ∙ ap (list_all (λ (r : ByRole). is_some r.1)) are ∙ all_act units ∙ ap (list_all acts) is ∙ all_of_each acts (privileges_of table.layout (Actions actions)))
