-- The index of descriptors after some of them went and others came.
use Rattle.std.proofs.Common.{◌≡◌, ℕ, ◌<◌, ◌≤◌, Bool, true, false, cond, not, ◌&&◌, ◌||◌, nat_eq, List, [], ◌∷◌, ◌++◌, map, length, Option, Some, None, option_to_list, bytes_eq, refl, sym, ap, ◌∙◌, subst, inl, inr, arith}
use Rattle.std.specs.List.{list_any}
use Rattle.std.specs.Int.Bits.{bit_or}
use Rattle.std.specs.Option.{option_cmp}
use Rattle.std.specs.Ordering.{nat_cmp, is_lt, is_eq, ordering_then, ordering_reverse}
use Rattle.std.specs.declared.cmp.Ordering.{Ordering}
use Rattle.std.specs.declared.cmp.Ordering.TheVariants.{Less, Equal, Greater}
use Rattle.std.proofs.lemmas.Bool.{and_parts, eq-eqb}
use Rattle.std.proofs.lemmas.Nat.Bits.{bit_at-zero}
use Rattle.std.proofs.lemmas.List.Folds.{list_any-append}
use Rattle.std.proofs.lemmas.Map.Lookups.{exact_unsigned}
use Rattle.sql_ast.specs.declared.privilege.Action.{Action}
use Rattle.sql_ast.specs.declared.privilege.Descriptor.{Descriptor}
use Rattle.store.proofs.Changes.{same_key}
use Rattle.abstract_database.specs.Lists.{TheName, name_cmp, Among, Rising, put, the_new, drop_where}
use Rattle.abstract_database.specs.Database.{action_number, same_action, grantor_name, grantee_name, descriptor_cmp}
use Rattle.abstract_database.specs.Privileges.{is_named_in}
use Rattle.abstract_database.proofs.Actions.{action_itself, actions_same}
use Rattle.abstract_database.proofs.ElementLemmas.{any_found, any_holds, rest_of, length-rest_of, in_rest_of, of_filter}
use Rattle.abstract_database.proofs.ListLemmas.{bytes_same, same_bytes}
use Rattle.catalogue.specs.declared.grants.Granted.{Granted}
use Rattle.catalogue.specs.Descriptors.{put_each}
use Rattle.catalogue.specs.Grants.{IsIndexOf, IsNamed, AreNamed, is_for, is_of, gives_bit, bit_of, mask_of, has_bit, granted_cmp, is_entry_of, is_entry_for, entry_of, joined, mask_given, is_given, with_mask_of, still_given, left_of}
use Rattle.catalogue.proofs.Searching.{passes, equal, no_more}
use Rattle.catalogue.proofs.Granting.{granted_ordered, grouped, anded, same_entry, same_of, both_parts, has_bit_or, mask_says, bits_join, any_entries, turned, of_entry}
use Rattle.catalogue.proofs.Placing.{of_each_put}

-- ---- booleans

ored : (a b : Bool) → (a || b) ≡ (b || a)
ored true true = refl
ored true false = refl
ored false true = refl
ored false false = refl

last_out : (a b c : Bool) → ((a || b) || c) ≡ ((a || c) || b)
last_out true b c = refl
last_out false b c = ored b c

same_or : (a b : Bool) → a ≡ b → b ≡ (a || b)
same_or true true e = refl
same_or false b e = refl
same_or true false e = cc

and_false : (a : Bool) → (a && false) ≡ false
and_false true = refl
and_false false = refl

and_there : (e b : Bool) → (b ≡ true → e ≡ true) → (e && b) ≡ b
and_there true b h = refl
and_there false true h = h refl
and_there false false h = refl

bit_last : (s b f : Bool) → ((s && b) && f) ≡ ((s && f) && b)
bit_last true b f = anded b f
bit_last false b f = refl

same_answers : (a b : Bool) → (a ≡ true → b ≡ true) → (b ≡ true → a ≡ true) → a ≡ b
same_answers true b there back = sym (there refl)
same_answers false true there back = back refl
same_answers false false there back = refl

-- ---- tests over items that were put

module _ {X : Type 0} (cmp : X → X → Ordering) (both : X → X → X) (p : X → Bool) (joins : (x y : X) → cmp x y ≡ Equal → p (both y x) ≡ (p y || p x)) where
  any_put : (x : X) (xs : List X) → list_any p (put cmp both x xs) ≡ (list_any p xs || p x)
  any_put x [] = no_more (p x)
  any_put x (y ∷ ys) = go (cmp x y) refl (any_put x ys) where
    go : (o : Ordering) → cmp x y ≡ o → list_any p (put cmp both x ys) ≡ (list_any p ys || p x)
        → list_any p (cond (is_lt o) (x ∷ y ∷ ys) (cond (is_eq o) (both y x ∷ ys) (y ∷ put cmp both x ys))) ≡ ((p y || list_any p ys) || p x)
    go Less e later = ored (p x) (p y || list_any p ys)
    go Equal e later = ap (λ b. b || list_any p ys) (joins x y e) ∙ last_out (p y) (p x) (list_any p ys)
    go Greater e later = ap (λ b. p y || b) later ∙ grouped (p y) (list_any p ys) (p x)

  pub any_put_each : (zs xs : List X) → list_any p (put_each cmp both zs xs) ≡ (list_any p xs || list_any p zs)
  any_put_each [] xs = sym (no_more (list_any p xs))
  any_put_each (z ∷ zs) xs = any_put_each zs (put cmp both z xs) ∙ ap (λ b. b || list_any p zs) (any_put z xs) ∙ sym (grouped (list_any p xs) (p z) (list_any p zs))

-- ---- descriptors of one key

columns_same : (a b : Option ℕ) → option_cmp nat_cmp a b ≡ Equal → a ≡ b
columns_same None None e = refl
columns_same None (Some j) e = cc
columns_same (Some i) None e = cc
columns_same (Some i) (Some j) e = ap Some (exact_unsigned i j e)

module _ (x y : Descriptor) (e : descriptor_cmp x y ≡ Equal) where
  abbrev of_tables : Ordering
  of_tables = name_cmp x.table y.table

  abbrev of_actions : Ordering
  of_actions = nat_cmp (action_number x.action) (action_number y.action)

  abbrev of_columns : Ordering
  of_columns = option_cmp nat_cmp x.column y.column

  abbrev of_grantors : Ordering
  of_grantors = name_cmp (grantor_name x.grantor) (grantor_name y.grantor)

  abbrev of_grantees : Ordering
  of_grantees = name_cmp (grantee_name x.grantee) (grantee_name y.grantee)

  after_table : ordering_then of_actions (ordering_then of_columns (ordering_then of_grantors of_grantees)) ≡ Equal
  after_table = (both_parts of_tables (ordering_then of_actions (ordering_then of_columns (ordering_then of_grantors of_grantees))) e).1

  after_action : ordering_then of_columns (ordering_then of_grantors of_grantees) ≡ Equal
  after_action = (both_parts of_actions (ordering_then of_columns (ordering_then of_grantors of_grantees)) after_table).1

  after_column : ordering_then of_grantors of_grantees ≡ Equal
  after_column = (both_parts of_columns (ordering_then of_grantors of_grantees) after_action).1

  one_number : action_number x.action ≡ action_number y.action
  one_number = exact_unsigned (action_number x.action) (action_number y.action) (both_parts of_actions (ordering_then of_columns (ordering_then of_grantors of_grantees)) after_table).0

  one_column : x.column ≡ y.column
  one_column = columns_same x.column y.column (both_parts of_columns (ordering_then of_grantors of_grantees) after_action).0

  one_grantee : grantee_name x.grantee ≡ grantee_name y.grantee
  one_grantee = same_key (grantee_name x.grantee) (grantee_name y.grantee) (both_parts of_grantors of_grantees after_column).1

  one_of : (a : Action) (g : TheName) → is_of a g x ≡ is_of a g y
  one_of a g = ap (λ n. nat_eq n (action_number a) && is_for g x) one_number ∙ ap (λ n. same_action y.action a && bytes_eq n g) one_grantee

  one_bit : (a : Action) (g : TheName) (n : ℕ) → gives_bit a g n x ≡ gives_bit a g n y
  one_bit a g n =
      bit_last (same_action x.action a) (nat_eq (bit_of x.column) n) (is_for g x)
      ∙ ap (λ b. b && nat_eq (bit_of x.column) n) (one_of a g) ∙ ap (λ c. is_of a g y && nat_eq (bit_of c) n) one_column
      ∙ sym (bit_last (same_action y.action a) (nat_eq (bit_of y.column) n) (is_for g y))

-- ---- what came

either_way : (x y : Granted) → granted_cmp x y ≡ Equal → granted_cmp y x ≡ Equal
either_way x y e = granted_ordered.antisymm y x ∙ ap ordering_reverse e

pub index_with : (ds added : List Descriptor) (xs : List Granted) → IsIndexOf ds xs → AreNamed added → IsIndexOf (put_each descriptor_cmp the_new added ds) (put_each granted_cmp joined (map entry_of added) xs)
index_with ds added xs index named = record {
  named = of_each_put (λ x. IsNamed x.grantee) added ds named index.named;
  bits = λ a g n lt.
      let p = λ (x : Granted). is_entry_of g a x && has_bit x.mask n in
      any_put_each granted_cmp joined p (λ x y e. bits_join a g n y x (either_way x y e)) (map entry_of added) xs
      ∙ ap (λ b. b || list_any p (map entry_of added)) (index.bits a g n lt)
      ∙ ap (λ b. list_any (gives_bit a g n) ds || b)
      (any_entries p (gives_bit a g n) (λ d. ap (λ b. is_entry_of g a (entry_of d) && b) (mask_says d.column n lt) ∙ turned (is_for g d) (same_action d.action a) (nat_eq (bit_of d.column) n)) added)
      ∙ sym (any_put_each descriptor_cmp the_new (gives_bit a g n) (λ x y e. same_or (gives_bit a g n y) (gives_bit a g n x) (sym (one_bit x y e a g n))) added ds);
  entries = λ a g.
      let p = is_entry_of g a in
      any_put_each granted_cmp joined p (λ x y e. same_or (p y) (p y) refl ∙ ap (λ b. p y || b) (sym (same_of x y e g a))) (map entry_of added) xs
      ∙ ap (λ b. b || list_any p (map entry_of added)) (index.entries a g)
      ∙ ap (λ b. list_any (is_of a g) ds || b) (any_entries p (is_of a g) (of_entry a g) added)
      ∙ sym (any_put_each descriptor_cmp the_new (is_of a g) (λ x y e. same_or (is_of a g y) (is_of a g x) (sym (one_of x y e a g))) added ds);
}

-- ---- names of grantees

both_hold : (a b : Bool) → a ≡ true → b ≡ true → (a && b) ≡ true
both_hold true b e f = f
both_hold false b e f = e

pub grantees_of : (ds : List Descriptor) (xs : List Granted) → IsIndexOf ds xs → (g : TheName) → list_any (is_entry_for g) xs ≡ list_any (is_for g) ds
grantees_of ds xs index g = same_answers (list_any (is_entry_for g) xs) (list_any (is_for g) ds) there back where
  there : list_any (is_entry_for g) xs ≡ true → list_any (is_for g) ds ≡ true
  there e =
      let x = any_found (is_entry_for g) xs e in
      let has : list_any (is_entry_of g x.0.action) xs ≡ true = any_holds (is_entry_of g x.0.action) xs x.0 x.1 (both_hold (is_entry_for g x.0) (same_action x.0.action x.0.action) x.2 (action_itself x.0.action)) in
      let d = any_found (is_of x.0.action g) ds (sym (index.entries x.0.action g) ∙ has) in
      any_holds (is_for g) ds d.0 d.1 (and_parts (same_action d.0.action x.0.action) (is_for g d.0) d.2).1

  back : list_any (is_for g) ds ≡ true → list_any (is_entry_for g) xs ≡ true
  back e =
      let d = any_found (is_for g) ds e in
      let has : list_any (is_of d.0.action g) ds ≡ true = any_holds (is_of d.0.action g) ds d.0 d.1 (both_hold (same_action d.0.action d.0.action) (is_for g d.0) (action_itself d.0.action) d.2) in
      let x = any_found (is_entry_of g d.0.action) xs (index.entries d.0.action g ∙ has) in
      any_holds (is_entry_for g) xs x.0 x.1 (and_parts (is_entry_for g x.0) (same_action x.0.action d.0.action) x.2).0

-- ---- what is left

module _ (f : Granted → Bool) (removed left : List Descriptor) where
  of_one : (o : Option Granted) → list_any f (option_to_list o) ≡ passes f o
  of_one None = refl
  of_one (Some x) = no_more (f x)

  any_left : (xs : List Granted) → list_any f (left_of removed left xs) ≡ list_any (λ x. passes f (still_given removed left x)) xs
  any_left [] = refl
  any_left (x ∷ xs) =
      list_any-append f (option_to_list (still_given removed left x)) (left_of removed left xs)
      ∙ ap (λ b. b || list_any f (left_of removed left xs)) (of_one (still_given removed left x))
      ∙ ap (λ b. passes f (still_given removed left x) || b) (any_left xs)

same_any : (f g : Granted → Bool) → ((x : Granted) → f x ≡ g x) → (xs : List Granted) → list_any f xs ≡ list_any g xs
same_any f g e [] = refl
same_any f g e (x ∷ xs) = ap (λ b. b || list_any f xs) (e x) ∙ ap (λ b. g x || b) (same_any f g e xs)

any_and : (f : Granted → Bool) (c : Bool) (xs : List Granted) → list_any (λ x. f x && c) xs ≡ (list_any f xs && c)
any_and f c [] = refl
any_and f true (x ∷ xs) = ap (λ b. b || list_any (λ x. f x && true) xs) (anded (f x) true) ∙ ap (λ b. f x || b) (any_and f true xs ∙ anded (list_any f xs) true) ∙ sym (anded (f x || list_any f xs) true)
any_and f false (x ∷ xs) = ap (λ b. b || list_any (λ x. f x && false) xs) (and_false (f x)) ∙ any_and f false xs ∙ and_false (list_any f xs) ∙ sym (and_false (f x || list_any f xs))

-- the mask says what the descriptors give
mask_is : (a : Action) (g : TheName) (n : ℕ) → n < 32 → (ds : List Descriptor) → has_bit (mask_given a g ds) n ≡ list_any (gives_bit a g n) ds
mask_is a g n lt [] = ap (λ m. nat_eq m 1) (bit_at-zero n)
mask_is a g n lt (d ∷ ds) = go (is_of a g d) refl (mask_is a g n lt ds) where
  go : (b : Bool) → is_of a g d ≡ b → has_bit (mask_given a g ds) n ≡ list_any (gives_bit a g n) ds
      → has_bit (cond b (bit_or (mask_of d.column) (mask_given a g ds)) (mask_given a g ds)) n ≡ (gives_bit a g n d || list_any (gives_bit a g n) ds)
  go true e later =
      has_bit_or (mask_of d.column) (mask_given a g ds) n
      ∙ ap (λ b. b || has_bit (mask_given a g ds) n) (mask_says d.column n lt ∙ sym (bit_last (same_action d.action a) (nat_eq (bit_of d.column) n) (is_for g d) ∙ ap (λ b. b && nat_eq (bit_of d.column) n) e))
      ∙ ap (λ b. gives_bit a g n d || b) later
  go false e later = later ∙ sym (ap (λ b. b || list_any (gives_bit a g n) ds) (bit_last (same_action d.action a) (nat_eq (bit_of d.column) n) (is_for g d) ∙ ap (λ b. b && nat_eq (bit_of d.column) n) e))

module _ (ds removed : List Descriptor) where
  abbrev left : List Descriptor
  left = drop_where (is_named_in removed) ds

  -- a test of descriptors that the grantee and the action of none that went pass
  module _ (a : Action) (g : TheName) (q : Descriptor → Bool) (respects : (d : Descriptor) → q d ≡ true → is_of a g d ≡ true) where
    not_named : list_any (is_of a g) removed ≡ false → (d : Descriptor) → is_named_in removed d ≡ true → q d ≡ false
    not_named none d named = go (q d) refl where
      go : (b : Bool) → q d ≡ b → b ≡ false
      go false e = refl
      go true e =
          let n = any_found (λ n. is_eq (descriptor_cmp n d)) removed named in
          let same : is_of a g n.0 ≡ is_of a g d = one_of n.0 d (equal (descriptor_cmp n.0 d) n.2) a g in
          let there : list_any (is_of a g) removed ≡ true = any_holds (is_of a g) removed n.0 n.1 (same ∙ respects d e) in
          sym there ∙ none

    untouched_any : list_any (is_of a g) removed ≡ false → (es : List Descriptor) → list_any q (drop_where (is_named_in removed) es) ≡ list_any q es
    untouched_any none [] = refl
    untouched_any none (d ∷ es) = go (is_named_in removed d) refl (untouched_any none es) where
      go : (b : Bool) → is_named_in removed d ≡ b → list_any q (drop_where (is_named_in removed) es) ≡ list_any q es → list_any q (cond (not b) (d ∷ drop_where (is_named_in removed) es) (drop_where (is_named_in removed) es)) ≡ (q d || list_any q es)
      go true e later = later ∙ sym (ap (λ b. b || list_any q es) (not_named none d e))
      go false e later = ap (λ b. q d || b) later

    -- what passes it among those that are left passes it among all
    still_any : list_any q left ≡ true → list_any (is_of a g) ds ≡ true
    still_any e = let d = any_found q left e in any_holds (is_of a g) ds d.0 (of_filter (λ x. not (is_named_in removed x)) ds d.0 d.1).0 (respects d.0 d.2)

    given_left : list_any q left ≡ true → list_any (is_of a g) left ≡ true
    given_left e = let d = any_found q left e in any_holds (is_of a g) left d.0 d.1 (respects d.0 d.2)

  module _ (a : Action) (g : TheName) (p : ℕ → Bool) where
    abbrev says : Granted → Bool
    says x = is_entry_of g a x && p x.mask

    abbrev touched : Bool
    touched = list_any (is_of a g) removed

    abbrev given : Bool
    given = list_any (is_of a g) left

    -- what is left of an entry of another grantee or action is one of another
    other_entry : (x : Granted) (t e : Bool) → is_entry_of g a x ≡ false → passes says (cond t (cond e (Some (with_mask_of left x)) None) (Some x)) ≡ false
    other_entry x true true is = ap (λ b. b && p (mask_given x.action (grantee_name x.grantee) left)) is
    other_entry x true false is = refl
    other_entry x false e is = ap (λ b. b && p x.mask) is

    own_action : (x : Granted) → is_entry_of g a x ≡ true → x.action ≡ a
    own_action x is = actions_same x.action a (and_parts (is_entry_for g x) (same_action x.action a) is).1

    own_grantee : (x : Granted) → is_entry_of g a x ≡ true → grantee_name x.grantee ≡ g
    own_grantee x is = bytes_same (grantee_name x.grantee) g (and_parts (is_entry_for g x) (same_action x.action a) is).0

    own_given : (es : List Descriptor) (x : Granted) → is_entry_of g a x ≡ true → is_given es x ≡ list_any (is_of a g) es
    own_given es x is = ap (λ b. list_any (is_of b (grantee_name x.grantee)) es) (own_action x is) ∙ ap (λ n. list_any (is_of a n) es) (own_grantee x is)

    own_mask : (x : Granted) → is_entry_of g a x ≡ true → mask_given x.action (grantee_name x.grantee) left ≡ mask_given a g left
    own_mask x is = ap (λ b. mask_given b (grantee_name x.grantee) left) (own_action x is) ∙ ap (λ n. mask_given a n left) (own_grantee x is)

    untouched_entry : touched ≡ false → (x : Granted) → passes says (still_given removed left x) ≡ says x
    untouched_entry none x = go (is_entry_of g a x) refl where
      go : (b : Bool) → is_entry_of g a x ≡ b → passes says (still_given removed left x) ≡ says x
      go true is = ap (λ t. passes says (cond t (cond (is_given left x) (Some (with_mask_of left x)) None) (Some x))) (own_given removed x is ∙ none)
      go false is = other_entry x (is_given removed x) (is_given left x) is ∙ sym (ap (λ b. b && p x.mask) is)

    touched_entry : touched ≡ true → (x : Granted) → passes says (still_given removed left x) ≡ (is_entry_of g a x && (given && p (mask_given a g left)))
    touched_entry some x = go (is_entry_of g a x) refl where
      at : (e : Bool) → is_entry_of g a x ≡ true → passes says (cond e (Some (with_mask_of left x)) None) ≡ (e && p (mask_given a g left))
      at true is = ap (λ b. b && p (mask_given x.action (grantee_name x.grantee) left)) is ∙ ap p (own_mask x is)
      at false is = refl

      go : (b : Bool) → is_entry_of g a x ≡ b → passes says (still_given removed left x) ≡ (is_entry_of g a x && (given && p (mask_given a g left)))
      go true is =
          ap (λ t. passes says (cond t (cond (is_given left x) (Some (with_mask_of left x)) None) (Some x))) (own_given removed x is ∙ some)
          ∙ at (is_given left x) is ∙ ap (λ e. e && p (mask_given a g left)) (own_given left x is)
          ∙ sym (ap (λ b. b && (given && p (mask_given a g left))) is)
      go false is = other_entry x (is_given removed x) (is_given left x) is ∙ sym (ap (λ b. b && (given && p (mask_given a g left))) is)

    module _ (q : Descriptor → Bool) (respects : (d : Descriptor) → q d ≡ true → is_of a g d ≡ true) (xs : List Granted)
        (was : list_any says xs ≡ list_any q ds) (there : list_any (is_entry_of g a) xs ≡ list_any (is_of a g) ds)
        (masked : (given && p (mask_given a g left)) ≡ list_any q left) where
      left_says : list_any says (left_of removed left xs) ≡ list_any q left
      left_says = any_left says removed left xs ∙ go touched refl where
        go : (t : Bool) → touched ≡ t → list_any (λ x. passes says (still_given removed left x)) xs ≡ list_any q left
        go false none =
            same_any (λ x. passes says (still_given removed left x)) says (untouched_entry none) xs ∙ was
            ∙ sym (untouched_any a g q respects none ds)
        go true some =
            same_any (λ x. passes says (still_given removed left x)) (λ x. is_entry_of g a x && (given && p (mask_given a g left))) (touched_entry some) xs
            ∙ any_and (is_entry_of g a) (given && p (mask_given a g left)) xs
            ∙ ap (λ b. list_any (is_entry_of g a) xs && b) masked
            ∙ and_there (list_any (is_entry_of g a) xs) (list_any q left) (λ e. there ∙ still_any a g q respects e)

  bit_of_own : (a : Action) (g : TheName) (n : ℕ) (d : Descriptor) → gives_bit a g n d ≡ true → is_of a g d ≡ true
  bit_of_own a g n d e = (and_parts (is_of a g d) (nat_eq (bit_of d.column) n) (sym (bit_last (same_action d.action a) (nat_eq (bit_of d.column) n) (is_for g d)) ∙ e)).0

  pub index_left : (xs : List Granted) → IsIndexOf ds xs → IsIndexOf left (left_of removed left xs)
  index_left xs index = record {
    named = λ d among. index.named d (of_filter (λ x. not (is_named_in removed x)) ds d among).0;
    bits = λ a g n lt.
        left_says a g (λ m. has_bit m n) (gives_bit a g n) (bit_of_own a g n) xs (index.bits a g n lt) (index.entries a g)
        (ap (λ b. list_any (is_of a g) left && b) (mask_is a g n lt left)
        ∙ and_there (list_any (is_of a g) left) (list_any (gives_bit a g n) left) (given_left a g (gives_bit a g n) (bit_of_own a g n)));
    entries = λ a g.
        sym (any_and (is_entry_of g a) true (left_of removed left xs) ∙ anded (list_any (is_entry_of g a) (left_of removed left xs)) true)
        ∙ left_says a g (λ m. true) (is_of a g) (λ d e. e) xs
        (any_and (is_entry_of g a) true xs ∙ anded (list_any (is_entry_of g a) xs) true ∙ index.entries a g) (index.entries a g) (anded (list_any (is_of a g) left) true);
  }

-- ---- order

module _ (removed left : List Descriptor) where
  of_left : (P : Granted → Type 0) → ((x : Granted) (m : ℕ) → P x → P (record x { mask = m })) → (xs : List Granted) → ((x : Granted) → Among x xs → P x) → (z : Granted) → Among z (left_of removed left xs) → P z
  of_left P keeps [] each z h = absurd h
  of_left P keeps (x ∷ xs) each z h = go (is_given removed x) (is_given left x) h (of_left P keeps xs (λ y among. each y (inr among)) z) where
    go : (t e : Bool) → Among z (option_to_list (cond t (cond e (Some (with_mask_of left x)) None) (Some x)) ++ left_of removed left xs) → (Among z (left_of removed left xs) → P z) → P z
    go false e (inl is) later = subst P is (each x (inl refl))
    go false e (inr k) later = later k
    go true true (inl is) later = subst P is (keeps x (mask_given x.action (grantee_name x.grantee) left) (each x (inl refl)))
    go true true (inr k) later = later k
    go true false k later = later k

  pub left_rises : (xs : List Granted) → Rising granted_cmp xs → Rising granted_cmp (left_of removed left xs)
  left_rises [] r = tt
  left_rises (x ∷ xs) r = go (is_given removed x) (is_given left x) (left_rises xs r.1) where
    below : (z : Granted) → Among z (left_of removed left xs) → granted_cmp x z ≡ Less
    below z h = of_left (λ y. granted_cmp x y ≡ Less) (λ y m e. e) xs r.0 z h

    go : (t e : Bool) → Rising granted_cmp (left_of removed left xs) → Rising granted_cmp (option_to_list (cond t (cond e (Some (with_mask_of left x)) None) (Some x)) ++ left_of removed left xs)
    go false e later = (below, later)
    go true true later = (below, later)
    go true false later = later

-- ---- how many

equal_entries : (x y : Granted) (d : Descriptor) → is_of x.action (grantee_name x.grantee) d ≡ true → is_of y.action (grantee_name y.grantee) d ≡ true → granted_cmp x y ≡ Less → ⊥
equal_entries x y d of_x of_y less =
    let at_x = and_parts (same_action d.action x.action) (is_for (grantee_name x.grantee) d) of_x in
    let at_y = and_parts (same_action d.action y.action) (is_for (grantee_name y.grantee) d) of_y in
    let names : grantee_name x.grantee ≡ grantee_name y.grantee = sym (bytes_same (grantee_name d.grantee) (grantee_name x.grantee) at_x.1) ∙ bytes_same (grantee_name d.grantee) (grantee_name y.grantee) at_y.1 in
    let actions : x.action ≡ y.action = sym (actions_same d.action x.action at_x.0) ∙ actions_same d.action y.action at_y.0 in
    let same : is_entry_of (grantee_name y.grantee) y.action x ≡ true = both_hold (is_entry_for (grantee_name y.grantee) x) (same_action x.action y.action)
    (same_bytes (grantee_name x.grantee) (grantee_name y.grantee) names) (subst (λ b. same_action x.action b ≡ true) actions (action_itself x.action)) in
    let answer : is_eq Less ≡ true = ap is_eq (sym less) ∙ same_entry (grantee_name y.grantee) y.action x ∙ same in
    cc

abbrev HasOne : List Descriptor → Granted → Type 0
HasOne ds x = (d : Descriptor) × Among d ds × (is_of x.action (grantee_name x.grantee) d ≡ true)

as_many : (xs : List Granted) (ds : List Descriptor) → Rising granted_cmp xs → ((x : Granted) → Among x xs → HasOne ds x) → length xs ≤ length ds
as_many [] ds r h = omega arith
as_many (x ∷ xs) ds r h =
    let d = h x (inl refl) in
    let rest = rest_of ds d.0 d.1 in
    let count = length-rest_of ds d.0 d.1 in
    let others : (y : Granted) → Among y xs → HasOne rest y = λ y among.
    let e = h y (inr among) in
    elim (in_rest_of ds d.0 d.1 e.0 e.1) [
      | inl is ↦ absurd (equal_entries x y d.0 d.2 (subst (λ v. is_of y.action (grantee_name y.grantee) v ≡ true) is e.2) (r.0 y among))
      | inr there ↦ (e.0, there, e.2)
    ] in
    let enough = as_many xs rest r.1 others in
    omega (arith, count, enough)

-- an index has no more entries than there are descriptors
pub no_more_entries : (ds : List Descriptor) (xs : List Granted) → Rising granted_cmp xs → IsIndexOf ds xs → length xs ≤ length ds
no_more_entries ds xs r index = as_many xs ds r (λ x among.
    let own : is_entry_of (grantee_name x.grantee) x.action x ≡ true = both_hold (is_entry_for (grantee_name x.grantee) x) (same_action x.action x.action) (same_bytes (grantee_name x.grantee) (grantee_name x.grantee) refl) (action_itself x.action) in
    let d = any_found (is_of x.action (grantee_name x.grantee)) ds (sym (index.entries x.action (grantee_name x.grantee)) ∙ any_holds (is_entry_of (grantee_name x.grantee) x.action) xs x among own) in
    (d.0, d.1, d.2))
