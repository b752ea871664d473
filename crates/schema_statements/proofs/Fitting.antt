-- What GRANT and REVOKE change of the descriptors of a table fits them.
use Rattle.std.proofs.Common.{◌≡◌, Bool, true, false, not, ◌&&◌, ◌||◌, cond, List, [], ◌∷◌, ◌++◌, find, Option, Some, None, option_to_list, refl, sym, ap, ◌∙◌, subst, inl, inr}
use Rattle.std.specs.declared.cmp.Ordering.TheVariants.{Less, Equal, Greater}
use Rattle.std.specs.Ordering.{is_eq}
use Rattle.sql_ast.specs.declared.privilege.Descriptor.{Descriptor}
use Rattle.sql_ast.specs.declared.privilege.Grantee.{Grantee}
use Rattle.sql_ast.specs.declared.privilege.Privilege.{Privilege}
use Rattle.abstract_database.specs.Lists.{TheName, Among, Rising}
use Rattle.abstract_database.specs.Database.{Database, TableOf, descriptor_cmp}
use Rattle.abstract_database.specs.Privileges.{same_key, with_option_of, without_option, is_named_in, granted_by, with_descriptors}
use Rattle.abstract_database.specs.Whole.{Each}
use Rattle.abstract_database.proofs.DescriptorOrder.{descriptors_ordered}
use Rattle.catalogue.specs.Descriptors.{IsForTable}
use Rattle.catalogue_changes.proofs.DescriptorPutLemmas.{one_table, each_granted}
use Rattle.catalogue_changes.proofs.PartBridgeLemmas.{named_for_table}
use Rattle.catalogue_changes.proofs.TableBridgeLemmas.{found_among}
use Rattle.grant_graph.proofs.Merges.{turned}
use Rattle.schema_statements.specs.DescriptorChanges.{Fits, anew_beside, granted_anew, come_of, gone_of, cleared_of}
use Rattle.schema_statements.proofs.Coming.{AreBehind, equal_is, found_equal, of_append, of_anew, come_behind, come_for}
use Rattle.schema_statements.proofs.RevocationMarks.{gone_behind, cleared_behind, none_named}

-- two in order that are equal are one
only_one : (ds : List Descriptor) → Rising descriptor_cmp ds → (x y : Descriptor) → Among x ds → Among y ds → descriptor_cmp x y ≡ Equal → x ≡ y
only_one [] r x y h k e = absurd h
only_one (d ∷ ds) r x y (inl is) (inl also) e = sym is ∙ also
only_one (d ∷ ds) r x y (inl is) (inr k) e = let no : Less ≡ Equal = sym (r.0 y k) ∙ subst (λ (v : Descriptor). descriptor_cmp v y ≡ Equal) (sym is) e in cc
only_one (d ∷ ds) r x y (inr h) (inl also) e =
    let no : Greater ≡ Equal = sym (turned d x Less (r.0 x h)) ∙ subst (λ (v : Descriptor). descriptor_cmp x v ≡ Equal) (sym also) e in cc
only_one (d ∷ ds) r x y (inr h) (inr k) e = only_one ds r.1 x y h k e

-- ---- what comes where descriptors are granted

behind_as_well : (later : List Descriptor) (y d : Descriptor) → descriptor_cmp d y ≡ Equal → AreBehind d later → AreBehind (with_option_of y d) later
behind_as_well later y d equal behind v h = sym (descriptors_ordered.congr d y v equal) ∙ behind v h

rises_after : (o : Option Descriptor) (later : List Descriptor) → ((z : Descriptor) → Among z (option_to_list o) → AreBehind z later) → Rising descriptor_cmp later → Rising descriptor_cmp (option_to_list o ++ later)
rises_after None later behind r = r
rises_after (Some z) later behind r = (behind z (inl refl), r)

come_rises : (ds granted : List Descriptor) → Rising descriptor_cmp granted → Rising descriptor_cmp (come_of ds granted)
come_rises ds [] r = tt
come_rises ds (d ∷ granted) r =
    let later = come_of ds granted in
    rises_after (granted_anew ds d) later
    (of_anew (λ (z : Descriptor). AreBehind z later) (behind_as_well later) d (find (same_key d) ds) (found_equal d ds) (come_behind d ds granted r.0))
    (come_rises ds granted r.1)

none_there : (d : Descriptor) (ds : List Descriptor) → find (same_key d) ds ≡ None → (e : Descriptor) → Among e ds → same_key d e ≡ false
none_there d [] f e h = absurd h
none_there d (x ∷ xs) f e h = go (same_key d x) refl f h (λ rest. none_there d xs rest e) where
  go : (b : Bool) → same_key d x ≡ b → cond b (Some x) (find (same_key d) xs) ≡ None → Among e (x ∷ xs) → (find (same_key d) xs ≡ None → Among e xs → same_key d e ≡ false) → same_key d e ≡ false
  go true is g k later = cc
  go false is g (inl same) later = subst (λ (v : Descriptor). same_key d v ≡ false) same is
  go false is g (inr k) later = later g k

module _ (ds : List Descriptor) (r : Rising descriptor_cmp ds) where
  anew_new : (d : Descriptor) (o : Option Descriptor) → find (same_key d) ds ≡ o → (z : Descriptor) → Among z (option_to_list (anew_beside d o)) → (e : Descriptor) → Among e ds → same_key e z ≡ true → e.grantable ≡ not z.grantable
  anew_new d None f z (inr h) e at same = absurd h
  anew_new d None f z (inl is) e at same =
      let equal : descriptor_cmp e d ≡ Equal = subst (λ (v : Descriptor). descriptor_cmp e v ≡ Equal) (sym is) (equal_is (descriptor_cmp e z) same) in
      let no : true ≡ false = sym (ap is_eq (turned e d Equal equal)) ∙ none_there d ds f e at in
      cc
  anew_new d (Some y) f z h e at same = go y.grantable d.grantable refl refl h where
    go : (a b : Bool) → y.grantable ≡ a → d.grantable ≡ b → Among z (option_to_list (cond (a || not b) None (Some (with_option_of y d)))) → e.grantable ≡ not z.grantable
    go true b p q k = absurd k
    go false false p q k = absurd k
    go false true p q (inr k) = absurd k
    go false true p q (inl is) =
        let equal : descriptor_cmp e y ≡ Equal = subst (λ (v : Descriptor). descriptor_cmp e v ≡ Equal) (sym is) (equal_is (descriptor_cmp e z) same) in
        let one : e ≡ y = only_one ds r e y at (found_among (same_key d) ds y f).0 equal in
        let option : z.grantable ≡ true = ap (λ (v : Descriptor). v.grantable) (sym is) ∙ ap (λ (a : Bool). a || d.grantable) p ∙ q in
        ap (λ (v : Descriptor). v.grantable) one ∙ p ∙ sym (ap not option)

  come_new : (granted : List Descriptor) (z : Descriptor) → Among z (come_of ds granted) → (e : Descriptor) → Among e ds → same_key e z ≡ true → e.grantable ≡ not z.grantable
  come_new [] z h e at same = absurd h
  come_new (d ∷ granted) z h e at same = elim (of_append (option_to_list (granted_anew ds d)) (come_of ds granted) z h) [
    | inl k ↦ anew_new d (find (same_key d) ds) refl z k e at same
    | inr k ↦ come_new granted z k e at same
  ]

  -- what comes by a GRANT
  pub fits_granted : (name : TheName) (granted : List Descriptor) → Rising descriptor_cmp granted → Each (IsForTable name) granted → Fits name [] (come_of ds granted) ds
  fits_granted name granted up own = record {
    gone_rise = tt;
    come_rise = come_rises ds granted up;
    own = come_for name ds granted own (λ y d e p. one_table d y e ∙ p);
    there = λ x h. absurd h;
    new = come_new granted;
    apart = λ x h. refl;
  }

-- what a statement names is for its table
pub named_own : (db : Database) (role : TheName) (t : TableOf) (ps : List Privilege) (grantees : List Grantee) (grantable : Bool) (named : List Descriptor)
    → named ≡ with_descriptors (granted_by db role t ps grantees grantable) [] → Each (IsForTable t.name) named
named_own db role t ps grantees grantable named is =
    subst (Each (IsForTable t.name)) (sym is)
    (each_granted (IsForTable t.name) (λ x y held. held) (granted_by db role t ps grantees grantable) []
    (named_for_table db role t ps grantees grantable) (λ x h. absurd h))

-- ---- what goes and comes where descriptors are taken

gone_rises : (staying : List Bool) (ds : List Descriptor) → Rising descriptor_cmp ds → Rising descriptor_cmp (gone_of staying ds)
gone_rises [] ds r = tt
gone_rises (s ∷ staying) [] r = tt
gone_rises (true ∷ staying) (d ∷ ds) r = gone_rises staying ds r.1
gone_rises (false ∷ staying) (d ∷ ds) r = (gone_behind d staying ds r.0, gone_rises staying ds r.1)

gone_there : (staying : List Bool) (ds : List Descriptor) → Each (λ (x : Descriptor). Among x ds) (gone_of staying ds)
gone_there [] ds x h = absurd h
gone_there (s ∷ staying) [] x h = absurd h
gone_there (true ∷ staying) (d ∷ ds) x h = inr (gone_there staying ds x h)
gone_there (false ∷ staying) (d ∷ ds) x (inl is) = inl is
gone_there (false ∷ staying) (d ∷ ds) x (inr h) = inr (gone_there staying ds x h)

last_holds : (a b c g : Bool) → (a && (b && (c && g))) ≡ true → g ≡ true
last_holds true true true g e = e
last_holds true true false g e = cc
last_holds true false c g e = cc
last_holds false b c g e = cc

module _ (option : Bool) where
  cleared_rises : (named staying : List Bool) (ds : List Descriptor) → Rising descriptor_cmp ds → Rising descriptor_cmp (cleared_of option named staying ds)
  cleared_rises [] staying ds r = tt
  cleared_rises (n ∷ named) [] ds r = tt
  cleared_rises (n ∷ named) (s ∷ staying) [] r = tt
  cleared_rises (n ∷ named) (s ∷ staying) (d ∷ ds) r = go (s && (option && (n && d.grantable))) (cleared_rises named staying ds r.1) where
    go : (b : Bool) → Rising descriptor_cmp (cleared_of option named staying ds) → Rising descriptor_cmp (cond b (without_option d ∷ cleared_of option named staying ds) (cleared_of option named staying ds))
    go true later = (cleared_behind d option named staying ds r.0, later)
    go false later = later

  -- the one that was cleared
  abbrev WasGrantable : List Descriptor → Descriptor → Type 0
  WasGrantable ds x = (d : Descriptor) × Among d ds × (without_option d ≡ x) × (d.grantable ≡ true)

  was_grantable : (named staying : List Bool) (ds : List Descriptor) (x : Descriptor) → Among x (cleared_of option named staying ds) → WasGrantable ds x
  was_grantable [] staying ds x h = absurd h
  was_grantable (n ∷ named) [] ds x h = absurd h
  was_grantable (n ∷ named) (s ∷ staying) [] x h = absurd h
  was_grantable (n ∷ named) (s ∷ staying) (d ∷ ds) x h = go (s && (option && (n && d.grantable))) refl h (was_grantable named staying ds x) where
    go : (b : Bool) → (s && (option && (n && d.grantable))) ≡ b → Among x (cond b (without_option d ∷ cleared_of option named staying ds) (cleared_of option named staying ds))
        → (Among x (cleared_of option named staying ds) → WasGrantable ds x) → WasGrantable (d ∷ ds) x
    go true e (inl is) later = (d, inl refl, is, last_holds s option n d.grantable e)
    go true e (inr k) later = let was = later k in (was.0, inr was.1, was.2, was.3)
    go false e k later = let was = later k in (was.0, inr was.1, was.2, was.3)

  cleared_apart : (named staying : List Bool) (ds : List Descriptor) → Rising descriptor_cmp ds → (x : Descriptor) → Among x (cleared_of option named staying ds) → is_named_in (gone_of staying ds) x ≡ false
  cleared_apart [] staying ds r x h = absurd h
  cleared_apart (n ∷ named) [] ds r x h = absurd h
  cleared_apart (n ∷ named) (s ∷ staying) [] r x h = absurd h
  cleared_apart (n ∷ named) (false ∷ staying) (d ∷ ds) r x h =
      ap (λ b. b || is_named_in (gone_of staying ds) x) (ap is_eq (cleared_behind d option named staying ds r.0 x h)) ∙ cleared_apart named staying ds r.1 x h
  cleared_apart (n ∷ named) (true ∷ staying) (d ∷ ds) r x h = go (option && (n && d.grantable)) h (cleared_apart named staying ds r.1 x) where
    go : (b : Bool) → Among x (cond b (without_option d ∷ cleared_of option named staying ds) (cleared_of option named staying ds))
        → (Among x (cleared_of option named staying ds) → is_named_in (gone_of staying ds) x ≡ false) → is_named_in (gone_of staying ds) x ≡ false
    go true (inl is) later = subst (λ (v : Descriptor). is_named_in (gone_of staying ds) v ≡ false) is (none_named d (gone_of staying ds) (gone_behind d staying ds r.0))
    go true (inr k) later = later k
    go false k later = later k

  -- what goes and comes by a REVOKE
  pub fits_taken : (name : TheName) (named staying : List Bool) (ds : List Descriptor) → Rising descriptor_cmp ds → Each (IsForTable name) ds → Fits name (gone_of staying ds) (cleared_of option named staying ds) ds
  fits_taken name named staying ds r own = record {
    gone_rise = gone_rises staying ds r;
    come_rise = cleared_rises named staying ds r;
    own = λ x h. let was = was_grantable named staying ds x h in ap (λ (v : Descriptor). v.table) (sym was.2) ∙ own was.0 was.1;
    there = gone_there staying ds;
    new = λ x h e at same.
        let was = was_grantable named staying ds x h in
        let equal : descriptor_cmp e was.0 ≡ Equal = subst (λ (v : Descriptor). descriptor_cmp e v ≡ Equal) (sym was.2) (equal_is (descriptor_cmp e x) same) in
        ap (λ (v : Descriptor). v.grantable) (only_one ds r e was.0 at was.1 equal) ∙ was.3 ∙ sym (ap not (ap (λ (v : Descriptor). v.grantable) (sym was.2)));
    apart = cleared_apart named staying ds r;
  }
