-- What goes and comes where a REVOKE takes descriptors leads to what it leaves.
use Rattle.std.proofs.Common.{◌≡◌, Bool, true, false, not, ◌&&◌, ◌||◌, cond, List, [], ◌∷◌, map, filter, refl, sym, ap, ◌∙◌, subst, inl, inr}
use Rattle.std.specs.declared.cmp.Ordering.{Ordering}
use Rattle.std.specs.declared.cmp.Ordering.TheVariants.{Less}
use Rattle.std.specs.Ordering.{is_lt, is_eq}
use Rattle.sql_ast.specs.declared.privilege.Descriptor.{Descriptor}
use Rattle.abstract_database.specs.Lists.{Among, Rising, put, the_new, change_where}
use Rattle.abstract_database.specs.Database.{descriptor_cmp}
use Rattle.abstract_database.specs.Privileges.{is_named_in, without_option}
use Rattle.grant_graph.specs.Revoking.{in_place}
use Rattle.grant_graph.proofs.Merges.{turned}
use Rattle.schema_statements.specs.DescriptorChanges.{gone_of, cleared_of, with_those, without_those}
use Rattle.schema_statements.proofs.Coming.{AreBehind, itself, put_past}

-- the descriptors that have a mark of what stays
abbrev pub kept_of : List Bool → List Descriptor → List Descriptor
kept_of (stays ∷ staying) (d ∷ ds) = cond stays (d ∷ kept_of staying ds) (kept_of staying ds)
kept_of _ _ = []

pub gone_behind : (y : Descriptor) (staying : List Bool) (ds : List Descriptor) → AreBehind y ds → AreBehind y (gone_of staying ds)
gone_behind y [] ds behind v h = absurd h
gone_behind y (s ∷ staying) [] behind v h = absurd h
gone_behind y (true ∷ staying) (d ∷ ds) behind v h = gone_behind y staying ds (λ w among. behind w (inr among)) v h
gone_behind y (false ∷ staying) (d ∷ ds) behind v (inl is) = behind v (inl is)
gone_behind y (false ∷ staying) (d ∷ ds) behind v (inr h) = gone_behind y staying ds (λ w among. behind w (inr among)) v h

pub cleared_behind : (y : Descriptor) (option : Bool) (named staying : List Bool) (ds : List Descriptor) → AreBehind y ds → AreBehind y (cleared_of option named staying ds)
cleared_behind y option [] staying ds behind v h = absurd h
cleared_behind y option (n ∷ named) [] ds behind v h = absurd h
cleared_behind y option (n ∷ named) (s ∷ staying) [] behind v h = absurd h
cleared_behind y option (n ∷ named) (s ∷ staying) (d ∷ ds) behind v h = go (s && (option && (n && d.grantable))) h (cleared_behind y option named staying ds (λ w among. behind w (inr among)) v) where
  go : (b : Bool) → Among v (cond b (without_option d ∷ cleared_of option named staying ds) (cleared_of option named staying ds)) → (Among v (cleared_of option named staying ds) → descriptor_cmp y v ≡ Less) → descriptor_cmp y v ≡ Less
  go true (inl is) later = subst (λ w. descriptor_cmp y w ≡ Less) is (behind d (inl refl))
  go true (inr k) later = later k
  go false k later = later k

-- ---- what goes

pub none_named : (d : Descriptor) (removed : List Descriptor) → AreBehind d removed → is_named_in removed d ≡ false
none_named d [] behind = refl
none_named d (g ∷ removed) behind =
    ap (λ (o : Ordering). is_eq o || is_named_in removed d) (turned d g Less (behind g (inl refl)))
    ∙ none_named d removed (λ v among. behind v (inr among))

pub first_out : (d : Descriptor) (removed ds : List Descriptor) → AreBehind d ds → without_those (d ∷ removed) ds ≡ without_those removed ds
first_out d removed [] behind = refl
first_out d removed (y ∷ ys) behind =
    ap (λ (o : Ordering). cond (not (is_eq o || is_named_in removed y)) (y ∷ without_those (d ∷ removed) ys) (without_those (d ∷ removed) ys)) (behind y (inl refl))
    ∙ ap (λ (l : List Descriptor). cond (not (is_named_in removed y)) (y ∷ l) l) (first_out d removed ys (λ v among. behind v (inr among)))

pub kept_at : (removed : List Descriptor) (d : Descriptor) (ds : List Descriptor) (b : Bool) → is_named_in removed d ≡ b → without_those removed (d ∷ ds) ≡ cond (not b) (d ∷ without_those removed ds) (without_those removed ds)
kept_at removed d ds b e = ap (λ (c : Bool). cond (not c) (d ∷ without_those removed ds) (without_those removed ds)) e

-- as many marks as descriptors
abbrev AsMany : {X Y : Type 0} → List X → List Y → Type 0
AsMany [] [] = Unit {0}
AsMany (x ∷ xs) (y ∷ ys) = AsMany xs ys
AsMany _ _ = ⊥

gone_leaves : (staying : List Bool) (ds : List Descriptor) → AsMany staying ds → Rising descriptor_cmp ds → without_those (gone_of staying ds) ds ≡ kept_of staying ds
gone_leaves [] [] many r = refl
gone_leaves [] (d ∷ ds) many r = absurd many
gone_leaves (s ∷ staying) [] many r = absurd many
gone_leaves (true ∷ staying) (d ∷ ds) many r =
    kept_at (gone_of staying ds) d ds false (none_named d (gone_of staying ds) (gone_behind d staying ds r.0))
    ∙ ap (λ (l : List Descriptor). d ∷ l) (gone_leaves staying ds many r.1)
gone_leaves (false ∷ staying) (d ∷ ds) many r =
    kept_at (d ∷ gone_of staying ds) d ds true (ap (λ (o : Ordering). is_eq o || is_named_in (gone_of staying ds) d) (itself d))
    ∙ first_out d (gone_of staying ds) ds r.0
    ∙ gone_leaves staying ds many r.1

-- ---- what comes

without_is : (d : Descriptor) → d.grantable ≡ false → without_option d ≡ d
without_is d e = ap (λ (b : Bool). record d { grantable = b }) (sym e)

put_equal : (d : Descriptor) (ds : List Descriptor) → put descriptor_cmp the_new (without_option d) (d ∷ ds) ≡ without_option d ∷ ds
put_equal d ds = ap (λ (o : Ordering). cond (is_lt o) (without_option d ∷ d ∷ ds) (cond (is_eq o) (without_option d ∷ ds) (d ∷ put descriptor_cmp the_new (without_option d) ds))) (itself d)

module _ (test : Descriptor → Bool) where
  abbrev changed : List Descriptor → List Descriptor
  changed ds = change_where test without_option ds

  cleared_leave : (staying : List Bool) (ds : List Descriptor) → AsMany staying ds → Rising descriptor_cmp ds
      → with_those (cleared_of true (map test ds) staying ds) (kept_of staying ds) ≡ kept_of staying (changed ds)
  cleared_leave [] [] many r = refl
  cleared_leave [] (d ∷ ds) many r = absurd many
  cleared_leave (s ∷ staying) [] many r = absurd many
  cleared_leave (false ∷ staying) (d ∷ ds) many r = cleared_leave staying ds many r.1
  cleared_leave (true ∷ staying) (d ∷ ds) many r = go (test d) (d.grantable) refl (cleared_leave staying ds many r.1) where
    go : (t g : Bool) → d.grantable ≡ g → with_those (cleared_of true (map test ds) staying ds) (kept_of staying ds) ≡ kept_of staying (changed ds) → with_those (cond (t && g) (without_option d ∷ (cleared_of true (map test ds) staying ds)) (cleared_of true (map test ds) staying ds)) (d ∷ kept_of staying ds) ≡ cond t (without_option d) d ∷ kept_of staying (changed ds)
    go true true e later =
        ap (with_those (cleared_of true (map test ds) staying ds)) (put_equal d (kept_of staying ds))
        ∙ put_past (cleared_of true (map test ds) staying ds) (without_option d) (kept_of staying ds) (cleared_behind d true (map test ds) staying ds r.0)
        ∙ ap (λ (l : List Descriptor). without_option d ∷ l) later
    go true false e later =
        put_past (cleared_of true (map test ds) staying ds) d (kept_of staying ds) (cleared_behind d true (map test ds) staying ds r.0)
        ∙ ap (λ (l : List Descriptor). d ∷ l) later ∙ ap (λ (v : Descriptor). v ∷ kept_of staying (changed ds)) (sym (without_is d e))
    go false g e later =
        put_past (cleared_of true (map test ds) staying ds) d (kept_of staying ds) (cleared_behind d true (map test ds) staying ds r.0)
        ∙ ap (λ (l : List Descriptor). d ∷ l) later

  none_cleared : (named staying : List Bool) (ds : List Descriptor) → cleared_of false named staying ds ≡ []
  none_cleared [] staying ds = refl
  none_cleared (n ∷ named) [] ds = refl
  none_cleared (n ∷ named) (s ∷ staying) [] = refl
  none_cleared (n ∷ named) (true ∷ staying) (d ∷ ds) = none_cleared named staying ds
  none_cleared (n ∷ named) (false ∷ staying) (d ∷ ds) = none_cleared named staying ds

  kept_by : (stays : Descriptor → Bool) (ds : List Descriptor) → kept_of (map stays ds) ds ≡ filter stays ds
  kept_by stays [] = refl
  kept_by stays (d ∷ ds) = ap (λ (l : List Descriptor). cond (stays d) (d ∷ l) l) (kept_by stays ds)

  many_marks : (stays : Descriptor → Bool) (ds : List Descriptor) → AsMany (map stays ds) ds
  many_marks stays [] = tt
  many_marks stays (d ∷ ds) = many_marks stays ds

  many_changed : (stays : Descriptor → Bool) (ds : List Descriptor) → AsMany (map stays (changed ds)) ds
  many_changed stays [] = tt
  many_changed stays (d ∷ ds) = many_changed stays ds

  -- what a REVOKE leaves, by its marks
  pub taking_leads : (option : Bool) (stays : Descriptor → Bool) (named staying : List Bool) (ds : List Descriptor) → Rising descriptor_cmp ds → named ≡ map test ds → staying ≡ map stays (in_place option test ds)
      → with_those (cleared_of option named staying ds) (without_those (gone_of staying ds) ds) ≡ filter stays (in_place option test ds)
  taking_leads false stays named staying ds r is marks =
      ap (λ (l : List Descriptor). with_those l (without_those (gone_of staying ds) ds)) (none_cleared named staying ds)
      ∙ gone_leaves staying ds (subst (λ (l : List Bool). AsMany l ds) (sym marks) (many_marks stays ds)) r
      ∙ ap (λ (l : List Bool). kept_of l ds) marks ∙ kept_by stays ds
  taking_leads true stays named staying ds r is marks =
      let many : AsMany staying ds = subst (λ (l : List Bool). AsMany l ds) (sym marks) (many_changed stays ds) in
      ap (λ (l : List Bool). with_those (cleared_of true l staying ds) (without_those (gone_of staying ds) ds)) is
      ∙ ap (with_those (cleared_of true (map test ds) staying ds)) (gone_leaves staying ds many r)
      ∙ cleared_leave staying ds many r
      ∙ ap (λ (l : List Bool). kept_of l (changed ds)) marks ∙ kept_by stays (changed ds)
