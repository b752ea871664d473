-- What REVOKE leaves, by marks.
use Rattle.std.proofs.Common.{◌≡◌, ◌<◌, ◌+◌, ◌++◌, ◌&&◌, ◌||◌, ℕ, zero, suc, Bool, true, false, not, cond, List, [], ◌∷◌, Some, Option, Ok, Err, map, filter, length, slice_get, get_or, refl, sym, ap, ◌∙◌, inl, inr, arith}
use Rattle.std.proofs.lemmas.Bool.{cases_lt, and_parts, and_from}
use Rattle.std.proofs.lemmas.List.{get_or_append_left, get_or_push, length_push, get_or-map, same_lists, get_or_default, length-map}
use Rattle.std.proofs.lemmas.Option.{slice_get_cases, slice_get_within, same_Some}
use Rattle.sql_types.specs.declared.state.SqlState.TheVariants.{DependentPrivileges}
use Rattle.sql_ast.specs.declared.privilege.Descriptor.{Descriptor}
use Rattle.sql_ast.specs.declared.statement.DropBehavior.{DropBehavior}
use Rattle.abstract_database.specs.Lists.{Among, change_where}
use Rattle.abstract_database.specs.Privileges.{is_supported, is_taken_by, without_named, revoked, held, abandoned, held_or_refused, is_cascade, without_option}
use Rattle.abstract_database.proofs.ElementLemmas.{into_filter, drop_all, keep_all}
use Rattle.grant_graph.specs.Supports.{left, left_of, MarkSupported}
use Rattle.grant_graph.specs.Revoking.{Stay, Loses, in_place}
use Rattle.grant_graph.proofs.Links.{mark_at, alone_kept, kept_alone, in_place_left, place_of, among_left}

-- one mark more
pub stay_more : (n : ℕ) (option : Bool) (reached named marks : List Bool) (mark : Bool) → Stay n option reached named marks → mark ≡ ((option || not (get_or named n false)) && get_or reached n false) → Stay (n + 1) option reached named (marks ++ mark ∷ [])
stay_more n option reached named marks mark stay is = record {
  count = length_push marks mark ∙ ap (λ (k : ℕ). k + 1) stay.count;
  each = λ i lt. elim (cases_lt i n) [
    | inl before ↦ get_or_append_left marks (mark ∷ []) false i (omega (arith, before, stay.count)) ∙ stay.each i before
    | inr from ↦
        let same : n ≡ i = omega (arith, lt, from) in
        get_or_push marks mark false i (omega (arith, same, stay.count)) ∙ is ∙ ap (λ (k : ℕ). (option || not (get_or named k false)) && get_or reached k false) same
  ];
}

filter_both_at : (f g : Descriptor → Bool) (x : Descriptor) (xs : List Descriptor) (b : Bool) → filter g (filter f xs) ≡ filter (λ y. f y && g y) xs → filter g (cond b (x ∷ filter f xs) (filter f xs)) ≡ cond (b && g x) (x ∷ filter (λ y. f y && g y) xs) (filter (λ y. f y && g y) xs)
filter_both_at f g x xs true go = ap (λ (l : List Descriptor). cond (g x) (x ∷ l) l) go
filter_both_at f g x xs false go = go

filter_both : (f g : Descriptor → Bool) (xs : List Descriptor) → filter g (filter f xs) ≡ filter (λ y. f y && g y) xs
filter_both f g [] = refl
filter_both f g (x ∷ xs) = filter_both_at f g x xs (f x) (filter_both f g xs)

and_when : (b r s : Bool) → (b ≡ true → r ≡ s) → (b && r) ≡ (b && s)
and_when true r s h = h refl
and_when false r s h = refl

pub length-change_where : (test : Descriptor → Bool) (f : Descriptor → Descriptor) (ds : List Descriptor) → length (change_where test f ds) ≡ length ds
length-change_where test f [] = refl
length-change_where test f (d ∷ ds) = ap suc (length-change_where test f ds)

get_or-change_where : (test : Descriptor → Bool) (f : Descriptor → Descriptor) (ds : List Descriptor) (i : ℕ) (d : Descriptor) → slice_get ds i ≡ Some d → (e : Descriptor) → get_or (change_where test f ds) i e ≡ cond (test d) (f d) d
get_or-change_where test f [] i d at e = cc
get_or-change_where test f (x ∷ xs) zero d at e = ap (λ (y : Descriptor). cond (test y) (f y) y) (same_Some x d at)
get_or-change_where test f (x ∷ xs) (suc i) d at e = get_or-change_where test f xs i d at e

pub same_left : (option : Bool) (named ds : List Descriptor) → without_named option named ds ≡ left option (is_taken_by named) ds
same_left true named ds = refl
same_left false named ds = refl

module _ (test : Descriptor → Bool) (ds : List Descriptor) (named reached marks : List Bool) (is : named ≡ map test ds) (are : MarkSupported named ds reached) where
  -- what stays, as a test
  abbrev pub stays_by : Bool → Descriptor → Bool
  stays_by false d = not (test d) && is_supported (left false test ds) d
  stays_by true d = is_supported (left true test ds) d

  staying_at : (option : Bool) → Stay (length reached) option reached named marks → (i : ℕ) (x : Descriptor) → slice_get ds i ≡ Some x → get_or marks i false ≡ ((option || not (test x)) && get_or reached i false)
  staying_at option stay i x at =
      let inside = slice_get_within ds i x at in
      stay.each i (omega (arith, inside, are.count)) ∙ ap (λ (b : Bool). (option || not b) && get_or reached i false) (mark_at test ds named i x is at)

  pub staying_is : (option : Bool) → Stay (length reached) option reached named marks → marks ≡ map (stays_by option) (in_place option test ds)
  staying_is false stay = same_lists marks (map (stays_by false) ds) (stay.count ∙ are.count ∙ sym (length-map ds (stays_by false)))
      (λ i b lt. elim ((slice_get_cases ds i).1) [
        | inl there ↦
            let x = there.0 in
            get_or_default marks i b false lt
            ∙ staying_at false stay i x there.2
            ∙ and_when (not (test x)) (get_or reached i false) (is_supported (left false test ds) x) (λ kept. are.each false test is i x x there.2 (alone_kept (test x) x kept))
            ∙ sym (get_or-map (stays_by false) ds i x b there.1 ∙ ap (stays_by false) there.3)
        | inr past ↦ absurd (omega (arith, lt, past.0, stay.count, are.count))
      ])
  staying_is true stay = same_lists marks (map (stays_by true) (change_where test without_option ds)) (stay.count ∙ are.count ∙ sym (length-map (change_where test without_option ds) (stays_by true) ∙ length-change_where test without_option ds))
      (λ i b lt. elim ((slice_get_cases ds i).1) [
        | inl there ↦
            let x = there.0 in
            let y = cond (test x) (without_option x) x in
            get_or_default marks i b false lt
            ∙ staying_at true stay i x there.2
            ∙ are.each true test is i x y there.2 (in_place_left (test x) x y refl)
            ∙ sym (get_or-map (stays_by true) (change_where test without_option ds) i x b (omega (arith, there.1, length-change_where test without_option ds)) ∙ ap (stays_by true) (get_or-change_where test without_option ds i x there.2 x))
        | inr past ↦ absurd (omega (arith, lt, past.0, stay.count, are.count))
      ])

  pub kept_is_held : (option : Bool) → filter (stays_by option) (in_place option test ds) ≡ held (left option test ds)
  kept_is_held false = sym (filter_both (λ d. not (test d)) (is_supported (left false test ds)) ds)
  kept_is_held true = refl

  something_left : (option : Bool) (d x : Descriptor) → left_of option (test d) d ≡ Some x → (option || not (test d)) ≡ true
  something_left true d x e = refl
  something_left false d x e = (kept_alone (test d) d x e).0

  left_there : (option b : Bool) (d : Descriptor) → (option || not b) ≡ true → (x : Descriptor) × (left_of option b d ≡ Some x)
  left_there true true d e = (without_option d, refl)
  left_there true false d e = (d, refl)
  left_there false true d e = cc
  left_there false false d e = (d, refl)

  -- nothing is lost: all that is left is supported
  pub none_lost : (option : Bool) → (Loses option reached named → ⊥) → (x : Descriptor) → Among x (left option test ds) → is_supported (left option test ds) x ≡ true
  none_lost option none x h =
      let place = place_of ds test option x h in
      let inside = slice_get_within ds place.0 place.1 place.2 in
      let lt : place.0 < length reached = omega (arith, inside, are.count) in
      sym (are.each option test is place.0 place.1 x place.2 place.3) ∙ reached_if (get_or reached place.0 false) (λ not_so. none (
        place.0,
        lt,
        and_from (not (get_or reached place.0 false)) (option || not (get_or named place.0 false)) not_so
            (ap (λ (b : Bool). option || not b) (mark_at test ds named place.0 place.1 is place.2) ∙ something_left option place.1 x place.3),
      ))
    where
      reached_if : (b : Bool) → (not b ≡ true → ⊥) → b ≡ true
      reached_if true h = refl
      reached_if false h = absurd (h refl)

  -- something is lost: it is abandoned
  pub some_lost : (option : Bool) → Loses option reached named → (x : Descriptor) × Among x (abandoned (left option test ds))
  some_lost option lost = elim ((slice_get_cases ds lost.0).1) [
    | inl there ↦
        let parts = and_parts (not (get_or reached lost.0 false)) (option || not (get_or named lost.0 false)) lost.2 in
        let d = there.0 in
        let some = left_there option (test d) d (sym (ap (λ (b : Bool). option || not b) (mark_at test ds named lost.0 d is there.2)) ∙ parts.1) in
        let is_not : not (is_supported (left option test ds) some.0) ≡ true = ap not (sym (are.each option test is lost.0 d some.0 there.2 some.1)) ∙ parts.0 in
        (some.0, into_filter (λ (y : Descriptor). not (is_supported (left option test ds) y)) (left option test ds) some.0 (among_left ds test option lost.0 d some.0 there.2 some.1) is_not)
    | inr past ↦ absurd (omega (arith, past.0, lost.1, are.count))
  ]

refused_when : (S lost : List Descriptor) (x : Descriptor) → Among x lost → held_or_refused false S lost ≡ Err DependentPrivileges
refused_when S [] x h = absurd h
refused_when S (d ∷ ds) x h = refl

module _ (option : Bool) (behavior : Option DropBehavior) (N ds : List Descriptor) (named reached marks : List Bool) (is : named ≡ map (is_taken_by N) ds) (are : MarkSupported named ds reached) where
  abbrev S : List Descriptor
  S = left option (is_taken_by N) ds

  revoked_is : (b : Bool) → is_cascade behavior ≡ b → revoked option behavior N ds ≡ held_or_refused b S (abandoned S)
  revoked_is b e = ap (λ (set : List Descriptor). held_or_refused (is_cascade behavior) set (abandoned set)) (same_left option N ds) ∙ ap (λ (c : Bool). held_or_refused c S (abandoned S)) e

  kept_at : (b : Bool) → is_cascade behavior ≡ b → ((b ≡ false) × Loses option reached named → ⊥) → revoked option behavior N ds ≡ Ok (held S)
  kept_at true e fine = revoked_is true e
  kept_at false e fine =
      let all = none_lost (is_taken_by N) ds named reached marks is are option (λ lost. fine (refl, lost)) in
      revoked_is false e ∙ ap (λ (lost : List Descriptor). held_or_refused false S lost) (drop_all (is_supported S) S all) ∙ ap (λ (l : List Descriptor). Ok l) (sym (keep_all (is_supported S) S all))

  pub revoked_ok : ((is_cascade behavior ≡ false) × Loses option reached named → ⊥) → (new : List Descriptor) → new ≡ filter (stays_by (is_taken_by N) ds named reached marks is are option) (in_place option (is_taken_by N) ds) → revoked option behavior N ds ≡ Ok new
  revoked_ok fine new new_is =
      kept_at (is_cascade behavior) refl fine
      ∙ ap (λ (l : List Descriptor). Ok l) (sym (new_is ∙ kept_is_held (is_taken_by N) ds named reached marks is are option))

  pub revoked_err : is_cascade behavior ≡ false → Loses option reached named → revoked option behavior N ds ≡ Err DependentPrivileges
  revoked_err e lost =
      let gone = some_lost (is_taken_by N) ds named reached marks is are option lost in
      revoked_is false e ∙ refused_when S (abandoned S) gone.0 gone.1
