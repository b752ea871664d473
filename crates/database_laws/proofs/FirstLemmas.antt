-- The first of several causes.
use Rattle.std.proofs.Common.{◌≡◌, ◌⊎◌, true, false, List, [], ◌∷◌, map, Result, Ok, Err, refl, sym, ap, ◌∙◌, subst, inl, inr}
use Rattle.std.proofs.Math.Path.{fun_ext}
use Rattle.sql_types.specs.declared.state.SqlState.{SqlState}
use Rattle.sql_types.specs.declared.value.Value.{Value}
use Rattle.sql_types.specs.declared.value.Value.TheVariants.{Null, Int, Text, Bool as Boolean}
use Rattle.expressions.specs.Outcome.{Outcome, with_value}
use Rattle.expressions.specs.Meaning.{and_then}
use Rattle.expressions.specs.Stages.{◌>>=◌, each}
use Rattle.abstract_database.specs.Lists.{Among}
use Rattle.abstract_database.specs.Expressions.{when_true, passing, all_of}
use Rattle.abstract_database.proofs.ResultLemmas.{ok_inside, bind_ok, each_to}
use Rattle.database_laws.specs.Visible.{is_met}
use Rattle.database_laws.specs.Refusals.{IsFirst, IsFailure}
use Rattle.database_laws.proofs.ErrorLemmas.{bind_err, first_err}

-- ---- what refuses, and what goes on

pub stops : {A B : Type 0} (r : Result A SqlState) (go : A → Result B SqlState) (code : SqlState) → r ≡ Err code → (r >>= go) ≡ Err code
stops {A} {B} r go code e = ap (λ (x : Result A SqlState). x >>= go) e

pub goes_on : {A B : Type 0} (r : Result A SqlState) (go : A → Result B SqlState) (a : A) (code : SqlState) → r ≡ Ok a → go a ≡ Err code → (r >>= go) ≡ Err code
goes_on {A} {B} r go a code e h = ap (λ (x : Result A SqlState). x >>= go) e ∙ h

pub not_ok : {A : Type 0} (r : Result A SqlState) (a : A) (code : SqlState) → r ≡ Ok a → r ≡ Err code → ⊥
not_ok {A} r a code e h = let contrary : ◌≡◌ {A = Result A SqlState} (Ok a) (Err code) = sym e ∙ h in cc

pub met_is : (o : Outcome) → is_met o ≡ true → o ≡ Ok (Boolean true)
met_is (Ok (Boolean true)) e = refl
met_is (Ok (Boolean false)) e = cc
met_is (Ok Null) e = cc
met_is (Ok (Int n)) e = cc
met_is (Ok (Text t)) e = cc
met_is (Err c) e = cc

-- ---- the first

pub in_list_of : {X : Type 0} (Holds : X → Type 0) (xs : List X) (x : X) → IsFirst Holds x xs → Among x xs
in_list_of Holds [] x h = absurd h
in_list_of Holds (y ∷ ys) x (inl at) = inl at.0
in_list_of Holds (y ∷ ys) x (inr later) = inr (in_list_of Holds ys x later.1)

-- the first of those with an answer that is refused, where no other answer lets the fact hold
pub first_refused : {A B : Type 0} (f : A → Result B SqlState) (Holds : A → Type 0) → ((a : A) (b : B) → f a ≡ Ok b → Holds a → ⊥) → (xs : List A) (code : SqlState) → ((a : A) → Among a xs → f a ≡ Err code → Holds a) →
    each f xs ≡ Err code → (a : A) × IsFirst Holds a xs × (f a ≡ Err code)
first_refused f Holds never [] code of_it e = cc
first_refused f Holds never (x ∷ xs) code of_it e = elim (bind_err (f x) (λ y. each f xs >>= λ ys. Ok (y ∷ ys)) code e) [
  | inl here ↦ (x, inl (refl, of_it x (inl refl) here), here)
  | inr later ↦
      let found = first_refused f Holds never xs code (λ a h. of_it a (inr h)) (first_err (each f xs) (λ ys. later.0 ∷ ys) code later.2) in
      (found.0, inr (never x later.0 later.1, found.1), found.2)
]

-- the first that fails
pub first_failure : {A : Type 0} (f : A → Outcome) (xs : List A) (code : SqlState) → each f xs ≡ Err code → (a : A) × IsFirst (λ x. IsFailure (f x)) a xs × (f a ≡ Err code)
first_failure f xs code e = first_refused f (λ x. IsFailure (f x)) (λ a b is fails. not_ok (f a) b fails.0 is fails.1) xs code (λ a h is. (code, is)) e

-- the same of what passes
pub first_not_passed : {A : Type 0} (p : A → Outcome) (xs : List A) (code : SqlState) → passing p xs ≡ Err code → (x : A) × IsFirst (λ x. IsFailure (p x)) x xs × (p x ≡ Err code)
first_not_passed p [] code e = cc
first_not_passed p (x ∷ xs) code e = elim (bind_err (p x) (λ v. passing p xs >>= λ ys. Ok (when_true v (x ∷ ys) ys)) code e) [
  | inl here ↦ (x, inl (refl, (code, here)), here)
  | inr later ↦
      let found = first_not_passed p xs code (first_err (passing p xs) (λ ys. when_true later.0 (x ∷ ys) ys) code later.2) in
      (found.0, inr (λ fails. not_ok (p x) later.0 fails.0 later.1 fails.1, found.1), found.2)
]

-- the first of what elements are made of
pub first_of_map : {X Y : Type 0} (f : X → Y) (Holds : Y → Type 0) (xs : List X) (y : Y) → IsFirst Holds y (map f xs) → (x : X) × IsFirst (λ z. Holds (f z)) x xs × (f x ≡ y)
first_of_map f Holds [] y h = absurd h
first_of_map f Holds (x ∷ xs) y (inl at) = (x, inl (refl, subst_back f Holds x y at), at.0) where
  subst_back : {X Y : Type 0} (f : X → Y) (Holds : Y → Type 0) (x : X) (y : Y) → (f x ≡ y) × Holds y → Holds (f x)
  subst_back f Holds x y k = subst Holds (sym k.0) k.1
first_of_map f Holds (x ∷ xs) y (inr later) = let found = first_of_map f Holds xs y later.1 in (found.0, inr (later.0, found.1), found.2)

-- the same elements, where what holds of each is said in another way
pub first_said : {X : Type 0} (F G : X → Outcome) → ((x : X) → F x ≡ G x) → (x : X) (xs : List X) → IsFirst (λ z. IsFailure (F z)) x xs → IsFirst (λ z. IsFailure (G z)) x xs
first_said F G same x xs h = subst (λ H. IsFirst (λ z. IsFailure (H z)) x xs) (fun_ext same) h

-- what passes has a value on each element
pub passing_has_value : {A : Type 0} (p : A → Outcome) (xs ys : List A) → passing p xs ≡ Ok ys → (x : A) → Among x xs → IsFailure (p x) → ⊥
passing_has_value p [] ys e x h fails = absurd h
passing_has_value p (y ∷ xs) ys e x h fails =
    let first = bind_ok (p y) (λ v. passing p xs >>= λ l. Ok (when_true v (y ∷ l) l)) ys e in
    let rest = bind_ok (passing p xs) (λ l. Ok (when_true first.0 (y ∷ l) l)) ys first.2 in
    elim h [
      | inl is ↦ not_ok (p x) first.0 fails.0 (ap p (sym is) ∙ first.1) fails.1
      | inr later ↦ passing_has_value p xs rest.0 rest.1 x later fails
    ]

-- and so has what each element is made
pub each_has_value : {A : Type 0} (f : A → Outcome) (xs : List A) (ys : List Value) → each f xs ≡ Ok ys → (x : A) → Among x xs → IsFailure (f x) → ⊥
each_has_value f xs ys e x h fails = let at = each_to f xs ys e x h in not_ok (f x) at.0 fails.0 at.1 fails.1

-- ---- e1 AND e2 AND ..

abbrev GoesOn : Outcome → Type 0
GoesOn o = (v : Value) × (o ≡ Ok v) × (v ≡ Boolean false → ⊥)

and_parts_go_on : (x : Value) (p : Outcome) → (x ≡ Boolean false → ⊥) → GoesOn (and_then x p) → IsFailure p → ⊥
and_parts_go_on (Boolean false) p other h fails = other refl
and_parts_go_on (Boolean true) (Err c) other h fails = not_ok (Err c) h.0 c h.1 refl
and_parts_go_on Null (Err c) other h fails = not_ok (Err c) h.0 c h.1 refl
and_parts_go_on (Int n) (Err c) other h fails = not_ok (Err c) h.0 c h.1 refl
and_parts_go_on (Text t) (Err c) other h fails = not_ok (Err c) h.0 c h.1 refl
and_parts_go_on (Boolean true) (Ok v) other h fails = not_ok (Ok v) v fails.0 refl fails.1
and_parts_go_on Null (Ok v) other h fails = not_ok (Ok v) v fails.0 refl fails.1
and_parts_go_on (Int n) (Ok v) other h fails = not_ok (Ok v) v fails.0 refl fails.1
and_parts_go_on (Text t) (Ok v) other h fails = not_ok (Ok v) v fails.0 refl fails.1

left_goes_on : (o p : Outcome) → GoesOn (with_value o (λ v. and_then v p)) → GoesOn o
left_goes_on (Err c) p h = absurd (not_ok (Err c) h.0 c h.1 refl)
left_goes_on (Ok (Boolean true)) p h = (Boolean true, refl, λ is. cc)
left_goes_on (Ok (Boolean false)) p h = absurd (h.2 (ok_inside h.0 (Boolean false) (sym h.1)))
left_goes_on (Ok Null) p h = (Null, refl, λ is. cc)
left_goes_on (Ok (Int n)) p h = (Int n, refl, λ is. cc)
left_goes_on (Ok (Text t)) p h = (Text t, refl, λ is. cc)

right_goes_on : (o p : Outcome) → GoesOn (with_value o (λ v. and_then v p)) → IsFailure p → ⊥
right_goes_on o p h fails =
    let left = left_goes_on o p h in
    and_parts_go_on left.0 p left.2 (subst (λ (x : Outcome). GoesOn (with_value x (λ v. and_then v p))) left.1 h) fails

then_refused : (o p : Outcome) (code : SqlState) → with_value o (λ v. and_then v p) ≡ Err code → (o ≡ Err code) ⊎ (GoesOn o × (p ≡ Err code))
then_refused (Err c) p code e = inl e
then_refused (Ok (Boolean false)) p code e = cc
then_refused (Ok (Boolean true)) (Err c) code e = inr ((Boolean true, refl, λ is. cc), e)
then_refused (Ok Null) (Err c) code e = inr ((Null, refl, λ is. cc), e)
then_refused (Ok (Int n)) (Err c) code e = inr ((Int n, refl, λ is. cc), e)
then_refused (Ok (Text t)) (Err c) code e = inr ((Text t, refl, λ is. cc), e)
then_refused (Ok (Boolean true)) (Ok v) code e = cc
then_refused (Ok Null) (Ok v) code e = cc
then_refused (Ok (Int n)) (Ok v) code e = cc
then_refused (Ok (Text t)) (Ok v) code e = cc

module _ {X : Type 0} (f : X → Outcome) (code : SqlState) where
  abbrev FailsFirst : List X → Type 0
  FailsFirst xs = (x : X) × IsFirst (λ y. IsFailure (f y)) x xs × (f x ≡ Err code)

  later_fails : (xs : List X) (o : Outcome) → all_of (o ∷ map f xs) ≡ Err code → (o ≡ Err code) ⊎ (GoesOn o × FailsFirst xs)
  later_fails [] o e = inl e
  later_fails (x ∷ xs) o e = elim (later_fails xs (with_value o (λ v. and_then v (f x))) e) [
    | inl is ↦ elim (then_refused o (f x) code is) [ inl h ↦ inl h | inr h ↦ inr (h.0, (x, inl (refl, (code, h.1)), h.1)) ]
    | inr later ↦ inr (left_goes_on o (f x) later.0, (later.1.0, inr (right_goes_on o (f x) later.0, later.1.1), later.1.2))
  ]

  -- of conditions the first that fails
  pub all_first : (xs : List X) → all_of (map f xs) ≡ Err code → FailsFirst xs
  all_first [] e = cc
  all_first (x ∷ xs) e = elim (later_fails xs (f x) e) [
    | inl h ↦ (x, inl (refl, (code, h)), h)
    | inr later ↦ (later.1.0, inr (λ fails. not_ok (f x) later.0.0 fails.0 later.0.1 fails.1, later.1.1), later.1.2)
  ]
