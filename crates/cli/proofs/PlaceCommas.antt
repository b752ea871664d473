-- A word up to its first comma, and what stands behind that.
use Rattle.std.proofs.Common.{◌≡◌, ◌≢◌, ⊎_elim, inr, ◌<◌, ℕ, true, false, List, [], ◌∷◌, ◌++◌, Option, Some, None, length, get_or, take, refl, sym, ap, subst, ◌∙◌, arith, eqb, eq-eqb, length-take}
use Rattle.std.specs.Prelude.{MatchOption}
use Rattle.std.specs.List.{before_first, position_or_len}
use Rattle.std.proofs.lemmas.List.{take_all, get_or-take}
use Rattle.std.proofs.lemmas.List.Elements.{All-head, All-tail, All-from_get_or}
use Rattle.std.proofs.lemmas.List.Sums.{fails_before_first}
use Rattle.cli.specs.PlaceWords.{AskForPasswords, HasNoComma, NoOptions, NoPlaceWord, SayNothing, SaysModeBeside, SaysMore, SaysOptions, SaysParts, SaysRoleAndMode, SaysThree, SaysTwo, SaysTwoOrThree, place_word, with_options}
use Rattle.cli.specs.declared.place_words.PlaceKind.{PlaceKind}
use Rattle.cli.specs.declared.served_place.PlaceDoor.{PlaceDoor}
use Rattle.cli.specs.declared.place_options.PlaceGuard.{PlaceGuard}

no_comma : (b : ℕ) → eqb b 44 ≡ false → b ≢ 44
no_comma b other same = let bad : true ≡ false = sym (eq-eqb b 44 same) ∙ other in cc

pub no_comma_before : (bs : List ℕ) → HasNoComma (before_first (λ b. eqb b 44) bs)
no_comma_before bs = All-from_get_or (λ b. b ≢ 44) (before_first (λ b. eqb b 44) bs) 0 here
  where
    n : ℕ
    n = position_or_len (λ b. eqb b 44) bs

    here : (i : ℕ) → i < length (take n bs) → get_or (take n bs) i 0 ≢ 44
    here i under =
        let before : i < n = omega (arith, length-take n bs) in
        subst (λ (x : ℕ). x ≢ 44) (sym (get_or-take n bs i 0 before)) (no_comma (get_or bs i 0) (fails_before_first (λ b. eqb b 44) bs i 0 before))

pub no_comma_at_all : (bs : List ℕ) → position_or_len (λ b. eqb b 44) bs ≡ length bs → HasNoComma bs
no_comma_at_all bs none = subst HasNoComma (take_all (position_or_len (λ b. eqb b 44) bs) bs (omega (arith, none))) (no_comma_before bs)

-- a word is cut so in one way
no_word : (b : ℕ) (bs : List ℕ) → [] ≡ b ∷ bs → ⊥
no_word b bs is = cc

heads : (a b : ℕ) (xs bs : List ℕ) → a ∷ xs ≡ b ∷ bs → a ≡ b
heads a b xs bs is = cc

tails : (a b : ℕ) (xs bs : List ℕ) → a ∷ xs ≡ b ∷ bs → xs ≡ bs
tails a b xs bs is = cc

pub one_cut : (a b : List ℕ) (x y : Option (List ℕ)) → HasNoComma a → HasNoComma b → with_options a x ≡ with_options b y → (a ≡ b) × (x ≡ y)
one_cut [] [] None None p q is = (refl, refl)
one_cut [] [] None (Some o) p q is = absurd (no_word 44 o is)
one_cut [] [] (Some o) None p q is = absurd (no_word 44 o (sym is))
one_cut [] [] (Some o) (Some r) p q is = (refl, ap Some (tails 44 44 o r is))
one_cut [] (b ∷ bs) None None p q is = absurd (no_word b bs is)
one_cut [] (b ∷ bs) None (Some o) p q is = absurd (no_word b (bs ++ 44 ∷ o) is)
one_cut [] (b ∷ bs) (Some o) None p q is = absurd (All-head (λ c. c ≢ 44) b bs q (sym (heads 44 b o bs is)))
one_cut [] (b ∷ bs) (Some o) (Some r) p q is = absurd (All-head (λ c. c ≢ 44) b bs q (sym (heads 44 b o (bs ++ 44 ∷ r) is)))
one_cut (a ∷ xs) [] None None p q is = absurd (no_word a xs (sym is))
one_cut (a ∷ xs) [] None (Some o) p q is = absurd (All-head (λ c. c ≢ 44) a xs p (heads a 44 xs o is))
one_cut (a ∷ xs) [] (Some o) None p q is = absurd (no_word a (xs ++ 44 ∷ o) (sym is))
one_cut (a ∷ xs) [] (Some o) (Some r) p q is = absurd (All-head (λ c. c ≢ 44) a xs p (heads a 44 (xs ++ 44 ∷ o) r is))
one_cut (a ∷ xs) (b ∷ bs) x y p q is =
    let rest = one_cut xs bs x y (All-tail (λ c. c ≢ 44) a xs p) (All-tail (λ c. c ≢ 44) b bs q) (more x y is) in
    (joined (first x y is) rest.0, rest.1)
  where
    first : (x y : Option (List ℕ)) → with_options (a ∷ xs) x ≡ with_options (b ∷ bs) y → a ≡ b
    first None None is = heads a b xs bs is
    first None (Some o) is = heads a b xs (bs ++ 44 ∷ o) is
    first (Some o) None is = heads a b (xs ++ 44 ∷ o) bs is
    first (Some o) (Some r) is = heads a b (xs ++ 44 ∷ o) (bs ++ 44 ∷ r) is

    more : (x y : Option (List ℕ)) → with_options (a ∷ xs) x ≡ with_options (b ∷ bs) y → with_options xs x ≡ with_options bs y
    more None None is = tails a b xs bs is
    more None (Some o) is = tails a b xs (bs ++ 44 ∷ o) is
    more (Some o) None is = tails a b (xs ++ 44 ∷ o) bs is
    more (Some o) (Some r) is = tails a b (xs ++ 44 ∷ o) (bs ++ 44 ∷ r) is

    joined : a ≡ b → xs ≡ bs → a ∷ xs ≡ b ∷ bs
    joined h t = cc

-- ---- what the parts of words say, the words say

module _ (kind : PlaceKind) (words first : List ℕ) (rest : Option (List ℕ)) (cut : words ≡ with_options first rest) (is_first : HasNoComma first) where
  none_says : SayNothing (SaysParts kind first rest) → NoOptions kind words
  none_says none door access it =
      let same = one_cut it.first first it.rest rest it.is_first is_first (sym it.cut ∙ cut) in
      none door access (subst (λ (o : Option (List ℕ)). SaysParts kind first o door access) same.1 (subst (λ (w : List ℕ). SaysParts kind w it.rest door access) same.0 it.says))

  pub says_so : (r : Option PlaceGuard) → MatchOption r (SayNothing (SaysParts kind first rest)) (λ g. SaysParts kind first rest g.door g.access)
      → MatchOption r (NoOptions kind words) (λ g. SaysOptions kind words g.door g.access)
  says_so None none = none_says none
  says_so (Some g) says = record { first = first; rest = rest; cut = cut; is_first = is_first; says = says }

module _ (kind : PlaceKind) (first rest second : List ℕ) (third : Option (List ℕ)) (cut : rest ≡ with_options second third) (is_second : HasNoComma second) where
  no_more : SayNothing (SaysTwoOrThree kind first second third) → SayNothing (SaysMore kind first rest)
  no_more none door access it =
      let same = one_cut it.second second it.third third it.is_second is_second (sym it.cut ∙ cut) in
      none door access (subst (λ (o : Option (List ℕ)). SaysTwoOrThree kind first second o door access) same.1 (subst (λ (w : List ℕ). SaysTwoOrThree kind first w it.third door access) same.0 it.says))

  pub more_so : (r : Option PlaceGuard) → MatchOption r (SayNothing (SaysTwoOrThree kind first second third)) (λ g. SaysTwoOrThree kind first second third g.door g.access)
      → MatchOption r (SayNothing (SaysMore kind first rest)) (λ g. SaysMore kind first rest g.door g.access)
  more_so None none = no_more none
  more_so (Some g) says = record { second = second; third = third; cut = cut; is_second = is_second; says = says }

-- two words say nothing that say no role and mode in either order, and ask for no passwords
pub two_none : (kind : PlaceKind) (first second : List ℕ) → SayNothing (SaysRoleAndMode kind first second) → SayNothing (SaysRoleAndMode kind second first) → ((door : PlaceDoor) → AskForPasswords first second door → ⊥)
    → SayNothing (SaysTwo kind first second)
two_none kind first second none other neither door access says = ⊎_elim (none door access) (λ more. ⊎_elim (other door access) (λ asks. neither door asks.0) more) says

-- three words say what the last way of reading them says, where the others say nothing
pub three_so : (kind : PlaceKind) (first second third : List ℕ) → SayNothing (SaysModeBeside kind first second third) → SayNothing (SaysModeBeside kind second first third)
    → (r : Option PlaceGuard) → MatchOption r (SayNothing (SaysModeBeside kind third first second)) (λ g. SaysModeBeside kind third first second g.door g.access)
    → MatchOption r (SayNothing (SaysThree kind first second third)) (λ g. SaysThree kind first second third g.door g.access)
three_so kind first second third none other None neither = λ door access says. ⊎_elim (none door access) (λ more. ⊎_elim (other door access) (neither door access) more) says
three_so kind first second third none other (Some g) says = inr (inr says)

-- a word that is of no kind up to its first comma is none
pub no_place_word : (word first : List ℕ) (rest : Option (List ℕ)) → word ≡ with_options first rest → HasNoComma first → ((kind : PlaceKind) (behind : List ℕ) → first ≢ place_word kind behind) → NoPlaceWord word
no_place_word word first rest cut is_first none kind behind options is apart =
    none kind behind ((one_cut first (place_word kind behind) rest options is_first apart (sym cut ∙ is)).0)

-- what is said of nothing is said where nothing is
pub left_none : {T : Type 0} (N : Type 0) (S : T → Type 0) (r : Option T) → r ≡ None → N → MatchOption r N S
left_none N S None is none = none
left_none N S (Some x) is none = let bad : Some x ≡ None = is in cc
