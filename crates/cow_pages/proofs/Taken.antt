-- Which pages are taken, as a test and as a fact.
use Rattle.std.proofs.Common.{◌≡◌, ◌⊎◌, ◌<◌, ◌≤◌, ℕ, Bool, true, false, ◌||◌, List, length, refl, sym, ◌∙◌, inl, inr}
use Rattle.page_roots.specs.Reach.{InReach, is_reached}
use Rattle.page_roots.proofs.Reaching.{reached_where}
use Rattle.page_allocator.specs.TakenPages.{TakenPages, IsTaken, AreReached}

either : (a b : Bool) → (a || b) ≡ true → (a ≡ true) ⊎ (b ≡ true)
either true b is = inl refl
either false b is = inr is

first_of : (a b : Bool) → a ≡ true → (a || b) ≡ true
first_of true b is = refl
first_of false b is = absurd cc

second_of : (a b : Bool) → b ≡ true → (a || b) ≡ true
second_of true b is = refl
second_of false b is = is

same_test : (a b : Bool) → (a ≡ true → b ≡ true) → (b ≡ true → a ≡ true) → a ≡ b
same_test true b forth back = sym (forth refl)
same_test false true forth back = let e : false ≡ true = back refl in absurd cc
same_test false false forth back = refl

module _ (marks : TakenPages) (maps durable reserved working : List ℕ) (taken : AreReached marks (is_reached maps durable) (is_reached reserved working)) (page : ℕ) (some : 1 ≤ page) (inside : page < length marks) where
  pub reach_taken : InReach maps durable page → IsTaken marks page
  reach_taken at = taken page some inside ∙ first_of (is_reached maps durable page) (is_reached reserved working page) ((reached_where maps durable page).1 at)

  pub working_taken : InReach reserved working page → IsTaken marks page
  working_taken at = taken page some inside ∙ second_of (is_reached maps durable page) (is_reached reserved working page) ((reached_where reserved working page).1 at)

  pub taken_only : IsTaken marks page → InReach maps durable page ⊎ InReach reserved working page
  taken_only is = elim (either (is_reached maps durable page) (is_reached reserved working page) (sym (taken page some inside) ∙ is)) [
    | inl first ↦ inl ((reached_where maps durable page).0 first)
    | inr second ↦ inr ((reached_where reserved working page).0 second)
  ]

-- a page is taken exactly where it is in the reach or named by the working map
pub reached_so : (marks : TakenPages) (maps durable reserved working : List ℕ)
    → ((page : ℕ) → 1 ≤ page → page < length marks → InReach maps durable page → IsTaken marks page)
    → ((page : ℕ) → 1 ≤ page → page < length marks → InReach reserved working page → IsTaken marks page)
    → ((page : ℕ) → 1 ≤ page → page < length marks → IsTaken marks page → InReach maps durable page ⊎ InReach reserved working page)
    → AreReached marks (is_reached maps durable) (is_reached reserved working)
reached_so marks maps durable reserved working reach named only page some inside = same_test _ _
    (λ is. elim (only page some inside is) [
      | inl at ↦ first_of (is_reached maps durable page) (is_reached reserved working page) ((reached_where maps durable page).1 at)
      | inr at ↦ second_of (is_reached maps durable page) (is_reached reserved working page) ((reached_where reserved working page).1 at)
    ])
    (λ is. elim (either (is_reached maps durable page) (is_reached reserved working page) is) [
      | inl first ↦ reach page some inside ((reached_where maps durable page).0 first)
      | inr second ↦ named page some inside ((reached_where reserved working page).0 second)
    ])
