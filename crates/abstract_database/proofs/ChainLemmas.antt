-- A chain can be cut so that it meets no element twice: then it has no more steps than the list has elements.
use Rattle.std.proofs.Common.{◌≡◌, ◌⊎◌, ◌&&◌, ℕ, zero, suc, pred, Bool, true, List, [], ◌∷◌, length, bytes_eq, refl, sym, ap, ◌∙◌, inl, inr}
use Rattle.std.specs.List.{list_any}
use Rattle.sql_ast.specs.declared.role.Membership.{Membership}
use Rattle.sql_ast.specs.declared.privilege.Descriptor.{Descriptor}
use Rattle.abstract_database.specs.Lists.{TheName, Among}
use Rattle.abstract_database.specs.Chains.{IsLedTo, by_start, by_step, is_within, is_led_to}
use Rattle.abstract_database.specs.Roles.{IsIn, is_in, is_of_member, leads_on}
use Rattle.abstract_database.specs.Privileges.{IsSupported, is_supported, is_of_system, supports}
use Rattle.abstract_database.proofs.ListLemmas.{bytes_same, same_bytes}
use Rattle.std.proofs.lemmas.Bool.{or_cases, and_parts, or_left, or_right, and_from}
use Rattle.abstract_database.proofs.ElementLemmas.{any_found, any_holds, rest_of, length-rest_of, in_rest_of, of_rest_of}

module _ {X : Type 0} (s : X → Bool) (t : X → X → Bool) where
  pub led_among : (xs : List X) (x : X) → IsLedTo s t xs x → Among x xs
  led_among xs x (by_start x' h e) = h
  led_among xs x (by_step p x' c h e) = h

  pub found_is_led : (xs : List X) (n : ℕ) (x : X) → Among x xs → is_within s t xs n x ≡ true → IsLedTo s t xs x
  found_is_led xs zero x h e = by_start x h e
  found_is_led xs (suc n) x h e = elim (or_cases (s x) (list_any (λ p. t p x && is_within s t xs n p) xs) e) [
    | inl start ↦ by_start x h start
    | inr some ↦ let found = any_found (λ p. t p x && is_within s t xs n p) xs some in
        let parts = and_parts (t found.0 x) (is_within s t xs n found.0) found.2 in
        by_step found.0 x (found_is_led xs n found.0 found.1 parts.1) h parts.0
  ]

  -- where this element is taken out, a chain stays, or this element is a start or comes after a chain that stays
  abbrev Cut : (xs : List X) (x : X) → Among x xs → X → Type 0
  Cut xs x h p = IsLedTo s t (rest_of xs x h) p ⊎ ((s x ≡ true) ⊎ ((q : X) × IsLedTo s t (rest_of xs x h) q × (t q x ≡ true)))

  cut : (xs : List X) (x : X) (h : Among x xs) (p : X) → IsLedTo s t xs p → Cut xs x h p
  cut xs x h p (by_start p' k e) = elim (in_rest_of xs x h p k) [
    | inl is ↦ inr (inl (sym (ap s is) ∙ e))
    | inr rest ↦ inl (by_start p rest e)
  ]
  cut xs x h p (by_step q p' c k e) = elim (cut xs x h q c) [
    | inl chain ↦ elim (in_rest_of xs x h p k) [
      | inl is ↦ inr (inr (q, chain, sym (ap (t q) is) ∙ e))
      | inr rest ↦ inl (by_step q p chain rest e)
    ]
    | inr other ↦ inr other
  ]

  -- a test over part of the list is one over the list
  within_more : (xs ys : List X) → ((z : X) → Among z ys → Among z xs) → (n : ℕ) (x : X) → is_within s t ys n x ≡ true → is_within s t xs n x ≡ true
  within_more xs ys part zero x e = e
  within_more xs ys part (suc n) x e = elim (or_cases (s x) (list_any (λ p. t p x && is_within s t ys n p) ys) e) [
    | inl start ↦ or_left (s x) (list_any (λ p. t p x && is_within s t xs n p) xs) start
    | inr some ↦ let found = any_found (λ p. t p x && is_within s t ys n p) ys some in
        let parts = and_parts (t found.0 x) (is_within s t ys n found.0) found.2 in
        or_right (s x) (list_any (λ p. t p x && is_within s t xs n p) xs)
        (any_holds (λ p. t p x && is_within s t xs n p) xs found.0 (part found.0 found.1)
        (and_from (t found.0 x) (is_within s t xs n found.0) parts.0 (within_more xs ys part n found.0 parts.1)))
  ]

  -- one more step
  step_more : (xs : List X) (n : ℕ) (p x : X) → Among p xs → is_within s t xs n p ≡ true → t p x ≡ true → is_within s t xs (suc n) x ≡ true
  step_more xs n p x h w e = or_right (s x) (list_any (λ q. t q x && is_within s t xs n q) xs)
      (any_holds (λ q. t q x && is_within s t xs n q) xs p h (and_from (t p x) (is_within s t xs n p) e w))

  abbrev WithinLength : ℕ → Type 0
  WithinLength n = (xs : List X) → length xs ≡ n → (x : X) → IsLedTo s t xs x → is_within s t xs n x ≡ true

  within_rest : (n : ℕ) → WithinLength n → (xs : List X) → length xs ≡ suc n → (x : X) (h : Among x xs) (p : X) → IsLedTo s t (rest_of xs x h) p → is_within s t xs n p ≡ true
  within_rest n below xs e x h p chain = within_more xs (rest_of xs x h) (of_rest_of xs x h) n p
      (below (rest_of xs x h) (ap pred (sym (length-rest_of xs x h) ∙ e)) p chain)

  within_next : (n : ℕ) → WithinLength n → (xs : List X) → length xs ≡ suc n → (x : X) → IsLedTo s t xs x → is_within s t xs (suc n) x ≡ true
  within_next n below xs e x (by_start x' h start) = or_left (s x) (list_any (λ p. t p x && is_within s t xs n p) xs) start
  within_next n below xs e x (by_step p x' c h step) = elim (cut xs x h p c) [
    | inl chain ↦ step_more xs n p x (led_among xs p c) (within_rest n below xs e x h p chain) step
    | inr other ↦ elim other [
      | inl start ↦ or_left (s x) (list_any (λ q. t q x && is_within s t xs n q) xs) start
      | inr behind ↦ step_more xs n behind.0 x (of_rest_of xs x h behind.0 (led_among (rest_of xs x h) behind.0 behind.1)) (within_rest n below xs e x h behind.0 behind.1) behind.2
    ]
  ]

  within_length : (n : ℕ) → WithinLength n
  within_length zero [] e x c = absurd (led_among [] x c)
  within_length zero (y ∷ ys) e x c = cc
  within_length (suc n) xs e x c = within_next n (within_length n) xs e x c

  -- no chain needs more steps than the list has elements
  pub led_is_found : (xs : List X) (x : X) → IsLedTo s t xs x → is_led_to s t xs x ≡ true
  led_is_found xs x c = within_length (length xs) xs refl x c

-- ---- the tests of roles and of descriptors find what chains lead to

pub found_role : (ms : List Membership) (r s : TheName) → is_in ms r s ≡ true → IsIn ms r s
found_role ms r s e = elim (or_cases (bytes_eq r s) (list_any (λ m. bytes_eq m.role s && is_led_to (is_of_member r) leads_on ms m) ms) e) [
  | inl same ↦ inl (bytes_same r s same)
  | inr some ↦ let found = any_found (λ m. bytes_eq m.role s && is_led_to (is_of_member r) leads_on ms m) ms some in
      let parts = and_parts (bytes_eq found.0.role s) (is_led_to (is_of_member r) leads_on ms found.0) found.2 in
      inr (found.0, found_is_led (is_of_member r) leads_on ms (length ms) found.0 found.1 parts.1, bytes_same found.0.role s parts.0)
]

pub role_found : (ms : List Membership) (r s : TheName) → IsIn ms r s → is_in ms r s ≡ true
role_found ms r s (inl same) = or_left (bytes_eq r s) (list_any (λ m. bytes_eq m.role s && is_led_to (is_of_member r) leads_on ms m) ms) (same_bytes r s same)
role_found ms r s (inr chain) = or_right (bytes_eq r s) (list_any (λ m. bytes_eq m.role s && is_led_to (is_of_member r) leads_on ms m) ms)
    (any_holds (λ m. bytes_eq m.role s && is_led_to (is_of_member r) leads_on ms m) ms chain.0 (led_among (is_of_member r) leads_on ms chain.0 chain.1)
    (and_from (bytes_eq chain.0.role s) (is_led_to (is_of_member r) leads_on ms chain.0) (same_bytes chain.0.role s chain.2) (led_is_found (is_of_member r) leads_on ms chain.0 chain.1)))

pub found_support : (set : List Descriptor) (d : Descriptor) → Among d set → is_supported set d ≡ true → IsSupported set d
found_support set d h e = found_is_led is_of_system supports set (length set) d h e

pub support_found : (set : List Descriptor) (d : Descriptor) → IsSupported set d → is_supported set d ≡ true
support_found set d c = led_is_found is_of_system supports set d c
