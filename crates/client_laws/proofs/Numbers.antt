-- The number of a session, once its client has another place.
use Rattle.std.proofs.Common.{◌≡◌, ◌∙◌, ◌<◌, ◌+◌, ◌*◌, ℕ, nat_eq, Bool, true, false, refl, sym, ap, eq-eqb, arith}
use Rattle.std.proofs.lemmas.Bool.{eqb-true}
use Rattle.std.proofs.lemmas.Nat.{div-add-mod'}
use Rattle.std.proofs.Math.Nat.{mod-lt, mod-eq_of_lt}
use Rattle.abstract_database.specs.Machine.{client_of, own_number, number_in}
use Rattle.client_laws.specs.Renumbered.{IsOneToOne, renumbered}

below : 0 < 4294967296
below = omega arith

-- two tests that are true at once
both_ways : (b d : Bool) → (b ≡ true → d ≡ true) → (d ≡ true → b ≡ true) → b ≡ d
both_ways true d there back = sym (there refl)
both_ways false true there back = back refl
both_ways false false there back = refl

pub number_back : (number : ℕ) → number_in (client_of number) (own_number number) ≡ number
number_back number =
    ap (λ (r : ℕ). client_of number * 4294967296 + r) (mod-eq_of_lt (mod-lt number below)) ∙ div-add-mod' number 4294967296

-- a session's client, and its own number there
pub client_in : (c n : ℕ) → client_of (number_in c n) ≡ c
client_in c n = omega arith

pub own_in : (c n : ℕ) → own_number (number_in c n) ≡ own_number n
own_in c n = omega arith

module _ (place : ℕ → ℕ) where
  pub client_renumbered : (number : ℕ) → client_of (renumbered place number) ≡ place (client_of number)
  client_renumbered number = client_in (place (client_of number)) (own_number number)

  pub own_again : (number : ℕ) → own_number (renumbered place number) ≡ own_number number
  own_again number = own_in (place (client_of number)) (own_number number) ∙ mod-eq_of_lt (mod-lt number below)

  -- an event of a client, at its place
  pub in_place : (c n : ℕ) → renumbered place (number_in c n) ≡ number_in (place c) n
  in_place c n =
      ap (λ (d : ℕ). number_in (place d) (own_number (number_in c n))) (client_in c n)
      ∙ ap (λ (r : ℕ). place c * 4294967296 + r) (ap own_number (own_in c n) ∙ mod-eq_of_lt (mod-lt n below))

  module _ (apart : IsOneToOne place) where
    pub same_place : (c d : ℕ) → nat_eq (place c) (place d) ≡ nat_eq c d
    same_place c d =
        both_ways (nat_eq (place c) (place d)) (nat_eq c d)
        (λ is. eq-eqb c d (apart c d (eqb-true (place c) (place d) is)))
        (λ is. eq-eqb (place c) (place d) (ap place (eqb-true c d is)))

    number_same : (n k : ℕ) → renumbered place n ≡ renumbered place k → n ≡ k
    number_same n k is =
        let client : client_of n ≡ client_of k = apart (client_of n) (client_of k) (sym (client_renumbered n) ∙ ap client_of is ∙ client_renumbered k) in
        let own : own_number (own_number n) ≡ own_number (own_number k) =
        sym (own_in (place (client_of n)) (own_number n)) ∙ ap own_number is ∙ own_in (place (client_of k)) (own_number k) in
        sym (number_back n) ∙ ap (λ (c : ℕ). number_in c (own_number n)) client ∙ ap (λ (r : ℕ). client_of k * 4294967296 + r) own ∙ number_back k

    pub same_number : (n k : ℕ) → nat_eq (renumbered place n) (renumbered place k) ≡ nat_eq n k
    same_number n k =
        both_ways (nat_eq (renumbered place n) (renumbered place k)) (nat_eq n k)
        (λ is. eq-eqb n k (number_same n k (eqb-true (renumbered place n) (renumbered place k) is)))
        (λ is. eq-eqb (renumbered place n) (renumbered place k) (ap (renumbered place) (eqb-true n k is)))
