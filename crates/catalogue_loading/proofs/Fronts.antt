-- Two items of which bytes are made.
use Rattle.std.proofs.Common.{◌≡◌, ℕ, List, [], ◌++◌, sym, ◌∙◌, Err}
use Rattle.std.proofs.lemmas.List.{append-nil}
use Rattle.store.specs.declared.fault.Fault.{Fault}
use Rattle.store.specs.declared.fault.Fault.TheVariants.{Memory, Device, Damaged}
use Rattle.catalogue_loading.specs.Decoding.{IsSpelled, Decodes, IsOnlyFront, DecodesFront}

module _ {X Y : Type 0} (IsFirst : X → Type 0) (first : X → List ℕ) (IsSecond : Y → Type 0) (second : Y → List ℕ) (ArePair : X × Y → Type 0)
    (is_first : (p : X × Y) → ArePair p → IsFirst p.0) (is_second : (p : X × Y) → ArePair p → IsSecond p.1) where
  abbrev pair_bytes : X × Y → List ℕ
  pair_bytes p = first p.0 ++ second p.1

  -- after the first stands the second
  second_after : (bytes : List ℕ) (x : X) (rest : List ℕ) (p : X × Y) → IsOnlyFront IsFirst first bytes x rest → IsSpelled ArePair pair_bytes bytes p → rest ≡ second p.1
  second_after bytes x rest p only is = (only p.0 (second p.1) (record { valid = is_first p is.valid; spelled = sym is.spelled })).1

  pub no_second : (bytes : List ℕ) (x : X) (rest : List ℕ) (fault : Fault) → IsOnlyFront IsFirst first bytes x rest → DecodesFront IsSecond second rest (Err fault)
      → Decodes ArePair pair_bytes bytes (Err fault)
  no_second bytes x rest Memory only none = tt
  no_second bytes x rest Device only none = none
  no_second bytes x rest Damaged only none = λ p is.
      none p.1 [] (record { valid = is_second p is.valid; spelled = second_after bytes x rest p only is ∙ sym (append-nil (second p.1)) })

  pub pair_ends : (bytes : List ℕ) (x : X) (y : Y) (rest more : List ℕ) → IsOnlyFront IsFirst first bytes x rest → IsOnlyFront IsSecond second rest y more
      → (p : X × Y) → IsSpelled ArePair pair_bytes bytes p → more ≡ []
  pair_ends bytes x y rest more only next p is =
      (next p.1 [] (record { valid = is_second p is.valid; spelled = second_after bytes x rest p only is ∙ sym (append-nil (second p.1)) })).1
