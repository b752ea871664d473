-- Fronts of messages.
use Rattle.std.proofs.Common.{◌≡◌, ◌==◌, ◌≤◌, ◌+◌, ℕ, Bool, true, false, List, [], ◌∷◌, ◌++◌, length, ltb, if◌then◌else◌, refl, arith}
use Rattle.std.proofs.lemmas.Bool.{ltb-true, lt-ltb}
use Rattle.std.proofs.lemmas.List.{length-append}
use Rattle.talks.specs.declared.talk.MessageFront.TheVariants.{Nothing, Whole, Bad}
use Rattle.talks_tests.specs.Echoes.{front_of}

more : (z b : Bool) (n size size2 m : ℕ) → ltb n size ≡ b → size ≤ size2 → (if z then Bad else if b then Whole (n + 1) else Nothing) ≡ Whole m
    → (m ≤ size) × ((if z then Bad else if ltb n size2 then Whole (n + 1) else Nothing) ≡ Whole m)
more true b n size size2 m less longer is = cc
more false true n size size2 m less longer is =
    let same : n + 1 ≡ m = cc in
    let below = ltb-true n size less in
    (omega (arith, same, below), rw (lt-ltb n size2 (omega (arith, below, longer))) is)
more false false n size size2 m less longer is = cc

pub front_more : (bytes more : List ℕ) (n : ℕ) → front_of bytes ≡ Whole n → (n ≤ length bytes) × (front_of (bytes ++ more) ≡ Whole n)
front_more [] rest m is = cc
front_more (n ∷ bytes) rest m is =
    let longer : length (n ∷ bytes) ≤ length (n ∷ (bytes ++ rest)) = let same = length-append bytes rest in omega (arith, same) in
    more (n == 0) (ltb n (length (n ∷ bytes))) n (length (n ∷ bytes)) (length (n ∷ (bytes ++ rest))) m refl longer is

worse : (z b : Bool) (n size2 : ℕ) → (if z then Bad else if b then Whole (n + 1) else Nothing) ≡ Bad → (if z then Bad else if ltb n size2 then Whole (n + 1) else Nothing) ≡ Bad
worse true b n size2 is = refl
worse false true n size2 is = cc
worse false false n size2 is = cc

pub bad_more : (bytes more : List ℕ) → front_of bytes ≡ Bad → front_of (bytes ++ more) ≡ Bad
bad_more [] rest is = cc
bad_more (n ∷ bytes) rest is = worse (n == 0) (ltb n (length (n ∷ bytes))) n (length (n ∷ (bytes ++ rest))) is
