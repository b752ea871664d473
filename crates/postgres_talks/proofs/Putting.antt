-- What was said behind what was said before.
use Rattle.std.proofs.Common.{◌≡◌, ◌∙◌, ◌+◌, ◌<◌, ◌≤◌, ℕ, List, [], ◌∷◌, ◌++◌, length, map, take, get_or, ap, sym, subst, add-one}
use Rattle.std.proofs.Math.Seq.{take-suc}
use Rattle.std.proofs.lemmas.List.{append-nil, append_assoc, map-append, take_all}
use Rattle.std.proofs.lemmas.List.Elements.{All-nil, All-cons, All-append}
use Rattle.std.proofs.lemmas.Grind.{flat_map-append}
use Rattle.postgres_messages.specs.Backend.{TheReply, reply_bytes, IsWritable}
use Rattle.postgres_talks.specs.Sayings.{Saying, message, IsSayable, saying_bytes, said_bytes, Puts, Says}

pub puts_none : (bytes : List ℕ) → Puts [] bytes bytes
puts_none bytes = record { each = All-nil IsSayable; bytes = sym (append-nil bytes) }

-- one thing after the other
pub puts_on : (xs ys : List Saying) (a b c : List ℕ) → Puts xs a b → Puts ys b c → Puts (xs ++ ys) a c
puts_on xs ys a b c first last = record {
  each = All-append IsSayable xs ys first.each last.each;
  bytes = last.bytes ∙ ap (λ (l : List ℕ). l ++ said_bytes ys) first.bytes ∙ append_assoc a (said_bytes xs) (said_bytes ys)
      ∙ ap (λ (l : List ℕ). a ++ l) (sym (flat_map-append saying_bytes xs ys));
}

pub puts_more : (x : Saying) (ys : List Saying) (a b c : List ℕ) → Puts (x ∷ []) a b → Puts ys b c → Puts (x ∷ ys) a c
puts_more x ys a b c first last = puts_on (x ∷ []) ys a b c first last

-- behind nothing
pub says_all : (xs : List Saying) (bytes : List ℕ) → Puts xs [] bytes → Says xs bytes
says_all xs bytes puts = record { each = puts.each; bytes = puts.bytes }

-- a message that was written
pub puts_written : (m : TheReply) (old new : List ℕ) → IsWritable m → new ≡ old ++ reply_bytes m → Puts (message m ∷ []) old new
puts_written m old new can is = record {
  each = All-cons IsSayable (message m) [] can (All-nil IsSayable);
  bytes = is ∙ ap (λ (l : List ℕ). old ++ l) (sym (append-nil (reply_bytes m)));
}

-- one more of a list of things
pub puts_next : {A : Type 0} (f : A → Saying) (xs : List A) (i : ℕ) (d : A) (a b c : List ℕ) → i < length xs
    → Puts (map f (take i xs)) a b → Puts (f (get_or xs i d) ∷ []) b c → Puts (map f (take (i + 1) xs)) a c
puts_next {A} f xs i d a b c lt before here =
    let same : map f (take (i + 1) xs) ≡ map f (take i xs) ++ f (get_or xs i d) ∷ [] = rw (add-one i) (ap (map f) (take-suc xs i d lt) ∙ map-append f (take i xs) (get_or xs i d ∷ [])) in
    subst (λ (l : List Saying). Puts l a c) (sym same) (puts_on (map f (take i xs)) (f (get_or xs i d) ∷ []) a b c before here)

-- and all of them
pub puts_all : {A : Type 0} (f : A → Saying) (xs : List A) (i : ℕ) (a b : List ℕ) → length xs ≤ i → Puts (map f (take i xs)) a b → Puts (map f xs) a b
puts_all {A} f xs i a b le before = subst (λ (l : List A). Puts (map f l) a b) (take_all i xs le) before
