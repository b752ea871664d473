-- The first of a name is at its place, and is taken away with those of its name.
use Rattle.std.proofs.Common.{◌≡◌, ◌≤◌, ◌<◌, ◌∙◌, ℕ, zero, suc, arith, length, Bool, true, false, not, cond, if◌then◌else◌, List, [], ◌∷◌, ◌++◌, filter, bytes_eq, take, drop, get_or, Option, Some, None, refl, ap, sym}
use Rattle.std.specs.List.{remove, slice_get}
use Rattle.std.proofs.lemmas.Option.{slice_get-get_or, slice_get_past}
use Rattle.postgres_talks.specs.declared.named_pieces.NamedPiece.{NamedPiece}
use Rattle.postgres_talks.specs.Named.{find, place_of, without}

at_by : (b : Bool) (name : List ℕ) (n : NamedPiece) (ns : List NamedPiece) → slice_get ns (place_of name ns) ≡ find name ns
    → slice_get (n ∷ ns) (if b then 0 else suc (place_of name ns)) ≡ (if b then Some n else find name ns)
at_by true name n ns later = refl
at_by false name n ns later = later

pub at_place : (name : List ℕ) (ns : List NamedPiece) → slice_get ns (place_of name ns) ≡ find name ns
at_place name [] = refl
at_place name (n ∷ ns) = at_by (bytes_eq n.name name) name n ns (at_place name ns)

removed_by : (b : Bool) (name : List ℕ) (n : NamedPiece) (ns : List NamedPiece) → bytes_eq n.name name ≡ b → without name (remove ns (place_of name ns)) ≡ without name ns
    → without name (remove (n ∷ ns) (if b then 0 else suc (place_of name ns))) ≡ without name (n ∷ ns)
removed_by true name n ns is later = sym (ap (λ (b : Bool). cond (not b) (n ∷ without name ns) (without name ns)) is)
removed_by false name n ns is later =
    ap (λ (b : Bool). cond (not b) (n ∷ without name (remove ns (place_of name ns))) (without name (remove ns (place_of name ns)))) is
    ∙ ap (λ (l : List NamedPiece). n ∷ l) later ∙ sym (ap (λ (b : Bool). cond (not b) (n ∷ without name ns) (without name ns)) is)

pub removed_place : (name : List ℕ) (ns : List NamedPiece) → without name (remove ns (place_of name ns)) ≡ without name ns
removed_place name [] = refl
removed_place name (n ∷ ns) = removed_by (bytes_eq n.name name) name n ns refl (removed_place name ns)

-- what was at its place was the first, and the others of its name go with it
pub taken_so : (name : List ℕ) (ns : List NamedPiece) (at : ℕ) (o : Option NamedPiece) → at ≡ place_of name ns → o ≡ slice_get ns at → o ≡ find name ns
taken_so name ns at o is got = got ∙ ap (slice_get ns) is ∙ at_place name ns

pub left_so : (name : List ℕ) (ns less after : List NamedPiece) (at : ℕ) → at ≡ place_of name ns → less ≡ remove ns at → after ≡ without name less → after ≡ without name ns
left_so name ns less after at is removed left = left ∙ ap (without name) (removed ∙ ap (remove ns) is) ∙ removed_place name ns

pub got_at : (ns : List NamedPiece) (at : ℕ) (x : NamedPiece) → at < length ns → x ≡ get_or ns at x → Some x ≡ slice_get ns at
got_at ns at x within got = sym (slice_get-get_or ns at x within ∙ ap Some (sym got))

-- behind the last there is none
pub none_at : (ns : List NamedPiece) (at : ℕ) → length ns ≤ at → None ≡ slice_get ns at
none_at ns at behind = sym (slice_get_past ns at behind)

pub all_left : (ns : List NamedPiece) (at : ℕ) → length ns ≤ at → ns ≡ remove ns at
all_left [] zero behind = refl
all_left [] (suc n) behind = refl
all_left (x ∷ ns) zero behind = absurd (omega (arith, behind))
all_left (x ∷ ns) (suc n) behind = ap (λ (l : List NamedPiece). x ∷ l) (all_left ns n (omega (arith, behind)))
