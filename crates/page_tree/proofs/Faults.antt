-- Outcomes that are handed on.
use Rattle.std.proofs.Common.{◌≡◌, ⊎_elim, inl, inr, Result, Ok, Err, sym, subst, ap, ◌∙◌}
use Rattle.std.specs.Prelude.{IsSome, IfErr, OnOk, MatchResult, Option, None, List, ℕ}
use Rattle.std.specs.Result.{IsErrAnd}
use Rattle.pages.specs.declared.array.PageFault.{PageFault}
use Rattle.pages.specs.declared.array.PageFault.TheVariants.{Memory, Malformed}
use Rattle.pages.specs.declared.array.Pages.{Ghosts}
use Rattle.page_tree.specs.Calls.{IsCaused, Gives}

-- a fault that `?` hands on
pub fails : {T : Type 0} (r : Result T PageFault) (e : PageFault) (P : T → Type 0) (Q : PageFault → Type 0) → IsErrAnd r (λ y. y ≡ e) → Q e → MatchResult r P Q
fails (Ok x) e P Q is q = absurd is
fails (Err y) e P Q is q = subst (λ (x : PageFault). Q x) (sym is) q

-- a failed allocation is a cause
pub memory_is : (failed_with : PageFault → Type 0) (f : PageFault) → f ≡ Memory → IsCaused failed_with f
memory_is failed_with f is = record { well_formed = λ bad. (let other : Memory ≡ Malformed = sym is ∙ bad in cc); cause = inl is }

-- a fault of a call that came after others
pub caused_later : (failed_with later_with : PageFault → Type 0) → ((f : PageFault) → failed_with f → later_with f) → (f : PageFault) → IsCaused failed_with f → IsCaused later_with f
caused_later failed_with later_with later f c = record { well_formed = c.well_formed; cause = ⊎_elim (λ m. inl m) (λ g. inr (later f g)) c.cause }

pub caused_since : {P : Type 0} (g : Ghosts P) (p q r : P) (f : PageFault) → g.preserved p q → IsCaused (λ x. g.failed_with q r x) f → IsCaused (λ x. g.failed_with p r x) f
caused_since g p q r f preserved c = caused_later _ _ (λ x w. g.failed_with_later p q r x preserved w) f c

-- what a call gave, as the caller gives it, and as a caller that made other calls before gives it
pub gives_as : {P T : Type 0} (g : Ghosts P) (p q : P) (r : Result T PageFault) (A B : T → Type 0) → ((x : T) → A x → B x) → Gives g p q r A → Gives g p q r B
gives_as g p q (Ok x) A B f h = f x h
gives_as g p q (Err e) A B f h = h

pub gives_since : {P T : Type 0} (g : Ghosts P) (o p q : P) (r : Result T PageFault) (A B : T → Type 0) → g.preserved o p → ((x : T) → A x → B x) → Gives g p q r A → Gives g o q r B
gives_since g o p q (Ok x) A B preserved f h = f x h
gives_since g o p q (Err e) A B preserved f h = caused_since g o p q e preserved h

pub gives_unless_memory : {P T : Type 0} (g : Ghosts P) (p q : P) (r : Result T PageFault) (A B : T → Type 0) → ((x : T) → A x → B x) → MatchResult r A (λ f. f ≡ Memory) → Gives g p q r B
gives_unless_memory g p q (Ok x) A B f h = f x h
gives_unless_memory g p q (Err e) A B f h = memory_is _ e h

-- a fault on a page in use
pub caused_used : (failed_with : PageFault → Type 0) (e : PageFault) (there : Option (List ℕ)) → IsSome there → (e ≡ Malformed → there ≡ None) → failed_with e → IsCaused failed_with e
caused_used failed_with e there some malformed cause = record { well_formed = λ bad. (let none = subst (λ (o : Option (List ℕ)). IsSome o) (malformed bad) some in cc); cause = inr cause }

-- a call on a page in use, after others
pub gives_used : {P : Type 0} (g : Ghosts P) (o p q : P) (r : Result (Unit {0}) PageFault) (there : Option (List ℕ)) (A B : Type 0) → g.preserved o p → IsSome there → (r ≡ Err Malformed → there ≡ None)
    → IfErr r (λ f. g.failed_with p q f) → (A → B) → OnOk r A → Gives g o q r (λ _. B)
gives_used g o p q (Ok x) there A B preserved some malformed cause f done = f done
gives_used g o p q (Err e) there A B preserved some malformed cause f done =
    caused_since g o p q e preserved (caused_used (λ x. g.failed_with p q x) e there some (λ bad. malformed (ap (λ (x : PageFault). Err x) bad)) cause)
