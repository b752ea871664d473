-- Changes that are made below, as a node above tells of them.
use Rattle.std.proofs.Common.{◌≡◌, ℕ, ◌+◌, ◌≤◌, arith, Option, Some, None, Result, Ok, Err, List, [], ◌∷◌, get_or, ◌∙◌, ap, subst}
use Rattle.std.specs.Prelude.{MatchOption, IfErr, take}
use Rattle.pages.specs.declared.array.PageFault.{PageFault}
use Rattle.pages.specs.declared.array.PageFault.TheVariants.{Full}
use Rattle.pages.specs.declared.array.Pages.{Ghosts}
use Rattle.pages.specs.State.{PagesState, OnlyReads}
use Rattle.store.specs.Records.{Changes}
use Rattle.page_tree.specs.Taking.{TakesPages, most_changed}
use Rattle.page_tree.proofs.Taking.{least_left, taken_then}
use Rattle.page_tree.specs.Changed.{Change, AreWithin, MakesSome}
use Rattle.page_tree.specs.declared.changes.Changed.{Changed}

pub reads_then : (S T U : PagesState) → OnlyReads S T → OnlyReads T U → OnlyReads S U
reads_then S T U a b = record { sound = b.sound; same = λ l. b.same l ∙ a.same l }

pub made_since : {P : Type 0} (g : Ghosts P) (old mid new : P) (high above : Option (List ℕ)) (first : Change) (changes : Changes) (A B : Changed → Type 0) → OnlyReads (g.state old) (g.state mid)
    → ((cs : Changes) → AreWithin first.0 high cs → AreWithin first.0 above cs) → ((c : Changed) → AreWithin first.0 high (take c.made changes) → A c → B c)
    → (made : Option Changed) → MakesSome g mid new high first changes A made → MakesSome g old new above first changes B made
made_since g old mid new high above first changes A B reads within gives None is = (reads_then (g.state old) (g.state mid) (g.state new) reads is.0, is.1)
made_since g old mid new high above first changes A B reads within gives (Some c) is = (within (take c.made changes) is.0, gives c is.0 is.1)

pub none_is : {T : Type 0} (made : Option T) (X : Type 0) (Y : T → Type 0) → made ≡ None → MatchOption made X Y → X
none_is {T} made X Y is all = subst (λ (o : Option T). MatchOption o X Y) is all

pub some_is : {T : Type 0} (made : Option T) (m : T) (X : Type 0) (Y : T → Type 0) → made ≡ Some m → MatchOption made X Y → Y m
some_is {T} made m X Y is all = subst (λ (o : Option T). MatchOption o X Y) is all

-- what changes of a leaf take is not more than what changes of a tree may
pub least_changed : (depth : ℕ) (made : Option Changed) → 0 + most_changed 0 made ≤ most_changed depth made
least_changed depth None = omega arith
least_changed depth (Some c) = least_left depth c.left

-- the key of the first change
pub key_first : (first : Change) (rest changes : Changes) → changes ≡ first ∷ rest → (c : Change) → c ≡ get_or changes 0 c → (key : List ℕ) → key ≡ c.0 → key ≡ first.0
key_first first rest changes whole c is key key_is = key_is ∙ ap (λ (d : Change). d.0) (is ∙ ap (λ (cs : Changes). get_or cs 0 c) whole)

-- a call that comes after one that took no page
pub later_takes : {P T : Type 0} (g : Ghosts P) (p q r : P) (result : Result T PageFault) (most : ℕ) → TakesPages g p q [] 0 → IfErr result (λ f. f ≡ Full → TakesPages g q r [] most) → IfErr result (λ f. f ≡ Full → TakesPages g p r [] most)
later_takes g p q r (Ok x) most a b = tt
later_takes g p q r (Err f) most a b = λ is. taken_then g p q r [] [] 0 most most a (b is) (omega arith)
