use Rattle.std.proofs.Common.{◌∙◌, [], List, ℕ, Option, Some, None, IsSome, is_some, sym, ap, subst}
use Rattle.store.specs.Records.{Changes, applied, changed, lookup}
use Rattle.store.specs.Batch.{all_changes}
use Rattle.store.specs.InPieces.{changes_of}
use Rattle.store.proofs.Changes.{ordered_applied}
use Rattle.store.proofs.Held.{empty_put, not_found, put_there, put_keeps}
use Rattle.store.proofs.memory.MemStore.hold.Goals as goal

pub invariant_of-self : goal.invariant_of-self
invariant_of-self c = record { ordered = ordered_applied (changes_of c.holds.new.self) [] tt }

pub invariant_of-self-2 : goal.invariant_of-self-2
invariant_of-self-2 c = record { ordered = ordered_applied (changes_of c.put.new.self) [] tt }

-- the new entry stands for no record
pub returns-clause-same : goal.returns-clause-same
returns-clause-same c =
    let es = changes_of c.args.self.now.entries in
    let nothing : Option (List ℕ) = None in
    let made = c.in_ok-put.ensures.ok ∙ ap (λ (x : List ℕ × Option (List ℕ)). changed x.0 (Some x.1) (changes_of c.holds.new.self)) c.in_ok-empty.ensures ∙ ap (λ (ps : List Changes). changed c.args.change.now.0 (Some nothing) (all_changes ps)) c.holds.ensures.same in
    let none = not_found (lookup c.args.change.now.0 es) (ap (λ (k : List ℕ). is_some (lookup k es)) (sym c.key.ensures) ∙ sym c.holds.ensures.found ∙ c.if-holds.false) in
    ap (λ (cs : Changes). applied cs []) made ∙ empty_put c.args.change.now.0 es c.args.self.now.entries.ordered none

-- the key has it
pub returns-clause-held : goal.returns-clause-held
returns-clause-held c =
    let es = changes_of c.args.self.now.entries in
    let nothing : Option (List ℕ) = None in
    let made = c.in_ok-put.ensures.ok ∙ ap (λ (x : List ℕ × Option (List ℕ)). changed x.0 (Some x.1) (changes_of c.holds.new.self)) c.in_ok-empty.ensures ∙ ap (λ (ps : List Changes). changed c.args.change.now.0 (Some nothing) (all_changes ps)) c.holds.ensures.same in
    subst (λ (cs : Changes). IsSome (lookup c.args.change.now.0 cs)) (sym made) (put_there c.args.change.now.0 None es c.args.self.now.entries.ordered)

-- and the other keys have theirs
pub returns-clause-kept : goal.returns-clause-kept
returns-clause-kept c =
    λ k some.
    let es = changes_of c.args.self.now.entries in
    let nothing : Option (List ℕ) = None in
    let made = c.in_ok-put.ensures.ok ∙ ap (λ (x : List ℕ × Option (List ℕ)). changed x.0 (Some x.1) (changes_of c.holds.new.self)) c.in_ok-empty.ensures ∙ ap (λ (ps : List Changes). changed c.args.change.now.0 (Some nothing) (all_changes ps)) c.holds.ensures.same in
    subst (λ (cs : Changes). IsSome (lookup k cs)) (sym made) (put_keeps k c.args.change.now.0 None es c.args.self.now.entries.ordered some)
