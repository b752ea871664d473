use Rattle.std.proofs.Common.{◌≡◌, ◌≢◌, ◌∙◌, ℕ, List, true, inl, inr, refl, rules, subst, sym}
use Rattle.cli.specs.Copying.{CopiesBeside, partial_path}
use Rattle.cli.proofs.Copied.{copied_since, partial_differs}
use Rattle.cli.proofs.file_copies.copy_beside.Goals as goal

pub returns-in-Err-clause-copies : goal.returns-in-Err-clause-copies
returns-in-Err-clause-copies g c = inl (record { unread = refl; cause = λ is. c.in-Err.ensures.cause; same = c.in-Err.ensures.same; counts = c.in-Err.ensures.counts })

pub returns-then-found-clause-copies : goal.returns-then-found-clause-copies
returns-then-found-clause-copies g c =
    let there : c.in-Ok.found ≡ true = search rules in
    inl (record { unread = refl; cause = λ is. c.in-Ok.ensures.said is ∙ there; same = c.in-Ok.ensures.same; counts = c.in-Ok.ensures.counts })

pub returns-in-Err-partial_name-clause-copies : goal.returns-in-Err-partial_name-clause-copies
returns-in-Err-partial_name-clause-copies g c = inl (record { unread = refl; cause = λ is. tt; same = c.in-Ok.ensures.same; counts = c.in-Ok.ensures.counts })

pub copy_as-requires-clause-names : goal.copy_as-requires-clause-names
copy_as-requires-clause-names g c =
    let named : c.as_str.result.now ≡ partial_path c.args.target.now = c.as_str.ensures.value ∙ c.in-Ok-partial_name.ensures in
    subst (λ (p : List ℕ). c.args.target.now ≢ p) (sym named) (partial_differs c.args.target.now)

pub returns-in-Ok-partial_name-clause-copies : goal.returns-in-Ok-partial_name-clause-copies
returns-in-Ok-partial_name-clause-copies g c =
    let device = g.Y.Device.Device in
    let old = g.Y.System.state c.args.system.now in
    let mid = g.Y.System.state c.has_name.new.self in
    let new = g.Y.System.state c.copy_as.new.system in
    let target = c.args.target.now in
    let named : c.as_str.result.now ≡ partial_path target = c.as_str.ensures.value ∙ c.in-Ok-partial_name.ensures in
    copied_since device old mid new (partial_path target) target c.args.pages c.args.device c.copy_as.result.0 c.in-Ok.ensures.same c.in-Ok.ensures.counts c.copy_as.result.1
    (subst (λ (p : List ℕ). CopiesBeside device mid p target c.args.pages c.args.device c.copy_as.result.1 c.copy_as.result.0 new) named c.copy_as.ensures.copies)

-- ---- what a stop leaves

pub returns-in-Err-clause-left : goal.returns-in-Err-clause-left
returns-in-Err-clause-left g c = λ is faithful x now. inl (c.has_name.ensures.left is c.args.target.now x now)

pub returns-then-found-clause-left : goal.returns-then-found-clause-left
returns-then-found-clause-left g c = λ is faithful x now. inl (c.has_name.ensures.left is c.args.target.now x now)

pub returns-in-Err-partial_name-clause-left : goal.returns-in-Err-partial_name-clause-left
returns-in-Err-partial_name-clause-left g c = λ is faithful x now. inl (c.has_name.ensures.left is c.args.target.now x now)

pub returns-in-Ok-partial_name-clause-left : goal.returns-in-Ok-partial_name-clause-left
returns-in-Ok-partial_name-clause-left g c = λ is faithful x now.
    elim (c.copy_as.ensures.left ((c.in-Ok.ensures.same is).faithful is) faithful x now) [
      | inl before ↦ inl (c.has_name.ensures.left is c.args.target.now x before)
      | inr whole ↦ inr whole
    ]
