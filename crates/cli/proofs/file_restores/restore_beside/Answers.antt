use Rattle.std.proofs.Common.{◌≡◌, ◌≢◌, ◌∙◌, ℕ, List, true, inl, inr, rules, subst, sym}
use Rattle.sector_device.specs.Device.{history_none}
use Rattle.cow_pages.specs.ReadingLaws.{reads_none}
use Rattle.cli.specs.Copying.{partial_path}
use Rattle.cli.specs.NewFiles.{MakesBeside}
use Rattle.cli.specs.Restoring.{restoring}
use Rattle.cli.proofs.Copied.{partial_differs}
use Rattle.cli.proofs.NewFiles.{made_since}
use Rattle.cli.proofs.file_restores.restore_beside.Goals as goal

pub returns-in-Err-clause-makes : goal.returns-in-Err-clause-makes
returns-in-Err-clause-makes g c =
    let d = g.Y.Device.Device.state c.args.dump in
    inl (record { history = history_none d; content = λ is. reads_none d (g.met.Y.Device.Device.only_now c.args.dump is); cause = λ is there. inl c.in-Err.ensures.cause; same = c.in-Err.ensures.same; counts = c.in-Err.ensures.counts })

pub returns-then-found-clause-makes : goal.returns-then-found-clause-makes
returns-then-found-clause-makes g c =
    let d = g.Y.Device.Device.state c.args.dump in
    let there : c.in-Ok.found ≡ true = search rules in
    inl (record { history = history_none d; content = λ is. reads_none d (g.met.Y.Device.Device.only_now c.args.dump is); cause = λ is faithful. inl (c.in-Ok.ensures.said is ∙ there); same = c.in-Ok.ensures.same; counts = c.in-Ok.ensures.counts })

pub returns-in-Err-partial_name-clause-makes : goal.returns-in-Err-partial_name-clause-makes
returns-in-Err-partial_name-clause-makes g c =
    let d = g.Y.Device.Device.state c.args.dump in
    inl (record { history = history_none d; content = λ is. reads_none d (g.met.Y.Device.Device.only_now c.args.dump is); cause = λ is there. inl tt; same = c.in-Ok.ensures.same; counts = c.in-Ok.ensures.counts })

pub restore_as-requires-clause-names : goal.restore_as-requires-clause-names
restore_as-requires-clause-names g c =
    let named : c.as_str.result.now ≡ partial_path c.args.target.now = c.as_str.ensures.value ∙ c.in-Ok-partial_name.ensures in
    subst (λ (p : List ℕ). c.args.target.now ≢ p) (sym named) (partial_differs c.args.target.now)

pub returns-in-Ok-partial_name-clause-makes : goal.returns-in-Ok-partial_name-clause-makes
returns-in-Ok-partial_name-clause-makes g c =
    let device = g.Y.Device.Device in
    let d = device.state c.args.dump in
    let old = g.Y.System.state c.args.system.now in
    let mid = g.Y.System.state c.has_name.new.self in
    let new = g.Y.System.state c.restore_as.new.system in
    let target = c.args.target.now in
    let left = c.restore_as.result.0 in
    let named : c.as_str.result.now ≡ partial_path target = c.as_str.ensures.value ∙ c.in-Ok-partial_name.ensures in
    made_since device (restoring device c.args.pages) old mid new (partial_path target) target c.args.dump c.args.dump left c.in-Ok.ensures.same c.in-Ok.ensures.counts (history_none d) (λ is. reads_none d (g.met.Y.Device.Device.only_now c.args.dump is))
    (λ there second pages result blank made is. is) (λ there second fault is. is) c.restore_as.result.1
    (subst (λ (p : List ℕ). MakesBeside device (restoring device c.args.pages) mid p target c.args.dump c.restore_as.result.1 left new) named c.restore_as.ensures.makes)

-- ---- what a stop leaves

pub returns-in-Err-clause-left : goal.returns-in-Err-clause-left
returns-in-Err-clause-left g c = λ is faithful x now. inl (c.has_name.ensures.left is c.args.target.now x now)

pub returns-then-found-clause-left : goal.returns-then-found-clause-left
returns-then-found-clause-left g c = λ is faithful x now. inl (c.has_name.ensures.left is c.args.target.now x now)

pub returns-in-Err-partial_name-clause-left : goal.returns-in-Err-partial_name-clause-left
returns-in-Err-partial_name-clause-left g c = λ is faithful x now. inl (c.has_name.ensures.left is c.args.target.now x now)

pub returns-in-Ok-partial_name-clause-left : goal.returns-in-Ok-partial_name-clause-left
returns-in-Ok-partial_name-clause-left g c = λ is faithful x now.
    elim (c.restore_as.ensures.left ((c.in-Ok.ensures.same is).faithful is) faithful x now) [
      | inl before ↦ inl (c.has_name.ensures.left is c.args.target.now x before)
      | inr whole ↦ inr whole
    ]
