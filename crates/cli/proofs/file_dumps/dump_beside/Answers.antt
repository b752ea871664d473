use Rattle.std.proofs.Common.{◌≡◌, ◌≢◌, ◌∙◌, ℕ, List, true, Ok, inl, inr, rules, subst, sym}
use Rattle.sector_device.specs.Device.{history_none}
use Rattle.cow_pages.specs.ReadingLaws.{reads_none}
use Rattle.database_dumps.specs.Counting.{CountsPages, HasPageCount}
use Rattle.cli.specs.Copying.{partial_path}
use Rattle.cli.specs.Dumping.{dumping}
use Rattle.cli.specs.NewFiles.{MakesBeside}
use Rattle.cli.proofs.Copied.{partial_differs}
use Rattle.cli.proofs.Dumped.{dump_earlier, uncounted_earlier}
use Rattle.cli.proofs.NewFiles.{made_since}
use Rattle.cli.proofs.file_dumps.dump_beside.Goals as goal

pub returns-in-Err-clause-makes : goal.returns-in-Err-clause-makes
returns-in-Err-clause-makes g c =
    let d = g.Y.Device.Device.state c.args.device in
    inl (record { history = history_none d; content = λ is. reads_none d (g.met.Y.Device.Device.only_now c.args.device is); cause = λ is there. inl c.in-Err.ensures.cause; same = c.in-Err.ensures.same; counts = c.in-Err.ensures.counts })

pub returns-then-found-clause-makes : goal.returns-then-found-clause-makes
returns-then-found-clause-makes g c =
    let d = g.Y.Device.Device.state c.args.device in
    let there : c.in-Ok.found ≡ true = search rules in
    inl (record { history = history_none d; content = λ is. reads_none d (g.met.Y.Device.Device.only_now c.args.device is); cause = λ is faithful. inl (c.in-Ok.ensures.said is ∙ there); same = c.in-Ok.ensures.same; counts = c.in-Ok.ensures.counts })

pub returns-in-Err-partial_name-clause-makes : goal.returns-in-Err-partial_name-clause-makes
returns-in-Err-partial_name-clause-makes g c =
    let d = g.Y.Device.Device.state c.args.device in
    inl (record { history = history_none d; content = λ is. reads_none d (g.met.Y.Device.Device.only_now c.args.device is); cause = λ is there. inl tt; same = c.in-Ok.ensures.same; counts = c.in-Ok.ensures.counts })

pub returns-clause-makes : goal.returns-clause-makes
returns-clause-makes g c =
    let device = g.Y.Device.Device in
    let counting = c.pages_of_dump-counted in
    inl (record {
      history = counting.ensures.history;
      content = counting.ensures.unwritten;
      cause = λ is there. inr (c.in-Err-pages.fault, c.of.ensures, subst (CountsPages (device.state c.args.device) (device.state counting.result.0)) c.in-Err-pages.is (counting.ensures.counts there));
      same = c.in-Ok.ensures.same;
      counts = c.in-Ok.ensures.counts;
    })

pub dump_as-requires-clause-size : goal.dump_as-requires-clause-size
dump_as-requires-clause-size g c = subst HasPageCount c.in-Ok-pages.is c.pages_of_dump-counted.ensures.most

pub dump_as-requires-clause-names : goal.dump_as-requires-clause-names
dump_as-requires-clause-names g c =
    let named : c.as_str.result.now ≡ partial_path c.args.target.now = c.as_str.ensures.value ∙ c.in-Ok-partial_name.ensures in
    subst (λ (p : List ℕ). c.args.target.now ≢ p) (sym named) (partial_differs c.args.target.now)

pub returns-in-Ok-pages-clause-makes : goal.returns-in-Ok-pages-clause-makes
returns-in-Ok-pages-clause-makes g c =
    let device = g.Y.Device.Device in
    let old = g.Y.System.state c.args.system.now in
    let mid = g.Y.System.state c.has_name.new.self in
    let new = g.Y.System.state c.dump_as.new.system in
    let target = c.args.target.now in
    let counting = c.pages_of_dump-counted in
    let later = counting.result.0 in
    let left = c.dump_as.result.0 in
    let named : c.as_str.result.now ≡ partial_path target = c.as_str.ensures.value ∙ c.in-Ok-partial_name.ensures in
    made_since device (dumping device) old mid new (partial_path target) target c.args.device later left c.in-Ok.ensures.same c.in-Ok.ensures.counts counting.ensures.history counting.ensures.unwritten
    (λ there second pages result blank dump is. dump_earlier device c.args.device later left counting.ensures.history (counting.ensures.unwritten there) second result blank dump is)
    (λ there second fault is. uncounted_earlier device c.args.device later left counting.ensures.history (counting.ensures.unwritten there) second fault is)
    c.dump_as.result.1
    (subst (λ (p : List ℕ). MakesBeside device (dumping device) mid p target later c.dump_as.result.1 left new) named c.dump_as.ensures.makes)

-- ---- what a stop leaves

pub returns-in-Err-clause-left : goal.returns-in-Err-clause-left
returns-in-Err-clause-left g c = λ is faithful x now. inl (c.has_name.ensures.left is c.args.target.now x now)

pub returns-then-found-clause-left : goal.returns-then-found-clause-left
returns-then-found-clause-left g c = λ is faithful x now. inl (c.has_name.ensures.left is c.args.target.now x now)

pub returns-in-Err-partial_name-clause-left : goal.returns-in-Err-partial_name-clause-left
returns-in-Err-partial_name-clause-left g c = λ is faithful x now. inl (c.has_name.ensures.left is c.args.target.now x now)

pub returns-clause-left : goal.returns-clause-left
returns-clause-left g c = λ is faithful x now. inl (c.has_name.ensures.left is c.args.target.now x now)

pub returns-in-Ok-pages-clause-left : goal.returns-in-Ok-pages-clause-left
returns-in-Ok-pages-clause-left g c = λ is faithful x now.
    let device = g.Y.Device.Device in
    let counting = c.pages_of_dump-counted in
    let later = counting.result.0 in
    elim (c.dump_as.ensures.left ((c.in-Ok.ensures.same is).faithful is) (counting.ensures.history.faithful faithful) x now) [
      | inl before ↦ inl (c.has_name.ensures.left is c.args.target.now x before)
      | inr whole ↦ inr (dump_earlier device c.args.device later later counting.ensures.history (counting.ensures.unwritten faithful) (history_none (device.state later)) (Ok tt) later x whole)
    ]
