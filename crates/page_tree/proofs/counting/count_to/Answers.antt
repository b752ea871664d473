use Rattle.std.proofs.Common.{◌≡◌, ◌+◌, ◌-◌, ◌^◌, min, Bool, false, ℕ, refl, ap, sym, ◌∙◌, subst, arith}
use Rattle.pages.specs.State.{OnlyReads}
use Rattle.page_tree.specs.Ahead.{IsStepped}
use Rattle.page_tree.specs.Counts.{count_within, is_within}
use Rattle.page_tree.proofs.Faults.{caused_since, fails}
use Rattle.page_tree.proofs.Represented.{map_of_same, map_rises}
use Rattle.page_tree.proofs.Spans.{ahead_rises, counts_enough, ends_below, goes_on, none_counted, none_yet}
use Rattle.page_tree.proofs.Made.{reads_then}
use Rattle.page_tree.proofs.counting.count_to.Goals as goal

pub loop-init : goal.loop-init
loop-init g c = record {
  preserved = g.P.Pages.preserved_same c.args.pages.now;
  works = λ works. works;
  only_reads = λ sound. record { sound = sound; same = λ l. refl };
  counted = λ sound map represents. none_yet map c.args.start.now c.args.stop.now c.in_ok-walk.walk (c.in_ok-walk.ensures map);
}

pub returns-then-count-most-clause-counted : goal.returns-then-count-most-clause-counted
returns-then-count-most-clause-counted g c sound map represents =
    counts_enough map c.args.start.now c.args.stop.now c.loop.count c.args.most c.loop.walk (c.loop.invariant.counted sound map represents) (omega (arith, c.if-count-most.true))

pub returns-in_err-step-clause-counted : goal.returns-in_err-step-clause-counted
returns-in_err-step-clause-counted g c sound map represents =
    let inv = c.loop.invariant in
    let reads = inv.only_reads sound in
    let there = map_of_same (g.P.Pages.state c.args.pages.now).array (g.P.Pages.state c.loop.pages).array map (λ l. sym (reads.same l)) represents in
    fails c.from_residual-in_err-step.result c.in_err-step.field-0.0 _ _ c.from_residual-in_err-step.ensures.1
    (caused_since g.P.Pages c.args.pages.now c.loop.pages c.step.new.pages c.in_err-step.field-0.0 inv.preserved (c.in_err-step.ensures.found reads.sound map there))

pub returns-then-not-branch-clause-counted : goal.returns-then-not-branch-clause-counted
returns-then-not-branch-clause-counted g c sound map represents =
    let inv = c.loop.invariant in
    let reads = inv.only_reads sound in
    let there = map_of_same (g.P.Pages.state c.args.pages.now).array (g.P.Pages.state c.loop.pages).array map (λ l. sym (reads.same l)) represents in
    let to = inv.counted sound map represents in
    let none = subst (λ (b : Bool). IsStepped map b c.step.new.walk to.later) c.if-not-branch.true (c.in_ok-step.ensures.found reads.sound map there to.later to.ahead) in
    ends_below map c.args.start.now c.args.stop.now c.loop.count c.args.most c.loop.walk to (ap (count_within c.args.stop.now) none) (omega (arith, c.if-count-most.false)) (omega (arith, c.ranges.most.fits))

pub returns-then-not-is_within-clause-counted : goal.returns-then-not-is_within-clause-counted
returns-then-not-is_within-clause-counted g c sound map represents =
    let inv = c.loop.invariant in
    let reads = inv.only_reads sound in
    let stop = c.args.stop.now in
    let there = map_of_same (g.P.Pages.state c.args.pages.now).array (g.P.Pages.state c.loop.pages).array map (λ l. sym (reads.same l)) represents in
    let rising = map_rises (g.P.Pages.state c.args.pages.now).array map represents in
    let to = inv.counted sound map represents in
    let stepped = subst (λ (b : Bool). IsStepped map b c.step.new.walk to.later) c.if-not-branch.false (c.in_ok-step.ensures.found reads.sound map there to.later to.ahead) in
    let past : is_within stop stepped.0.0 ≡ false = ap (is_within stop) (sym (c.entry.ensures stepped.0 stepped.3).0) ∙ sym c.is_within.ensures ∙ c.if-not-is_within.true in
    ends_below map c.args.start.now stop c.loop.count c.args.most c.loop.walk to (none_counted stop to.later stepped.0 stepped.1 stepped.2 past (ahead_rises map c.loop.walk to.later rising to.ahead)) (omega (arith, c.if-count-most.false)) (omega (arith, c.ranges.most.fits))

pub loop-preserved : goal.loop-preserved
loop-preserved g c =
    let inv = c.loop.invariant in
    let step = c.in_ok-step.ensures in
    let stop = c.args.stop.now in
    record {
      preserved = g.P.Pages.preserved_joined c.args.pages.now c.loop.pages c.step.new.pages inv.preserved step.preserved;
      works = λ works. step.works (inv.works works);
      only_reads = λ sound.
          let first : OnlyReads (g.P.Pages.state c.args.pages.now) (g.P.Pages.state c.loop.pages) = inv.only_reads sound in
          let second : OnlyReads (g.P.Pages.state c.loop.pages) (g.P.Pages.state c.step.new.pages) = step.only_reads first.sound in
          record { sound = second.sound; same = λ l. second.same l ∙ first.same l };
      counted = λ sound map represents.
          let reads = inv.only_reads sound in
          let there = map_of_same (g.P.Pages.state c.args.pages.now).array (g.P.Pages.state c.loop.pages).array map (λ l. sym (reads.same l)) represents in
          let rising = map_rises (g.P.Pages.state c.args.pages.now).array map represents in
          let to = inv.counted sound map represents in
          let stepped = subst (λ (b : Bool). IsStepped map b c.step.new.walk to.later) c.if-not-branch.false (step.found reads.sound map there to.later to.ahead) in
          goes_on map c.args.start.now stop c.loop.count c.in_ok-passed.passed _ c.loop.walk c.step.new.walk c.pass_leaf.new.self rising to stepped
          (λ e found. ap (is_within stop) (sym (c.entry.ensures e found).0) ∙ sym c.is_within.ensures ∙ c.if-not-is_within.false)
          (c.in_ok-passed.ensures map rising)
          (c.saturating_add-count.ensures ∙ ap (λ (n : ℕ). min (n + c.in_ok-passed.passed) (2 ^ 64 - 1)) c.saturating_add.ensures);
    }

pub returns-in_err-step-clause-preserved : goal.returns-in_err-step-clause-preserved
returns-in_err-step-clause-preserved g c =
    g.P.Pages.preserved_joined c.args.pages.now c.loop.pages c.step.new.pages c.loop.invariant.preserved c.in_err-step.ensures.preserved

pub returns-in_err-step-clause-only_reads : goal.returns-in_err-step-clause-only_reads
returns-in_err-step-clause-only_reads g c sound =
    let one = c.loop.invariant.only_reads sound in
    reads_then (g.P.Pages.state c.args.pages.now) (g.P.Pages.state c.loop.pages) (g.P.Pages.state c.step.new.pages) one (c.in_err-step.ensures.only_reads one.sound)

pub returns-then-not-branch-clause-preserved : goal.returns-then-not-branch-clause-preserved
returns-then-not-branch-clause-preserved g c =
    g.P.Pages.preserved_joined c.args.pages.now c.loop.pages c.step.new.pages c.loop.invariant.preserved c.in_ok-step.ensures.preserved

pub returns-then-not-branch-clause-only_reads : goal.returns-then-not-branch-clause-only_reads
returns-then-not-branch-clause-only_reads g c sound =
    let one = c.loop.invariant.only_reads sound in
    reads_then (g.P.Pages.state c.args.pages.now) (g.P.Pages.state c.loop.pages) (g.P.Pages.state c.step.new.pages) one (c.in_ok-step.ensures.only_reads one.sound)

pub returns-then-not-is_within-clause-preserved : goal.returns-then-not-is_within-clause-preserved
returns-then-not-is_within-clause-preserved g c =
    g.P.Pages.preserved_joined c.args.pages.now c.loop.pages c.step.new.pages c.loop.invariant.preserved c.in_ok-step.ensures.preserved

pub returns-then-not-is_within-clause-only_reads : goal.returns-then-not-is_within-clause-only_reads
returns-then-not-is_within-clause-only_reads g c sound =
    let one = c.loop.invariant.only_reads sound in
    reads_then (g.P.Pages.state c.args.pages.now) (g.P.Pages.state c.loop.pages) (g.P.Pages.state c.step.new.pages) one (c.in_ok-step.ensures.only_reads one.sound)

pub returns-in_err-passed-clause-preserved : goal.returns-in_err-passed-clause-preserved
returns-in_err-passed-clause-preserved g c =
    g.P.Pages.preserved_joined c.args.pages.now c.loop.pages c.step.new.pages c.loop.invariant.preserved c.in_ok-step.ensures.preserved

pub returns-in_err-passed-clause-only_reads : goal.returns-in_err-passed-clause-only_reads
returns-in_err-passed-clause-only_reads g c sound =
    let one = c.loop.invariant.only_reads sound in
    reads_then (g.P.Pages.state c.args.pages.now) (g.P.Pages.state c.loop.pages) (g.P.Pages.state c.step.new.pages) one (c.in_ok-step.ensures.only_reads one.sound)

pub returns-then-not-branch-clause-works : goal.returns-then-not-branch-clause-works
returns-then-not-branch-clause-works g c works = c.in_ok-step.ensures.works (c.loop.invariant.works works)

pub returns-then-not-is_within-clause-works : goal.returns-then-not-is_within-clause-works
returns-then-not-is_within-clause-works g c works = c.in_ok-step.ensures.works (c.loop.invariant.works works)
