use Rattle.std.proofs.Common.{◌≡◌, ℕ, List, ◌++◌, drop, refl, subst}
use Rattle.wire.specs.Frame.{next_frame, bad}
use Rattle.wire.specs.Stream.{Spells}
use Rattle.wire.proofs.Streams.{stream_fed, spells_fed, rest_bound}
use Rattle.wire.proofs.frames.Frames.feed.Goals as goal

pub returns-then-has_ended-clause-stream : goal.returns-then-has_ended-clause-stream
returns-then-has_ended-clause-stream c = λ bytes events is_bad was.
    let ended : next_frame c.args.self.now ≡ bad = c.if-has_ended.ensures.ended refl in
    stream_fed bytes c.args.piece.now events c.new.result.items is_bad _ c.args.self.now c.args.self.now was
    ((λ is. (c.new.ensures.items, refl, refl)), (λ is_not. absurd (is_not ended)))

pub returns-in-Ok-clause-stream : goal.returns-in-Ok-clause-stream
returns-in-Ok-clause-stream c = λ bytes events is_bad was.
    let lent = c.deref.ensures.value in
    let view = c.self-2.view_is in
    let whole = c.in_ok-push.ensures.ok in
    let passed = c.pass.ensures in
    let joined : c.deref.result.now ≡ c.args.self.now ++ c.args.piece.now = cc in
    let left : drop c.in-Ok.field-0.end c.deref.result.now ≡ c.pass.new.self = cc in
    let read : Spells c.deref.result.now c.in-Ok.field-0.events.items c.in-Ok.field-0.bad (drop c.in-Ok.field-0.end c.deref.result.now) = c.in-Ok.ensures.spelled in
    spells_fed bytes c.args.self.now c.args.piece.now c.deref.result.now events c.in-Ok.field-0.events.items is_bad c.in-Ok.field-0.bad c.pass.new.self was
    (c.if-has_ended.ensures.goes_on refl) joined
    (subst (λ (r : List ℕ). Spells c.deref.result.now c.in-Ok.field-0.events.items c.in-Ok.field-0.bad r) left read)

pub returns-in-Ok-clause-held : goal.returns-in-Ok-clause-held
returns-in-Ok-clause-held c =
    let lent = c.deref.ensures.value in
    let view = c.self-2.view_is in
    let passed = c.pass.ensures in
    let left : drop c.in-Ok.field-0.end c.deref.result.now ≡ c.pass.new.self = cc in
    rest_bound c.deref.result.now c.in-Ok.field-0.events.items c.in-Ok.field-0.bad c.pass.new.self
    (subst (λ (r : List ℕ). Spells c.deref.result.now c.in-Ok.field-0.events.items c.in-Ok.field-0.bad r) left c.in-Ok.ensures.spelled)
