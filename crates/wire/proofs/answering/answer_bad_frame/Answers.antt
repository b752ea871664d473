use Rattle.std.proofs.Common.{List, ℕ, subst}
use Rattle.std.specs.Io.KnownBytes.{Appends}
use Rattle.sql_types.specs.declared.answer.Answer.TheVariants.{Refused}
use Rattle.sql_types.specs.declared.state.SqlState.TheVariants.{ProtocolViolation}
use Rattle.wire.proofs.Answered.{on_ok_both, on_err_counted}
use Rattle.wire.proofs.answering.answer_bad_frame.Goals as goal

pub returns-clause-told : goal.returns-clause-told
returns-clause-told g c =
    let k = g.K.Sink in
    let before = c.args.sink.now in
    let after = c.tell_last.new.self in
    on_ok_both c.tell_last.result _ _ _
    (λ told taken. record {
      told = subst (λ store. k.tells before (g.S.Map.state store) 0 (Refused ProtocolViolation) after) c.store.ensures told;
      written = subst (λ (bytes : List ℕ). Appends (k.held before) (k.held after) bytes) (g.met.K.TakesFrames.takes_frames 0 (Refused ProtocolViolation)) taken;
    })
    c.tell_last.ensures.told c.tell_last.ensures.taken

pub returns-clause-broken : goal.returns-clause-broken
returns-clause-broken g c =
    let k = g.K.Sink in
    let before = c.args.sink.now in
    let after = c.tell_last.new.self in
    on_err_counted c.tell_last.result (k.failures before) (k.failures after) _ _
    (λ broken cause. record {
      broken = subst (λ store. k.breaks before (g.S.Map.state store) 0 (Refused ProtocolViolation) after) c.store.ensures broken;
      cause = cause;
    })
    c.tell_last.ensures.broken c.tell_last.ensures.counts
