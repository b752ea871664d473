-- A script that a refusal has ended.
use Rattle.std.proofs.Common.{◌≡◌, ◌∙◌, ℕ, Bool, true, false, List, [], ◌∷◌, refl, sym, ap, subst, inl, inr}
use Rattle.sql_types.specs.declared.answer.Answer.{Answer}
use Rattle.sql_types.specs.declared.event.Event.{Event}
use Rattle.store.specs.Store.{StoreState}
use Rattle.abstract_database.specs.Runs.{ReadingRelation}
use Rattle.server.specs.declared.server.Server.{Server}
use Rattle.wire.specs.declared.script_run.ScriptEnd.{ScriptEnd}
use Rattle.wire.specs.declared.script_run.ScriptEnd.TheVariants as end
use Rattle.wire.specs.declared.sink.Sink.{Ghosts as SinkGhosts}
use Rattle.wire.specs.ScriptRun.{EndsAsLines, Known, TellsTo}
use Rattle.wire.specs.Telling.{Told, TellsAll, TellsEach, answers_of}
use Rattle.cli.specs.declared.explainer.Explainer.{Explainer}
use Rattle.cli.specs.EndedRuns.{EndAtRefusal, GoesOnAfter, RefusalsEndRuns}
use Rattle.cli.specs.Explaining.{BreaksOff, explaining}
use Rattle.cli.specs.Refusals.{ends_at}

module _ {K E : Type 0} (k : SinkGhosts K) (contents : E → Known) where
  -- the last answer was not taken, or is the first refusal
  last_ends : (between after : Explainer K E) (s : StoreState) (session : ℕ) (answer : Answer) → BreaksOff k contents between s session answer after → after.refused ≡ true → ends_at between.stops answer ≡ true
  last_ends between after s session answer (inl failed) refused = let contrary : true ≡ false = sym refused ∙ failed.refused in cc
  last_ends between after s session answer (inr first) refused = first.ends

  -- the sink says at the end what it said after the last telling
  said_before : (told after : Explainer K E) (ending e : ScriptEnd) → EndsAsLines (explaining k contents) ending told e after → after.refused ≡ true → (e ≡ ending) × (told.refused ≡ true)
  said_before told after ending e (inl same) refused = (same.0, sym same.2.refused ∙ refused)
  said_before told after ending e (inr failed) refused = let contrary : true ≡ false = sym refused ∙ failed.2.refused in cc

module _ {S X K E : Type 0} (Reads : ReadingRelation) (state : S → StoreState) (k : SinkGhosts K) (contents : E → Known) where
  -- after answers that were told the script goes on
  all_go_on : (old new : Server S X) (before after : Explainer K E) (events : List Event) (told : List Told) → TellsAll Reads state (explaining k contents) old before events told new after
      → GoesOnAfter before.stops (answers_of told) × (after.stops ≡ before.stops) × (after.refused ≡ before.refused)
  all_go_on old new before after [] [] it = (tt, ap (λ (x : Explainer K E). x.stops) it.1, ap (λ (x : Explainer K E). x.refused) it.1)
  all_go_on old new before after (e ∷ events) (t ∷ told) it =
      let rest = all_go_on it.0 new it.1 after events told it.3 in
      let one = it.2.told in
      let stops = one.handed.keeps.stops in
      ((one.goes_on, subst (λ (s : Bool). GoesOnAfter s (answers_of told)) stops rest.0), rest.1 ∙ stops, rest.2 ∙ one.refused)
  all_go_on old new before after [] (t ∷ told) it = absurd it
  all_go_on old new before after (e ∷ events) [] it = absurd it

  each_goes_on : (old new : Server S X) (before after : Explainer K E) (events : List Event) (answers : List Answer) → TellsEach Reads state (explaining k contents) old before events answers new after
      → before.refused ≡ false → after.refused ≡ true → ⊥
  each_goes_on old new before after events answers it fresh refused =
      let contrary : true ≡ false = sym refused ∙ ((all_go_on old new before after events it.told it.all).2 ∙ fresh) in
      cc

  told_ends : (old new : Server S X) (before after : Explainer K E) (events : List Event) (answers : List Answer) (e : ScriptEnd) → TellsTo Reads state (explaining k contents) e old before events answers new after
      → before.refused ≡ false → after.refused ≡ true → (e ≡ end.Writer) × EndAtRefusal before.stops answers
  told_ends old new before after events answers end.Done it fresh refused = absurd (each_goes_on old new before after events answers it fresh refused)
  told_ends old new before after events answers (end.BadLine number) it fresh refused = absurd (each_goes_on old new before after events answers it fresh refused)
  told_ends old new before after events answers end.Stopped it fresh refused = absurd (each_goes_on old new before after events answers it fresh refused)
  told_ends old new before after events answers end.Memory it fresh refused = absurd (each_goes_on old new before after events answers it fresh refused)
  told_ends old new before after events answers end.Writer it fresh refused =
      let some = it.0 in
      let first = all_go_on old some.server before some.between some.done some.told some.all in (
        refl,
        record {
          first = answers_of some.told;
          last = some.answer;
          answers_are = it.2;
          goes_on = first.0;
          ends = subst (λ (s : Bool). ends_at s some.answer ≡ true) first.1 (last_ends k contents some.between after _ _ some.answer some.breaks.broken refused);
        },
      )

  pub refusals_end : RefusalsEndRuns X state k contents Reads
  refusals_end old new lines before after e run fresh refused =
      let said = said_before k contents run.told after run.ending e run.ends refused in
      let ends = told_ends old run.server before run.told run.ran.events run.ran.answers run.ending run.ran.tells fresh said.1 in
      (said.0 ∙ ends.0, ends.1)
