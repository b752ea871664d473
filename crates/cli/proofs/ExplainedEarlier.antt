-- What a run whose refusals are told of does from a system that is the same as an earlier one, it does from that one.
use Rattle.std.proofs.Common.{◌≤◌, ℕ, List, true, [], inl, inr}
use Rattle.std.specs.Borrow.{Bor}
use Rattle.sector_device.specs.declared.device.Device.{Ghosts}
use Rattle.systems.specs.Systems.{IsSame, SystemState}
use Rattle.abstract_database.specs.Runs.{ReadingRelation}
use Rattle.wire.specs.declared.sink.Sink.{Ghosts as SinkGhosts}
use Rattle.wire.specs.ScriptRun.{Known}
use Rattle.cli.specs.declared.ending.Performed.{Performed}
use Rattle.cli.specs.declared.fault.CommandFault.{CommandFault}
use Rattle.cli.specs.declared.refusals.ExplainedRun.{ExplainedRun}
use Rattle.cli.specs.declared.refusals.RunOver.{RunOver}
use Rattle.cli.specs.declared.refusals.RunOver.TheVariants as over
use Rattle.cli.specs.ExplainedRuns.{ExplainsBytes, ExplainsFile, ExplainsOver, ExplainsText, IsNoneExplained}
use Rattle.cli.specs.Explaining.{explaining}
use Rattle.cli.specs.Program.{StaysSame}
use Rattle.cli.proofs.Changes.{same_joined}
use Rattle.cli.proofs.Earlier.{not_run_from, ran_from}

module _ (X : Type 0) {D L K E : Type 0} (g : Ghosts D) (k : SinkGhosts K) (contents : E → Known) (Reads : ReadingRelation) (old mid : SystemState D L) (same : old.faithful → IsSame old mid) (counts : old.failures ≤ mid.failures) (out : K) (err : E) (new : SystemState D L) (done : Performed K E) where
  stays_from : StaysSame mid new → StaysSame old new
  stays_from it = λ is. same_joined old mid new (same is) (it ((same is).faithful is))

  none_from : (run : ExplainedRun) (f : CommandFault) → IsNoneExplained X g k contents Reads mid run f out err new done → IsNoneExplained X g k contents Reads old run f out err new done
  none_from run f it = record { told = it.told; same = stays_from it.same }

  file_from : (file : Bor (List ℕ)) (run : ExplainedRun) (text : List ℕ) → ExplainsFile X g k contents Reads mid file run text out err new done → ExplainsFile X g k contents Reads old file run text out err new done
  file_from file run text (inl it) = inl (record {
    fault = it.fault;
    unopened = not_run_from X g k Reads old mid file.now same counts [] out done.out (contents err) (contents err) new true it.fault it.unopened;
    told = it.told;
  })
  file_from file run text (inr it) = inr (record {
    told = it.told;
    heard = it.heard;
    before = it.before;
    after = it.after;
    end = it.end;
    fresh = it.fresh;
    ran = ran_from X g (explaining k contents) Reads old mid file.now same counts text it.before it.after (contents err) (contents it.heard) new it.told it.end it.ran;
    ends = it.ends;
  })

  over_from : (o : RunOver) (run : ExplainedRun) (text : List ℕ) → ExplainsOver X g k contents Reads mid o run text out err new done → ExplainsOver X g k contents Reads old o run text out err new done
  over_from (over.File file) run text it = file_from file run text it
  over_from (over.Memory admin) run text it = record { explains = it.explains; same = stays_from it.same }

  text_from : (run : ExplainedRun) (text : List ℕ) → ExplainsText X g k contents Reads mid run text out err new done → ExplainsText X g k contents Reads old run text out err new done
  text_from run text (inl it) = inl (none_from run _ it)
  text_from run text (inr it) = inr (over_from run.over run text it)

  pub explained_from : (run : ExplainedRun) (read : List ℕ) → ExplainsBytes X g k contents Reads mid run read out err new done → ExplainsBytes X g k contents Reads old run read out err new done
  explained_from run read it = record { encoded = λ utf8. text_from run read (it.encoded utf8); other = λ none. none_from run _ (it.other none) }
