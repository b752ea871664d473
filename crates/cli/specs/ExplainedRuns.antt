-- Runs of scripts whose refusals are told of.
use Rattle.std.specs.Prelude.{◌≡◌, ◌⊎◌, ℕ, Bool, true, false, List, Ok, Err}
use Rattle.std.specs.Borrow.{Bor}
use Rattle.std.specs.Str.{IsUtf8}
use Rattle.sector_device.specs.declared.device.Device.{Ghosts}
use Rattle.systems.specs.Systems.{SystemState}
use Rattle.abstract_database.specs.Lists.{TheName}
use Rattle.abstract_database.specs.Runs.{ReadingRelation}
use Rattle.wire.specs.declared.script_run.ScriptEnd.{ScriptEnd}
use Rattle.wire.specs.declared.sink.Sink.{Ghosts as SinkGhosts}
use Rattle.wire.specs.ScriptRun.{Known, lines_of}
use Rattle.wire.specs.SessionNames.{texts_of}
use Rattle.cli.specs.declared.command_name.CommandName.TheVariants as command_name
use Rattle.cli.specs.declared.ending.Ending.{Ending}
use Rattle.cli.specs.declared.ending.Ending.TheVariants as ending
use Rattle.cli.specs.declared.ending.Exit.{Exit}
use Rattle.cli.specs.declared.ending.Subject.{Subject}
use Rattle.cli.specs.declared.ending.Subject.TheVariants.{Named}
use Rattle.cli.specs.declared.ending.Performed.{Performed}
use Rattle.cli.specs.declared.explainer.Explainer.{Explainer}
use Rattle.cli.specs.declared.fault.CommandFault.{CommandFault}
use Rattle.cli.specs.declared.fault.CommandFault.TheVariants as fault
use Rattle.cli.specs.declared.refusals.ExplainedRun.{ExplainedRun}
use Rattle.cli.specs.declared.refusals.RunOver.{RunOver}
use Rattle.cli.specs.declared.refusals.RunOver.TheVariants as over
use Rattle.cli.specs.Commands.{IsFileNotRun, IsFileRun}
use Rattle.cli.specs.Ending.{Exits, ExitsAfter, ending_of}
use Rattle.cli.specs.Explaining.{explaining}
use Rattle.cli.specs.Program.{DoneFor, StaysSame}
use Rattle.cli.specs.Running.{RunsOverNew}
use Rattle.cli.specs.Script.{IsReadAt, Source, ill_encoded}
use Rattle.cli.specs.ScriptNotes.{HasToldNotes}

-- ---- the sink

-- of a script with these lines no line was read yet, and before it all was told or not
pub record IsFresh {K E : Type 0} (run : ExplainedRun) (lines : List (List ℕ)) (told : Bool) (out : K) (err : E) (sink : Explainer K E) : Type 0 where
  pub out_is : sink.out ≡ out
  pub err_is : sink.err ≡ err
  pub script_is : sink.script ≡ run.script
  pub lines_are : texts_of sink.lines.now ≡ lines
  pub stops_is : sink.stops ≡ run.stops
  pub read : sink.read ≡ 0
  pub told_is : sink.told ≡ told
  pub refused : sink.refused ≡ false

-- the end of a script whose sink took no answer after the refusal at which it is to end
abbrev pub explained_ending : Ending → Bool → Ending
explained_ending (ending.Fault fault.Output) true = ending.Refused
explained_ending e refused = e

-- ---- what is told at the end

module _ {K E : Type 0} (contents : E → Known) where
  -- this fault was told, and nothing was printed
  pub record IsFaultTold (about : Subject) (f : CommandFault) (out : K) (err : E) (done : Performed K E) : Type 0 where
    pub ends : Exits about (ending.Fault f) done.exit (contents err) (contents done.err)
    pub silent : done.out ≡ out

  -- how a script ended was told, and then its notes
  pub record EndsExplained (about : Subject) (text : List ℕ) (e : Ending) (sink : Explainer K E) (done : Performed K E) : Type 0 where
    pub first : Exit
    pub heard : Known
    pub out : done.out ≡ sink.out
    pub ends : ExitsAfter sink.told about (explained_ending e sink.refused) first (contents sink.err) heard
    pub noted : HasToldNotes first (Named sink.script) text (explained_ending e sink.refused) done.exit heard (contents done.err)

-- ---- over a new database in memory

module _ (X : Type 0) {K E : Type 0} (k : SinkGhosts K) (contents : E → Known) (Reads : ReadingRelation) where
  -- the script was run over a new database of this administrator, and each answer told through such a sink
  pub record ExplainsNew (admin : TheName) (run : ExplainedRun) (text : List ℕ) (out : K) (err : E) (done : Performed K E) : Type 0 where
    pub before : Explainer K E
    pub after : Explainer K E
    pub ending : Ending
    pub fresh : IsFresh run (lines_of text) true out err before
    pub runs : RunsOverNew X Reads (explaining k contents) admin text before ending after
    pub ends : EndsExplained contents (Named run.script) text ending after done

  -- so it was for a name that a role can have, unless memory was refused before; for any other nothing was done
  abbrev pub ExplainsInMemory : List ℕ → ExplainedRun → List ℕ → K → E → Performed K E → Type 0
  ExplainsInMemory admin run text out err done =
      DoneFor command_name.Run admin (IsFaultTold contents (Named run.script) fault.Memory out err done ⊎ ExplainsNew admin run text out err done)
      done.exit out done.out (contents err) (contents done.err)

-- ---- over the database in a file

module _ (X : Type 0) {D L K E : Type 0} (g : Ghosts D) (k : SinkGhosts K) (contents : E → Known) (Reads : ReadingRelation) (old : SystemState D L) where
  -- the database was not opened, which was told
  pub record IsNotOpened (file : Bor (List ℕ)) (out : K) (err : E) (new : SystemState D L) (done : Performed K E) : Type 0 where
    pub fault : CommandFault
    pub unopened : IsFileNotRun X g k Reads old file.now fault out true (contents err) new done.out (contents err)
    pub told : IsFaultTold contents (Named file) fault out err done

  -- the script was run over it, and each answer told through such a sink
  pub record IsRunExplained (file : Bor (List ℕ)) (run : ExplainedRun) (text : List ℕ) (out : K) (err : E) (new : SystemState D L) (done : Performed K E) : Type 0 where
    pub told : Bool
    pub heard : E
    pub before : Explainer K E
    pub after : Explainer K E
    pub end : ScriptEnd
    pub fresh : IsFresh run (lines_of text) told out heard before
    pub ran : IsFileRun X g (explaining k contents) Reads old file.now text before told (contents err) end new after (contents heard)
    pub ends : EndsExplained contents (Named file) text (ending_of end) after done

  abbrev pub ExplainsFile : Bor (List ℕ) → ExplainedRun → List ℕ → K → E → SystemState D L → Performed K E → Type 0
  ExplainsFile file run text out err new done = IsNotOpened file out err new done ⊎ IsRunExplained file run text out err new done

  -- ---- a script

  -- a fault was told, and nothing else was done
  pub record IsNoneExplained (run : ExplainedRun) (f : CommandFault) (out : K) (err : E) (new : SystemState D L) (done : Performed K E) : Type 0 where
    pub told : IsFaultTold contents (Named run.script) f out err done
    pub same : StaysSame old new

  -- over memory nothing of the system has changed
  pub record IsInMemory (admin : List ℕ) (run : ExplainedRun) (text : List ℕ) (out : K) (err : E) (new : SystemState D L) (done : Performed K E) : Type 0 where
    pub explains : ExplainsInMemory X k contents Reads admin run text out err done
    pub same : StaysSame old new

  abbrev pub ExplainsOver : RunOver → ExplainedRun → List ℕ → K → E → SystemState D L → Performed K E → Type 0
  ExplainsOver (over.File file) run text out err new done = ExplainsFile file run text out err new done
  ExplainsOver (over.Memory admin) run text out err new done = IsInMemory admin.now run text out err new done

  -- so it was with the text of a script, unless memory for its lines was refused
  abbrev pub ExplainsText : ExplainedRun → List ℕ → K → E → SystemState D L → Performed K E → Type 0
  ExplainsText run text out err new done = IsNoneExplained run fault.Memory out err new done ⊎ ExplainsOver run.over run text out err new done

  -- a script of UTF-8 was run so; of another the first byte that is none was told
  pub record ExplainsBytes (run : ExplainedRun) (read : List ℕ) (out : K) (err : E) (new : SystemState D L) (done : Performed K E) : Type 0 where
    pub encoded : IsUtf8 read → ExplainsText run read out err new done
    pub other : (IsUtf8 read → ⊥) → IsNoneExplained run (ill_encoded read) out err new done

  -- so it was with what was read of the script; or why it could not be read was told
  abbrev pub ExplainsSource : ExplainedRun → Source → K → E → SystemState D L → Performed K E → Type 0
  ExplainsSource run (Ok read) out err new done = ExplainsBytes run read.items out err new done
  ExplainsSource run (Err f) out err new done = IsNoneExplained run f out err new done

  -- the text that the script's path names was run, or why it could not be read was told
  pub record ExplainsRun (run : ExplainedRun) (out : K) (err : E) (new : SystemState D L) (done : Performed K E) : Type 0 where
    pub source : Source
    pub read : IsReadAt old run.script.now source new
    pub explains : ExplainsSource run source out err new done
