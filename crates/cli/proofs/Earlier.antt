-- What a run does from a system that is the same as an earlier one, it does from that one.
use Rattle.std.proofs.Common.{◌≤◌, ◌∙◌, ℕ, Bool, List, Result, Ok, Err, inl, inr, ap, sym, arith}
use Rattle.std.specs.Prelude.{MatchResult}
use Rattle.sector_device.specs.declared.device.Device.{Ghosts}
use Rattle.systems.specs.declared.fault.OpenPathFault.{OpenPathFault}
use Rattle.systems.specs.declared.fault.OpenPathFault.TheVariants.{Missing, InUse, PrintedTo, Memory, Device}
use Rattle.systems.specs.declared.access.Access.TheVariants.{Write}
use Rattle.systems.specs.Systems.{At, IsHeldFrom, IsSame, SystemState, is_shared}
use Rattle.abstract_database.specs.Runs.{ReadingRelation}
use Rattle.wire.specs.declared.script_run.ScriptEnd.{ScriptEnd}
use Rattle.wire.specs.declared.sink.Sink.{Ghosts as SinkGhosts}
use Rattle.wire.specs.ScriptRun.{Known}
use Rattle.cli.specs.declared.fault.CommandFault.{CommandFault}
use Rattle.cli.specs.Commands.{IsFileNotRun, IsFileOpened, IsFileRun}
use Rattle.cli.specs.Files.{ChangesDevice, IsUnopened, StandsAt}
use Rattle.cli.proofs.Changes.{rose_between, same_joined, same_then_but}
use Rattle.cli.specs.declared.ending.Exit.{Exit}
use Rattle.cli.specs.declared.ending.Subject.{Subject}
use Rattle.cli.specs.Program.{RunsBytesOver}

module _ (X : Type 0) {D L K : Type 0} (g : Ghosts D) (k : SinkGhosts K) (Reads : ReadingRelation) (old mid : SystemState D L) (path : List ℕ) (same : old.faithful → IsSame old mid) (counts : old.failures ≤ mid.failures) where
  changes_from : (device left : D) (new : SystemState D L) → (mid.faithful → ChangesDevice g mid path device left new) → old.faithful → ChangesDevice g old path device left new
  changes_from device left new it is =
      let was = same is in
      let changes = it (was.faithful is) in
      record { opened = sym (was.devices path) ∙ changes.opened; closed = changes.closed; others = same_then_but path old mid new was changes.others }

  held_from : IsSame old mid → IsHeldFrom Write mid path → IsHeldFrom Write old path
  held_from was (inl here) = inl (sym (was.devices path) ∙ here)
  held_from was (inr (inl reading)) = inr (inl (sym (was.devices path) ∙ reading))
  held_from was (inr (inr (inl taken))) = inr (inr (inl (sym (was.devices path) ∙ taken)))
  held_from was (inr (inr (inr shared))) = inr (inr (inr (shared.0, sym (ap (λ (a : At D). is_shared a) (was.devices path)) ∙ shared.1)))

  stands_from : (why : OpenPathFault) (new : SystemState D L) → mid.failures ≤ new.failures → IsSame old mid → StandsAt Write why mid path new → StandsAt Write why old path new
  stands_from Missing new counted was it = sym (was.names path) ∙ it
  stands_from InUse new counted was it = held_from was it
  stands_from PrintedTo new counted was it = absurd it
  stands_from Memory new counted was it = tt
  stands_from (Device cause) new counted was it = rose_between old.failures mid.failures new.failures new.failures counts counted (omega arith) it

  unopened_from : (fault : CommandFault) (new : SystemState D L) → IsUnopened g mid path fault new → IsUnopened g old path fault new
  unopened_from fault new (inl it) = inl (record {
    why = it.why;
    is = it.is;
    cause = λ is. stands_from it.why new it.counts (same is) (it.cause ((same is).faithful is));
    same = λ is. same_joined old mid new (same is) (it.same ((same is).faithful is));
    counts = omega (arith, counts, it.counts);
  })
  unopened_from fault new (inr it) = inr (record {
    device = it.device;
    left = it.left;
    why = it.why;
    is = it.is;
    changes = changes_from it.device it.left new it.changes;
    refused = λ is. it.refused ((same is).faithful is);
  })

  abbrev opened_from : (told : Bool) (before after : Known) → IsFileOpened X g mid path told before after → IsFileOpened X g old path told before after
  opened_from told before after it = record { device = it.device; opened = it.opened; is_opened = λ is. it.is_opened ((same is).faithful is); tells = it.tells }

  module _ (script : List ℕ) (out_before out_after : K) (err_before err_after : Known) (new : SystemState D L) (told : Bool) where
    pub ran_from : (end : ScriptEnd) → IsFileRun X g k Reads mid path script out_before told err_before end new out_after err_after → IsFileRun X g k Reads old path script out_before told err_before end new out_after err_after
    ran_from end it = record {
      file = opened_from told err_before err_after it.file;
      renewed = λ is. it.renewed ((same is).faithful is);
      left = it.left;
      runs = it.runs;
      closed = λ is. it.closed ((same is).faithful is);
      changes = changes_from it.file.device it.left new it.changes;
    }

    pub not_run_from : (fault : CommandFault) → IsFileNotRun X g k Reads mid path fault out_before told err_before new out_after err_after → IsFileNotRun X g k Reads old path fault out_before told err_before new out_after err_after
    not_run_from fault it = (record { unopened = unopened_from fault new it.0.unopened; told_all = it.0.told_all; silent = it.0.silent }, it.1)

    runs_from : (outcome : Result ScriptEnd CommandFault)
        → MatchResult outcome (λ end. IsFileRun X g k Reads mid path script out_before told err_before end new out_after err_after)
        (λ fault. IsFileNotRun X g k Reads mid path fault out_before told err_before new out_after err_after)
        → MatchResult outcome (λ end. IsFileRun X g k Reads old path script out_before told err_before end new out_after err_after)
        (λ fault. IsFileNotRun X g k Reads old path fault out_before told err_before new out_after err_after)
    runs_from (Ok end) it = ran_from end it
    runs_from (Err fault) it = not_run_from fault it

  pub bytes_from : (file script : Subject) (read : List ℕ) (exit : Exit) (new : SystemState D L) (out_before out_after : K) (err_before err_after : Known)
      → RunsBytesOver X g k Reads mid file path script read exit new out_before out_after err_before err_after → RunsBytesOver X g k Reads old file path script read exit new out_before out_after err_before err_after
  bytes_from file script read exit new out_before out_after err_before err_after it = record {
    encoded = λ utf8. (
        let over = it.encoded utf8 in
        record {
          end = over.end;
          first = over.first;
          heard = over.heard;
          told = over.told;
          runs = runs_from read out_before out_after err_before over.heard new over.end.told over.end.outcome over.runs;
          ends = over.ends;
          noted = over.noted;
        }
        );
    other = λ none. (
        let over = it.other none in
        record { ends = over.ends; silent = over.silent; same = λ is. same_joined old mid new (same is) (over.same ((same is).faithful is)) }
        );
  }
