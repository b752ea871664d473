-- What a copy of the database in a file comes to, by what was done one after the other.
use Rattle.std.proofs.Common.{◌≡◌, ◌≢◌, ◌∙◌, ◌≤◌, ◌+◌, ℕ, List, Result, Ok, Err, codes, length, length-append, inl, inr, refl, sym, ap, subst, arith}
use Rattle.sector_device.specs.Device.{history_none}
use Rattle.sector_device.specs.Timeline.{IsPresent}
use Rattle.sector_device.specs.Device.{timeline}
use Rattle.sector_device.specs.declared.device.Device.{Ghosts}
use Rattle.sector_device.specs.declared.open_file.FileFault.{FileFault}
use Rattle.sector_device.specs.declared.open_file.FileFault.TheVariants as file
use Rattle.sector_device.specs.declared.system_cause.SystemCause.{SystemCause}
use Rattle.systems.specs.Systems.{Absent, Reading, At, IsNamed, IsOpen, IsReadable, IsReading, IsSame, IsSameBut, IsSameButBoth, IsUnnamed, Rose, SystemState}
use Rattle.cow_pages.proofs.Reading.{reads_none}
use Rattle.copies.specs.declared.fault.CopyFault.{CopyFault}
use Rattle.databases.specs.Databases.{IsUnwritten}
use Rattle.cli.specs.declared.copy_fault.CopyRefusal.{CopyRefusal}
use Rattle.cli.specs.declared.copy_fault.CopyRefusal.TheVariants.{File, New}
use Rattle.cli.specs.declared.fault.CommandFault.TheVariants as command
use Rattle.cli.specs.CopyFaults.{of_partial}
use Rattle.cli.specs.Copying.{CopiesBeside, CopiesFile, IsCopied, IsFileCopied, IsFileUncopied, IsSameButThree, WasTakenAway, IsTried, IsUncopied, KeepsFile, Renames, StandsAgainstCopy, partial_path}
use Rattle.cli.specs.Formatting.{StandsAgainst}
use Rattle.cli.proofs.Changes.{but_joined, rose_between, same_joined, same_then_but}

-- ---- names and causes

pub partial_differs : (target : List ℕ) → target ≢ partial_path target
partial_differs target same =
    let longer : length target ≡ length target + 8 = ap length same ∙ length-append target (codes ".partial") in
    omega (arith, longer)

module _ {D L : Type 0} (old new : SystemState D L) (partial target : List ℕ) where
  -- why nothing was made under the name that a copy has until it is whole
  pub stands_partial : (why : FileFault) → (why ≡ file.Exists → IsNamed old partial) → ((cause : SystemCause) → why ≡ file.Device cause → Rose old.failures new.failures) → StandsAgainstCopy (of_partial why) old partial target new
  stands_partial file.Exists exists failed = exists refl
  stands_partial file.Memory exists failed = tt
  stands_partial (file.Device cause) exists failed = failed cause refl

  -- why a file was not made or named
  pub stands_against : (why : FileFault) → (why ≡ file.Exists → IsNamed old target) → ((cause : SystemCause) → why ≡ file.Device cause → Rose old.failures new.failures) → StandsAgainst why old target new
  stands_against file.Exists exists failed = exists refl
  stands_against file.Memory exists failed = tt
  stands_against (file.Device cause) exists failed = failed cause refl

-- a cause that stood in a system a little later stood in it before
pub against_since : {D L : Type 0} → (old mid new : SystemState D L) → (target : List ℕ) → mid.is_named target ≡ old.is_named target → old.failures ≤ mid.failures → mid.failures ≤ new.failures
    → (why : FileFault) → StandsAgainst why mid target new → StandsAgainst why old target new
against_since old mid new target same counts later file.Exists stands = sym same ∙ stands
against_since old mid new target same counts later file.Memory stands = tt
against_since old mid new target same counts later (file.Device cause) stands = rose_between old.failures mid.failures new.failures new.failures counts later (omega arith) stands

module _ {D L : Type 0} (old mid new : SystemState D L) (partial target : List ℕ) (same : IsSame old mid) (counts : old.failures ≤ mid.failures) (later : mid.failures ≤ new.failures) where
  pub copy_against_since : (fault : CopyRefusal) → StandsAgainstCopy fault mid partial target new → StandsAgainstCopy fault old partial target new
  copy_against_since (New command.Exists) stands = sym (same.names target) ∙ stands
  copy_against_since (New command.Memory) stands = tt
  copy_against_since (New (command.Device cause)) stands = rose_between old.failures mid.failures new.failures new.failures counts later (omega arith) stands
  copy_against_since (New command.InUse) stands = absurd stands
  copy_against_since (New command.PrintedTo) stands = absurd stands
  copy_against_since (New command.WrongSize) stands = absurd stands
  copy_against_since (New command.NotADatabase) stands = absurd stands
  copy_against_since (New (command.NewerFormat format)) stands = absurd stands
  copy_against_since (New command.Damaged) stands = absurd stands
  copy_against_since (New command.Full) stands = absurd stands
  copy_against_since (New command.Number) stands = absurd stands
  copy_against_since (New (command.Net cause)) stands = absurd stands
  copy_against_since (New command.Output) stands = absurd stands
  copy_against_since (New command.Partial) stands = sym (same.names partial) ∙ stands
  copy_against_since (New (command.NoRoom wanted least)) stands = absurd stands
  copy_against_since (New command.NotADump) stands = absurd stands
  copy_against_since (New (command.OtherDump version)) stands = absurd stands
  copy_against_since (New command.DamagedDump) stands = absurd stands
  copy_against_since (New (command.NoDumpRoom wanted)) stands = absurd stands
  copy_against_since (New (command.ScriptUnread cause)) stands = absurd stands
  copy_against_since (New (command.ScriptNotUtf8 line byte)) stands = absurd stands
  copy_against_since (New command.NoPassword) stands = absurd stands
  copy_against_since (New command.ManyLines) stands = absurd stands
  copy_against_since (New command.NoRole) stands = absurd stands
  copy_against_since (New (command.StatementRefused code)) stands = absurd stands
  copy_against_since (New command.NotOverRows) stands = absurd stands
  copy_against_since (New command.FirstFormat) stands = absurd stands
  copy_against_since (New command.NoSwitchRoom) stands = absurd stands
  copy_against_since (New command.NoSwitchNumber) stands = absurd stands
  copy_against_since (File why) stands = absurd stands

-- ---- a copy that is whole is named, or taken away

module _ {D L : Type 0} (g : Ghosts D) (old mid new : SystemState D L) (partial target : List ℕ) (pages : ℕ) (device left blank copy : D)
    (making : old.faithful → IsSameBut partial old mid) (counts : old.failures ≤ mid.failures) (is_open : old.faithful → IsOpen mid partial) (differ : target ≢ partial) (tried : IsTried g old partial target pages device (Ok tt) left blank copy) where
  both : IsSameBut partial old mid → IsSameButBoth partial target mid new → IsSameButBoth partial target old new
  both first second = record {
    faithful = λ is. second.faithful (first.faithful is);
    devices = λ path one other. second.devices path one other ∙ first.devices path one;
    texts = λ path one other. second.texts path one other ∙ first.texts path one;
    names = λ path one other. second.names path one other ∙ first.names path one;
    listeners = λ place. second.listeners place ∙ first.listeners place;
  }

  pub named_then : (result : Result (Unit {0}) CopyRefusal) → Renames mid partial target copy result new → CopiesBeside g old partial target pages device result left new
  named_then (Ok x) renamed = record {
    blank = blank;
    copy = copy;
    tried = tried;
    free = λ is. sym ((making is).names target differ) ∙ renamed.free ((making is).faithful is);
    named = λ is. renamed.named ((making is).faithful is) (is_open is);
    gone = λ is. renamed.gone ((making is).faithful is) (is_open is);
    others = λ is. both (making is) (renamed.others ((making is).faithful is));
    counts = omega (arith, counts, renamed.counts);
  }
  named_then (Err fault) refused = inr (inr (record {
    why = refused.why;
    is = refused.is;
    cause = λ is. against_since old mid new target ((making is).names target differ) counts refused.counts refused.why (refused.cause ((making is).faithful is));
    blank = blank;
    copy = copy;
    tried = tried;
    taken = record {
      removed = λ is. elim (refused.removed ((making is).faithful is) (is_open is)) [
        | inl gone ↦ inl gone
        | inr failed ↦ inr (rose_between old.failures mid.failures new.failures new.failures counts refused.counts (omega arith) failed)
      ];
      others = λ is. but_joined partial old mid new (making is) (refused.others ((making is).faithful is));
      counts = omega (arith, counts, refused.counts);
    };
  }))

-- ---- the same, seen from a little before

module _ {D L : Type 0} (g : Ghosts D) (old mid new : SystemState D L) (partial target : List ℕ) (pages : ℕ) (device left : D) (same : old.faithful → IsSame old mid) (counts : old.failures ≤ mid.failures) where
  tried_since : (result : Result (Unit {0}) CopyFault) → (blank copy : D) → IsTried g mid partial target pages device result left blank copy → IsTried g old partial target pages device result left blank copy
  tried_since result blank copy tried = record {
    is_blank = λ is. let made = tried.is_blank ((same is).faithful is) in record { new = sym ((same is).names partial) ∙ made.new; zeros = made.zeros; blank = made.blank };
    copies = tried.copies;
    history = tried.history;
    content = tried.content;
  }

  taken_since : WasTakenAway g mid partial target pages device new → WasTakenAway g old partial target pages device new
  taken_since taken = record {
    removed = λ is. elim (taken.removed ((same is).faithful is)) [
      | inl gone ↦ inl gone
      | inr failed ↦ inr (rose_between old.failures mid.failures new.failures new.failures counts taken.counts (omega arith) failed)
    ];
    others = λ is. same_then_but partial old mid new (same is) (taken.others ((same is).faithful is));
    counts = omega (arith, counts, taken.counts);
  }

  uncopied_since : (fault : CopyRefusal) → IsUncopied g mid partial target pages device fault left new → IsUncopied g old partial target pages device fault left new
  uncopied_since fault (inl none) = inl (record {
    unread = none.unread;
    cause = λ is. copy_against_since old mid new partial target (same is) counts none.counts fault (none.cause ((same is).faithful is));
    same = λ is. same_joined old mid new (same is) (none.same ((same is).faithful is));
    counts = omega (arith, counts, none.counts);
  })
  uncopied_since fault (inr (inl stopped)) = inr (inl (record {
    why = stopped.why;
    is = stopped.is;
    blank = stopped.blank;
    copy = stopped.copy;
    tried = tried_since _ stopped.blank stopped.copy stopped.tried;
    taken = taken_since stopped.taken;
  }))
  uncopied_since fault (inr (inr unnamed)) = inr (inr (record {
    why = unnamed.why;
    is = unnamed.is;
    cause = λ is. against_since old mid new target ((same is).names target) counts unnamed.taken.counts unnamed.why (unnamed.cause ((same is).faithful is));
    blank = unnamed.blank;
    copy = unnamed.copy;
    tried = tried_since _ unnamed.blank unnamed.copy unnamed.tried;
    taken = taken_since unnamed.taken;
  }))

  pub copied_since : (result : Result (Unit {0}) CopyRefusal) → CopiesBeside g mid partial target pages device result left new → CopiesBeside g old partial target pages device result left new
  copied_since (Ok x) copied = record {
    blank = copied.blank;
    copy = copied.copy;
    tried = tried_since _ copied.blank copied.copy copied.tried;
    free = λ is. sym ((same is).names target) ∙ copied.free ((same is).faithful is);
    named = λ is. copied.named ((same is).faithful is);
    gone = λ is. copied.gone ((same is).faithful is);
    others = λ is. then_both (same is) (copied.others ((same is).faithful is));
    counts = omega (arith, counts, copied.counts);
  } where
    then_both : IsSame old mid → IsSameButBoth partial target mid new → IsSameButBoth partial target old new
    then_both first second = record {
      faithful = λ is. second.faithful (first.faithful is);
      devices = λ path one other. second.devices path one other ∙ first.devices path;
      texts = λ path one other. second.texts path one other ∙ first.texts path;
      names = λ path one other. second.names path one other ∙ first.names path;
      listeners = λ place. second.listeners place ∙ first.listeners place;
    }
  copied_since (Err fault) uncopied = uncopied_since fault uncopied

-- ---- from file to file

pub reading_is_there : {D : Type 0} {at : At D} → at ≡ Reading → at ≡ Absent → ⊥
reading_is_there is none = let bad : Reading ≡ Absent = sym is ∙ none in cc

-- `no_device` is the law of a system that a path of which there is nothing names no device
module _ {D L S : Type 0} (g : Ghosts D) (state : S → SystemState D L) (old new : SystemState D L) (first last : S) (path target : List ℕ) (pages : ℕ) (device left : D) (opening : old.faithful → IsSameBut path old (state first)) (is_reading : old.faithful → IsReading (state first) path)
    (named : old.faithful → IsReadable old path device) (no_device : (p : List ℕ) → (state first).faithful → IsUnnamed (state first) p → (state first).devices p ≡ Absent) (closed : (state last).faithful → IsReading (state last) path → IsReadable new path left) (closing : (state last).faithful → IsSameBut path (state last) new)
    (of_device : old.faithful → (g.state device).faithful) (present : (d : D) → (g.state d).faithful → IsPresent (timeline (g.state d))) where
  abbrev partial : List ℕ
  partial = partial_path target

  -- the path of the file is none of which there was nothing
  is_other : old.faithful → (p : List ℕ) → IsUnnamed (state first) p → path ≢ p
  is_other is p free same = reading_is_there (is_reading is) (ap (state first).devices same ∙ no_device p ((opening is).faithful is) free)

  kept : old.faithful → (state last).faithful → IsReading (state last) path → IsUnwritten (g.state device) (g.state left) → KeepsFile g old path target pages device left new
  kept is still reading unwritten = record { opened = named is; closed = closed still reading; unwritten = unwritten }

  unwritten_by : (result : Result (Unit {0}) CopyFault) → (blank copy : D) → IsTried g (state first) partial target pages device result left blank copy → old.faithful → IsUnwritten (g.state device) (g.state left)
  unwritten_by result blank copy tried is = record { history = tried.history; content = tried.content (of_device is) }

  pub copied_file : IsCopied g (state first) partial target pages device left (state last) → IsFileCopied g old path target pages new
  copied_file it = record {
    device = device;
    left = left;
    blank = it.blank;
    copy = it.copy;
    keeps = λ is. kept is (still is) ((it.others (at_begin is)).devices path (path_is_not_partial is) (path_is_not_target is) ∙ is_reading is) (unwritten_by _ it.blank it.copy it.tried is);
    is_blank = λ is. (let made = it.tried.is_blank (at_begin is) in record { new = sym ((opening is).names partial (λ same. path_is_not_partial is (sym same))) ∙ made.new; zeros = made.zeros; blank = made.blank });
    copies = λ is. it.tried.copies (of_device is);
    free = λ is. sym ((opening is).names target (λ same. path_is_not_target is (sym same))) ∙ it.free (at_begin is);
    named = λ is. (closing (still is)).devices target (λ same. path_is_not_target is (sym same)) ∙ it.named (at_begin is);
    gone = λ is. (closing (still is)).names partial (λ same. path_is_not_partial is (sym same)) ∙ it.gone (at_begin is);
    others = λ is. three (opening is) (it.others (at_begin is)) (closing (still is));
  } where
    at_begin : old.faithful → (state first).faithful
    at_begin is = (opening is).faithful is

    still : old.faithful → (state last).faithful
    still is = (it.others (at_begin is)).faithful (at_begin is)

    path_is_not_partial : old.faithful → path ≢ partial
    path_is_not_partial is = is_other is partial (it.tried.is_blank (at_begin is)).new

    path_is_not_target : old.faithful → path ≢ target
    path_is_not_target is = is_other is target (it.free (at_begin is))

    three : IsSameBut path old (state first) → IsSameButBoth partial target (state first) (state last) → IsSameBut path (state last) new → IsSameButThree path partial target old new
    three one_step two_step last_step = record {
      faithful = λ is. last_step.faithful (two_step.faithful (one_step.faithful is));
      devices = λ p one other last. last_step.devices p one ∙ two_step.devices p other last ∙ one_step.devices p one;
      texts = λ p one other last. last_step.texts p one ∙ two_step.texts p other last ∙ one_step.texts p one;
      names = λ p one other last. last_step.names p one ∙ two_step.names p other last ∙ one_step.names p one;
      listeners = λ place. last_step.listeners place ∙ two_step.listeners place ∙ one_step.listeners place;
    }

  -- between the two nothing but the name of what is not whole has changed
  but_both : IsSameBut path old (state first) → IsSameBut partial (state first) (state last) → IsSameBut path (state last) new → IsSameButBoth path partial old new
  but_both first second third = record {
    faithful = λ is. third.faithful (second.faithful (first.faithful is));
    devices = λ p one other. third.devices p one ∙ second.devices p other ∙ first.devices p one;
    texts = λ p one other. third.texts p one ∙ second.texts p other ∙ first.texts p one;
    names = λ p one other. third.names p one ∙ second.names p other ∙ first.names p one;
    listeners = λ place. third.listeners place ∙ second.listeners place ∙ first.listeners place;
  }

  same_is_but : IsSame (state first) (state last) → IsSameBut partial (state first) (state last)
  same_is_but same = record {
    faithful = same.faithful;
    devices = λ p other. same.devices p;
    texts = λ p other. same.texts p;
    names = λ p other. same.names p;
    listeners = same.listeners;
  }

  -- nothing was made, or what was made is no more
  uncopied_by : (fault : CopyRefusal) → (old.faithful → IsSameBut partial (state first) (state last)) → (old.faithful → path ≢ partial) → (old.faithful → IsUnwritten (g.state device) (g.state left)) → IsUncopied g (state first) partial target pages device fault left (state last)
      → IsFileUncopied g state old path target pages fault new
  uncopied_by fault between other unwritten why = record {
    device = device;
    left = left;
    begun = first;
    ended = last;
    keeps = λ is. kept is (still is) ((between is).devices path (other is) ∙ is_reading is) (unwritten is);
    opening = opening;
    why = why;
    closing = λ is. closing (still is);
    others = λ is. but_both (opening is) (between is) (closing (still is));
  } where
    still : old.faithful → (state last).faithful
    still is = (between is).faithful ((opening is).faithful is)

  pub uncopied_file : (fault : CopyRefusal) → IsUncopied g (state first) partial target pages device fault left (state last) → IsFileUncopied g state old path target pages fault new
  uncopied_file fault (inl none) = unbegun
    where
      at_begin : old.faithful → (state first).faithful
      at_begin is = (opening is).faithful is

      still : old.faithful → (state last).faithful
      still is = (none.same (at_begin is)).faithful (at_begin is)

      unbegun : IsFileUncopied g state old path target pages fault new
      unbegun = record {
        device = device;
        left = left;
        begun = first;
        ended = last;
        keeps = λ is. kept is (still is) ((none.same (at_begin is)).devices path ∙ is_reading is) (subst (λ l. IsUnwritten (g.state device) (g.state l)) (sym none.unread) (record { history = history_none (g.state device); content = reads_none (g.state device) (present device (of_device is)) }));
        opening = opening;
        why = inl none;
        closing = λ is. closing (still is);
        others = λ is. but_both (opening is) (same_is_but (none.same (at_begin is))) (closing (still is));
      }
  uncopied_file fault (inr (inl stopped)) = uncopied_by fault (λ is. stopped.taken.others ((opening is).faithful is)) (λ is. is_other is partial (stopped.tried.is_blank ((opening is).faithful is)).new) (unwritten_by _ stopped.blank stopped.copy stopped.tried) (inr (inl stopped))
  uncopied_file fault (inr (inr unnamed)) = uncopied_by fault (λ is. unnamed.taken.others ((opening is).faithful is)) (λ is. is_other is partial (unnamed.tried.is_blank ((opening is).faithful is)).new) (unwritten_by _ unnamed.blank unnamed.copy unnamed.tried) (inr (inr unnamed))

  pub copies_file : (result : Result (Unit {0}) CopyRefusal) → CopiesBeside g (state first) partial target pages device result left (state last) → CopiesFile g state old path target pages result new
  copies_file (Ok x) copied = copied_file copied
  copies_file (Err fault) uncopied = inr (inr (uncopied_file fault uncopied))

-- a system stays faithful while a copy is made
module _ {D L : Type 0} (g : Ghosts D) (old : SystemState D L) (partial target : List ℕ) (pages : ℕ) (device left : D) (new : SystemState D L) where
  pub still_faithful : (result : Result (Unit {0}) CopyRefusal) → CopiesBeside g old partial target pages device result left new → old.faithful → new.faithful
  still_faithful (Ok x) copied is = (copied.others is).faithful is
  still_faithful (Err fault) (inl none) is = (none.same is).faithful is
  still_faithful (Err fault) (inr (inl stopped)) is = (stopped.taken.others is).faithful is
  still_faithful (Err fault) (inr (inr unnamed)) is = (unnamed.taken.others is).faithful is
