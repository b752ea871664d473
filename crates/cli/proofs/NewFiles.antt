-- What making a new file of another one comes to, by what was done one after the other.
use Rattle.std.proofs.Common.{◌≡◌, ◌≢◌, ◌∙◌, ◌⊎◌, ◌≤◌, ℕ, List, Result, Ok, Err, inl, inr, refl, sym, ap, arith}
use Rattle.sector_device.specs.Device.{KeepsHistory, history_joined}
use Rattle.sector_device.specs.declared.device.Device.{Ghosts}
use Rattle.sector_device.specs.declared.system_cause.SystemCause.{SystemCause}
use Rattle.systems.specs.declared.access.Access.TheVariants.{Read}
use Rattle.systems.specs.declared.fault.OpenPathFault.{OpenPathFault}
use Rattle.systems.specs.declared.fault.OpenPathFault.TheVariants as opening
use Rattle.systems.specs.Systems.{Absent, IsHeldFrom, IsOpen, IsReadable, IsReading, IsSame, IsSameBut, IsSameButBoth, IsUnnamed, Rose, SystemState}
use Rattle.cow_pages.specs.Held.{KeepsContent}
use Rattle.cow_pages.specs.ReadingLaws.{reads_joined}
use Rattle.cli.specs.declared.copy_fault.CopyRefusal.{CopyRefusal}
use Rattle.cli.specs.declared.fault.CommandFault.{CommandFault}
use Rattle.cli.specs.Faults.{of_path}
use Rattle.cli.specs.Files.{IsNotOpened, StandsAt}
use Rattle.cli.specs.Copying.{IsNotRenamed, IsRenamed, IsSameButThree, StandsAgainstCopy, partial_path}
use Rattle.cli.specs.NewFiles.{IsFileMade, IsFileUnmade, IsMade, WasTakenAway, IsTried, IsUnmade, KeepsFile, MakesBeside, MakesFile, Making}
use Rattle.cli.proofs.Changes.{but_joined, rose_between, same_joined, same_then_but}
use Rattle.cli.proofs.Copied.{against_since, copy_against_since, reading_is_there}

-- ---- the file was not opened to be read

module _ {D L : Type 0} (g : Ghosts D) (old new : SystemState D L) (path : List ℕ) where
  stands_to_read : (why : OpenPathFault) → (why ≡ opening.Missing → IsUnnamed old path) → (why ≡ opening.InUse → IsHeldFrom Read old path) → why ≢ opening.PrintedTo → ((cause : SystemCause) → why ≡ opening.Device cause → Rose old.failures new.failures)
      → StandsAt Read why old path new
  stands_to_read opening.Missing missing in_use printed failed = missing refl
  stands_to_read opening.InUse missing in_use printed failed = in_use refl
  stands_to_read opening.PrintedTo missing in_use printed failed = printed refl
  stands_to_read opening.Memory missing in_use printed failed = tt
  stands_to_read (opening.Device cause) missing in_use printed failed = failed cause refl

  pub not_opened : (why : OpenPathFault) (fault : CommandFault) → fault ≡ of_path why → (old.faithful → why ≡ opening.Missing → IsUnnamed old path) → (old.faithful → why ≡ opening.InUse → IsHeldFrom Read old path) → (old.faithful → why ≢ opening.PrintedTo)
      → ((cause : SystemCause) → why ≡ opening.Device cause → Rose old.failures new.failures) → (old.faithful → IsSame old new) → old.failures ≤ new.failures → IsNotOpened g old path Read fault new
  not_opened why fault is missing in_use printed failed same counts = record { why = why; is = is; cause = λ faithful. stands_to_read why (missing faithful) (in_use faithful) (printed faithful) failed; same = same; counts = counts }

-- ---- one that is whole is named, or taken away

module _ {D L A F : Type 0} (g : Ghosts D) (m : Making D A F) (old mid new : SystemState D L) (partial target : List ℕ) (pages : ℕ) (device left blank made : D) (answer : A)
    (making : old.faithful → IsSameBut partial old mid) (counts : old.failures ≤ mid.failures) (is_open : old.faithful → IsOpen mid partial) (differ : target ≢ partial) (tried : IsTried g m old partial target device pages (Ok answer) left blank made) where
  both : IsSameBut partial old mid → IsSameButBoth partial target mid new → IsSameButBoth partial target old new
  both first second = record {
    faithful = λ is. second.faithful (first.faithful is);
    devices = λ path one other. second.devices path one other ∙ first.devices path one;
    texts = λ path one other. second.texts path one other ∙ first.texts path one;
    names = λ path one other. second.names path one other ∙ first.names path one;
    listeners = λ place. second.listeners place ∙ first.listeners place;
  }

  pub made_and_named : IsRenamed mid partial target made new → IsMade g m old partial target device answer left new
  made_and_named renamed = record {
    pages = pages;
    blank = blank;
    made = made;
    tried = tried;
    free = λ is. sym ((making is).names target differ) ∙ renamed.free ((making is).faithful is);
    named = λ is. renamed.named ((making is).faithful is) (is_open is);
    gone = λ is. renamed.gone ((making is).faithful is) (is_open is);
    others = λ is. both (making is) (renamed.others ((making is).faithful is));
    counts = omega (arith, counts, renamed.counts);
  }

  pub made_and_unnamed : (fault : CopyRefusal) → IsNotRenamed mid partial target fault new → IsUnmade g m old partial target device fault left new
  made_and_unnamed fault refused = inr (inr (record {
    why = refused.why;
    is = refused.is;
    cause = λ is. against_since old mid new target ((making is).names target differ) counts refused.counts refused.why (refused.cause ((making is).faithful is));
    pages = pages;
    answer = answer;
    blank = blank;
    made = made;
    tried = tried;
    taken = record {
      removed = λ is. elim (refused.removed ((making is).faithful is) (is_open is)) [
        | inl gone ↦ inl gone
        | inr failed ↦ inr (rose_between old.failures mid.failures new.failures new.failures counts refused.counts (omega arith) failed)
      ];
      others = λ is. but_joined partial old mid new (making is) (refused.others ((making is).faithful is));
      counts = omega (arith, counts, refused.counts);
    };
  }))

-- ---- the same, seen from a little before: the system was as it is, and not one sector of the device was written

module _ {D L A F : Type 0} (g : Ghosts D) (m : Making D A F) (old mid new : SystemState D L) (partial target : List ℕ) (device later left : D) (same : old.faithful → IsSame old mid) (counts : old.failures ≤ mid.failures)
    (history : KeepsHistory (g.state device) (g.state later)) (content : (g.state device).faithful → KeepsContent (g.state device) (g.state later))
    (does_earlier : (g.state device).faithful → KeepsHistory (g.state later) (g.state left) → (pages : ℕ) (result : Result A F) (blank made : D) → m.does pages result later left blank made → m.does pages result device left blank made)
    (unbegun_earlier : (g.state device).faithful → KeepsHistory (g.state later) (g.state left) → (fault : CopyRefusal) → m.unbegun fault later left → m.unbegun fault device left) where
  content_since : KeepsHistory (g.state later) (g.state left) → ((g.state later).faithful → KeepsContent (g.state later) (g.state left)) → (g.state device).faithful → KeepsContent (g.state device) (g.state left)
  content_since second more is = reads_joined (g.state device) (g.state later) (g.state left) history (content is) (more (history.faithful is))

  tried_since : (pages : ℕ) (result : Result A F) (blank made : D) → IsTried g m mid partial target later pages result left blank made → IsTried g m old partial target device pages result left blank made
  tried_since pages result blank made tried = record {
    is_blank = λ is. let it = tried.is_blank ((same is).faithful is) in record { new = sym ((same is).names partial) ∙ it.new; zeros = it.zeros; blank = it.blank };
    does = λ is there. does_earlier there tried.history pages result blank made (tried.does ((same is).faithful is) (history.faithful there));
    history = history_joined (g.state device) (g.state later) (g.state left) history tried.history;
    content = content_since tried.history tried.content;
  }

  taken_since : WasTakenAway mid partial new → WasTakenAway old partial new
  taken_since taken = record {
    removed = λ is. elim (taken.removed ((same is).faithful is)) [
      | inl gone ↦ inl gone
      | inr failed ↦ inr (rose_between old.failures mid.failures new.failures new.failures counts taken.counts (omega arith) failed)
    ];
    others = λ is. same_then_but partial old mid new (same is) (taken.others ((same is).faithful is));
    counts = omega (arith, counts, taken.counts);
  }

  cause_since : (fault : CopyRefusal) → mid.failures ≤ new.failures → IsSame old mid → (g.state device).faithful → KeepsHistory (g.state later) (g.state left) → StandsAgainstCopy fault mid partial target new ⊎ m.unbegun fault later left
      → StandsAgainstCopy fault old partial target new ⊎ m.unbegun fault device left
  cause_since fault more was there second (inl stands) = inl (copy_against_since old mid new partial target was counts more fault stands)
  cause_since fault more was there second (inr unbegun) = inr (unbegun_earlier there second fault unbegun)

  unmade_since : (fault : CopyRefusal) → IsUnmade g m mid partial target later fault left new → IsUnmade g m old partial target device fault left new
  unmade_since fault (inl none) = inl (record {
    history = history_joined (g.state device) (g.state later) (g.state left) history none.history;
    content = content_since none.history none.content;
    cause = λ is there. cause_since fault none.counts (same is) there none.history (none.cause ((same is).faithful is) (history.faithful there));
    same = λ is. same_joined old mid new (same is) (none.same ((same is).faithful is));
    counts = omega (arith, counts, none.counts);
  })
  unmade_since fault (inr (inl stopped)) = inr (inl (record {
    pages = stopped.pages;
    why = stopped.why;
    is = stopped.is;
    blank = stopped.blank;
    made = stopped.made;
    tried = tried_since stopped.pages (Err stopped.why) stopped.blank stopped.made stopped.tried;
    taken = taken_since stopped.taken;
  }))
  unmade_since fault (inr (inr unnamed)) = inr (inr (record {
    why = unnamed.why;
    is = unnamed.is;
    cause = λ is. against_since old mid new target ((same is).names target) counts unnamed.taken.counts unnamed.why (unnamed.cause ((same is).faithful is));
    pages = unnamed.pages;
    answer = unnamed.answer;
    blank = unnamed.blank;
    made = unnamed.made;
    tried = tried_since unnamed.pages (Ok unnamed.answer) unnamed.blank unnamed.made unnamed.tried;
    taken = taken_since unnamed.taken;
  }))

  pub made_since : (result : Result A CopyRefusal) → MakesBeside g m mid partial target later result left new → MakesBeside g m old partial target device result left new
  made_since (Ok answer) it = record {
    pages = it.pages;
    blank = it.blank;
    made = it.made;
    tried = tried_since it.pages (Ok answer) it.blank it.made it.tried;
    free = λ is. sym ((same is).names target) ∙ it.free ((same is).faithful is);
    named = λ is. it.named ((same is).faithful is);
    gone = λ is. it.gone ((same is).faithful is);
    others = λ is. then_both (same is) (it.others ((same is).faithful is));
    counts = omega (arith, counts, it.counts);
  } where
    then_both : IsSame old mid → IsSameButBoth partial target mid new → IsSameButBoth partial target old new
    then_both first second = record {
      faithful = λ is. second.faithful (first.faithful is);
      devices = λ path one other. second.devices path one other ∙ first.devices path;
      texts = λ path one other. second.texts path one other ∙ first.texts path;
      names = λ path one other. second.names path one other ∙ first.names path;
      listeners = λ place. second.listeners place ∙ first.listeners place;
    }
  made_since (Err fault) unmade = unmade_since fault unmade

-- ---- from file to file

-- `no_device` is the law of a system that a path of which there is nothing names no device
module _ {D L S A F : Type 0} (g : Ghosts D) (state : S → SystemState D L) (m : Making D A F) (old new : SystemState D L) (first last : S) (path target : List ℕ) (device left : D) (opening : old.faithful → IsSameBut path old (state first)) (is_reading : old.faithful → IsReading (state first) path)
    (opened : old.faithful → IsReadable old path device) (no_device : (p : List ℕ) → (state first).faithful → IsUnnamed (state first) p → (state first).devices p ≡ Absent) (closed : (state last).faithful → IsReading (state last) path → IsReadable new path left) (closing : (state last).faithful → IsSameBut path (state last) new)
    (of_device : old.faithful → (g.state device).faithful) where
  abbrev partial : List ℕ
  partial = partial_path target

  at_begin : old.faithful → (state first).faithful
  at_begin is = (opening is).faithful is

  -- the path of the file is none of which there was nothing
  is_other : old.faithful → (p : List ℕ) → IsUnnamed (state first) p → path ≢ p
  is_other is p free same = reading_is_there (is_reading is) (ap (state first).devices same ∙ no_device p (at_begin is) free)

  kept : (old.faithful → IsReading (state last) path) → (old.faithful → (state last).faithful) → KeepsHistory (g.state device) (g.state left) → ((g.state device).faithful → KeepsContent (g.state device) (g.state left)) → old.faithful → KeepsFile g state m old path target device left new
  kept reading still history content is = record { opened = opened is; closed = closed (still is) (reading is); unwritten = record { history = history; content = content (of_device is) } }

  made_file : (answer : A) → IsMade g m (state first) partial target device answer left (state last) → IsFileMade g state m old path target answer new
  made_file answer it = record {
    device = device;
    left = left;
    pages = it.pages;
    blank = it.blank;
    made = it.made;
    keeps = kept (λ is. (it.others (at_begin is)).devices path (path_is_not_partial is) (path_is_not_target is) ∙ is_reading is) still it.tried.history it.tried.content;
    is_blank = λ is. (let made = it.tried.is_blank (at_begin is) in record { new = sym ((opening is).names partial (λ same. path_is_not_partial is (sym same))) ∙ made.new; zeros = made.zeros; blank = made.blank });
    does = λ is. it.tried.does (at_begin is) (of_device is);
    free = λ is. sym ((opening is).names target (λ same. path_is_not_target is (sym same))) ∙ it.free (at_begin is);
    named = λ is. (closing (still is)).devices target (λ same. path_is_not_target is (sym same)) ∙ it.named (at_begin is);
    gone = λ is. (closing (still is)).names partial (λ same. path_is_not_partial is (sym same)) ∙ it.gone (at_begin is);
    others = λ is. three (opening is) (it.others (at_begin is)) (closing (still is));
  } where
    still : old.faithful → (state last).faithful
    still is = (it.others (at_begin is)).faithful (at_begin is)

    path_is_not_partial : old.faithful → path ≢ partial
    path_is_not_partial is = is_other is partial (it.tried.is_blank (at_begin is)).new

    path_is_not_target : old.faithful → path ≢ target
    path_is_not_target is = is_other is target (it.free (at_begin is))

    three : IsSameBut path old (state first) → IsSameButBoth partial target (state first) (state last) → IsSameBut path (state last) new → IsSameButThree path partial target old new
    three one_step two_step last_step = record {
      faithful = λ is. last_step.faithful (two_step.faithful (one_step.faithful is));
      devices = λ p one other last. last_step.devices p one ∙ two_step.devices p other last ∙ one_step.devices p one;
      texts = λ p one other last. last_step.texts p one ∙ two_step.texts p other last ∙ one_step.texts p one;
      names = λ p one other last. last_step.names p one ∙ two_step.names p other last ∙ one_step.names p one;
      listeners = λ place. last_step.listeners place ∙ two_step.listeners place ∙ one_step.listeners place;
    }

  -- between the two nothing but the name of what is not whole has changed
  but_both : IsSameBut path old (state first) → IsSameBut partial (state first) (state last) → IsSameBut path (state last) new → IsSameButBoth path partial old new
  but_both one_step two_step last_step = record {
    faithful = λ is. last_step.faithful (two_step.faithful (one_step.faithful is));
    devices = λ p one other. last_step.devices p one ∙ two_step.devices p other ∙ one_step.devices p one;
    texts = λ p one other. last_step.texts p one ∙ two_step.texts p other ∙ one_step.texts p one;
    names = λ p one other. last_step.names p one ∙ two_step.names p other ∙ one_step.names p one;
    listeners = λ place. last_step.listeners place ∙ two_step.listeners place ∙ one_step.listeners place;
  }

  same_is_but : IsSame (state first) (state last) → IsSameBut partial (state first) (state last)
  same_is_but same = record {
    faithful = same.faithful;
    devices = λ p other. same.devices p;
    texts = λ p other. same.texts p;
    names = λ p other. same.names p;
    listeners = same.listeners;
  }

  -- nothing was made, or what was made is no more
  unmade_by : (fault : CopyRefusal) → (old.faithful → IsSameBut partial (state first) (state last)) → (old.faithful → (state last).devices path ≡ (state first).devices path) → KeepsHistory (g.state device) (g.state left) → ((g.state device).faithful → KeepsContent (g.state device) (g.state left))
      → IsUnmade g m (state first) partial target device fault left (state last) → IsFileUnmade g state m old path target fault new
  unmade_by fault between there history content why = record {
    device = device;
    left = left;
    begun = first;
    ended = last;
    keeps = kept (λ is. there is ∙ is_reading is) still history content;
    opening = opening;
    faithful = of_device;
    why = why;
    closing = λ is. closing (still is);
    others = λ is. but_both (opening is) (between is) (closing (still is));
  } where
    still : old.faithful → (state last).faithful
    still is = (between is).faithful (at_begin is)

  unmade_file : (fault : CopyRefusal) → IsUnmade g m (state first) partial target device fault left (state last) → IsFileUnmade g state m old path target fault new
  unmade_file fault (inl none) = unmade_by fault (λ is. same_is_but (none.same (at_begin is))) (λ is. (none.same (at_begin is)).devices path) none.history none.content (inl none)
  unmade_file fault (inr (inl stopped)) =
      unmade_by fault (λ is. stopped.taken.others (at_begin is)) (λ is. (stopped.taken.others (at_begin is)).devices path (is_other is partial (stopped.tried.is_blank (at_begin is)).new)) stopped.tried.history stopped.tried.content (inr (inl stopped))
  unmade_file fault (inr (inr unnamed)) =
      unmade_by fault (λ is. unnamed.taken.others (at_begin is)) (λ is. (unnamed.taken.others (at_begin is)).devices path (is_other is partial (unnamed.tried.is_blank (at_begin is)).new)) unnamed.tried.history unnamed.tried.content (inr (inr unnamed))

  pub makes_file : (result : Result A CopyRefusal) → MakesBeside g m (state first) partial target device result left (state last) → MakesFile g state m old path target result new
  makes_file (Ok answer) it = made_file answer it
  makes_file (Err fault) unmade = inr (unmade_file fault unmade)

-- a system stays faithful while one is made
module _ {D L A F : Type 0} (g : Ghosts D) (m : Making D A F) (old : SystemState D L) (partial target : List ℕ) (device left : D) (new : SystemState D L) where
  pub still_faithful : (result : Result A CopyRefusal) → MakesBeside g m old partial target device result left new → old.faithful → new.faithful
  still_faithful (Ok answer) it is = (it.others is).faithful is
  still_faithful (Err fault) (inl none) is = (none.same is).faithful is
  still_faithful (Err fault) (inr (inl stopped)) is = (stopped.taken.others is).faithful is
  still_faithful (Err fault) (inr (inr unnamed)) is = (unnamed.taken.others is).faithful is
