use Rattle.std.proofs.Common.{◌≡◌, ◌≤◌, ◌-◌, ◌++◌, ℕ, List, length, replicate, refl, ap, sym, subst, ◌∙◌, inr, arith}
use Rattle.std.proofs.lemmas.List.{take_all, get_or_past}
use Rattle.std.proofs.lemmas.Result.{err_from_is_err_and}
use Rattle.page_roots.specs.Reach.{IsSound, is_sound}
use Rattle.cow_pages.specs.Held.{AreSpelled}
use Rattle.cow_pages.specs.PageMap.{EndsWith}
use Rattle.cow_pages.specs.Image.{bytes_of_page, map_in}
use Rattle.cow_pages.proofs.Parts.{map_whole, padded_same, padded_spelled}
use Rattle.cow_pages.proofs.Sound.{sound_same, fault_unsound, none_sound, sound_or_damaged}
use Rattle.cow_pages.proofs.Reading.{reads_none}
use Rattle.cow_pages.proofs.Loading.{device_given, memory_given, damage_given, none_given, given_back, named_after, read_named, read_failed}
use Rattle.cow_pages.proofs.open.read_map.Given.{Over}
use Rattle.cow_pages.proofs.open.read_map.Goals.{In_ok-is_sound_reach, In_ok-resize}
use Rattle.sector_device.specs.Device.{history_none}
use Rattle.cow_pages.proofs.Answered.{never_ok}
use Rattle.cow_pages.proofs.open.read_map.Goals as goal

-- the reach that was tested is that of the image
tested : (g : Over) (c : In_ok-is_sound_reach g) → (g.D.Device.state c.args.device.now).faithful
    → is_sound c.args.root.now.pages c.args.root.now.maps (map_in (g.D.Device.state c.args.device.now).content c.args.root.now.maps) ≡ c.in_ok-is_sound_reach.field-0
tested g c first =
    let d = g.D.Device.state c.args.device.now in
    let root = c.args.root.now in
    let items = c.in_ok-entries.entries.items in
    let whole : map_in d.content root.maps ≡ items = map_whole (bytes_of_page d.content) root.maps items (c.in_ok-entries.ensures.spelled first) c.in_ok-entries.ensures.count in
    let exact : c.in_ok-is_sound_reach.field-0 ≡ is_sound root.pages root.maps items = rw (c.pages-2.ensures, c.maps-maps.ensures.maps, c.deref.ensures.value) at c.in_ok-is_sound_reach.ensures.exact in
    ap (λ (es : List ℕ). is_sound root.pages root.maps es) whole ∙ sym exact

-- zeros stand behind the entries that were read
behind_zeros : (g : Over) (c : In_ok-resize g) → c.resize.new.self.items ≡ c.in_ok-entries.entries.items ++ replicate (65536 - c.in_ok-entries.entries.len) 0
behind_zeros g c =
    let items = c.in_ok-entries.entries.items in
    let few : length items ≤ 65536 = omega (arith, c.in_ok-entries.ensures.count, c.maps-maps.ensures.most, ap (λ (l : List ℕ). length l) c.maps-maps.ensures.maps) in
    c.in_ok-resize.ensures.items ∙ ap (λ (l : List ℕ). l ++ replicate (65536 - c.in_ok-entries.entries.len) 0) (take_all 65536 items few)

pub returns-then-not-branch-clause-fault : goal.returns-then-not-branch-clause-fault
returns-then-not-branch-clause-fault g c first =
    fault_unsound (g.D.Device.state c.args.device.now).content c.args.root.now (tested g (goal.at.returns-then-not-branch-clause-fault g c).In_ok-is_sound_reach first ∙ c.if-not-branch.true)

pub returns-clause-map : goal.returns-clause-map
returns-clause-map g c =
    let root = c.args.root.now in
    let items = c.in_ok-entries.entries.items in
    let count = c.in_ok-entries.ensures.count in
    let padded = behind_zeros g (goal.at.returns-clause-map g c).In_ok-resize in
    let sound : IsSound root.pages root.maps items = rw (c.pages-2.ensures, c.maps-maps.ensures.maps, c.deref.ensures.value) at (c.in_ok-is_sound_reach.ensures.sound.0 c.if-not-branch.false) in
    record {
      count = sym c.resize.new.self.ok.0 ∙ c.in_ok-resize.ensures.len;
      sound = subst (λ (es : List ℕ). IsSound root.pages root.maps es) (sym padded) (sound_same root.pages root.maps items _ (λ l. padded_same items (65536 - c.in_ok-entries.entries.len) l) sound);
      ended = subst (λ (es : List ℕ). EndsWith root.maps es) (sym padded)
          (λ l past. padded_same items (65536 - c.in_ok-entries.entries.len) l ∙ get_or_past items l 0 (omega (arith, past, count)));
    }

pub returns-clause-spelled : goal.returns-clause-spelled
returns-clause-spelled g c first =
    let d = g.D.Device.state c.args.device.now in
    let root = c.args.root.now in
    let items = c.in_ok-entries.entries.items in
    let count = c.in_ok-entries.ensures.count in
    let padded = behind_zeros g (goal.at.returns-clause-spelled g c).In_ok-resize in
    subst (λ (es : List ℕ). AreSpelled (bytes_of_page d.content) root.maps es) (sym padded)
    (padded_spelled (bytes_of_page d.content) root.maps items (65536 - c.in_ok-entries.entries.len) count (c.in_ok-entries.ensures.spelled first))

pub returns-clause-fault : goal.returns-clause-fault
returns-clause-fault g c first =
    none_sound (g.D.Device.state c.args.device.now).content c.args.root.now (tested g (goal.at.returns-clause-fault g c).In_ok-is_sound_reach first ∙ c.if-not-branch.false)

pub returns-in_err-entries-clause-fault : goal.returns-in_err-entries-clause-fault
returns-in_err-entries-clause-fault g c first =
    let image = (g.D.Device.state c.args.device.now).content in
    let fault = c.in_err-entries.field-0.0 in
    given_back c.from_residual.result fault _ (err_from_is_err_and c.from_residual.result c.from_residual.ensures.1)
    (named_after fault _ (read_named fault _ _ c.in_err-entries.ensures.fault) (sound_or_damaged image c.args.root.now))

pub returns-in_err-is_sound_reach-clause-fault : goal.returns-in_err-is_sound_reach-clause-fault
returns-in_err-is_sound_reach-clause-fault g c first =
    let image = (g.D.Device.state c.args.device.now).content in
    let r = c.from_residual-in_err-is_sound_reach.result in
    let p = err_from_is_err_and r c.from_residual-in_err-is_sound_reach.ensures.1 in
    given_back r p.0 _ (p.0, p.1, refl) (named_after p.0 _ (inr p.2) (sound_or_damaged image c.args.root.now))

pub returns-in_err-resize-clause-fault : goal.returns-in_err-resize-clause-fault
returns-in_err-resize-clause-fault g c first =
    let image = (g.D.Device.state c.args.device.now).content in
    let r = c.from_residual-in_err-resize.result in
    let p = err_from_is_err_and r c.from_residual-in_err-resize.ensures.1 in
    given_back r p.0 _ (p.0, p.1, refl) (named_after p.0 _ (inr p.2) (sound_or_damaged image c.args.root.now))

pub returns-then-not-are_inside-clause-reads : goal.returns-then-not-are_inside-clause-reads
returns-then-not-are_inside-clause-reads g c first = reads_none _ (g.met.D.Device.only_now c.args.device.now first)

pub returns-in_err-entries-clause-cause : goal.returns-in_err-entries-clause-cause
returns-in_err-entries-clause-cause g c is =
    read_failed c.in_err-entries.field-0.0 _ _ (device_given c.from_residual.result c.in_err-entries.field-0.0 (err_from_is_err_and c.from_residual.result c.from_residual.ensures.1) is) c.in_err-entries.ensures.fault

pub returns-in_err-is_sound_reach-clause-cause : goal.returns-in_err-is_sound_reach-clause-cause
returns-in_err-is_sound_reach-clause-cause g c is =
    let r = c.from_residual-in_err-is_sound_reach.result in
    memory_given r (err_from_is_err_and r c.from_residual-in_err-is_sound_reach.ensures.1) is

pub returns-in_err-resize-clause-cause : goal.returns-in_err-resize-clause-cause
returns-in_err-resize-clause-cause g c is =
    let r = c.from_residual-in_err-resize.result in
    memory_given r (err_from_is_err_and r c.from_residual-in_err-resize.ensures.1) is

pub returns-then-not-are_inside-clause-history : goal.returns-then-not-are_inside-clause-history
returns-then-not-are_inside-clause-history g c = history_none (g.D.Device.state c.args.device.now)

pub returns-then-not-are_inside-clause-map : goal.returns-then-not-are_inside-clause-map
returns-then-not-are_inside-clause-map g c = tt

pub returns-then-not-are_inside-clause-spelled : goal.returns-then-not-are_inside-clause-spelled
returns-then-not-are_inside-clause-spelled g c first = tt

pub returns-then-not-are_inside-clause-cause : goal.returns-then-not-are_inside-clause-cause
returns-then-not-are_inside-clause-cause g c is = damage_given _ refl is

pub returns-in_err-entries-clause-history : goal.returns-in_err-entries-clause-history
returns-in_err-entries-clause-history g c = c.read_maps.ensures.history

pub returns-in_err-entries-clause-reads : goal.returns-in_err-entries-clause-reads
returns-in_err-entries-clause-reads g c = c.read_maps.ensures.reads

pub returns-in_err-entries-clause-map : goal.returns-in_err-entries-clause-map
returns-in_err-entries-clause-map g c = never_ok _ _ _ (err_from_is_err_and c.from_residual.result c.from_residual.ensures.1).1

pub returns-in_err-entries-clause-spelled : goal.returns-in_err-entries-clause-spelled
returns-in_err-entries-clause-spelled g c first = never_ok _ _ _ (err_from_is_err_and c.from_residual.result c.from_residual.ensures.1).1

pub returns-in_err-is_sound_reach-clause-history : goal.returns-in_err-is_sound_reach-clause-history
returns-in_err-is_sound_reach-clause-history g c = c.read_maps.ensures.history

pub returns-in_err-is_sound_reach-clause-reads : goal.returns-in_err-is_sound_reach-clause-reads
returns-in_err-is_sound_reach-clause-reads g c = c.read_maps.ensures.reads

pub returns-in_err-is_sound_reach-clause-map : goal.returns-in_err-is_sound_reach-clause-map
returns-in_err-is_sound_reach-clause-map g c = never_ok _ _ _ (err_from_is_err_and c.from_residual-in_err-is_sound_reach.result c.from_residual-in_err-is_sound_reach.ensures.1).1

pub returns-in_err-is_sound_reach-clause-spelled : goal.returns-in_err-is_sound_reach-clause-spelled
returns-in_err-is_sound_reach-clause-spelled g c first = never_ok _ _ _ (err_from_is_err_and c.from_residual-in_err-is_sound_reach.result c.from_residual-in_err-is_sound_reach.ensures.1).1

pub returns-in_err-resize-clause-history : goal.returns-in_err-resize-clause-history
returns-in_err-resize-clause-history g c = c.read_maps.ensures.history

pub returns-in_err-resize-clause-reads : goal.returns-in_err-resize-clause-reads
returns-in_err-resize-clause-reads g c = c.read_maps.ensures.reads

pub returns-in_err-resize-clause-map : goal.returns-in_err-resize-clause-map
returns-in_err-resize-clause-map g c = never_ok _ _ _ (err_from_is_err_and c.from_residual-in_err-resize.result c.from_residual-in_err-resize.ensures.1).1

pub returns-in_err-resize-clause-spelled : goal.returns-in_err-resize-clause-spelled
returns-in_err-resize-clause-spelled g c first = never_ok _ _ _ (err_from_is_err_and c.from_residual-in_err-resize.result c.from_residual-in_err-resize.ensures.1).1

pub returns-then-not-branch-clause-history : goal.returns-then-not-branch-clause-history
returns-then-not-branch-clause-history g c = c.read_maps.ensures.history

pub returns-then-not-branch-clause-reads : goal.returns-then-not-branch-clause-reads
returns-then-not-branch-clause-reads g c = c.read_maps.ensures.reads

pub returns-then-not-branch-clause-map : goal.returns-then-not-branch-clause-map
returns-then-not-branch-clause-map g c = tt

pub returns-then-not-branch-clause-spelled : goal.returns-then-not-branch-clause-spelled
returns-then-not-branch-clause-spelled g c first = tt

pub returns-then-not-branch-clause-cause : goal.returns-then-not-branch-clause-cause
returns-then-not-branch-clause-cause g c is = damage_given _ refl is

pub returns-clause-history : goal.returns-clause-history
returns-clause-history g c = c.read_maps.ensures.history

pub returns-clause-reads : goal.returns-clause-reads
returns-clause-reads g c = c.read_maps.ensures.reads

pub returns-clause-cause : goal.returns-clause-cause
returns-clause-cause g c is = none_given _ is
