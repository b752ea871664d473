use Rattle.std.proofs.Common.{◌≡◌, ◌≤◌, length, refl, arith}
use Rattle.std.proofs.lemmas.Bool.{false≢true}
use Rattle.page_nodes.specs.declared.cell.NodeKind.TheVariants.{Leaf}
use Rattle.page_nodes.specs.Map.{lent_bytes, rest_entries}
use Rattle.page_nodes.specs.Search.{AreCellsAt, IsPosition}
use Rattle.page_nodes.specs.Scratch.{cells_after}
use Rattle.page_nodes.proofs.Merging.{exceeds, front_few, to_before, long_is, edit_merged, new_sizes}
use Rattle.page_nodes.proofs.merge.LeafMerge.edit.Goals as goal

pub returns-then-to-self-clause-edited : goal.returns-then-to-self-clause-edited
returns-then-to-self-clause-edited c last cells a order =
    let m = c.args.self in
    let bytes = c.args.bytes.now in
    let key = c.args.key.now in
    let s = c.in-Some.sought in
    let p = c.in-Some-skip_key in
    let sought : IsPosition Leaf bytes key a.rest a.after s.at s.index s.left = c.in-Some.ensures.sought a.rest a.after a.here a.left_is in
    let skipped : AreCellsAt Leaf bytes p.to (cells_after key (rest_entries key a.rest)) a.after × (p.left ≡ length (cells_after key (rest_entries key a.rest))) = p.ensures.skipped (rest_entries key a.rest) a.after sought.rest sought.left_is in
    let begins : m.at ≤ s.at = omega (arith, c.in-Some.ensures.begins) in
    let to_in : p.to ≤ 4096 = omega (arith, p.ensures.inside, c.told-bytes) in
    let before = to_before bytes c.args.scratch.now.items last key (lent_bytes c.args.value) cells m a order c.told-bytes m.begins m.ends s.at s.index s.left p.to p.left sought begins c.in-Some.ensures.ends skipped.0 skipped.1 to_in in
    absurd (omega (arith, before, c.if-to-self.true))

pub returns-then-self-gt-PAGE_SIZE-clause-edited : goal.returns-then-self-gt-PAGE_SIZE-clause-edited
returns-then-self-gt-PAGE_SIZE-clause-edited c last cells a order =
    absurd (omega (arith, front_few c.args.bytes.now c.args.scratch.now.items last cells c.args.self a, c.if-self-gt-PAGE_SIZE.true))

pub returns-then-not-fits-clause-edited : goal.returns-then-not-fits-clause-edited
returns-then-not-fits-clause-edited c last cells a order =
    let m = c.args.self in
    let bytes = c.args.bytes.now in
    let key = c.args.key.now in
    let s = c.in-Some.sought in
    let p = c.in-Some-skip_key in
    let sought : IsPosition Leaf bytes key a.rest a.after s.at s.index s.left = c.in-Some.ensures.sought a.rest a.after a.here a.left_is in
    let skipped : AreCellsAt Leaf bytes p.to (cells_after key (rest_entries key a.rest)) a.after × (p.left ≡ length (cells_after key (rest_entries key a.rest))) = p.ensures.skipped (rest_entries key a.rest) a.after sought.rest sought.left_is in
    let begins : m.at ≤ s.at = omega (arith, c.in-Some.ensures.begins) in
    let to_in : p.to ≤ 4096 = omega (arith, p.ensures.inside, c.told-bytes) in
    let long = long_is bytes c.args.scratch.now.items last key (lent_bytes c.args.value) cells m a order c.told-bytes m.begins m.ends s.at s.index s.left p.to p.left sought begins c.in-Some.ensures.ends skipped.0 skipped.1 to_in in
    exceeds _ (λ few. absurd (false≢true (c.if-not-fits.ensures.1 (omega (arith, few, long, c.len.ensures, c.cell_length.ensures.bytes)))))

pub returns-clause-edited : goal.returns-clause-edited
returns-clause-edited c last cells a order =
    let m = c.args.self in
    let bytes = c.args.bytes.now in
    let key = c.args.key.now in
    let s = c.in-Some.sought in
    let p = c.in-Some-skip_key in
    let sought : IsPosition Leaf bytes key a.rest a.after s.at s.index s.left = c.in-Some.ensures.sought a.rest a.after a.here a.left_is in
    let skipped : AreCellsAt Leaf bytes p.to (cells_after key (rest_entries key a.rest)) a.after × (p.left ≡ length (cells_after key (rest_entries key a.rest))) = p.ensures.skipped (rest_entries key a.rest) a.after sought.rest sought.left_is in
    let begins : m.at ≤ s.at = omega (arith, c.in-Some.ensures.begins) in
    let to_in : p.to ≤ 4096 = omega (arith, p.ensures.inside, c.told-bytes) in
    let long = long_is bytes c.args.scratch.now.items last key (lent_bytes c.args.value) cells m a order c.told-bytes m.begins m.ends s.at s.index s.left p.to p.left sought begins c.in-Some.ensures.ends skipped.0 skipped.1 to_in in
    edit_merged bytes c.args.scratch.now.items last key (lent_bytes c.args.value) cells m a order c.told-bytes m.begins m.ends s.at s.index s.left p.to p.left sought begins c.in-Some.ensures.ends skipped.0 skipped.1 to_in
    c.extend_from_slice.new.self.items c.push_payload.new.scratch.items c.in_ok-added.added _ c.in_ok-extend_from_slice.ensures.items c.in_ok-added.ensures.pushed.1 c.in_ok-added.ensures.pushed.0
    c.requires.key (new_sizes key c.args.value c.requires.key c.requires.value) (let fits = c.if-not-fits.ensures.0 refl in omega (arith, long, fits, c.len.ensures, c.cell_length.ensures.bytes)) refl refl refl refl
