use Rattle.std.proofs.Common.{◌≡◌, ◌≤◌, ◌<◌, ◌+◌, ◌-◌, [], ℕ, List, true, false, length, take, drop, get_or, refl, sym, subst, arith}
use Rattle.journal.specs.Chain.{Holds}
use Rattle.journal.specs.Sectors.{sector_at}
use Rattle.journal.specs.declared.sector.SectorTag.{SectorTag}
use Rattle.journal.specs.Reading.{part_under}
use Rattle.journal.proofs.Whole.{whole_there, parts_held}
use Rattle.journal.proofs.chain.record_at.Goals as goal

-- these sectors hold the parts of the record of a tag
abbrev AreParts : ℕ → SectorTag → List (List ℕ) → Type 0
AreParts room tag run = (i : ℕ) → i < length run → sector_at room (get_or run i []) ≡ Holds (part_under tag i (drop 24 (get_or run i [])))

pub returns-then-not-holds_parts-clause-none : goal.returns-then-not-holds_parts-clause-none
returns-then-not-holds_parts-clause-none c e whole =
    let place : ℕ = c.args.place in
    let count : ℕ = c.in_ok-tag.tag.count in
    let width : place + count - place ≡ count = omega arith in
    let fits : count ≤ c.args.room - place = omega (arith, c.if-count-sectors.false, c.requires.count) in
    let held = parts_held c.args.root c.args.last c.args.room c.args.sectors.now place c.requires.count c.in_ok-tag.tag c.in_ok-tag.ensures.found fits e whole in
    let wrong : false ≡ true = c.if-not-holds_parts.ensures.1
    (subst (λ (n : ℕ). AreParts c.args.room c.in_ok-tag.tag (take n (drop place c.args.sectors.now))) (sym width) held) in
    cc

pub returns-clause-found : goal.returns-clause-found
returns-clause-found c =
    let place : ℕ = c.args.place in
    let count : ℕ = c.in_ok-tag.tag.count in
    let width : place + count - place ≡ count = omega arith in
    let fits : count ≤ c.args.room - place = omega (arith, c.if-count-sectors.false, c.requires.count) in
    whole_there c.args.root c.args.last c.args.room c.args.sectors.now place c.requires.count c.in_ok-tag.tag c.in_ok-tag.ensures.found c.if-tag-last.false fits
    (subst (λ (n : ℕ). AreParts c.args.room c.in_ok-tag.tag (take n (drop place c.args.sectors.now))) width (c.if-not-holds_parts.ensures.0 refl))
