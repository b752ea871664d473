use Rattle.std.proofs.Common.{◌≡◌, ◌∙◌, sym, ap, subst, length, take, arith}
use Rattle.std.proofs.lemmas.List.{length-take-le}
use Rattle.page_roots.specs.Root.{RootFields, fields_of, home, root_bytes}
use Rattle.page_roots.specs.Sector.{root_at}
use Rattle.page_roots.specs.declared.sector.RootSector.TheVariants.{Found}
use Rattle.page_roots.proofs.Spelled.{root_written, root_at-root_bytes}
use Rattle.page_roots.proofs.root.Root.bytes.Goals as goal

spelled : (c : goal.After-put_numbers-3) → c.put_numbers-3.new.bytes ≡ root_bytes (fields_of c.self.inside.format c.self.inside.number c.self.inside.pages c.self.inside.maps c.self.inside.count)
spelled c =
    let count : length (take c.self.inside.count c.self.inside.maps) ≡ c.self.inside.count = length-take-le c.self.inside.count c.self.inside.maps (omega (arith, c.self.told)) in
    root_written (fields_of c.self.inside.format c.self.inside.number c.self.inside.pages c.self.inside.maps c.self.inside.count) c.number.result c.self.inside.count _ _ _ _ _
    (sym c.number.ensures) count c.magic_then_zeros-bytes.ensures c.put_numbers.ensures c.put_u64.ensures c.put_numbers-2.ensures c.put_numbers-3.ensures

pub returns-clause-spelled : goal.returns-clause-spelled
returns-clause-spelled c = spelled c ∙ ap root_bytes c.self.view_is

pub returns-clause-read : goal.returns-clause-read
returns-clause-read c =
    let own : RootFields = fields_of c.self.inside.format c.self.inside.number c.self.inside.pages c.self.inside.maps c.self.inside.count in
    let found : root_at (home own.number) c.put_numbers-3.new.bytes ≡ Found own = ap (root_at (home own.number)) (spelled c) ∙ root_at-root_bytes (home own.number) own c.self.invariant.1 in
    subst (λ (root : RootFields). root_at (home root.number) c.put_numbers-3.new.bytes ≡ Found root) c.self.view_is found
