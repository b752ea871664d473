use Rattle.std.proofs.Common.{ap, sym, ◌∙◌, nat_eq}
use Rattle.std.proofs.lemmas.Nat.Bits.{bit_at-zero}
use Rattle.std.specs.Option.{option_copied}
use Rattle.catalogue.specs.declared.grants.Granted.{Granted}
use Rattle.catalogue.specs.Grants.{has_bit}
use Rattle.catalogue.proofs.Searching.{passes}
use Rattle.catalogue.proofs.Granting.{bit_as_found}
use Rattle.catalogue.proofs.grants.GrantIndex.held.Goals as goal

pub returns-in-Some : goal.returns-in-Some
returns-in-Some c = λ ds index n few.
    sym (ap (passes (λ (x : Granted). has_bit x.mask n)) (sym c.find.ensures.found ∙ ap option_copied c.in-Some.is))
    ∙ bit_as_found c.args.grantee.now c.args.action c.args.self.now c.find.ensures.order n few ds index

pub returns-in-None : goal.returns-in-None
returns-in-None c = λ ds index n few.
    ap (λ b. nat_eq b 1) (bit_at-zero n)
    ∙ sym (ap (passes (λ (x : Granted). has_bit x.mask n)) (sym c.find.ensures.found ∙ ap option_copied c.in-None.is))
    ∙ bit_as_found c.args.grantee.now c.args.action c.args.self.now c.find.ensures.order n few ds index
