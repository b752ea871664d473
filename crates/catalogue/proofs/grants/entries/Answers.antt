use Rattle.std.proofs.Common.{◌≡◌, ◌+◌, ◌++◌, ◌∷◌, [], List, map, take, sym, ap, ◌∙◌, subst}
use Rattle.std.proofs.lemmas.List.{take_all, take_more, map_push}
use Rattle.sql_ast.specs.declared.privilege.Descriptor.{Descriptor}
use Rattle.catalogue.specs.declared.grants.Granted.{Granted}
use Rattle.catalogue.specs.Grants.{AreNamed, entry_of}
use Rattle.catalogue.proofs.Granting.{one_more_named}
use Rattle.catalogue.proofs.grants.entries.Goals as goal

pub loop-descriptor-preserved : goal.loop-descriptor-preserved
loop-descriptor-preserved c =
    let ds = c.args.descriptors.now in
    let i = c.loop-descriptor.descriptor-index in
    let d = c.descriptor-item.result in
    let front : take (i + 1) ds ≡ take i ds ++ d ∷ [] = take_more ds i d c.loop-descriptor-test.true ∙ ap (λ (x : Descriptor). take i ds ++ x ∷ []) (sym c.descriptor-item.is) in
    record {
      entries =
          c.in_ok-push.ensures.items
          ∙ ap (λ (x : Granted). c.loop-descriptor.entries.items ++ x ∷ []) c.in_ok-entry.ensures.entry
          ∙ ap (λ (xs : List Granted). xs ++ entry_of d ∷ []) c.loop-descriptor.invariant.entries
          ∙ sym (map_push entry_of (take i ds) d)
          ∙ ap (λ (xs : List Descriptor). map entry_of xs) (sym front);
      named = subst AreNamed (sym front) (one_more_named (take i ds) d c.loop-descriptor.invariant.named c.in_ok-entry.ensures.named);
    }

pub returns-clause-named : goal.returns-clause-named
returns-clause-named c = subst AreNamed (take_all c.loop-descriptor.descriptor-index c.args.descriptors.now c.loop-descriptor-test.false) c.loop-descriptor.invariant.named
