use Rattle.std.proofs.Common.{◌≡◌, ◌+◌, ◌++◌, ◌∷◌, [], take, refl, sym, ap, ◌∙◌}
use Rattle.std.proofs.lemmas.List.{nil_from_length, take_more}
use Rattle.sql_ast.specs.declared.privilege.Descriptor.{Descriptor}
use Rattle.grant_graph.proofs.Marks.{keys_more}
use Rattle.grant_graph.proofs.marking.keys.Goals as goal

pub loop-descriptor-init : goal.loop-descriptor-init
loop-descriptor-init c = λ key. rw (nil_from_length c.new-keys.result.keys c.new-keys.ensures.len) refl

pub loop-descriptor-preserved : goal.loop-descriptor-preserved
loop-descriptor-preserved c =
    let ds = c.args.descriptors.now in
    let i = c.loop-descriptor.descriptor-index in
    let d = c.descriptor-item.result in
    let more = keys_more (take i ds) d c.loop-descriptor.keys.keys c.key.result c.key.ensures c.loop-descriptor.invariant in
    let front : take (i + 1) ds ≡ take i ds ++ d ∷ [] = take_more ds i d c.loop-descriptor-test.true ∙ ap (λ (x : Descriptor). take i ds ++ x ∷ []) (sym c.descriptor-item.is) in
    rw (front, c.in_ok-insert.ensures.keys) more
