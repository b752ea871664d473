use Rattle.std.proofs.Common.{◌≡◌, ◌+◌, ◌++◌, ◌∷◌, [], List, Bool, map, take, sym, ap, ◌∙◌}
use Rattle.std.proofs.lemmas.List.{take_more, map_push}
use Rattle.sql_ast.specs.declared.privilege.Descriptor.{Descriptor}
use Rattle.abstract_database.specs.Privileges.{is_taken_by}
use Rattle.grant_graph.proofs.marking.mark_named.Goals as goal

pub loop-descriptor-preserved : goal.loop-descriptor-preserved
loop-descriptor-preserved c =
    let ds = c.args.descriptors.now in
    let i = c.loop-descriptor.descriptor-index in
    let d = c.descriptor-item.result in
    let test : Descriptor → Bool = is_taken_by c.args.named.now in
    let front : take (i + 1) ds ≡ take i ds ++ d ∷ [] = take_more ds i d c.loop-descriptor-test.true ∙ ap (λ (x : Descriptor). take i ds ++ x ∷ []) (sym c.descriptor-item.is) in
    let found : c.is_taken.result ≡ test d = c.is_taken.ensures c.args.named.now c.in_ok-keys.ensures in
    c.in_ok-push.ensures.items
    ∙ ap (λ (b : Bool). c.loop-descriptor.marks.items ++ b ∷ []) found
    ∙ ap (λ (l : List Bool). l ++ test d ∷ []) c.loop-descriptor.invariant
    ∙ sym (map_push test (take i ds) d)
    ∙ ap (λ (l : List Descriptor). map test l) (sym front)
