use Rattle.std.proofs.Common.{◌≡◌, ◌+◌, ◌++◌, ◌∷◌, [], List, Bool, true, false, not, cond, take, sym, ap, ◌∙◌, append-nil}
use Rattle.std.proofs.lemmas.List.{take_more}
use Rattle.std.proofs.lemmas.List.Elements.{filter-append}
use Rattle.sql_ast.specs.declared.privilege.Descriptor.{Descriptor}
use Rattle.abstract_database.specs.Lists.{drop_where}
use Rattle.abstract_database.specs.Privileges.{is_named_in}
use Rattle.grant_graph.proofs.Marks.{named_by_key}
use Rattle.grant_graph.proofs.marking.without.Goals.{then-not-contains+in_ok-try_copy+in_ok-push, else-not-contains}
use Rattle.grant_graph.proofs.marking.without.Goals as goal

-- one more descriptor is there where it does not pass the test
one_more : (test : Descriptor → Bool) (front : List Descriptor) (d : Descriptor) (b : Bool) → test d ≡ b → drop_where test (front ++ d ∷ []) ≡ drop_where test front ++ cond b [] (d ∷ [])
one_more test front d true e = filter-append (λ x. not (test x)) front (d ∷ []) ∙ ap (λ (b : Bool). drop_where test front ++ cond (not b) (d ∷ []) []) e
one_more test front d false e = filter-append (λ x. not (test x)) front (d ∷ []) ∙ ap (λ (b : Bool). drop_where test front ++ cond (not b) (d ∷ []) []) e

pub loop-descriptor-preserved : goal.loop-descriptor-preserved
loop-descriptor-preserved c =
    let ds = c.args.descriptors.now in
    let i = c.loop-descriptor.descriptor-index in
    let d = c.descriptor-item.result in
    let test : Descriptor → Bool = is_named_in c.args.named.now in
    let front : take (i + 1) ds ≡ take i ds ++ d ∷ [] = take_more ds i d c.loop-descriptor-test.true ∙ ap (λ (x : Descriptor). take i ds ++ x ∷ []) (sym c.descriptor-item.is) in
    let found : c.contains.result ≡ test d = c.contains.ensures ∙ named_by_key c.args.named.now d c.in_ok-keys.keys.keys c.key.result c.key.ensures c.in_ok-keys.ensures in
    elim c.if-not-contains.branch [
      | then-not-contains+in_ok-try_copy+in_ok-push w ↦
          let copied : w.in_ok-try_copy.field-0 ≡ d = w.in_ok-try_copy.ensures in
          let is : test d ≡ false = sym found ∙ w.if-not-contains.true in
          rw w.left-is
          (w.in_ok-push.ensures.items
          ∙ ap (λ (l : List Descriptor). l ++ w.in_ok-try_copy.field-0 ∷ []) c.loop-descriptor.invariant
          ∙ ap (λ (x : Descriptor). drop_where test (take i ds) ++ x ∷ []) copied
          ∙ sym (one_more test (take i ds) d false is) ∙ ap (drop_where test) (sym front))
      | else-not-contains w ↦
          let is : test d ≡ true = sym found ∙ w.if-not-contains.false in
          rw w.left-is
          (c.loop-descriptor.invariant
          ∙ sym (append-nil (drop_where test (take i ds))) ∙ sym (one_more test (take i ds) d true is) ∙ ap (drop_where test) (sym front))
    ]
