use Rattle.std.proofs.Common.{◌≡◌, ◌∙◌, ◌+◌, ◌<◌, ℕ, suc, Bool, true, false, not, ◌&&◌, cond, List, [], ◌∷◌, ◌++◌, drop, get_or, length, sym, ap, append_assoc, arith, drop-cons, add-one}
use Rattle.sql_ast.specs.declared.privilege.Descriptor.{Descriptor}
use Rattle.schema_statements.specs.DescriptorChanges.{gone_of, cleared_of, where_it_holds}
use Rattle.abstract_database.specs.Privileges.{without_option}
use Rattle.schema_statements.proofs.descriptor_changes.what_is_taken.Goals as goal

gone_step : (before : List Descriptor) (s : Bool) (d : Descriptor) (staying : List Bool) (ds : List Descriptor) → (before ++ where_it_holds (not s) d) ++ gone_of staying ds ≡ before ++ gone_of (s ∷ staying) (d ∷ ds)
gone_step before true d staying ds = append_assoc before [] (gone_of staying ds)
gone_step before false d staying ds = append_assoc before (d ∷ []) (gone_of staying ds)

come_step : (before : List Descriptor) (option n s : Bool) (d : Descriptor) (named staying : List Bool) (ds : List Descriptor)
    → (before ++ where_it_holds (s && ((option && n) && d.grantable)) (without_option d)) ++ cleared_of option named staying ds ≡ before ++ cleared_of option (n ∷ named) (s ∷ staying) (d ∷ ds)
come_step before option n false d named staying ds = append_assoc before [] (cleared_of option named staying ds)
come_step before false n true d named staying ds = append_assoc before [] (cleared_of false named staying ds)
come_step before true false true d named staying ds = append_assoc before [] (cleared_of true named staying ds)
come_step before true true true d named staying ds = go d.grantable where
  go : (b : Bool) → (before ++ where_it_holds b (without_option d)) ++ cleared_of true named staying ds ≡ before ++ cond b (without_option d ∷ cleared_of true named staying ds) (cleared_of true named staying ds)
  go true = append_assoc before (without_option d ∷ []) (cleared_of true named staying ds)
  go false = append_assoc before [] (cleared_of true named staying ds)

front_at : {X : Type 0} (xs : List X) (i : ℕ) (x : X) → i < length xs → get_or xs i x ≡ x → drop i xs ≡ x ∷ drop (i + 1) xs
front_at {X} xs i x lt is = rw add-one (drop-cons xs i x lt ∙ ap (λ (y : X). y ∷ drop (suc i) xs) is)

pub loop-index-preserved : goal.loop-index-preserved
loop-index-preserved c =
    let i = c.loop-index.index in
    let ds = c.args.descriptors.now in
    let stays = c.args.taking.now.staying.items in
    let named = c.args.taking.now.named.items in
    let d = c.index-descriptors-index.result in
    let was = c.loop-index.invariant in
    let next = c.in_ok-take.ensures in
    let front : drop i ds ≡ d ∷ drop (i + 1) ds = front_at ds i d c.loop-index-test.true (sym c.index-descriptors-index.is) in
    let stays_front : drop i stays ≡ c.index-stays.result.now ∷ drop (i + 1) stays = front_at stays i c.index-stays.result.now (omega (arith, c.requires.staying, c.loop-index-test.true)) (sym c.index-stays.ensures) in
    let named_front : drop i named ≡ c.index.result.now ∷ drop (i + 1) named = front_at named i c.index.result.now (omega (arith, c.requires.named, c.loop-index-test.true)) (sym c.index.ensures) in
    record {
      removed =
          ap (λ (l : List Descriptor). l ++ gone_of (drop (i + 1) stays) (drop (i + 1) ds)) next.removed
          ∙ gone_step c.loop-index.taken.removed.items c.index-stays.result.now d (drop (i + 1) stays) (drop (i + 1) ds)
          ∙ ap (λ (l : List Bool). c.loop-index.taken.removed.items ++ gone_of l (d ∷ drop (i + 1) ds)) (sym stays_front)
          ∙ ap (λ (l : List Descriptor). c.loop-index.taken.removed.items ++ gone_of (drop i stays) l) (sym front)
          ∙ was.removed;
      added =
          ap (λ (l : List Descriptor). l ++ cleared_of c.args.option_alone (drop (i + 1) named) (drop (i + 1) stays) (drop (i + 1) ds)) next.added
          ∙ come_step c.loop-index.taken.added.items c.args.option_alone c.index.result.now c.index-stays.result.now d (drop (i + 1) named) (drop (i + 1) stays) (drop (i + 1) ds)
          ∙ ap (λ (l : List Bool). c.loop-index.taken.added.items ++ cleared_of c.args.option_alone l (c.index-stays.result.now ∷ drop (i + 1) stays) (d ∷ drop (i + 1) ds)) (sym named_front)
          ∙ ap (λ (l : List Bool). c.loop-index.taken.added.items ++ cleared_of c.args.option_alone (drop i named) l (d ∷ drop (i + 1) ds)) (sym stays_front)
          ∙ ap (λ (l : List Descriptor). c.loop-index.taken.added.items ++ cleared_of c.args.option_alone (drop i named) (drop i stays) l) (sym front)
          ∙ was.added;
    }
