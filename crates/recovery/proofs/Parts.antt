-- Records in order are told by those that pass a test and by those that do not.
use Rattle.std.proofs.Common.{◌≡◌, ℕ, Bool, true, false, not, List, [], ◌∷◌, ap, sym, subst, refl}
use Rattle.std.specs.declared.cmp.Ordering.{Ordering}
use Rattle.std.specs.Cmp.Lexicographic.{nat_list_cmp_total}
use Rattle.store.specs.Records.{Record, Records, IsOrdered, key_cmp, entries_where}
use Rattle.abstract_database.specs.Lists.{Among, Rising}
use Rattle.stored_database.proofs.AllRecords.{into_where, of_where}
use Rattle.stored_database.proofs.Numbering.{asymmetric, same_rising}
use Rattle.stored_database.proofs.OrderedEntries.{of_before}

abbrev record_cmp : Record → Record → Ordering
record_cmp a b = key_cmp a.0 b.0

ordered_rise : (es : Records) → IsOrdered es → Rising record_cmp es
ordered_rise [] h = tt
ordered_rise (e ∷ es) h = (of_before e.0 es h.0, ordered_rise es h.1)

module _ (q : List ℕ → Bool) where
  abbrev pub fails : List ℕ → Bool
  fails key = not (q key)

  each_there : (xs ys : Records) → entries_where q xs ≡ entries_where q ys → entries_where fails xs ≡ entries_where fails ys → (e : Record) → Among e xs → Among e ys
  each_there xs ys passing failing e among = go (q e.0) refl where
    go : (b : Bool) → q e.0 ≡ b → Among e ys
    go true t = of_where q ys e (subst (λ (zs : Records). Among e zs) passing (into_where q xs e among t))
    go false t = of_where fails ys e (subst (λ (zs : Records). Among e zs) failing (into_where fails xs e among (ap not t)))

  pub same_parts : (xs ys : Records) → IsOrdered xs → IsOrdered ys → entries_where q xs ≡ entries_where q ys → entries_where fails xs ≡ entries_where fails ys → xs ≡ ys
  same_parts xs ys o p passing failing =
      same_rising record_cmp (asymmetric record_cmp (λ x y. nat_list_cmp_total.antisymm x.0 y.0)) xs ys (ordered_rise xs o) (ordered_rise ys p)
      (each_there xs ys passing failing) (each_there ys xs (sym passing) (sym failing))
