-- What a list of entries names, after a device was given another name.
use Rattle.std.proofs.Common.{◌≡◌, ◌≢◌, ◌∙◌, ℕ, List, Bool, true, false, Option, Some, refl, sym, ap, subst}
use Rattle.std.proofs.lemmas.Bool.{false≢true}
use Rattle.std.specs.Prelude.{IfSome}
use Rattle.systems.specs.declared.entries.Content.{Content}
use Rattle.systems.specs.declared.entries.Content.TheVariants as content
use Rattle.systems.specs.declared.entries.NamedContent.{NamedContent}
use Rattle.systems.specs.Entries.{content_of, is_something}

module _ {D : Type 0} where
  -- an exchange of a content that was there
  exchanged : (result : Option (Content D)) (was : Content D) (P : Type 0) → result ≡ Some was → IfSome result (λ old. P) → P
  exchanged result was P is holds = subst (λ (r : Option (Content D)). IfSome r (λ old. P)) is holds

  -- a name of which there is nothing is another than that of an open device
  pub free_is_other : (entries : List (NamedContent D)) (from to : List ℕ) → content_of entries from ≡ Some content.Open → is_something (content_of entries to) ≡ false → from ≢ to
  free_is_other entries from to is_open free same = false≢true (sym free ∙ ap (λ (p : List ℕ). is_something (content_of entries p)) (sym same) ∙ ap is_something is_open)

  -- `first` are the entries before, `second` those once the old name has nothing, and `last` once the new one has the content
  module _ (first second last : List (NamedContent D)) (from to : List ℕ) (taken given : Option (Content D)) (new : Content D) (is_open : content_of first from ≡ Some content.Open) (free : content_of first to ≡ Some content.Removed)
      (was_taken : taken ≡ content_of first from) (is_taken : IfSome taken (λ old. content_of second from ≡ Some content.Removed)) (beside_taken : (p : List ℕ) → p ≢ from → content_of second p ≡ content_of first p)
      (was_given : given ≡ content_of second to) (is_given : IfSome given (λ old. content_of last to ≡ Some new)) (beside_given : (p : List ℕ) → p ≢ to → content_of last p ≡ content_of second p) where
    differ : from ≢ to
    differ = free_is_other first from to is_open (ap is_something free)

    pub renamed_to : content_of last to ≡ Some new
    renamed_to = exchanged given content.Removed (content_of last to ≡ Some new) (was_given ∙ beside_taken to (λ same. differ (sym same)) ∙ free) is_given

    pub renamed_from : content_of last from ≡ Some content.Removed
    renamed_from = beside_given from differ ∙ exchanged taken content.Open (content_of second from ≡ Some content.Removed) (was_taken ∙ is_open) is_taken

    pub renamed_beside : (p : List ℕ) → p ≢ from → p ≢ to → content_of last p ≡ content_of first p
    renamed_beside p one other = beside_given p other ∙ beside_taken p one
