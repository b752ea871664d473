-- What GRANT and REVOKE of roles do to who is in which role.
use Rattle.std.proofs.Common.{List, refl, sym, subst, inl, inr}
use Rattle.sql_ast.specs.declared.role.Membership.{Membership}
use Rattle.abstract_database.specs.Lists.{TheName, Among}
use Rattle.abstract_database.specs.Chains.{IsLedTo, by_start, by_step}
use Rattle.abstract_database.specs.Roles.{IsIn, is_of_member, leads_on}
use Rattle.abstract_database.proofs.ListLemmas.{bytes_same, same_bytes}

-- ---- what each membership hands on holds of each role that one is in

module _ (P : TheName → Type 0) (ms : List Membership) (on : (m : Membership) → Among m ms → P m.member → P m.role) (x : TheName) (here : P x) where
  handed : (m : Membership) → IsLedTo (is_of_member x) leads_on ms m → P m.role
  handed m (by_start e among start) = on m among (subst P (sym (bytes_same m.member x start)) here)
  handed m (by_step p e before among step) = on m among (subst P (sym (bytes_same m.member p.role step)) (handed p before))

  pub handed_on : (y : TheName) → IsIn ms x y → P y
  handed_on y (inl same) = subst P same here
  handed_on y (inr chain) = subst P chain.2 (handed chain.0 chain.1)

-- ---- one more membership, and one role after the other

module _ (ms : List Membership) where
  pub one_more : (x : TheName) (m : Membership) → Among m ms → IsIn ms x m.member → IsIn ms x m.role
  one_more x m among (inl same) = inr (m, by_start m among (same_bytes m.member x (sym same)), refl)
  one_more x m among (inr chain) = inr (m, by_step chain.0 m chain.1 among (same_bytes m.member chain.0.role (sym chain.2)), refl)

  pub through : (x y z : TheName) → IsIn ms x y → IsIn ms y z → IsIn ms x z
  through x y z first then = handed_on (IsIn ms x) ms (λ m among before. one_more x m among before) y first z then
