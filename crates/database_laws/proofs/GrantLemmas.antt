-- What GRANT gives.
use Rattle.std.proofs.Common.{◌≡◌, ◌⊎◌, ◌||◌, Bool, true, false, List, [], ◌∷◌, refl, sym, ap, ◌∙◌, subst, inl, inr, Equal}
use Rattle.std.proofs.lemmas.Bool.{or_right}
use Rattle.std.proofs.Math.Bool.{or-false}
use Rattle.sql_ast.specs.declared.privilege.Privilege.{Privilege}
use Rattle.sql_ast.specs.declared.privilege.Grantee.{Grantee}
use Rattle.sql_ast.specs.declared.privilege.Descriptor.{Descriptor}
use Rattle.sql_ast.specs.declared.statement.Grant.{Grant}
use Rattle.sql_types.specs.declared.state.SqlState.TheVariants.{UndefinedTable}
use Rattle.expressions.specs.Meaning.{UserNames}
use Rattle.abstract_database.specs.Lists.{TheName, Among, found_or}
use Rattle.abstract_database.specs.Database.{TableOf, Table, Database, descriptor_cmp}
use Rattle.abstract_database.specs.Privileges.{privileges_of, granted, with_option_of, granted_by, with_descriptors, takes}
use Rattle.abstract_database.specs.Statements.{Effect}
use Rattle.abstract_database.specs.Checks.{grantee_roles, checked_grant}
use Rattle.abstract_database.specs.Whole.{Each, IsRoleOf, IsWhole}
use Rattle.abstract_database.proofs.ResultLemmas.{bind_ok}
use Rattle.database_laws.specs.Grants.{IsNamed, IsTaken, Grants, IsNamedByGrant, IsAfterGrant, was_there, is_given, is_raised, IsHeld}
use Rattle.database_laws.proofs.WholeLists.{PutFrom, fresh, there, merged, of_put}
use Rattle.database_laws.proofs.WholeSets.{Covers, descriptors_same, IsCoveredIn, AreGranted, all_granted}
use Rattle.database_laws.proofs.WholePrivileges.{IsFound, table_found, GrantFacts, grant_facts, grantee_fits, may_be_granted}
use Rattle.database_laws.proofs.WholePrivileges as whole
use Rattle.database_laws.proofs.GrantorLemmas.{named_from, named_into, named_alike, taken_alike}
use Rattle.database_laws.proofs.UndoLemmas.{granted_database}

-- ---- joining

raised : (y d : Descriptor) → d.grantable ≡ true → with_option_of y d ≡ record y { grantable = true }
raised y d e = ap (λ (b : Bool). record y { grantable = b }) (or_right y.grantable d.grantable e)

unraised : (y d : Descriptor) → d.grantable ≡ false → with_option_of y d ≡ y
unraised y d e = ap (λ (b : Bool). record y { grantable = b }) (ap (λ (b : Bool). y.grantable || b) e ∙ or-false y.grantable)

same_options : (a b c : Bool) → a ≡ c → b ≡ c → (a || b) ≡ c
same_options true b c e f = e
same_options false b c e f = f

-- ---- what is there after the grants

module _ (db : Database) (w : IsWhole db) (role : TheName) (t : Table) (at : Among t db.tables) (privileges : List Privilege) (grantees : List Grantee) (known : Each (IsRoleOf db.roles) (grantee_roles grantees)) (option : Bool) where
  abbrev Named : Descriptor → Type 0
  Named d = IsNamed db role t.definition privileges grantees d

  abbrev After : Descriptor → Type 0
  After d = IsAfterGrant db Named option d

  joined_old : (y d : Descriptor) → Among y db.descriptors → Named d → d.grantable ≡ option → descriptor_cmp d y ≡ Equal → (b : Bool) → option ≡ b → After (with_option_of y d)
  joined_old y d h k o e true is = is_raised y h (named_alike db w role t at privileges grantees known d y k h e) is (raised y d (o ∙ is))
  joined_old y d h k o e false is = was_there (subst (λ x. Among x db.descriptors) (sym (unraised y d (o ∙ is))) h)

  with_its_option : (y : Descriptor) (b : Bool) → Named y → Named (record y { grantable = b })
  with_its_option y b k = record { for_table = k.for_table; for_privilege = k.for_privilege; to_grantee = k.to_grantee; by = k.by; acting = k.acting; by_grantor = k.by_grantor }

  joined : (y d : Descriptor) → After y → Named d → d.grantable ≡ option → descriptor_cmp d y ≡ Equal → After (with_option_of y d)
  joined y d (was_there h) k o e = joined_old y d h k o e option refl
  joined y d (is_given l p) k o e = is_given (with_its_option y (y.grantable || d.grantable) l) (same_options y.grantable d.grantable option p o)
  joined y d (is_raised old h l on is) k o e = is_raised old h l on (ap (λ x. with_option_of x d) is)

  after_from : (d : Descriptor) (cur : List Descriptor) → Named d → d.grantable ≡ option → ((y : Descriptor) → Among y cur → After y) → (x : Descriptor) → PutFrom descriptor_cmp with_option_of d cur x → After x
  after_from d cur k o f x (fresh is) = subst After is (is_given k o)
  after_from d cur k o f x (there h) = f x h
  after_from d cur k o f x (merged y h e is) = subst After is (joined y d (f y h) k o e)

  pub after_all : (ds cur : List Descriptor) → ((d : Descriptor) → Among d ds → Named d × (d.grantable ≡ option)) → ((y : Descriptor) → Among y cur → After y) → (x : Descriptor) → Among x (with_descriptors ds cur) → After x
  after_all [] cur n f x h = f x h
  after_all (d ∷ ds) cur n f x h =
      let first = n d (inl refl) in
      after_all ds (granted d cur) (λ y k. n y (inr k)) (λ y k. after_from d cur first.0 first.1 f y (of_put descriptor_cmp with_option_of d cur y k)) x h

-- ---- what is covered is held

held_with : (p q : Descriptor) → Covers p q → (b c : Bool) → p.grantable ≡ b → q.grantable ≡ c → (q ≡ p) ⊎ (q ≡ record p { grantable = true })
held_with p q k b true e f = inr (descriptors_same (record p { grantable = true }) q (record { table = k.key.table; action = k.key.action; column = k.key.column; grantor = k.key.grantor; grantee = k.key.grantee }) f)
held_with p q k true false e f = let contrary : true ≡ false = sym (k.option e) ∙ f in cc
held_with p q k false false e f = inl (descriptors_same p q k.key (f ∙ sym e))

pub held_in : (after : List Descriptor) (p : Descriptor) → IsCoveredIn after p → Among p after ⊎ Among (record p { grantable = true }) after
held_in after p (q, h, k) = elim (held_with p q k p.grantable q.grantable refl refl) [
  | inl is ↦ inl (subst (λ x. Among x after) is h)
  | inr is ↦ inr (subst (λ x. Among x after) is h)
]

-- ---- the statement

module _ (db : Database) (users : UserNames) (g : Grant) (t : TableOf) (e : Effect) (s : Grants db users g t e) where
  abbrev given_by : TableOf → List Descriptor
  given_by x = granted_by db users.current x (privileges_of x.layout g.privileges) g.grantees g.with_grant_option

  pub now : e.database ≡ record db { descriptors = with_descriptors (given_by t) db.descriptors }
  now = granted_database db users g t s.table_is e s.succeeds

  found : IsFound db g.table t
  found = table_found db g.table t (ap (found_or UndefinedTable) s.table_is)

  facts : (c : TableOf) × GrantFacts db g c
  facts = let c = bind_ok (checked_grant db users g) _ e s.succeeds in (c.0, grant_facts db users g c.0 c.1)

  -- what the REVOKE of what is given takes
  abbrev Takes : TableOf → Type 0
  Takes x = (d y : Descriptor) → Among d (given_by x) → Among y db.descriptors → takes d y ≡ true → IsTaken db users.current x (privileges_of x.layout g.privileges) g.grantees y

  pub taken_exactly : Takes t
  taken_exactly =
      let x = found.table.definition in
      subst Takes found.is
      (λ d y h k e. taken_alike db s.whole users.current found.table found.there (privileges_of x.layout g.privileges) g.grantees facts.1.known d y
      (named_from db users.current x (privileges_of x.layout g.privileges) g.grantees g.with_grant_option d h).0 k e)

  abbrev Gives : TableOf → Type 0
  Gives x = (d : Descriptor) → Among d (with_descriptors (given_by x) db.descriptors) → IsAfterGrant db (IsNamed db users.current x (privileges_of x.layout g.privileges) g.grantees) g.with_grant_option d

  pub gives : Gives t
  gives =
      let x = found.table.definition in
      subst Gives found.is
      (after_all db s.whole users.current found.table found.there (privileges_of x.layout g.privileges) g.grantees facts.1.known g.with_grant_option (given_by x) db.descriptors
      (named_from db users.current x (privileges_of x.layout g.privileges) g.grantees g.with_grant_option) (λ y h. was_there h))

  pub after_grant : (d : Descriptor) → Among d e.database.descriptors → IsAfterGrant db (IsNamedByGrant db users g t) g.with_grant_option d
  after_grant d h = gives d (subst (λ (x : Database). Among d x.descriptors) now h)

  abbrev AllGranted : TableOf → Type 0
  AllGranted x = AreGranted db.roles s.whole.definitions.roles.roles db.descriptors (given_by x) (with_descriptors (given_by x) db.descriptors)

  all : AllGranted t
  all =
      let x = found.table.definition in
      subst AllGranted found.is
      (all_granted db.roles s.whole.definitions.roles.roles (given_by x) db.descriptors s.whole.definitions.descriptors.descriptors
      (λ d h. may_be_granted db s.whole users.current found.table found.there (privileges_of x.layout g.privileges) g.grantees g.with_grant_option
      (grantee_fits db.roles g.grantees g.with_grant_option facts.1.known facts.1.fine) d
      (whole.named_of db users.current found.table (privileges_of x.layout g.privileges) g.grantees g.with_grant_option d h)))

  held_now : (d : Descriptor) → IsCoveredIn (with_descriptors (given_by t) db.descriptors) d → IsHeld e.database d
  held_now d k = subst (λ (x : Database). IsHeld x d) (sym now) (held_in (with_descriptors (given_by t) db.descriptors) d k)

  pub named_held : (d : Descriptor) → IsNamedByGrant db users g t d → d.grantable ≡ g.with_grant_option → IsHeld e.database d
  named_held d k o = held_now d (all.new d (named_into db users.current t (privileges_of t.layout g.privileges) g.grantees g.with_grant_option d k o))

  pub nothing_taken : ((d : Descriptor) → Among d db.descriptors → IsHeld e.database d) × (e.database ≡ record db { descriptors = e.database.descriptors })
  nothing_taken = (λ d h. held_now d (all.old d h), now ∙ ap (λ (x : Database). record db { descriptors = x.descriptors }) (sym now))
