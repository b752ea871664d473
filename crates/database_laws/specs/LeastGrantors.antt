-- Laws of the acting grantor where several roles may be it.
use Rattle.std.specs.Prelude.{◌≡◌, false, Some}
use Rattle.std.specs.Ordering.{is_lt}
use Rattle.sql_ast.specs.declared.privilege.Privilege.{Privilege}
use Rattle.abstract_database.specs.Lists.{TheName, name_cmp}
use Rattle.abstract_database.specs.Database.{TableOf, Database}
use Rattle.abstract_database.specs.Roles.{IsIn}
use Rattle.abstract_database.specs.Privileges.{acting_grantor}
use Rattle.database_laws.specs.Grants.{HoldsGrantOption}
use Rattle.database_laws.specs.Rights.{ActsAs}

-- one that does not act as the owner, and holds a grant option itself, is its own
abbrev pub holders_are_acting_grantors : Type 0
holders_are_acting_grantors = (db : Database) (role : TheName) (t : TableOf) (p : Privilege) → (ActsAs db role t.owner → ⊥) → HoldsGrantOption db role t.name p → acting_grantor db role t p ≡ Some role

-- else it is the least in byte order of those that it is in and that hold one
abbrev pub acting_grantors_are_the_least : Type 0
acting_grantors_are_the_least = (db : Database) (role : TheName) (t : TableOf) (p : Privilege) (by other : TheName) → (ActsAs db role t.owner → ⊥) → (HoldsGrantOption db role t.name p → ⊥) →
    acting_grantor db role t p ≡ Some by → IsIn db.memberships role other → HoldsGrantOption db other t.name p → is_lt (name_cmp other by) ≡ false
