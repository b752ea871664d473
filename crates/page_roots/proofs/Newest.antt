-- Where no newer root is found, no known root is newer.
use Rattle.std.proofs.Common.{◌≡◌, ◌<◌, ℕ, Bool, true, false, ◌&&◌, ◌||◌, leb, List, refl, ap, arith}
use Rattle.std.specs.Str.{bytes_eq}
use Rattle.std.proofs.lemmas.Bool.{leb-false}
use Rattle.page_roots.specs.Root.{RootFields, root_bytes}
use Rattle.page_roots.specs.Sector.{root_at, zeros, fields_in, may_stand}
use Rattle.page_roots.specs.Later.{number_said, is_later, is_known, has_newer, HasNoNewer}
use Rattle.page_roots.specs.declared.sector.RootSector.{RootSector}
use Rattle.page_roots.specs.declared.sector.RootSector.TheVariants.{Empty, Found, Malformed}
use Rattle.page_roots.proofs.Reading.{past_tests}

-- a root that is found says its number
said_of_found : (sector : ℕ) (bytes : List ℕ) (root : RootFields) → root_at sector bytes ≡ Found root → number_said bytes ≡ root.number
unfolding root_at fields_in
said_of_found sector bytes root found =
    let past = past_tests (bytes_eq bytes zeros) (may_stand sector bytes && bytes_eq bytes (root_bytes (fields_in bytes))) (fields_in bytes) root found in
    ap (λ (r : RootFields). r.number) past.1

behind_read : (later : Bool) (read : RootSector) (number said : ℕ) → ((root : RootFields) → read ≡ Found root → said ≡ root.number)
    → ((later || is_known read) && leb number said) ≡ false → HasNoNewer read number
behind_read later Empty number said same none = tt
behind_read later Malformed number said same none = tt
behind_read true (Found root) number said same none = let less = leb-false number said none in let is = same root refl in omega arith
behind_read false (Found root) number said same none = let less = leb-false number said none in let is = same root refl in omega arith

pub behind_where : (sector : ℕ) (bytes : List ℕ) (number : ℕ) → has_newer sector bytes number ≡ false → HasNoNewer (root_at sector bytes) number
behind_where sector bytes number none = behind_read (is_later sector bytes) (root_at sector bytes) number (number_said bytes) (said_of_found sector bytes) none
