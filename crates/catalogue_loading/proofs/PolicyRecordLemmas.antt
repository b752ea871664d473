-- What the records of policies spell.
use Rattle.std.proofs.Common.{◌≡◌, ◌≤◌, ℕ, List, ◌∷◌, ◌++◌, length, ap, sym, ◌∙◌, Err, Option, Some, None, arith}
use Rattle.std.specs.Prelude.{IfSome}
use Rattle.sql_types.specs.Name.{IsUtf8Name}
use Rattle.sql_ast.specs.declared.policy.Policy.{Policy}
use Rattle.sql_ast.specs.declared.policy.PolicyClause.{PolicyClause}
use Rattle.sql_ast.specs.declared.policy.PolicyKind.{PolicyKind}
use Rattle.sql_ast.specs.declared.policy.PolicyCommand.{PolicyCommand}
use Rattle.sql_ast.specs.declared.policy.PolicyRoles.{PolicyRoles}
use Rattle.store.specs.declared.fault.Fault.{Fault}
use Rattle.store.specs.declared.fault.Fault.TheVariants.{Memory, Device, Damaged}
use Rattle.store.specs.Records.{Record}
use Rattle.abstract_database.specs.Lists.{TheName}
use Rattle.abstract_database.specs.Sizes.{clause_size, policy_size}
use Rattle.expr_parser.specs.Written.{IsAsWritten}
use Rattle.stored_database.specs.Items.{AreStoredRoles}
use Rattle.stored_database.specs.RecordFormat.{kind_number, command_number, roles_bytes, policy_prefix, policy_record}
use Rattle.stored_database.proofs.Lengths.{policy_long}
use Rattle.catalogue_loading.specs.Clauses.{IsStoredClauseIfAny, AreStoredClauses, clauses_bytes, HasUtf8, IsPolicyAlone}
use Rattle.catalogue_loading.specs.Decoding.{IsSpelled, Decodes, IsFront, IsOnlyFront}

-- a policy's key begins with the prefix
pub key_of : (id : ℕ) (entry : Record) (p : Policy) → policy_record id p ≡ entry → entry.0 ≡ policy_prefix id ++ p.name
key_of id entry p is = sym (ap (λ (e : Record). e.0) is)

-- and its value is not longer than a record's may be
pub not_long : (id : ℕ) (table : TheName) (entry : Record) (p : Policy) → IsSpelled (IsPolicyAlone table) (policy_record id) entry p → length entry.1 ≤ 1200
not_long id table entry p is =
    let value : length (policy_record id p).1 ≡ length entry.1 = ap (λ (e : Record). length e.1) is.spelled in
    omega (arith, value, policy_long id p, is.valid.stored.size)

written_if_any : (o : Option PolicyClause) → IsStoredClauseIfAny o → IfSome o IsAsWritten
written_if_any None h = tt
written_if_any (Some c) h = h.written

utf8_if_any : (o : Option PolicyClause) → IsStoredClauseIfAny o → IfSome o HasUtf8
utf8_if_any None h = tt
utf8_if_any (Some c) h = h.utf8

stored_if_any : (o : Option PolicyClause) → IfSome o IsAsWritten → IfSome o HasUtf8 → clause_size o ≤ 1200 → IsStoredClauseIfAny o
stored_if_any None written utf8 few = tt
stored_if_any (Some c) written utf8 few = record { written = written; utf8 = utf8; short = omega (arith, few) }

abbrev policy_with : TheName → TheName → PolicyKind → PolicyCommand → PolicyRoles → Option PolicyClause → Option PolicyClause → Policy
policy_with table name kind command roles using check =
    record { table = table; name = name; kind = kind; command = command; roles = roles; using = using; check = check }

-- the policy of the parts that were read
pub policy_whole : (id : ℕ) (name_bytes rest after : List ℕ) (entry : Record) (table copy name : TheName) (kind : PolicyKind) (command : PolicyCommand) (roles : PolicyRoles)
    (using check : Option PolicyClause) → entry.0 ≡ policy_prefix id ++ name_bytes → length entry.1 ≤ 1200 → entry.1 ≡ kind_number kind ∷ command_number command ∷ rest
    → IsSpelled IsUtf8Name (λ (n : List ℕ). n) name_bytes name → copy ≡ table → IsFront AreStoredRoles roles_bytes rest roles after
    → IsSpelled AreStoredClauses clauses_bytes after (using, check)
    → IsSpelled (IsPolicyAlone table) (policy_record id) entry (policy_with copy name kind command roles using check)
policy_whole id name_bytes rest after entry table copy name kind command roles using check key few value named same front clauses = record { valid = valid; spelled = spelled }
  where
    p : Policy
    p = policy_with copy name kind command roles using check

    pairs : {a b x y : List ℕ} → a ≡ b → x ≡ y → ◌≡◌ {A = Record} (a, x) (b, y)
    pairs h k = cc

    values : kind_number kind ∷ command_number command ∷ (roles_bytes roles ++ clauses_bytes (using, check)) ≡ entry.1
    values =
        ap (λ (zs : List ℕ). kind_number kind ∷ command_number command ∷ zs) (ap (λ (zs : List ℕ). roles_bytes roles ++ zs) clauses.spelled ∙ sym front.spelled)
        ∙ sym value

    keys : policy_prefix id ++ name ≡ entry.0
    keys = ap (λ (zs : List ℕ). policy_prefix id ++ zs) named.spelled ∙ sym key

    spelled : policy_record id p ≡ entry
    spelled = pairs keys values

    size : policy_size p ≤ 1200
    size = let long : length (policy_record id p).1 ≡ length entry.1 = ap (λ (e : Record). length e.1) spelled in omega (arith, long, policy_long id p, few)

    valid : IsPolicyAlone table p
    valid = record {
      name_read = named.valid;
      stored = record {
        table = same;
        roles = front.valid;
        using = written_if_any using clauses.valid.using;
        check = written_if_any check clauses.valid.check;
        size = size;
      };
      using_read = utf8_if_any using clauses.valid.using;
      check_read = utf8_if_any check clauses.valid.check;
    }

-- where no conditions stand after the roles, the record is that of no policy
pub no_clauses : (id : ℕ) (rest after : List ℕ) (entry : Record) (table : TheName) (kind : PolicyKind) (command : PolicyCommand) (roles : PolicyRoles) (fault : Fault)
    → entry.1 ≡ kind_number kind ∷ command_number command ∷ rest → IsOnlyFront AreStoredRoles roles_bytes rest roles after
    → Decodes AreStoredClauses clauses_bytes after (Err fault) → Decodes (IsPolicyAlone table) (policy_record id) entry (Err fault)
no_clauses id rest after entry table kind command roles Memory value only none = tt
no_clauses id rest after entry table kind command roles Device value only none = none
no_clauses id rest after entry table kind command roles Damaged value only none = λ p is.
    let behind = only p.roles (clauses_bytes (p.using, p.check)) (record { valid = is.valid.stored.roles; spelled = tails p (sym value ∙ sym (ap (λ (e : Record). e.1) is.spelled)) }) in
    none (p.using, p.check) (record {
      valid = record {
        using = stored_if_any p.using is.valid.stored.using is.valid.using_read (using_few p is.valid.stored.size);
        check = stored_if_any p.check is.valid.stored.check is.valid.check_read (check_few p is.valid.stored.size);
      };
      spelled = sym behind.1;
    })
  where
    tails : (p : Policy) → kind_number kind ∷ command_number command ∷ rest ≡ kind_number p.kind ∷ command_number p.command ∷ (roles_bytes p.roles ++ clauses_bytes (p.using, p.check))
        → rest ≡ roles_bytes p.roles ++ clauses_bytes (p.using, p.check)
    tails p h = cc

    using_few : (p : Policy) → policy_size p ≤ 1200 → clause_size p.using ≤ 1200
    using_few p h = omega (arith, h)

    check_few : (p : Policy) → policy_size p ≤ 1200 → clause_size p.check ≤ 1200
    check_few p h = omega (arith, h)
