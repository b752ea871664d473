-- Each policy has a record of its own.
use Rattle.std.proofs.Common.{◌≡◌, ◌≢◌, ◌<◌, ◌≤◌, ℕ, nat_eq, if◌then◌else◌, List, [], ◌∷◌, ◌++◌, flat_map, length, Option, Some, None, Result, Ok, Err, refl, ap, sym, ◌∙◌, subst, append_assoc, arith}
use Rattle.std.specs.Prelude.{IfSome}
use Rattle.std.proofs.lemmas.List.{append_cancel_left}
use Rattle.byteorder.specs.Endian.{big_bytes}
use Rattle.sql_ast.specs.declared.expression.ColumnName.{ColumnName}
use Rattle.sql_ast.specs.declared.privilege.Action.TheVariants as action
use Rattle.sql_ast.specs.declared.policy.Policy.{Policy}
use Rattle.sql_ast.specs.declared.policy.PolicyClause.{PolicyClause}
use Rattle.sql_ast.specs.declared.policy.PolicyKind.{PolicyKind}
use Rattle.sql_ast.specs.declared.policy.PolicyKind.TheVariants as kind
use Rattle.sql_ast.specs.declared.policy.PolicyCommand.{PolicyCommand}
use Rattle.sql_ast.specs.declared.policy.PolicyCommand.TheVariants as command
use Rattle.sql_ast.specs.declared.policy.PolicyRoles.{PolicyRoles}
use Rattle.sql_ast.specs.declared.policy.PolicyRoles.TheVariants as roles
use Rattle.sql_ast.specs.Term.{Term}
use Rattle.sql_ast.specs.Rows.{max_value_length}
use Rattle.sql_types.specs.declared.state.Refusal.{Refusal}
use Rattle.sql_types.specs.declared.state.SqlState.TheVariants.{OutOfMemory}
use Rattle.expr_parser.specs.Stages.{Parses, refusal}
use Rattle.expr_parser.specs.Whole.{SpellsWhole, IsWithinDepth}
use Rattle.store.specs.Records.{Record}
use Rattle.abstract_database.specs.Lists.{TheName}
use Rattle.abstract_database.specs.Sizes.{clause_size, policy_size}
use Rattle.expr_parser.specs.Written.{IsAsWritten}
use Rattle.stored_database.specs.RecordFormat.{ended, kind_number, command_number, roles_bytes, clause_bytes, policy_prefix, policy_record}
use Rattle.stored_database.specs.Items.{AreStoredRoles, IsStoredPolicy}
use Rattle.stored_database.proofs.Lists.{SameFront, same_texts}
use Rattle.stored_database.proofs.Names.{same_names, same_number}

-- what is asked of the parser: a text is read as one expression
abbrev pub OneExpression : Type 0
OneExpression = (text : List ℕ) (a b : Term ColumnName) → Parses SpellsWhole IsWithinDepth text (Ok a) → Parses SpellsWhole IsWithinDepth text (Ok b) → a ≡ b

-- the law of the parser, refusals of memory aside
abbrev pub OneAnswer : Type 0
OneAnswer = (text : List ℕ) (r s : Result (Term ColumnName) Refusal)
    → Parses SpellsWhole IsWithinDepth text r → r ≢ Err (refusal OutOfMemory) → Parses SpellsWhole IsWithinDepth text s → s ≢ Err (refusal OutOfMemory) → r ≡ s

pub one_expression : OneAnswer → OneExpression
one_expression one text a b p q = value_of (one text (Ok a) (Ok b) p (λ e. cc) q (λ e. cc)) where
  value_of : {x y : Term ColumnName} → ◌≡◌ {A = Result (Term ColumnName) Refusal} (Ok x) (Ok y) → x ≡ y
  value_of h = cc

-- ---- kind and command

abbrev kind_at : ℕ → PolicyKind
kind_at n = if nat_eq n 1 then kind.Permissive else kind.Restrictive

kind_read : (k : PolicyKind) → kind_at (kind_number k) ≡ k
kind_read kind.Permissive = refl
kind_read kind.Restrictive = refl

abbrev command_at : ℕ → PolicyCommand
command_at n =
    if nat_eq n 0 then command.All
    else if nat_eq n 1 then command.Only action.Select
    else if nat_eq n 2 then command.Only action.Insert
    else if nat_eq n 3 then command.Only action.Update
    else command.Only action.Delete

command_read : (c : PolicyCommand) → command_at (command_number c) ≡ c
command_read command.All = refl
command_read (command.Only action.Select) = refl
command_read (command.Only action.Insert) = refl
command_read (command.Only action.Update) = refl
command_read (command.Only action.Delete) = refl

-- ---- roles

same_roles : (p q : PolicyRoles) (r s : List ℕ) → AreStoredRoles p → AreStoredRoles q → roles_bytes p ++ r ≡ roles_bytes q ++ s → SameFront p q r s
same_roles roles.Public roles.Public r s a b h = record { item = refl; rest = cc }
same_roles roles.Public (roles.Only ys) r s a b h = absurd (none b.0) where
  zero_is : 0 ≡ length ys
  zero_is = cc

  none : 0 < length ys → ⊥
  none lt = omega (arith, lt, zero_is)
same_roles (roles.Only xs) roles.Public r s a b h = absurd (none a.0) where
  is_zero : length xs ≡ 0
  is_zero = cc

  none : 0 < length xs → ⊥
  none lt = omega (arith, lt, is_zero)
same_roles (roles.Only xs) (roles.Only ys) r s a b h =
    let lengths : length xs ≡ length ys = cc in
    let tails : flat_map ended xs ++ r ≡ flat_map ended ys ++ s = cc in
    let same = same_names xs ys r s a.1 b.1 lengths tails in
    record { item = ap (λ (ns : List TheName). roles.Only ns) same.item; rest = same.rest }

-- ---- conditions

abbrev pub clause_with : List ℕ → Term ColumnName → PolicyClause
clause_with text e = record { text = text; expression = e }

same_clause : (c d : PolicyClause) → c.text ≡ d.text → c.expression ≡ d.expression → ◌≡◌ {A = Option PolicyClause} (Some c) (Some d)
same_clause c d p q = ap (λ (x : PolicyClause). Some x) (all p q) where
  all : {t t' : List ℕ} {e e' : Term ColumnName} → t ≡ t' → e ≡ e' → clause_with t e ≡ clause_with t' e'
  all p q = cc

not_one : ◌≡◌ {A = ℕ} 0 1 → ⊥
not_one h = omega (arith, h)

module _ (one : OneExpression) where
  same_clauses : (c d : Option PolicyClause) (r s : List ℕ) → IfSome c IsAsWritten → IfSome d IsAsWritten → clause_size c < 65536 → clause_size d < 65536
      → clause_bytes c ++ r ≡ clause_bytes d ++ s → SameFront c d r s
  same_clauses None None r s a b m n h = record { item = refl; rest = cc }
  same_clauses None (Some d) r s a b m n h = absurd (not_one zero_is) where
    zero_is : ◌≡◌ {A = ℕ} 0 1
    zero_is = cc
  same_clauses (Some c) None r s a b m n h = absurd (not_one (sym one_is)) where
    one_is : ◌≡◌ {A = ℕ} 1 0
    one_is = cc
  same_clauses (Some c) (Some d) r s a b m n h =
      let tails : big_bytes 2 (length c.text) ++ c.text ++ r ≡ big_bytes 2 (length d.text) ++ d.text ++ s = cc in
      let front : big_bytes 2 (length c.text) ++ (c.text ++ r) ≡ big_bytes 2 (length d.text) ++ (d.text ++ s)
      = sym (append_assoc (big_bytes 2 (length c.text)) c.text r) ∙ tails ∙ append_assoc (big_bytes 2 (length d.text)) d.text s in
      let lengths = same_number 2 (length c.text) (length d.text) _ _ (omega (arith, m)) (omega (arith, n)) front in
      let same = same_texts c.text d.text r s lengths.item lengths.rest in
      let e : c.expression ≡ d.expression
      = one d.text c.expression d.expression (subst (λ (z : List ℕ). Parses SpellsWhole IsWithinDepth z (Ok c.expression)) same.item a.parsed) b.parsed in
      record { item = same_clause c d same.item e; rest = same.rest }

-- ---- policies

abbrev policy_with : TheName → TheName → PolicyKind → PolicyCommand → PolicyRoles → Option PolicyClause → Option PolicyClause → Policy
policy_with table name kind command roles using check =
    record { table = table; name = name; kind = kind; command = command; roles = roles; using = using; check = check }

same_policy : (p q : Policy) → p.table ≡ q.table → p.name ≡ q.name → p.kind ≡ q.kind → p.command ≡ q.command → p.roles ≡ q.roles → p.using ≡ q.using → p.check ≡ q.check → p ≡ q
same_policy p q a b c d e f g = all a b c d e f g where
  all : {t t' n n' : TheName} {k k' : PolicyKind} {c c' : PolicyCommand} {r r' : PolicyRoles} {u u' v v' : Option PolicyClause}
      → t ≡ t' → n ≡ n' → k ≡ k' → c ≡ c' → r ≡ r' → u ≡ u' → v ≡ v' → policy_with t n k c r u v ≡ policy_with t' n' k' c' r' u' v'
  all a b c d e f g = cc

using_few : (p : Policy) → policy_size p ≤ max_value_length → clause_size p.using < 65536
using_few p h = omega (arith, h)

check_few : (p : Policy) → policy_size p ≤ max_value_length → clause_size p.check < 65536
check_few p h = omega (arith, h)

pub one_policy : OneExpression → (table : TheName) (id : ℕ) (p q : Policy) → IsStoredPolicy table p → IsStoredPolicy table q → policy_record id p ≡ policy_record id q → p ≡ q
one_policy one table id p q a b h =
    let keys = ap (λ (e : Record). e.0) h in
    let names : p.name ≡ q.name = append_cancel_left (policy_prefix id) p.name q.name keys in
    let values : kind_number p.kind ∷ command_number p.command ∷ (roles_bytes p.roles ++ (clause_bytes p.using ++ clause_bytes p.check))
    ≡ kind_number q.kind ∷ command_number q.command ∷ (roles_bytes q.roles ++ (clause_bytes q.using ++ clause_bytes q.check)) = ap (λ (e : Record). e.1) h in
    let kinds : kind_number p.kind ≡ kind_number q.kind = cc in
    let commands : command_number p.command ≡ command_number q.command = cc in
    let tails : roles_bytes p.roles ++ (clause_bytes p.using ++ clause_bytes p.check) ≡ roles_bytes q.roles ++ (clause_bytes q.using ++ clause_bytes q.check) = cc in
    let first = same_roles p.roles q.roles _ _ a.roles b.roles tails in
    let second = same_clauses one p.using q.using (clause_bytes p.check) (clause_bytes q.check) a.using b.using (using_few p a.size) (using_few q b.size) first.rest in
    let third = same_clauses one p.check q.check [] [] a.check b.check (check_few p a.size) (check_few q b.size) (ap (λ (zs : List ℕ). zs ++ []) second.rest) in
    same_policy p q (a.table ∙ sym b.table) names
    (sym (kind_read p.kind) ∙ ap kind_at kinds ∙ kind_read q.kind)
    (sym (command_read p.command) ∙ ap command_at commands ∙ command_read q.command)
    first.item second.item third.item
