-- The lowered program of units is as deep and nested as they are, and has as many statements.
use Rattle.std.proofs.Common.{◌≡◌, ◌≤◌, ℕ, max, ◌+◌, true, List, [], ◌∷◌, length, map, Option, Some, None, Ok, refl, sym, ap, ap₂, subst, arith}
use Rattle.std.specs.Prelude.{◌&&◌, nat_le}
use Rattle.std.specs.List.{list_all}
use Rattle.std.proofs.lemmas.Bool.{and_parts, and_from, le-leb, leb-true}
use Rattle.adj_tree.specs.Code.{Terms, none, more, Act, assign, choose, loop, during, call, runtime, Code, stop, step, Procedure}
use Rattle.adj_tree.specs.Size.{act_depth, code_depth, IsNested}
use Rattle.adj_tree.specs.declared.fault.Refusal.{Refusal}
use Rattle.adj_tree.specs.Common.{Shared}
use Rattle.def_common.specs.Lowering.{behind, lowered_act, lowered, lowered_unit, lowered_program}
use Rattle.def_common.specs.Members.{Member, members}
use Rattle.def_common.specs.Refused.{layout_refusal}
use Rattle.def_common.specs.Source.{or_refused, without_blocks}
use Rattle.def_kernel.specs.Kernel.{EachUnit}
use Rattle.def_text.specs.Statement.{Range}
use Rattle.law_limits.specs.Rule.{Rule, act_keeps, code_keeps, declaration_keeps, procedure_keeps, keeps}
use Rattle.law_limits.specs.Kept.{is_short, short_names, is_shallow, all_shallow, shallow, acts_in, acts_in_code, statements_in}
use Rattle.law_limits.proofs.Keeping.{common_keeps, shared_keeps, units_in}

-- ---- units whose layouts are alike

pub lowered_units : (units : List Shared) (program : List Procedure) → without_blocks units ≡ Ok program → (layout_refusal units ≡ None) × (program ≡ lowered_program units)
lowered_units units program h = by (layout_refusal units) refl h
  where
    by : (found : Option Refusal) → layout_refusal units ≡ found → or_refused found (lowered_program units) ≡ Ok program → (layout_refusal units ≡ None) × (program ≡ lowered_program units)
    by None e g = let same : lowered_program units ≡ program = cc in (e, sym same)
    by (Some r) e g = absurd cc

-- what passes with its COMMON statements passes without them
pub shared_units_keep : (r : Rule) (units : List Shared) → list_all (shared_keeps r) units ≡ true → keeps r (units_in units) ≡ true
shared_units_keep r [] h = refl
shared_units_keep r (s ∷ ss) h =
    let p = and_parts (shared_keeps r s) (list_all (shared_keeps r) ss) h in
    let q = and_parts (procedure_keeps r s.unit) (list_all (common_keeps r) s.commons) p.0 in
    and_from (procedure_keeps r s.unit) (keeps r (units_in ss)) q.0 (shared_units_keep r ss p.1)

-- ---- numbers

module _ (ps : List Shared) where
  same_length : (l : List Shared) → length (map (lowered_unit ps) l) ≡ length l
  same_length [] = refl
  same_length (s ∷ l) = let rest = same_length l in omega arith

  module _ (ms : List Member) where
    mutual
      act_count : (a : Act) → acts_in (lowered_act ps ms a) ≡ acts_in a
      act_count (assign x s e) = refl
      act_count (choose c a b) = ap₂ (λ p q. 1 + (p + q)) (code_count a) (code_count b)
      act_count (loop x a b c body m) = ap (λ p. 1 + p) (code_count body)
      act_count (during c body) = ap (λ p. 1 + p) (code_count body)
      act_count (call x es) = refl
      act_count (runtime r) = refl

      code_count : (k : Code) → acts_in_code (lowered ps ms k) ≡ acts_in_code k
      code_count stop = refl
      code_count (step line a rest) = ap₂ (λ p q. p + q) (act_count a) (code_count rest)

    mutual
      act_level : (a : Act) → act_depth (lowered_act ps ms a) ≡ act_depth a
      act_level (assign x s e) = refl
      act_level (choose c a b) = ap₂ (λ p q. max p q + 1) (code_level a) (code_level b)
      act_level (loop x a b c body m) = ap (λ q. q + 1) (code_level body)
      act_level (during c body) = ap (λ q. q + 1) (code_level body)
      act_level (call x es) = refl
      act_level (runtime c) = refl

      code_level : (k : Code) → code_depth (lowered ps ms k) ≡ code_depth k
      code_level stop = refl
      code_level (step line a rest) = ap₂ max (act_level a) (code_level rest)

  same_statements : (l : List Shared) → statements_in (map (lowered_unit ps) l) ≡ statements_in (units_in l)
  same_statements [] = refl
  same_statements (s ∷ l) = ap₂ (λ p q. p + q) (code_count (members ps s) s.unit.body) (same_statements l)

  same_nested : (n : ℕ) (l : List Shared) → IsNested n (units_in l) → IsNested n (map (lowered_unit ps) l)
  same_nested n [] h = tt
  same_nested n (s ∷ l) h = (subst (λ k. k ≤ n) (sym (code_level (members ps s) s.unit.body)) h.0, same_nested n l h.1)

pub lowered_length : (units : List Shared) → length (lowered_program units) ≡ length units
lowered_length units = same_length units units

pub lowered_statements : (units : List Shared) → statements_in (lowered_program units) ≡ statements_in (units_in units)
lowered_statements units = same_statements units units

pub lowered_nested : (n : ℕ) (units : List Shared) → IsNested n (units_in units) → IsNested n (lowered_program units)
lowered_nested n units h = same_nested units n units h

-- ---- depth: a name that is passed is 1 deep

module _ (n : ℕ) (some : 1 ≤ n) where
  behind_shallow : (args : Terms) (xs : List (List ℕ)) → all_shallow n args ≡ true → all_shallow n (behind args xs) ≡ true
  behind_shallow none [] h = refl
  behind_shallow none (x ∷ xs) h = and_from (nat_le 1 n) (all_shallow n (behind none xs)) (le-leb 1 n some) (behind_shallow none xs refl)
  behind_shallow (more e es) xs h = let p = and_parts (is_shallow n e) (all_shallow n es) h in and_from (is_shallow n e) (all_shallow n (behind es xs)) p.0 (behind_shallow es xs p.1)

  module _ (ps : List Shared) where
    module _ (ms : List Member) where
      mutual
        act_shallow : (a : Act) → act_keeps (shallow n) a ≡ true → act_keeps (shallow n) (lowered_act ps ms a) ≡ true
        act_shallow (assign x s e) h = h
        act_shallow (choose c a b) h =
            let t = (shallow n).test c in
            let p = and_parts t (code_keeps (shallow n) a && code_keeps (shallow n) b) h in
            let q = and_parts (code_keeps (shallow n) a) (code_keeps (shallow n) b) p.1 in
            and_from t (code_keeps (shallow n) (lowered ps ms a) && code_keeps (shallow n) (lowered ps ms b)) p.0 (and_from (code_keeps (shallow n) (lowered ps ms a)) (code_keeps (shallow n) (lowered ps ms b)) (code_shallow a q.0) (code_shallow b q.1))
        act_shallow (loop x a b c body m) h =
            let r : Range = record { counter = x; from = a; to = b; by = c } in
            let p = and_parts ((shallow n).range r m) (code_keeps (shallow n) body) h in
            and_from ((shallow n).range r m) (code_keeps (shallow n) (lowered ps ms body)) p.0 (code_shallow body p.1)
        act_shallow (during c body) h =
            let t = (shallow n).test c in
            let p = and_parts t (code_keeps (shallow n) body) h in
            and_from t (code_keeps (shallow n) (lowered ps ms body)) p.0 (code_shallow body p.1)
        act_shallow (call x es) h = behind_shallow es _ h
        act_shallow (runtime r) h = h

        code_shallow : (k : Code) → code_keeps (shallow n) k ≡ true → code_keeps (shallow n) (lowered ps ms k) ≡ true
        code_shallow stop h = refl
        code_shallow (step line a rest) h =
            let p = and_parts (act_keeps (shallow n) a) (code_keeps (shallow n) rest) h in
            and_from (act_keeps (shallow n) (lowered_act ps ms a)) (code_keeps (shallow n) (lowered ps ms rest)) (act_shallow a p.0) (code_shallow rest p.1)

    declared_shallow : (ds : List _) → list_all (declaration_keeps (shallow n)) ds ≡ true
    declared_shallow [] = refl
    declared_shallow (d ∷ ds) = declared_shallow ds

    units_shallow : (l : List Shared) → keeps (shallow n) (units_in l) ≡ true → keeps (shallow n) (map (lowered_unit ps) l) ≡ true
    units_shallow [] h = refl
    units_shallow (s ∷ l) h =
        let p = and_parts (procedure_keeps (shallow n) s.unit) (keeps (shallow n) (units_in l)) h in
        let q = and_parts (list_all (declaration_keeps (shallow n)) s.unit.declarations) (code_keeps (shallow n) s.unit.body) p.0 in
        let u = lowered_unit ps s in
        and_from (procedure_keeps (shallow n) u) (keeps (shallow n) (map (lowered_unit ps) l))
        (and_from (list_all (declaration_keeps (shallow n)) u.declarations) (code_keeps (shallow n) u.body) (declared_shallow u.declarations) (code_shallow (members ps s) s.unit.body q.1)) (units_shallow l p.1)

pub lowered_shallow : (n : ℕ) → 1 ≤ n → (units : List Shared) → keeps (shallow n) (units_in units) ≡ true → keeps (shallow n) (lowered_program units) ≡ true
lowered_shallow n some units h = units_shallow n some units units h

-- ---- names of units

named_in : (ps l : List Shared) → list_all (shared_keeps (short_names 31)) l ≡ true → EachUnit (λ u. length u.name ≤ 31) (map (lowered_unit ps) l)
named_in ps [] h = tt
named_in ps (s ∷ l) h =
    let p = and_parts (shared_keeps (short_names 31) s) (list_all (shared_keeps (short_names 31)) l) h in
    let q = and_parts (procedure_keeps (short_names 31) s.unit) (list_all (common_keeps (short_names 31)) s.commons) p.0 in
    let r = and_parts ((short_names 31).heading s.unit.name s.unit.dummies) _ q.0 in
    let t = and_parts (is_short 31 s.unit.name) (list_all (is_short 31) s.unit.dummies) r.0 in
    (leb-true (length s.unit.name) 31 t.0, named_in ps l p.1)

pub lowered_named : (units : List Shared) → list_all (shared_keeps (short_names 31)) units ≡ true → EachUnit (λ u. length u.name ≤ 31) (lowered_program units)
lowered_named units h = named_in units units h
