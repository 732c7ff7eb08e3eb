-- What holds of a lowered program without faults, unit by unit.
use Rattle.std.proofs.Common.{◌≡◌, ℕ, Bool, true, false, List, [], ◌∷◌, ◌++◌, map, refl, ap, ◌∙◌, subst, if◌then◌else◌}
use Rattle.std.specs.Prelude.{not, flat_map, Some}
use Rattle.adj_tree.specs.Code.{name_eq, Terms, Act, assign, choose, loop, during, call, runtime, Code, stop, step, Procedure}
use Rattle.adj_tree.specs.declared.fault.Refusal.{Refusal}
use Rattle.adj_tree.proofs.Names.{name_refl}
use Rattle.def_meaning.specs.Apart.{has_name, AreApart}
use Rattle.def_meaning.specs.Written.{handed_back}
use Rattle.def_meaning.proofs.Booleans.{or_false}
use Rattle.def_names.specs.Statements.{At, inner, statements}
use Rattle.def_names.specs.Variables.{Name, dummy_places, declared_places, places, is_integer}
use Rattle.def_names.specs.Calls.{Call, call_in, calls}
use Rattle.def_names.specs.Fault.{Rules, fault, faults_if, again}
use Rattle.def_names.specs.UnitFaults.{reserved_units, repeated_units, unit_places}
use Rattle.def_names.specs.NameFaults.{extent_places, undeclared, declared_twice, misused, bad_extents, has_bad_extents, reserved_variables, runtime_calls, too_many_variables, faults_of_names}
use Rattle.def_names.specs.CallFaults.{faults_of_call}
use Rattle.def_names.specs.WriteFaults.{have_clash, written_variables, written_extents, shared_variables, written_values, faults_of_writes}
use Rattle.def_names.specs.Check.{IsSound}
use Rattle.def_names.proofs.Lists.{names_at}
use Rattle.def_names.proofs.Faultless.{none_front, none_behind, none_if, apart_places}
use Rattle.def_names.proofs.Sound.{sound_has_none}
use Rattle.adj_tree.specs.Common.{Shared}
use Rattle.def_common.specs.Blocks.{find_shared}
use Rattle.def_common.specs.Members.{unit_names}
use Rattle.law_common.specs.Passing.{EachCall', EachCall}
use Rattle.def_common.specs.Lowering.{lowered_unit, lowered_program}
use Rattle.law_common.specs.Lowers.{Each}
use Rattle.law_common.proofs.Laying.{each_front, each_behind, each_map, each_of_map}

-- ---- lists

pub each_none : {A B : Type 0} (f : A → List B) (l : List A) → flat_map f l ≡ [] → Each (λ a. f a ≡ []) l
each_none f [] h = tt
each_none f (a ∷ l) h = (none_front (f a) (flat_map f l) h, each_none f l (none_behind (f a) (flat_map f l) h))

pub each_parts : {A B : Type 0} (P : B → Type 0) (f : A → List B) (l : List A) → Each P (flat_map f l) → Each (λ a. Each P (f a)) l
each_parts P f [] h = tt
each_parts P f (a ∷ l) h = (each_front P (f a) (flat_map f l) h, each_parts P f l (each_behind P (f a) (flat_map f l) h))

-- ---- units

-- names that are apart are each found where they are
found_apart : (ps : List Shared) → AreApart (unit_names ps) → Each (λ s. find_shared ps s.unit.name ≡ Some s) ps
found_apart [] h = tt
found_apart (p ∷ ps) h = (ap (λ b. if b then Some p else find_shared ps p.unit.name) (name_refl p.unit.name), later ps h.0 (found_apart ps h.1))
  where
    later : (l : List Shared) → has_name p.unit.name (unit_names l) ≡ false → Each (λ s. find_shared ps s.unit.name ≡ Some s) l → Each (λ s. find_shared (p ∷ ps) s.unit.name ≡ Some s) l
    later [] e k = tt
    later (s ∷ l) e k =
        let o = or_false (name_eq p.unit.name s.unit.name) (has_name p.unit.name (unit_names l)) e in
        (ap (λ b. if b then Some p else find_shared ps s.unit.name) o.0 ∙ k.0, later l o.1 k.1)

lowered_names : (ps l : List Shared) → names_at (unit_places (map (lowered_unit ps) l)) ≡ unit_names l
lowered_names ps [] = refl
lowered_names ps (s ∷ l) = ap (λ z. s.unit.name ∷ z) (lowered_names ps l)

-- a unit, and its lowered one without faults
pub record Clean (m : Rules) (ps : List Shared) (s : Shared) : Type 0 where
  pub found : find_shared ps s.unit.name ≡ Some s
  pub names : faults_of_names m (lowered_program ps) (lowered_unit ps s) ≡ []
  pub calls : flat_map (λ t. faults_of_call (lowered_program ps) (lowered_unit ps s) t.0 t.1) (statements (lowered_unit ps s).body) ≡ []
  pub writes : faults_of_writes (handed_back (lowered_program ps)) (lowered_unit ps s) ≡ []

pub all_clean : (m : Rules) (ps : List Shared) → IsSound m (lowered_program ps) → Each (Clean m ps) ps
all_clean m ps h =
    let none = sound_has_none m (lowered_program ps) h in
    let found = found_apart ps (subst AreApart (lowered_names ps ps) (apart_places 19 [] (unit_places (lowered_program ps)) (none_behind (reserved_units (lowered_program ps)) (repeated_units (lowered_program ps)) none.units))) in
    let of_units : (f : Procedure → List Refusal) → flat_map f (lowered_program ps) ≡ [] → Each (λ s. f (lowered_unit ps s) ≡ []) ps = λ f e. each_of_map (λ u. f u ≡ []) (lowered_unit ps) ps (each_none f (lowered_program ps) e) in
    let names = of_units (faults_of_names m (lowered_program ps)) none.names in
    let calls = of_units (λ u. flat_map (λ t. faults_of_call (lowered_program ps) u t.0 t.1) (statements u.body)) none.calls in
    let writes = of_units (faults_of_writes (handed_back (lowered_program ps))) none.writes in
    join ps found names calls writes
  where
    join : (l : List Shared) → Each (λ s. find_shared ps s.unit.name ≡ Some s) l → Each (λ s. faults_of_names m (lowered_program ps) (lowered_unit ps s) ≡ []) l →
        Each (λ s. flat_map (λ t. faults_of_call (lowered_program ps) (lowered_unit ps s) t.0 t.1) (statements (lowered_unit ps s).body) ≡ []) l →
        Each (λ s. faults_of_writes (handed_back (lowered_program ps)) (lowered_unit ps s) ≡ []) l → Each (Clean m ps) l
    join [] a b c d = tt
    join (s ∷ l) a b c d = (record { found = a.0; names = b.0; calls = c.0; writes = d.0 }, join l a.1 b.1 c.1 d.1)

-- ---- names

names_at_line : (line : ℕ) (xs : List Name) → names_at (map (λ (d : Name). (line, d)) xs) ≡ xs
names_at_line line [] = refl
names_at_line line (x ∷ xs) = ap (λ z. x ∷ z) (names_at_line line xs)

module _ (m : Rules) (qs : List Procedure) (u : Procedure) (h : faults_of_names m qs u ≡ []) where
  abbrev after_names : List Refusal
  after_names = declared_twice u ++ (misused m u ++ (bad_extents u ++ (reserved_variables qs u ++ (runtime_calls m u ++ too_many_variables m u))))

  no_undeclared : undeclared u ≡ []
  no_undeclared = none_front (undeclared u) after_names h

  no_twice : declared_twice u ≡ []
  no_twice = none_front (declared_twice u) _ (none_behind (undeclared u) after_names h)

  no_bad : bad_extents u ≡ []
  no_bad = none_front (bad_extents u) _ (none_behind (misused m u) _ (none_behind (declared_twice u) _ (none_behind (undeclared u) after_names h)))

  -- each name is an integer's
  pub all_integers : Each (λ p. is_integer u p.1 ≡ true) (places u)
  all_integers =
      each_front (λ p. is_integer u p.1 ≡ true) (places u) (extent_places u)
      (each_map (λ p. faults_if (not (is_integer u p.1)) (fault 7 p.0) ≡ []) (λ p. is_integer u p.1 ≡ true) (λ p k. is_one (is_integer u p.1) (none_if (not (is_integer u p.1)) (fault 7 p.0) k)) (places u ++ extent_places u) (each_none _ (places u ++ extent_places u) no_undeclared))
    where
      is_one : (b : Bool) → not b ≡ false → b ≡ true
      is_one true e = refl
      is_one false e = absurd cc

  -- no dummy is there twice
  pub dummies_apart : AreApart u.dummies
  dummies_apart = subst AreApart (names_at_line u.line u.dummies) (apart_places 8 [] (dummy_places u) (none_front (again 8 [] (dummy_places u)) (again 8 [] (declared_places u)) no_twice))

  -- and extents are good
  pub good_extents : Each (λ d. has_bad_extents u d ≡ false) u.declarations
  good_extents = each_map (λ d. faults_if (has_bad_extents u d) (fault 12 d.line) ≡ []) (λ d. has_bad_extents u d ≡ false) (λ d k. none_if (has_bad_extents u d) (fault 12 d.line) k) u.declarations (each_none _ u.declarations no_bad)

-- ---- calls

module _ (P : List ℕ → Terms → Type 0) (Q : At Act → Type 0) (f : (line : ℕ) (name : List ℕ) (args : Terms) → Q (line, call name args) → P name args) where
  mutual
    act_calls : (line : ℕ) (a : Act) → Q (line, a) → Each Q (inner a) → EachCall' P a
    act_calls line (assign x subs e) h k = tt
    act_calls line (choose c a b) h k = (code_calls a (each_front Q (statements a) (statements b) k), code_calls b (each_behind Q (statements a) (statements b) k))
    act_calls line (loop x first last by body m) h k = code_calls body k
    act_calls line (during c body) h k = code_calls body k
    act_calls line (call name args) h k = f line name args h
    act_calls line (runtime r) h k = tt

    -- what holds of each statement holds of each call
    pub code_calls : (c : Code) → Each Q (statements c) → EachCall P c
    code_calls stop h = tt
    code_calls (step line a rest) h = (act_calls line a h.0 (each_front Q (inner a) (statements rest) h.1), code_calls rest (each_behind Q (inner a) (statements rest) h.1))

-- each call is without a fault of calls
pub calls_clean : (qs : List Procedure) (u : Procedure) → flat_map (λ t. faults_of_call qs u t.0 t.1) (statements u.body) ≡ [] → EachCall (λ name args. (line : ℕ) × (faults_of_call qs u line (call name args) ≡ [])) u.body
calls_clean qs u h =
    code_calls (λ name args. (line : ℕ) × (faults_of_call qs u line (call name args) ≡ [])) (λ t. faults_of_call qs u t.0 t.1 ≡ []) (λ line name args k. (line, k)) u.body (each_none (λ t. faults_of_call qs u t.0 t.1) (statements u.body) h)

-- and has no variable as two actuals
pub calls_apart : (handed : List ℕ → List Bool) (u : Procedure) → faults_of_writes handed u ≡ [] → EachCall (λ name args. have_clash u (handed name) args ≡ false) u.body
calls_apart handed u h =
    code_calls (λ name args. have_clash u (handed name) args ≡ false) (λ s. Each Apart (map (λ c. (s.0, c)) (call_in s.1))) (λ line name args k. k.0) u.body
    (each_parts Apart (λ s. map (λ c. (s.0, c)) (call_in s.1)) (statements u.body)
    (each_map (λ c. faults_if (have_clash u (handed (c.1).0) (c.1).1) (fault 17 c.0) ≡ []) Apart (λ c k. none_if (have_clash u (handed (c.1).0) (c.1).1) (fault 17 c.0) k) (calls u) (each_none _ (calls u) no_shared)))
  where
    Apart : At Call → Type 0
    Apart c = have_clash u (handed (c.1).0) (c.1).1 ≡ false

    no_shared : shared_variables handed u ≡ []
    no_shared = none_front (shared_variables handed u) (written_values handed u) (none_behind (written_extents handed u) _ (none_behind (written_variables handed u) _ h))
