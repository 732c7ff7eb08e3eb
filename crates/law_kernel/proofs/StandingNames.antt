-- Units whose names stand as they should: the names have types, ranks and extents, and are free.
use Rattle.std.proofs.Common.{◌≡◌, ℕ, true, false, List, [], ◌∷◌, ◌++◌, map, ◌⊎◌, inl, inr, refl, sym, ap, ◌∙◌, subst, if◌then◌else◌}
use Rattle.std.proofs.lemmas.Bool.{or_cases}
use Rattle.std.specs.Prelude.{◌&&◌, ◌||◌, not, flat_map, Some, is_some}
use Rattle.std.specs.List.{list_any}
use Rattle.adj_tree.specs.Code.{name_eq, Act, assign, choose, loop, during, call, runtime, Code, Extent, fixed, given, Declaration, Procedure}
use Rattle.adj_tree.proofs.Names.{name_refl, name_same}
use Rattle.def_meaning.specs.Written.{find_unit}
use Rattle.def_meaning.proofs.Booleans.{and_true, or_false, or_first, or_second}
use Rattle.def_names.specs.Statements.{At, statements}
use Rattle.def_names.specs.Standing.{Standing, in_act}
use Rattle.def_names.specs.Reserved.{is_reserved, reserved}
use Rattle.def_names.specs.Variables.{Name, dummy_places, declared_places, statement_places, places, declared_names, is_integer_name, is_integer, is_scalar, is_dummy}
use Rattle.def_names.specs.Fault.{run_rules, fault, faults_if, again}
use Rattle.def_names.specs.NameFaults.{extent_names, extent_places, undeclared, declared_twice, has_rank, taken_in, misused, is_bad_extent, has_bad_extents, bad_extents, reserved_variables, calls_runtime, runtime_calls, faults_of_names}
use Rattle.def_meaning.specs.Apart.{has_name, AreApart}
use Rattle.def_meaning.proofs.Variables.{name_comm}
use Rattle.def_kernel.specs.Kernel as kernel
use Rattle.def_kernel.specs.Kernel.{unit_name}
use Rattle.law_kernel.proofs.OneNotion.{at_dummies}
use Rattle.law_kernel.proofs.Faultless.{Each, each_join, each_more, flat_each, none_flat, if_none, none_both, isn't_not, both_false}
use Rattle.law_kernel.proofs.Holding.{Holds, listed, holds_more}
use Rattle.law_kernel.proofs.SoundUnits.{once}

-- a name that neither an intrinsic, nor a runtime call, nor one of these units has
abbrev pub IsFree : List Name → Name → Type 0
IsFree names x = (has_name x reserved ≡ false) × (has_name x names ≡ false)

-- a name in a statement
abbrev pub IsGood : List Name → Procedure → Standing → Type 0
IsGood names v n = (is_integer v n.name ≡ true) × ((has_rank v n ≡ true) × IsFree names n.name)

-- a unit, where `names` are those of units
pub record Stands (names : List Name) (v : Procedure) : Type 0 where
  pub dummies : Each (λ d. (is_integer v d ≡ true) × IsFree names d) v.dummies
  pub declared : Each (λ d. IsFree names d.name) v.declarations
  pub dummies_once : AreApart v.dummies
  pub declared_once : AreApart (map (λ d. d.name) v.declarations)
  pub extents : Each (λ d. has_bad_extents v d ≡ false) v.declarations
  pub statements : Holds (λ line a. Each (IsGood names v) (in_act a)) v.body

-- ---- such a unit has no fault

-- what holds of each at its place
each_at : {A : Type 0} (P : A → Type 0) (line : ℕ) (xs : List A) → Each P xs → Each (λ (p : At A). P p.1) (map (λ x. (line, x)) xs)
each_at P line [] h = tt
each_at P line (x ∷ xs) h = (h.0, each_at P line xs h.1)

-- of declared names
each_declared : (P : Name → Type 0) (ds : List Declaration) → Each (λ d. P d.name) ds → Each (λ (p : At Name). P p.1) (map (λ d. (d.line, d.name)) ds)
each_declared P [] h = tt
each_declared P (d ∷ ds) h = (h.0, each_declared P ds h.1)

-- and of names in statements
each_standing : (P : Name → Type 0) (line : ℕ) (ns : List Standing) → Each (λ n. P n.name) ns → Each (λ (p : At Name). P p.1) (map (λ n. (line, n.name)) ns)
each_standing P line [] h = tt
each_standing P line (n ∷ ns) h = (h.0, each_standing P line ns h.1)

-- a member of a list of names
pub each_member : (Q : Name → Type 0) (xs : List Name) → Each Q xs → (x : Name) → has_name x xs ≡ true → Q x
each_member Q [] h x k = absurd cc
each_member Q (y ∷ ys) h x k = go (or_cases (name_eq x y) (has_name x ys) k) (each_member Q ys h.1 x)
  where
    go : (name_eq x y ≡ true) ⊎ (has_name x ys ≡ true) → (has_name x ys ≡ true → Q x) → Q x
    go (inl e) ih = subst Q (sym (name_same x y e)) h.0
    go (inr e) ih = ih e

module _ (P : Name → Type 0) (v : Procedure) where
  -- what holds of each name of a unit holds of each place
  every_place : Each P v.dummies → Each (λ d. P d.name) v.declarations → Holds (λ line a. Each (λ n. P n.name) (in_act a)) v.body → Each (λ (p : At Name). P p.1) (places v)
  every_place d e s =
      each_join (λ (p : At Name). P p.1) (dummy_places v) (declared_places v ++ statement_places v) (each_at P v.line v.dummies d)
      (each_join (λ (p : At Name). P p.1) (declared_places v) (statement_places v) (each_declared P v.declarations e)
      (flat_each (λ (p : At Name). P p.1) (λ (s : At Act). map (λ n. (s.0, n.name)) (in_act s.1)) (statements v.body)
      (each_more (λ (s : At Act). Each (λ n. P n.name) (in_act s.1)) (λ s. Each (λ (p : At Name). P p.1) (map (λ n. (s.0, n.name)) (in_act s.1))) (λ s k. each_standing P s.0 (in_act s.1) k) (statements v.body)
      (listed (λ line a. Each (λ n. P n.name) (in_act a)) v.body s))))

-- no unit has a name that isn't one of theirs
none_found : (us : List Procedure) (x : Name) → has_name x (map unit_name us) ≡ false → is_some (find_unit us x) ≡ false
none_found [] x h = refl
none_found (u ∷ us) x h = let p = or_false (name_eq x u.name) (has_name x (map unit_name us)) h in ap (λ b. is_some (if b then Some u else find_unit us x)) (name_comm x u.name p.0) ∙ none_found us x p.1

-- where runtime calls are taken names stand as they stand
taken_same : (a : Act) → taken_in true a ≡ in_act a
taken_same (assign x subs e) = refl
taken_same (choose c a b) = refl
taken_same (loop x first last by body m) = refl
taken_same (during c body) = refl
taken_same (call name args) = refl
taken_same (runtime r) = refl

-- the names of declarations, and where they are declared
pub at_declared : (ds : List Declaration) → map (λ (p : At Name). p.1) (map (λ d. (d.line, d.name)) ds) ≡ map (λ d. d.name) ds
at_declared [] = refl
at_declared (d ∷ ds) = ap (λ z. d.name ∷ z) (at_declared ds)

-- by both lists
pub same_declared : (ds : List Declaration) → kernel.declared_names ds ≡ map (λ (d : Declaration). d.name) ds
same_declared [] = refl
same_declared (d ∷ ds) = ap (λ z. d.name ∷ z) (same_declared ds)

module _ (ps : List Procedure) (v : Procedure) (stands : Stands (map unit_name ps) v) where
  -- no fault at a place
  abbrev IsKnown : At Name → Type 0
  IsKnown p = faults_if (not (is_integer v p.1)) (fault 7 p.0) ≡ []

  -- an integer's place has no fault
  known : (p : At Name) → is_integer v p.1 ≡ true → IsKnown p
  known p h = if_none (not (is_integer v p.1)) (fault 7 p.0) (ap not h)

  -- declared names are declared
  declared_known : (ds : List Declaration) → Each (λ d. has_name d.name (map (λ d. d.name) (ds)) ≡ true) ds
  declared_known ds = tell ds (map (λ d. d.name) ds) (λ x h. h)
    where
      tell : (es : List Declaration) (all : List Name) → ((x : Name) → has_name x (map (λ d. d.name) es) ≡ true → has_name x all ≡ true) → Each (λ d. has_name d.name all ≡ true) es
      tell [] all f = tt
      tell (e ∷ es) all f = (f e.name (or_first (name_eq e.name e.name) (has_name e.name (map (λ d. d.name) es)) (name_refl e.name)), tell es all (λ x h. f x (or_second (name_eq x e.name) (has_name x (map (λ d. d.name) es)) h)))

  -- the names among extents that aren't bad are dummies
  extent_dummies : (es : List Extent) → list_any (is_bad_extent v) es ≡ false → Each (λ x. is_dummy v x ≡ true) (extent_names es)
  extent_dummies [] h = tt
  extent_dummies (fixed z ∷ es) h = extent_dummies es (or_false (is_bad_extent v (fixed z)) (list_any (is_bad_extent v) es) h).1
  extent_dummies (given x ∷ es) h =
      let p = or_false (is_bad_extent v (given x)) (list_any (is_bad_extent v) es) h in
      ((and_true (is_dummy v x) (is_scalar v x) (isn't_not (is_dummy v x && is_scalar v x) p.0)).0, extent_dummies es p.1)

  -- each name is an integer
  no_undeclared : undeclared v ≡ []
  no_undeclared =
      none_flat (λ p. faults_if (not (is_integer v p.1)) (fault 7 p.0)) (places v ++ extent_places v)
      (each_join IsKnown (places v) (extent_places v)
      (each_more (λ (p : At Name). is_integer v p.1 ≡ true) IsKnown known (places v)
      (every_place (λ x. is_integer v x ≡ true) v (each_more (λ d. (is_integer v d ≡ true) × IsFree (map unit_name ps) d) (λ d. is_integer v d ≡ true) (λ d h. h.0) v.dummies stands.dummies)
      (each_more (λ d. has_name d.name (map (λ d. d.name) v.declarations) ≡ true) (λ d. is_integer v d.name ≡ true) (λ d h. or_first (has_name d.name (declared_names v)) (not v.is_none && is_integer_name d.name) h) v.declarations (declared_known v.declarations))
      (statement_names v.body stands.statements)))
      (flat_each IsKnown (λ (d : Declaration). map (λ x. (d.line, x)) (extent_names d.extents)) v.declarations
      (each_more (λ d. has_bad_extents v d ≡ false) (λ (d : Declaration). Each IsKnown (map (λ x. (d.line, x)) (extent_names d.extents)))
      (λ d h.
      each_more (λ (p : At Name). is_dummy v p.1 ≡ true) IsKnown (λ p k. known p (each_member (λ d. is_integer v d ≡ true) v.dummies (each_more (λ d. (is_integer v d ≡ true) × IsFree (map unit_name ps) d) (λ d. is_integer v d ≡ true) (λ d h. h.0) v.dummies stands.dummies) p.1 k)) (map (λ x. (d.line, x)) (extent_names d.extents))
      (each_at (λ x. is_dummy v x ≡ true) d.line (extent_names d.extents) (extent_dummies d.extents (or_false (list_any (is_bad_extent v) d.extents) _ h).0))) v.declarations stands.extents)))
    where
      statement_names : (c : Code) → Holds (λ line a. Each (IsGood (map unit_name ps) v) (in_act a)) c → Holds (λ line a. Each (λ n. is_integer v n.name ≡ true) (in_act a)) c
      statement_names c h = holds_more (λ line a. Each (IsGood (map unit_name ps) v) (in_act a)) (λ line a. Each (λ n. is_integer v n.name ≡ true) (in_act a)) (λ line a k. each_more (IsGood (map unit_name ps) v) (λ n. is_integer v n.name ≡ true) (λ n g. g.0) (in_act a) k) c h

  -- declared once
  no_twice : declared_twice v ≡ []
  no_twice =
      none_both (again 8 [] (dummy_places v)) (again 8 [] (declared_places v)) (once 8 (dummy_places v) (subst AreApart (sym (at_dummies v.line v.dummies)) stands.dummies_once))
      (once 8 (declared_places v) (subst AreApart (sym (at_declared v.declarations)) stands.declared_once))

  -- stands with its rank
  no_misuse : misused run_rules v ≡ []
  no_misuse =
      none_flat (λ s. flat_map (λ n. faults_if (not (has_rank v n)) (fault 9 s.0)) (taken_in true s.1)) (statements v.body)
      (each_more (λ (s : At Act). Each (IsGood (map unit_name ps) v) (in_act s.1)) (λ s. flat_map (λ n. faults_if (not (has_rank v n)) (fault 9 s.0)) (taken_in true s.1) ≡ [])
      (λ s h. ap (flat_map (λ n. faults_if (not (has_rank v n)) (fault 9 s.0))) (taken_same s.1) ∙ none_flat (λ n. faults_if (not (has_rank v n)) (fault 9 s.0)) (in_act s.1) (each_more (IsGood (map unit_name ps) v) (λ n. faults_if (not (has_rank v n)) (fault 9 s.0) ≡ []) (λ n g. if_none (not (has_rank v n)) (fault 9 s.0) (ap not (g.1.0))) (in_act s.1) h))
      (statements v.body) (listed (λ line a. Each (IsGood (map unit_name ps) v) (in_act a)) v.body stands.statements))

  -- has extents as they should be
  no_bad_extents : bad_extents v ≡ []
  no_bad_extents = none_flat (λ d. faults_if (has_bad_extents v d) (fault 12 d.line)) v.declarations (each_more (λ d. has_bad_extents v d ≡ false) (λ d. faults_if (has_bad_extents v d) (fault 12 d.line) ≡ []) (λ d h. if_none (has_bad_extents v d) (fault 12 d.line) h) v.declarations stands.extents)

  -- and is free
  no_reserved : reserved_variables ps v ≡ []
  no_reserved =
      none_flat (λ p. faults_if (is_reserved p.1 || is_some (find_unit ps p.1)) (fault 18 p.0)) (places v)
      (each_more (λ (p : At Name). IsFree (map unit_name ps) p.1) (λ p. faults_if (is_reserved p.1 || is_some (find_unit ps p.1)) (fault 18 p.0) ≡ []) (λ p h. if_none (is_reserved p.1 || is_some (find_unit ps p.1)) (fault 18 p.0) (both_false (is_reserved p.1) (is_some (find_unit ps p.1)) (h.0) (none_found ps p.1 h.1))) (places v)
      (every_place (IsFree (map unit_name ps)) v (each_more (λ d. (is_integer v d ≡ true) × IsFree (map unit_name ps) d) (IsFree (map unit_name ps)) (λ d h. h.1) v.dummies stands.dummies) stands.declared
      (holds_more (λ line a. Each (IsGood (map unit_name ps) v) (in_act a)) (λ line a. Each (λ n. IsFree (map unit_name ps) n.name) (in_act a)) (λ line a k. each_more (IsGood (map unit_name ps) v) (λ n. IsFree (map unit_name ps) n.name) (λ n g. g.1.1) (in_act a) k) v.body stands.statements)))

  -- runtime calls are no fault
  no_runtime : (ss : List (At Act)) → flat_map (λ (s : At Act). faults_if (false && calls_runtime s.1) (fault 18 s.0)) ss ≡ []
  no_runtime [] = refl
  no_runtime (s ∷ ss) = no_runtime ss

  -- no name of the unit has a fault, as a text that is run
  pub no_name_faults : faults_of_names run_rules ps v ≡ []
  no_name_faults =
      none_both (undeclared v) _ no_undeclared (none_both (declared_twice v) _ no_twice (none_both (misused run_rules v) _ no_misuse (none_both (bad_extents v) _ no_bad_extents (none_both (reserved_variables ps v) _ no_reserved (none_both (runtime_calls run_rules v) [] (no_runtime (statements v.body)) refl)))))
