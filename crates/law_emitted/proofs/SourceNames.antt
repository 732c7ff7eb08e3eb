-- What a checked program has of the names of its units.
use Rattle.std.proofs.Common.{◌≡◌, ℕ, Bool, true, false, List, [], ◌∷◌, ◌++◌, map, refl, sym, ap, ◌∙◌, subst, if◌then◌else◌}
use Rattle.std.specs.Prelude.{◌||◌, ◌&&◌, not, flat_map, Some, is_some}
use Rattle.adj_tree.specs.Code.{name_eq, Act, assign, choose, loop, during, call, runtime, Code, stop, step, Procedure}
use Rattle.adj_tree.specs.declared.fault.Refusal.{Refusal}
use Rattle.def_meaning.specs.Written.{find_unit}
use Rattle.def_meaning.specs.Read.{is_extent}
use Rattle.def_names.specs.Reserved.{is_reserved}
use Rattle.def_names.specs.Statements.{At, inner, statements}
use Rattle.def_names.specs.Standing.{in_act}
use Rattle.def_names.specs.Variables.{dummy_places, declared_places, places, variables}
use Rattle.def_names.specs.Fault.{Rules, run_rules, fault, faults_if, again}
use Rattle.def_names.specs.NameFaults.{undeclared, declared_twice, has_rank, taken_in, misused, has_bad_extents, bad_extents, reserved_variables, calls_runtime, runtime_calls, faults_of_names}
use Rattle.def_names.specs.Laws.{HasNone}
use Rattle.def_names.proofs.Sound.{sound_has_none}
use Rattle.def_names.proofs.Lists.{names_at}
use Rattle.def_kernel.specs.Form.{IsKernelAct, IsKernelCode}
use Rattle.def_meaning.specs.Apart.{has_name, AreApart}
use Rattle.def_sweep.specs.Declared.{unit_name}
use Rattle.def_names.proofs.NameLists.{has-append}
use Rattle.def_names.proofs.Variables.{or_false, or_left, or_right}
use Rattle.def_meaning.proofs.Variables.{name_comm}
use Rattle.law_sweep.proofs.Variables.{variables_stand}
use Rattle.law_emitted.specs.Checked.{IsChecked}
use Rattle.law_emitted.proofs.Lists.{Each, each_append, each_more, each_both, none_each}
use Rattle.def_names.proofs.Faultless.{none_front, none_behind, none_if, apart_places}
use Rattle.law_emitted.proofs.Texts.{Known}
use Rattle.law_emitted.proofs.Statements.{not_false}
use Rattle.law_emitted.proofs.CheckedUnits.{dummy_names, extents_dummies, names_known}
use Rattle.law_emitted.proofs.Sources.{of_each, UnitSound, all_sound}
use Rattle.law_emitted.proofs.UnitFaults.{flat_none}

-- ---- a program in kernel form calls no runtime

abbrev pub NoRuntime : At Act → Type 0
NoRuntime s = (b : Bool) → taken_in b s.1 ≡ in_act s.1

mutual
  plain_act : (line : ℕ) (a : Act) → IsKernelAct a → Each NoRuntime ((line, a) ∷ inner a)
  plain_act line (assign x subs e) k = (λ b. refl, tt)
  plain_act line (choose c a b) k = (λ t. refl, each_append NoRuntime (statements a) (statements b) (plain_code a k.0) (plain_code b k.1))
  plain_act line (loop x a b c body m) k = (λ t. refl, plain_code body k.1)
  plain_act line (during c body) k = (λ t. refl, plain_code body k)
  plain_act line (call name args) k = (λ t. refl, tt)
  plain_act line (runtime r) k = absurd k

  pub plain_code : (c : Code) → IsKernelCode c → Each NoRuntime (statements c)
  plain_code stop k = tt
  plain_code (step line a rest) k = let here = plain_act line a k.0 in (here.0, each_append NoRuntime (inner a) (statements rest) here.1 (plain_code rest k.1))

-- ---- what a checked program has of the names of each of its units

pub record NamesSound (ps : List Procedure) (u : Procedure) : Type 0 where
  pub dummies_once : AreApart u.dummies
  pub extent_dummy : (d : List ℕ) → is_extent d u.declarations ≡ true → has_name d u.dummies ≡ true
  pub extents : Each (λ d. has_bad_extents u d ≡ false) u.declarations
  pub stands : Each (λ (s : At Act). Each (λ n. (has_name n.name (variables u) ≡ true) × (has_rank u n ≡ true)) (in_act s.1)) (statements u.body)
  pub no_undeclared : undeclared u ≡ []
  pub no_twice : declared_twice u ≡ []
  pub no_misused : misused run_rules u ≡ []
  pub no_bad_extents : bad_extents u ≡ []
  -- no unit has the name of a variable
  pub no_unit : (x : List ℕ) → has_name x (variables u) ≡ true → has_name x (map unit_name ps) ≡ false

-- a unit that isn't found is none of the list
not_found : (us : List Procedure) (x : List ℕ) → is_some (find_unit us x) ≡ false → has_name x (map unit_name us) ≡ false
not_found [] x h = refl
not_found (v ∷ us) x h = go (name_eq v.name x) refl h (not_found us x)
  where
    go : (b : Bool) → name_eq v.name x ≡ b → is_some (if b then Some v else find_unit us x) ≡ false → (is_some (find_unit us x) ≡ false → has_name x (map unit_name us) ≡ false) → (name_eq x v.name || has_name x (map unit_name us)) ≡ false
    go true e h ih = absurd cc
    go false e h ih = rw (name_comm v.name x e, ih h) refl

-- and the other way round
pub not_there : (us : List Procedure) (x : List ℕ) → has_name x (map unit_name us) ≡ false → is_some (find_unit us x) ≡ false
not_there [] x h = refl
not_there (v ∷ us) x h = let p = or_false (name_eq x v.name) (has_name x (map unit_name us)) h in ap (λ b. is_some (if b then Some v else find_unit us x)) (name_comm x v.name p.0) ∙ not_there us x p.1

module _ (rules : Rules) (ps : List Procedure) (checked : IsChecked rules ps) where
  none : HasNone rules ps
  none = sound_has_none rules ps checked.sound

  module _ (u : Procedure) (s : UnitSound ps u) (h : faults_of_names rules ps u ≡ []) where
    once : declared_twice u ≡ []
    once = none_front (declared_twice u) _ (none_behind (undeclared u) _ h)

    ranked : misused rules u ≡ []
    ranked = none_front (misused rules u) _ (none_behind (declared_twice u) _ (none_behind (undeclared u) _ h))

    extended : bad_extents u ≡ []
    extended = none_front (bad_extents u) _ (none_behind (misused rules u) _ (none_behind (declared_twice u) _ (none_behind (undeclared u) _ h)))

    unreserved : reserved_variables ps u ≡ []
    unreserved = none_front (reserved_variables ps u) _ (none_behind (bad_extents u) _ (none_behind (misused rules u) _ (none_behind (declared_twice u) _ (none_behind (undeclared u) _ h))))

    all_fit : Each (λ d. has_bad_extents u d ≡ false) u.declarations
    all_fit =
        each_more (λ d. faults_if (has_bad_extents u d) (fault 12 d.line) ≡ []) (λ d. has_bad_extents u d ≡ false) (λ d e. none_if (has_bad_extents u d) (fault 12 d.line) e) u.declarations
        (none_each (λ d. faults_if (has_bad_extents u d) (fault 12 d.line)) u.declarations extended)

    -- whatever the rules say of calls of the runtime
    abbrev FaultsAt : Bool → At Act → Type 0
    FaultsAt b t = flat_map (λ n. faults_if (not (has_rank u n)) (fault 9 t.0)) (taken_in b t.1) ≡ []

    faults_there : Each (FaultsAt rules.takes_runtime) (statements u.body)
    faults_there = none_each (λ (t : At Act). flat_map (λ n. faults_if (not (has_rank u n)) (fault 9 t.0)) (taken_in rules.takes_runtime t.1)) (statements u.body) ranked

    abbrev InPlace : At Act → Type 0
    InPlace t = flat_map (λ n. faults_if (not (has_rank u n)) (fault 9 t.0)) (in_act t.1) ≡ []

    in_place : Each InPlace (statements u.body)
    in_place =
        each_more (λ (t : At Act). NoRuntime t × FaultsAt rules.takes_runtime t) InPlace (λ t k. sym (ap (flat_map (λ n. faults_if (not (has_rank u n)) (fault 9 t.0))) (k.0 rules.takes_runtime)) ∙ k.1) (statements u.body)
        (each_both NoRuntime (FaultsAt rules.takes_runtime) (statements u.body) (plain_code u.body s.kernel) faults_there)

    ranks_run : misused run_rules u ≡ []
    ranks_run =
        flat_none (λ (t : At Act). flat_map (λ n. faults_if (not (has_rank u n)) (fault 9 t.0)) (taken_in true t.1)) (statements u.body)
        (each_more (λ (t : At Act). NoRuntime t × InPlace t) (FaultsAt true) (λ t k. ap (flat_map (λ n. faults_if (not (has_rank u n)) (fault 9 t.0))) (k.0 true) ∙ k.1) (statements u.body) (each_both NoRuntime InPlace (statements u.body) (plain_code u.body s.kernel) in_place))

    all_stand : Each (λ (t : At Act). Each (λ n. (has_name n.name (variables u) ≡ true) × (has_rank u n ≡ true)) (in_act t.1)) (statements u.body)
    all_stand =
        each_more (λ (t : At Act). Each (Known (variables u)) (in_act t.1) × InPlace t) (λ t. Each (λ n. (has_name n.name (variables u) ≡ true) × (has_rank u n ≡ true)) (in_act t.1))
        (λ t k. each_both (Known (variables u)) (λ n. has_rank u n ≡ true) (in_act t.1) k.0 (each_more (λ n. faults_if (not (has_rank u n)) (fault 9 t.0) ≡ []) (λ n. has_rank u n ≡ true) (λ n e. not_false (has_rank u n) (none_if (not (has_rank u n)) (fault 9 t.0) e)) (in_act t.1) (none_each (λ n. faults_if (not (has_rank u n)) (fault 9 t.0)) (in_act t.1) k.1)))
        (statements u.body) (each_both (λ (t : At Act). Each (Known (variables u)) (in_act t.1)) InPlace (statements u.body) (names_known u) in_place)

    apart_from_units : (x : List ℕ) → has_name x (variables u) ≡ true → has_name x (map unit_name ps) ≡ false
    apart_from_units x k = of_each (λ y. has_name y (map unit_name ps) ≡ false) (names_at (places u)) (go (places u) each) x (sym (variables_stand u x) ∙ k)
      where
        each : Each (λ (p : At (List ℕ)). has_name p.1 (map unit_name ps) ≡ false) (places u)
        each =
            each_more (λ (p : At (List ℕ)). faults_if (is_reserved p.1 || is_some (find_unit ps p.1)) (fault 18 p.0) ≡ []) (λ p. has_name p.1 (map unit_name ps) ≡ false)
            (λ p e. not_found ps p.1 (or_false (is_reserved p.1) (is_some (find_unit ps p.1)) (none_if (is_reserved p.1 || is_some (find_unit ps p.1)) (fault 18 p.0) e)).1) (places u)
            (none_each (λ (p : At (List ℕ)). faults_if (is_reserved p.1 || is_some (find_unit ps p.1)) (fault 18 p.0)) (places u) unreserved)

        go : (qs : List (At (List ℕ))) → Each (λ (p : At (List ℕ)). has_name p.1 (map unit_name ps) ≡ false) qs → Each (λ y. has_name y (map unit_name ps) ≡ false) (names_at qs)
        go [] e = tt
        go (q ∷ qs) e = (e.0, go qs e.1)

    names_sound : NamesSound ps u
    names_sound = record {
      dummies_once = subst AreApart (dummy_names u.line u.dummies) (apart_places 8 [] (dummy_places u) (none_front (again 8 [] (dummy_places u)) (again 8 [] (declared_places u)) once));
      extent_dummy = λ d k. extents_dummies u d u.declarations all_fit k;
      extents = all_fit;
      stands = all_stand;
      no_undeclared = none_front (undeclared u) _ h;
      no_twice = once;
      no_misused = ranks_run;
      no_bad_extents = extended;
      no_unit = apart_from_units;
    }

  pub all_names_sound : Each (λ u. UnitSound ps u × NamesSound ps u) ps
  all_names_sound =
      each_more (λ u. UnitSound ps u × (faults_of_names rules ps u ≡ [])) (λ u. UnitSound ps u × NamesSound ps u) (λ u k. (k.0, names_sound u k.0 k.1)) ps
      (each_both (UnitSound ps) (λ u. faults_of_names rules ps u ≡ []) ps (all_sound rules ps checked) (none_each (faults_of_names rules ps) ps none.names))

-- ---- names that no emitted unit has

-- a name of a list among those of all lists
pub in_flat : (f : Procedure → List (List ℕ)) (us : List Procedure) → Each (λ u. (x : List ℕ) → has_name x (f u) ≡ true → has_name x (flat_map f us) ≡ true) us
in_flat f [] = tt
in_flat f (u ∷ us) = (
  λ x h. has-append x (f u) (flat_map f us) ∙ or_left (has_name x (f u)) (has_name x (flat_map f us)) h,
  each_more (λ v. (x : List ℕ) → has_name x (f v) ≡ true → has_name x (flat_map f us) ≡ true) (λ v. (x : List ℕ) → has_name x (f v) ≡ true → has_name x (f u ++ flat_map f us) ≡ true) (λ v k x h. has-append x (f u) (flat_map f us) ∙ or_right (has_name x (f u)) (has_name x (flat_map f us)) (k x h)) us (in_flat f us),
)

-- calls of the runtime are no faults of a text that is run
pub runtime_allowed : (u : Procedure) → runtime_calls run_rules u ≡ []
runtime_allowed u = flat_none (λ (s : At Act). faults_if (not true && calls_runtime s.1) (fault 18 s.0)) (statements u.body) (all (statements u.body))
  where
    all : (ss : List (At Act)) → Each (λ (s : At Act). faults_if (not true && calls_runtime s.1) (fault 18 s.0) ≡ []) ss
    all [] = tt
    all (s ∷ ss) = (refl, all ss)

-- seven kinds of faults
pub none_of_seven : (a b c d e f g : List Refusal) → a ≡ [] → b ≡ [] → c ≡ [] → d ≡ [] → e ≡ [] → f ≡ [] → g ≡ [] → a ++ (b ++ (c ++ (d ++ (e ++ (f ++ g))))) ≡ []
none_of_seven a b c d e f g ha hb hc hd he hf hg = λ i. ha i ++ (hb i ++ (hc i ++ (hd i ++ (he i ++ (hf i ++ hg i)))))
