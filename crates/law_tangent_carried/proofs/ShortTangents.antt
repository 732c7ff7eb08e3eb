-- The names of what is emitted for the tangent of the kernel of an accepted program are short.
use Rattle.std.proofs.Common.{◌≡◌, ◌≤◌, ℕ, Bool, true, false, List, [], ◌∷◌, ◌++◌, length, map, sym, subst, arith, codes, length-append, if◌then◌else◌}
use Rattle.std.proofs.lemmas.List.{append-nil}
use Rattle.adj_tree.specs.Code.{helper, work, temp, name_eq, Code, Procedure}
use Rattle.adj_tree.proofs.Names.{name_refl}
use Rattle.def_names.specs.Statements.{At}
use Rattle.def_names.specs.Variables.{places, variables}
use Rattle.def_meaning.specs.Apart.{has_name}
use Rattle.def_sweep.specs.Naming.{tangent_text, wanted_for, named_for}
use Rattle.def_names.specs.Numbers.{Vars}
use Rattle.def_sweep.specs.Declared.{helpers_from, unit_name}
use Rattle.def_kernel.specs.Kernel.{EachUnit}
use Rattle.law_emitted.specs.Emitted.{deepest}
use Rattle.law_emitted.proofs.Lists.{Each, each_append}
use Rattle.law_emitted.proofs.Tables.{has_shadow_for, has_helper_for}
use Rattle.law_limits.proofs.TableLengths.{Entry, Modest, IsBare, Unwanted, WantOwn, from_modest, from_own, from_each, own_append, bare_short, work_bare, temp_bare, works_apart, temps_apart, table_short_for}
use Rattle.law_limits.proofs.UnitNames.{unit_name_short}
use Rattle.law_limits.proofs.ShortEmitted.{IsModest, HasShortNames, named_count, each_short, declared_short, variables_short}
use Rattle.law_limits.proofs.Runnable.{IsModestKernel}
use Rattle.def_tangent.specs.Program.{Carried, tangent_name, parts_used, temps_used, helpers_used, names_of_unit, has_tangent, stays, made_names, emitted_units}
use Rattle.law_tangent_carried.proofs.HelperCounts.{list_parts, list_temps}
use Rattle.law_tangent_carried.proofs.HelpersUsed.{are_helpers}
use Rattle.law_tangent_carried.proofs.EmittedUnits.{all_units, tangent_of, each_emitted}

-- ---- the table of a tangent's names

-- a part and a value want names of their own
work_no_temp : (k j : ℕ) → wanted_for tangent_text (helper work k) ≡ wanted_for tangent_text (helper temp j) → ⊥
work_no_temp k j e = let a = wanted_for tangent_text (helper work k) in let same : true ≡ false = sym (subst (λ b. name_eq a b ≡ true) e (name_refl a)) in cc

helpers_own : (n m : ℕ) → WantOwn tangent_text (helpers_from work 1 n ++ helpers_from temp 1 m)
helpers_own n m =
    own_append tangent_text (helpers_from work 1 n) (helpers_from temp 1 m) (from_own tangent_text work (works_apart tangent_text) 1 n) (from_own tangent_text temp (temps_apart tangent_text) 1 m)
    (from_each (λ v. Unwanted tangent_text (helpers_from temp 1 m) (wanted_for tangent_text v)) work (λ k. from_each (λ w. wanted_for tangent_text (helper work k) ≡ wanted_for tangent_text w → ⊥) temp (work_no_temp k) 1 m) 1 n)

helpers_short : (on : Vars) (c : Code) → deepest c ≤ 100 → (taken : List (List ℕ)) → length taken ≤ 9000000000 → Each Entry (named_for tangent_text taken (helpers_used on c))
helpers_short on c deep taken few =
    let n = parts_used on c in
    let m = temps_used on c in
    let parts = list_parts on 100 c deep in
    let temps = list_temps on 100 c deep in
    let works = helpers_from work 1 n in
    let values = helpers_from temp 1 m in
    let P : List (List ℕ) → Type 0 = λ xs. Each Entry (named_for tangent_text xs (helpers_used on c)) in
    subst P (append-nil taken)
    (bare_short tangent_text taken (omega arith) (works ++ values) (each_append (Modest tangent_text) works values (from_modest tangent_text work 1 n (omega arith)) (from_modest tangent_text temp 1 m (omega arith)))
    (each_append (IsBare tangent_text) works values (from_each (IsBare tangent_text) work (work_bare tangent_text) 1 n) (from_each (IsBare tangent_text) temp (temp_bare tangent_text) 1 m)) (helpers_own n m) [] tt)

made_count : (c : Carried) (ps : List Procedure) (head : List ℕ) (us : List Procedure) → length (made_names c ps head us) ≤ length us
made_count c ps head [] = omega arith
made_count c ps head (u ∷ us) =
    let rest = made_count c ps head us in
    elim (has_tangent c ps head u.name) as (λ b. length (if b then tangent_name ps u.name ∷ made_names c ps head us else made_names c ps head us) ≤ length (u ∷ us)) [ true ↦ omega arith | false ↦ omega arith ]

-- ---- the emitted units

-- a unit that declares all that stands in it
abbrev pub DeclaresAll : Procedure → Type 0
DeclaresAll v = Each (λ (p : At (List ℕ)). has_name p.1 (map (λ d. d.name) v.declarations) ≡ true) (places v)

module _ (c : Carried) (ps : List Procedure) (head : Procedure) (vars : List Bool) (k : IsModestKernel ps) (known : EachUnit (λ u. length (variables u) ≤ 1073741823) ps) where
  table : (u : Procedure) → IsModest ps u → Each Entry (names_of_unit (c u.name) (all_units c ps head vars) u)
  table u s =
      let few = s.few in
      let less = k.few_units in
      let a = named_count ps in
      let b = made_count c ps head.name ps in
      let d = length-append (map unit_name ps) (made_names c ps head.name ps) in
      table_short_for tangent_text (helpers_used (c u.name) u.body) (helpers_short (c u.name) u.body s.shallow) (c u.name) (variables u) (all_units c ps head vars) (each_short (variables u) s.short) (omega arith) (omega arith)

  tangent_short : (u : Procedure) → IsModest ps u → DeclaresAll (tangent_of c ps head vars u) → HasShortNames (tangent_of c ps head vars u)
  tangent_short u s declares =
      let on = c u.name in
      let hs = helpers_used on u.body in
      let units = all_units c ps head vars in
      let free = s.sound.free in
      let helpers = are_helpers on u.body in
      record {
        name = unit_name_short ps k.few_units k.names k.short known (codes "_D") (omega arith) u.name;
        known = variables_short (tangent_of c ps head vars u) (declared_short u on hs (names_of_unit on units u) (table u s) s.short (has_shadow_for tangent_text (variables u) units on hs free helpers) (has_helper_for tangent_text (variables u) units on hs free helpers)) declares;
      }

  own_short : (u : Procedure) → IsModest ps u → HasShortNames u
  own_short u s = let le = s.named in record { name = omega arith; known = λ x h. let short = s.short x h in omega arith }

  pub emitted_short : Each (λ u. has_tangent c ps head.name u.name ≡ true → DeclaresAll (tangent_of c ps head vars u)) ps → Each HasShortNames (emitted_units c ps head vars ps)
  emitted_short declare = each_emitted c ps head vars HasShortNames ps (stay ps k.units) (make ps k.units declare)
    where
      stay : (us : List Procedure) → Each (IsModest ps) us → Each (λ u. stays c ps head.name u.name ≡ true → HasShortNames u) us
      stay [] h = tt
      stay (u ∷ us) h = ((λ e. own_short u h.0), stay us h.1)

      make : (us : List Procedure) → Each (IsModest ps) us → Each (λ u. has_tangent c ps head.name u.name ≡ true → DeclaresAll (tangent_of c ps head vars u)) us → Each (λ u. has_tangent c ps head.name u.name ≡ true → HasShortNames (tangent_of c ps head vars u)) us
      make [] h d = tt
      make (u ∷ us) h d = ((λ e. tangent_short u h.0 (d.0 e)), make us h.1 d.1)
