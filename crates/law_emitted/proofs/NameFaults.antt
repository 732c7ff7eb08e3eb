-- What is emitted has no faults of names.
use Rattle.std.proofs.Common.{◌≡◌, ℕ, Bool, true, false, List, [], ◌∷◌, ◌++◌, map, refl, sym, ◌∙◌, if◌then◌else◌}
use Rattle.std.specs.Prelude.{◌||◌, flat_map, is_some}
use Rattle.adj_tree.specs.Code.{name_eq, Procedure}
use Rattle.def_text.specs.Written.{IsName}
use Rattle.def_meaning.specs.Written.{find_unit}
use Rattle.def_names.specs.Reserved.{is_reserved}
use Rattle.def_names.specs.Statements.{At}
use Rattle.def_names.specs.Variables.{places, variables}
use Rattle.def_names.specs.Fault.{run_rules, fault, faults_if}
use Rattle.def_names.specs.NameFaults.{undeclared, declared_twice, misused, bad_extents, reserved_variables, runtime_calls, too_many_variables, faults_of_names, name_faults}
use Rattle.def_names.proofs.Lists.{names_at}
use Rattle.def_meaning.specs.Apart.{has_name}
use Rattle.def_sweep.specs.Declared.{unit_name, unit_at}
use Rattle.def_names.proofs.NameLists.{has-append}
use Rattle.def_names.proofs.Variables.{or_false}
use Rattle.def_sweep.specs.Names.{adjoint_name, forth_name, back_name}
use Rattle.def_sweep.specs.Marking.{ProgramMarks, first_statement, plan_in}
use Rattle.def_sweep.specs.Program.{has_adjoint, has_pair, is_carried_with, made_names, all_units, emitted_units_with, emitted_for_with, schedules_in}
use Rattle.law_sweep.specs.Source.{is_unit}
use Rattle.law_sweep.proofs.Variables.{variables_stand}
use Rattle.law_emitted.proofs.Lists.{Each, each_more}
use Rattle.law_emitted.specs.Shadowed.{HasShadows, AllHaveShadows}
use Rattle.law_emitted.specs.Splits.{MaySplit, AllMaySplit}
use Rattle.law_emitted.specs.Emitted.{NamesHaveNone}
use Rattle.law_emitted.proofs.Tables.{IsFree}
use Rattle.law_emitted.proofs.Sources.{each_name, of_each, UnitSound, each_there, all_named}
use Rattle.law_emitted.proofs.UnitFaults.{flat_none, if_none, OfMade, each_emitted, not_emitted, others_apart}
use Rattle.law_emitted.proofs.Makings.{Making, as_adjoint, as_forth, as_back, its_name, made, is_made}
use Rattle.law_emitted.proofs.MakingNames.{its_no_variable}
use Rattle.law_emitted.proofs.Following.{follows_any}
use Rattle.law_emitted.proofs.MakingFaults.{places_declared, no_bad_extents, no_misused, no_twice, no_undeclared, each_declared}
pub use Rattle.law_emitted.proofs.SourceNames.{NamesSound, all_names_sound, not_there, in_flat, runtime_allowed, none_of_seven}

module _ (sb : Bool) (m : ProgramMarks) (ps : List Procedure) (head : Procedure) (vars outvars : List Bool) (named : Each (λ u. IsName u.name) ps) (there : Each (λ u. is_unit ps u.name ≡ true) ps) where
  abbrev qs : List Procedure
  qs = emitted_units_with sb m ps head vars outvars ps

  abbrev NoUnit : List ℕ → Type 0
  NoUnit x = has_name x (map unit_name qs) ≡ false

  -- neither the unit nor one that is made of it
  abbrev Other : List ℕ → Procedure → Type 0
  Other z u = (name_eq z u.name ≡ false) × ((k : Making) → is_made m ps head u k ≡ true → name_eq z (its_name ps u k) ≡ false)

  -- a variable of the source
  own_no_unit : (x : List ℕ) → has_name x (map unit_name ps) ≡ false → has_name x (flat_map variables ps) ≡ true → NoUnit x
  own_no_unit x h k = not_emitted sb m ps head vars outvars x ps (go ps (others_apart sb m ps head vars outvars ps x h) there)
    where
      go : (us : List Procedure) → Each (λ u. name_eq x u.name ≡ false) us → Each (λ u. is_unit ps u.name ≡ true) us → Each (Other x) us
      go [] n t = tt
      go (v ∷ us) n t = ((n.0, λ j e. its_no_variable ps x v j k t.0), go us n.1 t.1)

  -- a name that was made
  made_no_unit : (z : List ℕ) → has_name z (all_units m ps head) ≡ false → NoUnit z
  made_no_unit z h =
      let both = or_false (has_name z (map unit_name ps)) (has_name z (made_names m ps head ps)) (sym (has-append z (map unit_name ps) (made_names m ps head ps)) ∙ h) in
      not_emitted sb m ps head vars outvars z ps (go ps (others_apart sb m ps head vars outvars ps z both.0) both.1)
    where
      -- of two lists the name is in neither
      neither : (xs ys : List (List ℕ)) → has_name z (xs ++ ys) ≡ false → (has_name z xs ≡ false) × (has_name z ys ≡ false)
      neither xs ys n = or_false (has_name z xs) (has_name z ys) (sym (has-append z xs ys) ∙ n)

      one : (b : Bool) (x : List ℕ) → has_name z (if b then x ∷ [] else []) ≡ false → b ≡ true → name_eq z x ≡ false
      one true x n e = (or_false (name_eq z x) false n).0
      one false x n e = absurd cc

      two : (b : Bool) (x y : List ℕ) → has_name z (if b then x ∷ y ∷ [] else []) ≡ false → b ≡ true → (name_eq z x ≡ false) × (name_eq z y ≡ false)
      two true x y n e = let p = or_false (name_eq z x) (name_eq z y || false) n in (p.0, (or_false (name_eq z y) false p.1).0)
      two false x y n e = absurd cc

      go : (us : List Procedure) → Each (λ u. name_eq z u.name ≡ false) us → has_name z (made_names m ps head us) ≡ false → Each (Other z) us
      go [] n k = tt
      go (v ∷ us) n k =
          let first = neither (if has_adjoint m ps head v.name then adjoint_name ps v ∷ [] else []) ((if has_pair m ps head v.name then forth_name ps v ∷ back_name ps v ∷ [] else []) ++ made_names m ps head us) k in
          let rest = neither (if has_pair m ps head v.name then forth_name ps v ∷ back_name ps v ∷ [] else []) (made_names m ps head us) first.1 in
          ((n.0, its first.0 rest.0), go us n.1 rest.1)
        where
          its : has_name z (if has_adjoint m ps head v.name then adjoint_name ps v ∷ [] else []) ≡ false → has_name z (if has_pair m ps head v.name then forth_name ps v ∷ back_name ps v ∷ [] else []) ≡ false → (j : Making) → is_made m ps head v j ≡ true → name_eq z (its_name ps v j) ≡ false
          its a p (as_adjoint at_turn at_end) e = one (has_adjoint m ps head v.name) (adjoint_name ps v) a e
          its a p as_forth e = (two (has_pair m ps head v.name) (forth_name ps v) (back_name ps v) p e).0
          its a p as_back e = (two (has_pair m ps head v.name) (forth_name ps v) (back_name ps v) p e).1

  -- ---- no faults of names

  -- where the names at all places are neither reserved nor those of units
  unreserved_places : (u : Procedure) → Each (λ (p : At (List ℕ)). (is_reserved p.1 ≡ false) × NoUnit p.1) (places u) → reserved_variables qs u ≡ []
  unreserved_places u h =
      flat_none (λ (p : At (List ℕ)). faults_if (is_reserved p.1 || is_some (find_unit qs p.1)) (fault 18 p.0)) (places u)
      (each_more (λ (p : At (List ℕ)). (is_reserved p.1 ≡ false) × NoUnit p.1) (λ p. faults_if (is_reserved p.1 || is_some (find_unit qs p.1)) (fault 18 p.0) ≡ []) (λ p k. if_none (is_reserved p.1 || is_some (find_unit qs p.1)) (fault 18 p.0) (rw (k.0, not_there qs p.1 k.1) refl)) (places u) h)

  -- a name of a unit that is neither reserved nor a unit's
  abbrev IsApart : List ℕ → Type 0
  IsApart x = (is_reserved x ≡ false) × NoUnit x

  own_apart : (u : Procedure) → UnitSound ps u → NamesSound ps u → ((x : List ℕ) → has_name x (variables u) ≡ true → has_name x (flat_map variables ps) ≡ true) → (x : List ℕ) → has_name x (variables u) ≡ true → IsApart x
  own_apart u s n inside x h = ((of_each IsFree (variables u) s.free x h).1, own_no_unit x (n.no_unit x h) (inside x h))

  -- the places of a unit have its variables
  own_places : (u : Procedure) → ((x : List ℕ) → has_name x (variables u) ≡ true → IsApart x) → Each (λ (p : At (List ℕ)). IsApart p.1) (places u)
  own_places u f = go (places u) (each_name IsApart (names_at (places u)) (λ x h. f x (variables_stand u x ∙ h)))
    where
      go : (ps : List (At (List ℕ))) → Each IsApart (names_at ps) → Each (λ (p : At (List ℕ)). IsApart p.1) ps
      go [] h = tt
      go (p ∷ ps) h = (h.0, go ps h.1)

  -- a unit that is emitted as it is
  carried_none : (u : Procedure) → UnitSound ps u → NamesSound ps u → ((x : List ℕ) → has_name x (variables u) ≡ true → has_name x (flat_map variables ps) ≡ true) → faults_of_names run_rules qs u ≡ []
  carried_none u s n inside =
      none_of_seven (undeclared u) (declared_twice u) (misused run_rules u) (bad_extents u) (reserved_variables qs u) (runtime_calls run_rules u) (too_many_variables run_rules u)
      n.no_undeclared n.no_twice n.no_misused n.no_bad_extents (unreserved_places u (own_places u (own_apart u s n inside))) (runtime_allowed u) refl

  -- and what is made of one
  made_none : (u : Procedure) → UnitSound ps u → NamesSound ps u → ((x : List ℕ) → has_name x (variables u) ≡ true → has_name x (flat_map variables ps) ≡ true) → HasShadows (plan_in m ps u) (first_statement ps u.name) u.body → MaySplit (schedules_in sb ps) m.adjointed m.split (first_statement ps u.name) u.body → OfMade sb m ps head vars outvars (λ v. faults_of_names run_rules qs v ≡ []) u
  made_none u s n inside h may k clears is =
      let v = made sb m ps (all_units m ps head) u k in
      let f = follows_any sb m ps named u s h may k in
      none_of_seven (undeclared v) (declared_twice v) (misused run_rules v) (bad_extents v) (reserved_variables qs v) (runtime_calls run_rules v) (too_many_variables run_rules v)
      (no_undeclared sb m ps (all_units m ps head) u s n k clears f) (no_twice sb m ps (all_units m ps head) u s n k) (no_misused sb m ps (all_units m ps head) u s n k clears f) (no_bad_extents sb m ps (all_units m ps head) u s n k)
      (unreserved_places v
      (each_more (λ (p : At (List ℕ)). has_name p.1 (map (λ d. d.name) v.declarations) ≡ true) (λ p. IsApart p.1) (λ p j. each_declared sb m ps (all_units m ps head) u s n k IsApart (own_apart u s n inside) (λ z free j. (free.1, made_no_unit z j)) p.1 j) (places v)
      (places_declared sb m ps (all_units m ps head) u s n k clears f)))
      (runtime_allowed v) refl

  emitted_none : Each (λ u. UnitSound ps u × NamesSound ps u) ps → AllHaveShadows m ps ps → AllMaySplit sb m ps ps → name_faults run_rules qs ≡ []
  emitted_none sound shadowed may = flat_none (faults_of_names run_rules qs) qs (each_emitted sb m ps head vars outvars (λ u. faults_of_names run_rules qs u ≡ []) ps (carried ps sound (in_flat variables ps)) (all_made ps sound (in_flat variables ps) shadowed may))
    where
      carried : (us : List Procedure) → Each (λ u. UnitSound ps u × NamesSound ps u) us → Each (λ u. (x : List ℕ) → has_name x (variables u) ≡ true → has_name x (flat_map variables ps) ≡ true) us → Each (λ u. is_carried_with sb m ps head u.name ≡ true → faults_of_names run_rules qs u ≡ []) us
      carried [] s f = tt
      carried (u ∷ us) s f = (λ h. carried_none u s.0.0 s.0.1 f.0, carried us s.1 f.1)

      all_made : (us : List Procedure) → Each (λ u. UnitSound ps u × NamesSound ps u) us → Each (λ u. (x : List ℕ) → has_name x (variables u) ≡ true → has_name x (flat_map variables ps) ≡ true) us → AllHaveShadows m ps us → AllMaySplit sb m ps us → Each (OfMade sb m ps head vars outvars (λ v. faults_of_names run_rules qs v ≡ [])) us
      all_made [] s f h may = tt
      all_made (u ∷ us) s f h may = (made_none u s.0.0 s.0.1 f.0 h.0 may.0, all_made us s.1 f.1 h.1 may.1)

pub names_have_none : NamesHaveNone
names_have_none rules ps checked sb m shadowed may head vars outvars = go (unit_at head ps)
  where
    go : (us : List Procedure) → name_faults run_rules (emitted_for_with sb m ps vars outvars us) ≡ []
    go [] = refl
    go (u ∷ us) = emitted_none sb m ps u vars outvars (all_named rules ps checked) (each_there ps) (all_names_sound rules ps checked) shadowed may
