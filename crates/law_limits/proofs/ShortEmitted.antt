-- The names of what is emitted for the kernel of an accepted program are short.
use Rattle.std.proofs.Common.{◌≡◌, ◌≤◌, ◌*◌, ℕ, Bool, true, false, List, [], ◌∷◌, ◌++◌, length, map, refl, sym, ap, ◌∙◌, arith, length-append, if◌then◌else◌}
use Rattle.adj_tree.specs.Code.{Var, plain, shadow, name_eq, Declaration, Procedure}
use Rattle.adj_tree.specs.Size.{code_depth}
use Rattle.def_text.specs.Written.{IsName}
use Rattle.def_names.specs.Statements.{At}
use Rattle.def_names.specs.Variables.{places, variables}
use Rattle.def_names.proofs.Lists.{names_at}
use Rattle.def_meaning.specs.Apart.{has_name}
use Rattle.def_sweep.specs.Callees.{nothing}
use Rattle.def_sweep.specs.Naming.{adjoint_text, Named, name_in}
use Rattle.def_names.specs.Numbers.{Vars}
use Rattle.def_sweep.specs.MarkedProgram.{declared_behind}
use Rattle.def_sweep.specs.Declared.{declaration, declared_helpers, unit_name}
use Rattle.def_names.proofs.Variables.{or_left, or_right}
use Rattle.def_meaning.proofs.Variables.{var_refl}
use Rattle.adj_tree.proofs.Names.{name_same}
use Rattle.def_sweep.specs.Marking.{ProgramMarks, first_statement, plan_in}
use Rattle.def_sweep.specs.Names.{adjoint_name, forth_name, back_name}
use Rattle.def_sweep.specs.Plan.{Plan}
use Rattle.def_sweep.specs.Program.{helpers_used_with, helpers_forth, made_names, all_units, has_adjoint, has_pair, is_carried_with, schedules_in}
use Rattle.law_sweep.proofs.Variables.{variables_stand}
use Rattle.law_emitted.proofs.Lists.{Each, each_append}
use Rattle.law_emitted.specs.Shadowed.{HasShadows, AllHaveShadows}
use Rattle.law_emitted.specs.Splits.{MaySplit, AllMaySplit}
use Rattle.law_emitted.specs.Emitted.{deepest}
use Rattle.law_emitted.proofs.Following.{follows_any}
use Rattle.law_emitted.proofs.Makings.{Making, as_adjoint, as_forth, as_back, its_name, its_shadows, its_plan, its_helpers, made, ClearsOwn}
use Rattle.law_emitted.proofs.MakingCode.{its_are_helpers}
use Rattle.law_emitted.proofs.MakingFaults.{its_table, places_declared}
use Rattle.law_emitted.proofs.Sources.{each_name, of_each, UnitSound}
use Rattle.law_emitted.proofs.NameFaults.{NamesSound}
use Rattle.law_emitted.proofs.Tables.{among, has_var, table_for, has_shadow_for, has_helper_for}
use Rattle.law_emitted.proofs.UnitFaults.{OfMade}
use Rattle.law_limits.proofs.HelperCounts.{list_loops, list_works, list_temps}
use Rattle.law_limits.proofs.TableLengths.{Entry, name_short, table_short, forth_table_short}

abbrev pub Short : List ℕ → Type 0
Short x = length x ≤ 63

declaration_name : (line : ℕ) (ds : List Declaration) (x : List ℕ) → (declaration line ds x).name ≡ x
declaration_name line [] x = refl
declaration_name line (d ∷ ds) x =
    elim (name_eq d.name x) as (λ b. name_eq d.name x ≡ b → (if b then d else declaration line ds x).name ≡ x) [ true ↦ λ e. name_same d.name x e | false ↦ λ e. declaration_name line ds x ] refl

-- for each unit at most three are made
made_count : (m : ProgramMarks) (ps : List Procedure) (head : Procedure) (us : List Procedure) → length (made_names m ps head us) ≤ 3 * length us
made_count m ps head [] = omega arith
made_count m ps head (u ∷ us) =
    let rest = made_count m ps head us in
    let one = only_one (has_adjoint m ps head u.name) (adjoint_name ps u) in
    let two = only_two (has_pair m ps head u.name) (forth_name ps u) (back_name ps u) in
    let all = length-append (if has_adjoint m ps head u.name then adjoint_name ps u ∷ [] else []) ((if has_pair m ps head u.name then forth_name ps u ∷ back_name ps u ∷ [] else []) ++ made_names m ps head us) in
    let behind = length-append (if has_pair m ps head u.name then forth_name ps u ∷ back_name ps u ∷ [] else []) (made_names m ps head us) in
    omega arith
  where
    only_one : (b : Bool) (x : List ℕ) → length (if b then x ∷ [] else []) ≤ 1
    only_one true x = omega arith
    only_one false x = omega arith

    only_two : (b : Bool) (x y : List ℕ) → length (if b then x ∷ y ∷ [] else []) ≤ 2
    only_two true x y = omega arith
    only_two false x y = omega arith

pub named_count : (us : List Procedure) → length (map unit_name us) ≡ length us
named_count [] = refl
named_count (u ∷ us) = let rest = named_count us in omega arith

-- ---- what a made unit declares

-- where its table has the shadows of its source's variables that have one, and its helpers
module _ (u : Procedure) (a : Vars) (hs : List Var) (ns : List Named) (ns_short : Each Entry ns) (short : (x : List ℕ) → has_name x (variables u) ≡ true → length x ≤ 40) (shadowed : (x : List ℕ) → has_name x (variables u) ≡ true → a (plain x) ≡ true → has_var (shadow x) ns ≡ true) (helped : (v : Var) → among v hs ≡ true → has_var v ns ≡ true) where
  abbrev InNames : Declaration → Type 0
  InNames d = Short d.name

  behind_short : (xs : List (List ℕ)) → Each (λ x. has_name x (variables u) ≡ true) xs → Each InNames (declared_behind a ns u xs)
  behind_short [] h = tt
  behind_short (x ∷ xs) h =
      let rest = behind_short xs h.1 in
      let d = declaration u.line u.declarations x in
      let le = short x h.0 in
      let same : length d.name ≡ length x = ap length (declaration_name u.line u.declarations x) in
      let own : length d.name ≤ 63 = omega arith in
      elim (a (plain x)) as (λ b. a (plain x) ≡ b → Each InNames (if b then d ∷ record d { name = name_in ns (shadow x) } ∷ declared_behind a ns u xs else d ∷ declared_behind a ns u xs)) [ true ↦ λ e. (own, (name_short ns (shadow x) ns_short (shadowed x h.0 e), rest)) | false ↦ λ e. (own, rest) ] refl

  helpers_short : (line : ℕ) (vs : List Var) → ((v : Var) → among v vs ≡ true → among v hs ≡ true) → Each InNames (declared_helpers ns line vs)
  helpers_short line [] f = tt
  helpers_short line (v ∷ vs) f = (name_short ns v ns_short (helped v (f v (or_left _ (among v vs) (var_refl v)))), helpers_short line vs (λ w h. f w (or_right _ (among w vs) h)))

  pub declared_short : Each InNames (declared_behind a ns u (variables u) ++ declared_helpers ns u.line hs)
  declared_short =
      each_append InNames (declared_behind a ns u (variables u)) (declared_helpers ns u.line hs) (behind_short (variables u) (each_name (λ x. has_name x (variables u) ≡ true) (variables u) (λ x h. h))) (helpers_short u.line hs (λ w h. h))

-- ---- the variables of a unit that declares them all

module _ (v : Procedure) (short : Each (λ (d : Declaration). Short d.name) v.declarations) where
  declared_names : (ds : List Declaration) → Each (λ (d : Declaration). Short d.name) ds → Each Short (map (λ d. d.name) ds)
  declared_names [] h = tt
  declared_names (d ∷ ds) h = (h.0, declared_names ds h.1)

  at_places : (qs : List (At (List ℕ))) → Each (λ (p : At (List ℕ)). has_name p.1 (map (λ d. d.name) v.declarations) ≡ true) qs → Each Short (names_at qs)
  at_places [] h = tt
  at_places (q ∷ qs) h = (of_each Short (map (λ d. d.name) v.declarations) (declared_names v.declarations short) q.1 h.0, at_places qs h.1)

  pub variables_short : Each (λ (p : At (List ℕ)). has_name p.1 (map (λ d. d.name) v.declarations) ≡ true) (places v) → (x : List ℕ) → has_name x (variables v) ≡ true → length x ≤ 63
  variables_short declared x h = of_each Short (names_at (places v)) (at_places (places v) declared) x (sym (variables_stand v x) ∙ h)

-- ---- the variables of what is made of a unit

module _ (sb : Bool) (m : ProgramMarks) (ps : List Procedure) (units : List (List ℕ)) (u : Procedure) (s : UnitSound ps u) (n : NamesSound ps u) (k : Making) (ns_short : Each Entry (its_table sb m ps units u s n k)) (short : (x : List ℕ) → has_name x (variables u) ≡ true → length x ≤ 40) where
  abbrev a : Vars
  a = its_shadows m u k

  abbrev hs : List Var
  hs = its_helpers sb m ps u k

  abbrev ns : List Named
  ns = its_table sb m ps units u s n k

  all_declared : Each (λ (d : Declaration). Short d.name) (declared_behind a ns u (variables u) ++ declared_helpers ns u.line hs)
  all_declared =
      let helpers = its_are_helpers sb m ps u k in
      declared_short u a hs ns ns_short short (has_shadow_for adjoint_text (variables u) units a hs s.free helpers) (has_helper_for adjoint_text (variables u) units a hs s.free helpers)

  pub its_variable : Each (λ u. IsName u.name) ps → HasShadows (plan_in m ps u) (first_statement ps u.name) u.body → MaySplit (schedules_in sb ps) m.adjointed m.split (first_statement ps u.name) u.body → ClearsOwn m u k → (x : List ℕ) → has_name x (variables (made sb m ps units u k)) ≡ true → length x ≤ 63
  its_variable named shadows may clears = variables_short (made sb m ps units u k) all_declared (places_declared sb m ps units u s n k clears (follows_any sb m ps named u s shadows may k))

-- ---- the emitted units

-- what is known of a kernel
pub record IsModest (ps : List Procedure) (u : Procedure) : Type 0 where
  pub sound : UnitSound ps u
  pub names : NamesSound ps u
  pub short : (x : List ℕ) → has_name x (variables u) ≡ true → length x ≤ 40
  pub few : length (variables u) ≤ 1073741823
  pub named : length u.name ≤ 46
  pub nested : code_depth u.body ≤ 31
  pub shallow : deepest u.body ≤ 100

-- a unit with a short name and short variables
pub record HasShortNames (u : Procedure) : Type 0 where
  pub name : length u.name ≤ 63
  pub known : (x : List ℕ) → has_name x (variables u) ≡ true → length x ≤ 63

pub each_short : (xs : List (List ℕ)) → ((x : List ℕ) → has_name x xs ≡ true → length x ≤ 40) → Each (λ x. length x ≤ 40) xs
each_short xs f = each_name (λ x. length x ≤ 40) xs f

module _ (sb : Bool) (m : ProgramMarks) (ps : List Procedure) (head : Procedure) (vars outvars : List Bool) (named : Each (λ u. IsName u.name) ps) (less : length ps ≤ 402000) (its_short : (u : Procedure) (k : Making) → length (its_name ps u k) ≤ 63) where
  abbrev units : List (List ℕ)
  units = all_units m ps head

  few_units : length (all_units m ps head) ≤ 1608000
  few_units =
      let a = named_count ps in
      let b = made_count m ps head ps in
      let c = length-append (map unit_name ps) (made_names m ps head ps) in
      omega arith

  -- the names in what is made of a unit, by the plan of its sweeps
  module _ (u : Procedure) (k : IsModest ps u) (p : Plan) (shadowed : Vars) where
    abbrev i : ℕ
    i = first_statement ps u.name

    own_table : Each Entry (table_for adjoint_text (variables u) units shadowed (helpers_used_with (schedules_in sb ps) p i u.body))
    own_table =
        let loops = list_loops (schedules_in sb ps) p i 0 u.body in
        let works = list_works p.marks 100 i u.body k.shallow in
        let temps = list_temps p.marks 100 i u.body k.shallow in
        let nest = k.nested in
        let few = k.few in
        table_short (schedules_in sb ps) p i u.body (omega arith) (omega arith) (omega arith) shadowed (variables u) units (each_short (variables u) k.short) (omega arith) few_units

    forth_table : Each Entry (table_for adjoint_text (variables u) units shadowed (helpers_forth (schedules_in sb ps) p i u.body))
    forth_table =
        let loops = list_loops (schedules_in sb ps) p i 0 u.body in
        let works = list_works p.marks 100 i u.body k.shallow in
        let temps = list_temps p.marks 100 i u.body k.shallow in
        let nest = k.nested in
        let few = k.few in
        forth_table_short (schedules_in sb ps) p i u.body (omega arith) (omega arith) (omega arith) shadowed (variables u) units (each_short (variables u) k.short) (omega arith) few_units

  table : (u : Procedure) (h : IsModest ps u) (k : Making) → Each Entry (its_table sb m ps units u h.sound h.names k)
  table u h (as_adjoint at_turn at_end) = own_table u h (its_plan m ps u (as_adjoint at_turn at_end)) (m.shadowed u.name)
  table u h as_forth = forth_table u h (its_plan m ps u as_forth) nothing
  table u h as_back = own_table u h (its_plan m ps u as_back) (m.shadowed u.name)

  pub carried_short : (us : List Procedure) → Each (IsModest ps) us → Each (λ u. is_carried_with sb m ps head u.name ≡ true → HasShortNames u) us
  carried_short [] h = tt
  carried_short (u ∷ us) h = let k = h.0 in let le = k.named in (λ e. record { name = omega arith; known = λ x g. let s = k.short x g in omega arith }, carried_short us h.1)

  pub all_made_short : (us : List Procedure) → Each (IsModest ps) us → AllHaveShadows m ps us → AllMaySplit sb m ps us → Each (OfMade sb m ps head vars outvars HasShortNames) us
  all_made_short [] h shadows may = tt
  all_made_short (u ∷ us) h shadows may = (
    λ k clears there. let its = h.0 in record { name = its_short u k; known = its_variable sb m ps units u its.sound its.names k (table u its k) its.short named shadows.0 may.0 clears },
    all_made_short us h.1 shadows.1 may.1,
  )
