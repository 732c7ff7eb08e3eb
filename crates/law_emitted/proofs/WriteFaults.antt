-- What is emitted has no faults of writes, and so no fault at all as a text that is run.
use Rattle.std.proofs.Common.{◌≡◌, ℕ, Bool, true, false, List, [], ◌∷◌, ◌++◌, refl, sym, ◌∙◌, if◌then◌else◌}
use Rattle.std.specs.Prelude.{◌||◌, Some}
use Rattle.adj_tree.specs.Code.{Var, plain, shadow, name_eq, Act, assign, choose, loop, during, call, runtime, Code, stop, step, Declaration, Procedure}
use Rattle.def_text.specs.Written.{IsName}
use Rattle.def_meaning.specs.LeastSet.{Dummies}
use Rattle.def_meaning.specs.Written.{find_unit, writes, handed_back}
use Rattle.def_meaning.specs.Read.{names_extent, is_extent}
use Rattle.law_meaning.specs.Common.{CallsInside', CallsInside}
use Rattle.def_names.specs.Variables.{variables, is_dummy}
use Rattle.def_names.specs.WriteFaults.{written_variables, written_extents, shared_variables, written_values, faults_of_writes, write_faults}
use Rattle.def_names.proofs.Sound.{sound_has_none}
use Rattle.law_kernel.proofs.Holding.{HoldsIn}
use Rattle.law_kernel.proofs.Sparing.{Spares, AreSpared, spared_of, of_spared, KeepsExtents, kept_of, of_kept}
use Rattle.def_sweep.specs.Naming.{Named, naming, name_in}
use Rattle.def_names.specs.Numbers.{Vars}
use Rattle.def_sweep.specs.MarkedProgram.{declared_behind}
use Rattle.def_sweep.specs.Declared.{declaration, declared_helpers, unit_at}
use Rattle.def_names.proofs.Variables.{not_true, or_left, or_right}
use Rattle.def_sweep.specs.Plan.{Schedules}
use Rattle.def_sweep.specs.Marking.{ProgramMarks, first_statement}
use Rattle.def_sweep.specs.Program.{is_carried_with, all_units, left_by, emitted_units_with, emitted_for_with, schedules_in}
use Rattle.law_sweep.specs.Source.{CallUnits}
use Rattle.law_emitted.proofs.Lists.{Each, each_more, each_both, each_found, none_each}
use Rattle.def_names.proofs.Faultless.{none_front, none_behind}
use Rattle.law_emitted.proofs.Callings.{Found}
use Rattle.law_emitted.specs.Emitted.{WritesHaveNone}
use Rattle.law_emitted.proofs.Sources.{all_named}
use Rattle.law_emitted.proofs.UnitFaults.{flat_none}
use Rattle.law_emitted.proofs.CallFaults.{IsSound, names_for, name_apart, each_known, all_known, all_there, each_sound}
use Rattle.law_emitted.proofs.SourceNames.{NamesSound}
use Rattle.law_emitted.proofs.Makings.{Making, as_adjoint, as_forth, as_back, its_shadows, its_plan, its_helpers, its_code, made, is_made}
use Rattle.law_emitted.proofs.ActualFaults.{emitted_clean}
use Rattle.law_emitted.proofs.SparedLoops.{body_spared, forth_spared, back_spared}
use Rattle.law_emitted.proofs.RenamedWrites.{renamed_spared}
use Rattle.law_emitted.proofs.HandedBack.{common, HandBackNoMore, inside_writes, unit_known, made_writes, handed_no_more}

-- ---- extents

-- an extent in a declaration is one of the declarations'
declared_extent : (d : List ℕ) (line : ℕ) (ds : List Declaration) (x : List ℕ) → names_extent d (declaration line ds x).extents ≡ true → is_extent d ds ≡ true
declared_extent d line [] x h = absurd cc
declared_extent d line (e ∷ ds) x h = go (name_eq e.name x) h (declared_extent d line ds x)
  where
    go : (b : Bool) → names_extent d (if b then e else declaration line ds x).extents ≡ true → (names_extent d (declaration line ds x).extents ≡ true → is_extent d ds ≡ true) → (names_extent d e.extents || is_extent d ds) ≡ true
    go true h ih = or_left (names_extent d e.extents) (is_extent d ds) h
    go false h ih = or_right (names_extent d e.extents) (is_extent d ds) (ih h)

either : (a b c : Bool) → (a ≡ true → c ≡ true) → (b ≡ true → c ≡ true) → (a || b) ≡ true → c ≡ true
either true b c f g h = f refl
either false b c f g h = g h

-- an adjoint has the extents of its unit
pub made_extent : (d : List ℕ) (sh : Vars) (ns : List Named) (u : Procedure) (xs : List (List ℕ)) (hs : List Var) → is_extent d (declared_behind sh ns u xs ++ declared_helpers ns u.line hs) ≡ true → is_extent d u.declarations ≡ true
made_extent d sh ns u [] [] h = absurd cc
made_extent d sh ns u [] (v ∷ hs) h = made_extent d sh ns u [] hs h
made_extent d sh ns u (x ∷ xs) hs h = go (sh (plain x)) h (made_extent d sh ns u xs hs)
  where
    later : List Declaration
    later = declared_behind sh ns u xs ++ declared_helpers ns u.line hs

    own : names_extent d (declaration u.line u.declarations x).extents ≡ true → is_extent d u.declarations ≡ true
    own k = declared_extent d u.line u.declarations x k

    go : (b : Bool) → is_extent d ((if b then declaration u.line u.declarations x ∷ record (declaration u.line u.declarations x) { name = name_in ns (shadow x) } ∷ declared_behind sh ns u xs else declaration u.line u.declarations x ∷ declared_behind sh ns u xs) ++ declared_helpers ns u.line hs) ≡ true →
        (is_extent d later ≡ true → is_extent d u.declarations ≡ true) → is_extent d u.declarations ≡ true
    go true h ih = either (names_extent d (declaration u.line u.declarations x).extents) _ (is_extent d u.declarations) own (either (names_extent d (declaration u.line u.declarations x).extents) (is_extent d later) (is_extent d u.declarations) own ih) h
    go false h ih = either (names_extent d (declaration u.line u.declarations x).extents) (is_extent d later) (is_extent d u.declarations) own ih h

-- ---- loops of carried units

module _ (f g : Dummies) (inside : List ℕ → Bool) (less : (c : Code) → CallsInside inside c → (v : Var) → writes f v c ≡ true → writes g v c ≡ true) where
  pub still : (c : Code) → CallsInside inside c → (v : Var) → writes g v c ≡ false → writes f v c ≡ false
  still c k v h = not_true (writes f v c) (λ e. let z : true ≡ false = sym (less c k v e) ∙ h in cc)

  still_spares : (a : Act) → CallsInside' inside a → Spares g a → Spares f a
  still_spares (assign x s e) k h = tt
  still_spares (choose c a b) k h = tt
  still_spares (loop x a b c body m) k h = still body k x h
  still_spares (during c body) k h = tt
  still_spares (call name args) k h = tt
  still_spares (runtime r) k h = tt

  mutual
    still_inner : (a : Act) → CallsInside' inside a → HoldsIn (λ l b. Spares g b) a → HoldsIn (λ l b. Spares f b) a
    still_inner (assign x s e) k h = tt
    still_inner (choose c a b) k h = (still_spared a k.0 h.0, still_spared b k.1 h.1)
    still_inner (loop x a b c body m) k h = still_spared body k h
    still_inner (during c body) k h = still_spared body k h
    still_inner (call name args) k h = tt
    still_inner (runtime r) k h = tt

    pub still_spared : (c : Code) → CallsInside inside c → AreSpared g c → AreSpared f c
    still_spared stop k h = tt
    still_spared (step line a rest) k h = (still_spares a k.0 h.0, (still_inner a k.0 h.1.0, still_spared rest k.1 h.1.1))

-- ---- the emitted program

-- a unit of the source has no such fault
abbrev pub IsTame : List Procedure → Procedure → Type 0
IsTame ps u = AreSpared (handed_back ps) u.body × KeepsExtents (handed_back ps) u

pub tame_of : (ps : List Procedure) (u : Procedure) → faults_of_writes (handed_back ps) u ≡ [] → IsTame ps u
tame_of ps u h = (
  spared_of (handed_back ps) u (none_front (written_variables (handed_back ps) u) _ h),
  kept_of (handed_back ps) u (none_front (written_extents (handed_back ps) u) _ (none_behind (written_variables (handed_back ps) u) _ h)),
)

module _ (sb : Bool) (m : ProgramMarks) (ps : List Procedure) (head : Procedure) (vars outvars : List Bool) (named : Each (λ u. IsName u.name) ps) (known : CallUnits ps ps) (sound : Each (IsSound sb m ps) ps) where
  abbrev qs : List Procedure
  qs = emitted_units_with sb m ps head vars outvars ps

  abbrev units : List (List ℕ)
  units = all_units m ps head

  abbrev sc : Schedules
  sc = schedules_in sb ps

  abbrev f : Dummies
  f = handed_back qs

  abbrev g : Dummies
  g = handed_back ps

  -- it writes no variable of a DO in its body, and no extent
  abbrev HasNeither : Procedure → Type 0
  HasNeither v = (written_variables f v ≡ []) × (written_extents f v ≡ [])

  back : HandBackNoMore sb m ps head vars outvars named known sound f
  back = handed_no_more sb m ps head vars outvars named known sound

  carried_neither : (u : Procedure) → find_unit ps u.name ≡ Some u → IsTame ps u → is_carried_with sb m ps head u.name ≡ true → HasNeither u
  carried_neither u found tame h = (
    of_spared f u (still_spared f g (is_carried_with sb m ps head) less u.body closed tame.0),
    of_kept f u (λ d k e. still f g (is_carried_with sb m ps head) less u.body closed (plain d) (tame.1 d k e)),
  )
    where
      less : (c : Code) → CallsInside (is_carried_with sb m ps head) c → (v : Var) → writes f v c ≡ true → writes g v c ≡ true
      less c k v = inside_writes f g (is_carried_with sb m ps head) v (λ name t args. let b = back in b.carried name t v args) c k

      closed : CallsInside (is_carried_with sb m ps head) u.body
      closed = let c = common sb m ps head vars outvars named known sound in c.closed u.name u h found

  module _ (u : Procedure) (s : IsSound sb m ps u) (found : find_unit ps u.name ≡ Some u) (tame : IsTame ps u) where
    -- no loop in what is made of a unit writes its variable
    code_spared : (k : Making) → is_made m ps head u k ≡ true → AreSpared f (its_code sb m ps u k)
    code_spared (as_adjoint at_turn at_end) there = body_spared f g sc (its_plan m ps u (as_adjoint at_turn at_end)) (first_statement ps u.name) u.line u.body at_turn at_end (unit_known sb m ps head vars outvars named known sound f back u s found (as_adjoint at_turn at_end) there) tame.0
    code_spared as_forth there = forth_spared f g sc (its_plan m ps u as_forth) (first_statement ps u.name) u.line (left_by ps u) u.body (unit_known sb m ps head vars outvars named known sound f back u s found as_forth there) tame.0
    code_spared as_back there = back_spared f g sc (its_plan m ps u as_back) (first_statement ps u.name) u.line (left_by ps u) u.body (unit_known sb m ps head vars outvars named known sound f back u s found as_back there) tame.0

    made_neither : (k : Making) → is_made m ps head u k ≡ true → HasNeither (made sb m ps (all_units m ps head) u k)
    made_neither k there = (of_spared f unit (renamed_spared f (naming ns) (name_apart sb m ps head vars outvars named known sound u s k) (its_code sb m ps u k) (code_spared k there)), of_kept f unit unwritten)
      where
        ns : List Named
        ns = names_for sb m ps head vars outvars named known sound u s k

        unit : Procedure
        unit = made sb m ps (all_units m ps head) u k

        names : NamesSound ps u
        names = s.names

        unwritten : (d : List ℕ) → is_dummy unit d ≡ true → is_extent d unit.declarations ≡ true → writes f (plain d) unit.body ≡ false
        unwritten d j e =
            let own = made_extent d (its_shadows m u k) ns u (variables u) (its_helpers sb m ps u k) e in
            let dummy = names.extent_dummy d own in
            let kept : writes g (plain d) u.body ≡ false = tame.1 d dummy own in
            not_true (writes f (plain d) unit.body) (λ w. let z : true ≡ false = sym (made_writes sb m ps head vars outvars named known sound f back u s found k there d dummy w) ∙ kept in cc)

  all_neither : Each (Found ps) ps → ((u : Procedure) → find_unit ps u.name ≡ Some u → IsTame ps u) → Each HasNeither qs
  all_neither found tame =
      each_known sb m ps head vars outvars named known sound HasNeither found (λ u is s h. carried_neither u is (tame u is) h) (λ u s k clears is there. made_neither u s is (tame u is) k there)

  emitted_none : Each (Found ps) ps → Each (IsTame ps) ps → write_faults qs ≡ []
  emitted_none found tame =
      flat_none (faults_of_writes f) qs
      (each_more (λ v. HasNeither v × (shared_variables f v ++ written_values f v ≡ [])) (λ v. faults_of_writes f v ≡ []) (λ v h. λ i. h.0.0 i ++ (h.0.1 i ++ h.1 i)) qs
      (each_both HasNeither (λ v. shared_variables f v ++ written_values f v ≡ []) qs (all_neither found (λ u is. each_found (IsTame ps) ps tame u.name u is)) (none_each (λ v. shared_variables f v ++ written_values f v) qs (emitted_clean f sb m ps head vars outvars named known sound found))))

pub writes_have_none : WritesHaveNone
writes_have_none rules ps checked sb m shadowed may head vars outvars = go (unit_at head ps)
  where
    tame : Each (IsTame ps) ps
    tame = each_more (λ u. faults_of_writes (handed_back ps) u ≡ []) (IsTame ps) (λ u h. tame_of ps u h) ps (none_each (faults_of_writes (handed_back ps)) ps (sound_has_none rules ps checked.sound).writes)

    go : (us : List Procedure) → write_faults (emitted_for_with sb m ps vars outvars us) ≡ []
    go [] = refl
    go (u ∷ us) = emitted_none sb m ps u vars outvars (all_named rules ps checked) (all_known rules ps checked) (each_sound rules ps checked sb m shadowed may) (all_there rules ps checked) tame
