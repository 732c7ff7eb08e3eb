-- Units emitted one by one.
use Rattle.std.proofs.Common.{◌≡◌, ℕ, ◌+◌, ◌<◌, Bool, true, false, List, [], ◌∷◌, ◌++◌, map, length, drop, get_or, refl, sym, ap, ◌∙◌, if◌then◌else◌}
use Rattle.std.specs.Prelude.{◌||◌}
use Rattle.std.proofs.lemmas.List.{length-map}
use Rattle.adj_tree.specs.Code.{plain, name_eq, Procedure}
use Rattle.adj_tree.proofs.Names.{name_same}
use Rattle.def_meaning.specs.Apart.{has_name}
use Rattle.def_names.specs.Numbers.{Vars}
use Rattle.def_names.proofs.Variables.{or_right}
use Rattle.adj_tree.specs.View.{procedure_of}
use Rattle.adj_tree.specs.declared.unit.Unit as units
use Rattle.def_sweep.specs.Marked.{names_in}
use Rattle.def_sweep.specs.Declared.{unit_name, unit_at, unmarked}
use Rattle.def_sweep.specs.Names.{adjoint_name, forth_name, back_name}
use Rattle.def_sweep.specs.Marking.{ProgramMarks}
use Rattle.def_sweep.specs.Program as program
use Rattle.def_sweep.specs.Program.{has_adjoint, has_pair, is_carried_with, all_units, adjoint_unit_with, forth_unit, back_unit, emitted_adjoint_with, emitted_units_with, emitted_program_with}
use Rattle.law_sweep.proofs.HeadNames.{unmarked_in}
use Rattle.law_sweep.proofs.Variables.{dummy_among}
use Rattle.adj_weave.specs.declared.weave.Aim.{Aim}
use Rattle.adj_weave.specs.declared.weave.Emits.{Emits}
use Rattle.adj_weave.specs.declared.weave.Table.{Table}
use Rattle.adj_weave.specs.Shared.{HaveShadows}
use Rattle.adj_weave.specs.Named.{made_flagged}
use Rattle.adj_weave.specs.Woven.{IsTable, head_of, only_if, pair_if, emitted_for}
use Rattle.adj_weave.proofs.Ordered.{emitted_names}
use Rattle.adj_weave_units.proofs.Walks.{walked_on}

-- what has a shadow among names is one of them
named_marked : (a : Vars) (x : List ℕ) (xs : List (List ℕ)) → has_name x (names_in a xs) ≡ true → (has_name x xs ≡ true) × (a (plain x) ≡ true)
named_marked a x [] h = absurd cc
named_marked a x (y ∷ xs) h = go (a (plain y)) refl h (named_marked a x xs)
  where
    here : (b : Bool) → name_eq x y ≡ b → a (plain y) ≡ true → (b || has_name x (names_in a xs)) ≡ true → (has_name x (names_in a xs) ≡ true → (has_name x xs ≡ true) × (a (plain x) ≡ true)) → ((b || has_name x xs) ≡ true) × (a (plain x) ≡ true)
    here true e p k ih = (refl, ap (λ z. a (plain z)) (name_same x y e) ∙ p)
    here false e p k ih = ih k

    go : (b : Bool) → a (plain y) ≡ b → has_name x (if b then y ∷ names_in a xs else names_in a xs) ≡ true → (has_name x (names_in a xs) ≡ true → (has_name x xs ≡ true) × (a (plain x) ≡ true)) → ((name_eq x y || has_name x xs) ≡ true) × (a (plain x) ≡ true)
    go true p k ih = here (name_eq x y) refl p k ih
    go false p k ih = let r = ih k in (or_right (name_eq x y) (has_name x xs) r.0, r.1)

-- dummies whose mark is missing, and that have a shadow, are variables of the unit
pub cleared_have : (m : ProgramMarks) (u : Procedure) (marks : List Bool) → HaveShadows m u (names_in (m.shadowed u.name) (unmarked u.dummies marks))
cleared_have m u marks x h = let r = named_marked (m.shadowed u.name) x (unmarked u.dummies marks) h in (dummy_among u x (unmarked_in x u.dummies marks r.0), r.1)

-- what is found of a unit is what is emitted for it
pub record AreTold (b : Bool) (m : ProgramMarks) (ps : List Procedure) (h u : Procedure) (e : Emits) : Type 0 where
  pub carried : e.carried ≡ is_carried_with b m ps h u.name
  pub adjointed : e.adjointed ≡ has_adjoint m ps h u.name
  pub paired : e.paired ≡ has_pair m ps h u.name

-- it comes before what is emitted for the units behind it
pub unit_emitted : (b : Bool) (m : ProgramMarks) (ps : List Procedure) (a : Aim) (e : Emits) (u : Procedure) (us : List Procedure) → AreTold b m ps (head_of a) u e →
    emitted_units_with b m ps (head_of a) a.vars.now a.outvars.now (u ∷ us) ≡ emitted_for b m e ps a u ++ emitted_units_with b m ps (head_of a) a.vars.now a.outvars.now us
unit_emitted b m ps a e u us told =
    let units = all_units m ps (head_of a) in
    let adjoint = emitted_adjoint_with b m ps (head_of a) a.vars.now a.outvars.now u in
    let rest = emitted_units_with b m ps (head_of a) a.vars.now a.outvars.now us in
    λ i. (only_if (sym told.carried i) u ++ (only_if (sym told.adjointed i) adjoint ++ pair_if (sym told.paired i) (forth_unit b m ps units u) (back_unit b m ps units u))) ++ rest

-- what is emitted for the units passed and for the next stands before what is emitted for those behind it
pub emitted_on : (b : Bool) (m : ProgramMarks) (ps : List Procedure) (a : Aim) (us made longer : List units.Unit) (k : ℕ) (u : units.Unit) (e : Emits) → k < length us → u ≡ get_or us k u →
    map procedure_of longer ≡ map procedure_of made ++ emitted_for b m e ps a (procedure_of u) → AreTold b m ps (head_of a) (procedure_of u) e →
    map procedure_of longer ++ emitted_units_with b m ps (head_of a) a.vars.now a.outvars.now (map procedure_of (drop (k + 1) us)) ≡ map procedure_of made ++ emitted_units_with b m ps (head_of a) a.vars.now a.outvars.now (map procedure_of (drop k us))
emitted_on b m ps a us made longer k u e lt at is told =
    walked_on procedure_of (emitted_units_with b m ps (head_of a) a.vars.now a.outvars.now) (emitted_units_with b m ps (head_of a) a.vars.now a.outvars.now) us (map procedure_of made) (map procedure_of longer) (emitted_for b m e ps a (procedure_of u)) k u lt at is
    (unit_emitted b m ps a e (procedure_of u) (map procedure_of (drop (k + 1) us)) told)

-- only the head's adjoint sets shadows to 0
pub other_adjoint : (b : Bool) (m : ProgramMarks) (ps : List Procedure) (head : Procedure) (vars outvars : List Bool) (u : Procedure) → name_eq head.name u.name ≡ false → adjoint_unit_with b m ps (all_units m ps head) u [] [] ≡ emitted_adjoint_with b m ps head vars outvars u
other_adjoint b m ps head vars outvars u h =
    sym (ap (λ f. if f then adjoint_unit_with b m ps (all_units m ps head) u (names_in (m.shadowed u.name) (unmarked u.dummies outvars)) (names_in (m.shadowed u.name) (unmarked u.dummies vars)) else adjoint_unit_with b m ps (all_units m ps head) u [] []) h)

pub head_adjoint : (b : Bool) (m : ProgramMarks) (ps : List Procedure) (head : Procedure) (vars outvars : List Bool) (u : Procedure) → name_eq head.name u.name ≡ true → adjoint_unit_with b m ps (all_units m ps head) u (names_in (m.shadowed u.name) (unmarked u.dummies outvars)) (names_in (m.shadowed u.name) (unmarked u.dummies vars)) ≡ emitted_adjoint_with b m ps head vars outvars u
head_adjoint b m ps head vars outvars u h =
    sym (ap (λ f. if f then adjoint_unit_with b m ps (all_units m ps head) u (names_in (m.shadowed u.name) (unmarked u.dummies outvars)) (names_in (m.shadowed u.name) (unmarked u.dummies vars)) else adjoint_unit_with b m ps (all_units m ps head) u [] []) h)

-- what is emitted for the head of a number
pub program_emitted : (b : Bool) (m : ProgramMarks) (ps : List Procedure) (number : ℕ) (head : Procedure) (vars outvars : List Bool) → unit_at number ps ≡ head ∷ [] → emitted_units_with b m ps head vars outvars ps ≡ emitted_program_with b m ps number vars outvars
program_emitted b m ps number head vars outvars h = ap (program.emitted_for_with b m ps vars outvars) (sym h)

-- as many flags and names of each kind as names of adjoints
pub record AreAsMany (t : Table) : Type 0 where
  pub adjointed : length t.found.adjointed ≡ length t.names.adjoints.items
  pub paired : length t.found.paired ≡ length t.names.adjoints.items
  pub forths : length t.names.forths.items ≡ length t.names.adjoints.items
  pub backs : length t.names.backs.items ≡ length t.names.adjoints.items

pub same_lengths : (b : Bool) (m : ProgramMarks) (ps : List Procedure) (h : Procedure) (t : Table) → IsTable b m ps h t → AreAsMany t
same_lengths b m ps h t told =
    let many : length t.names.adjoints.items ≡ length ps = ap length told.names.adjoints ∙ length-map ps (adjoint_name ps) in
    record {
      adjointed = ap length told.adjointed ∙ length-map ps (λ (u : Procedure). has_adjoint m ps h u.name) ∙ sym many;
      paired = ap length told.paired ∙ length-map ps (λ (u : Procedure). has_pair m ps h u.name) ∙ sym many;
      forths = ap length told.names.forths ∙ length-map ps (forth_name ps) ∙ sym many;
      backs = ap length told.names.backs ∙ length-map ps (back_name ps) ∙ sym many;
    }

-- the names of all units
pub all_are : (b : Bool) (m : ProgramMarks) (ps : List Procedure) (h : Procedure) (t : Table) → IsTable b m ps h t → (all : List (List ℕ)) →
    all ≡ map unit_name ps ++ made_flagged t.found.adjointed t.found.paired t.names.adjoints.items t.names.forths.items t.names.backs.items → all ≡ all_units m ps h
all_are b m ps h t told all is =
    let named = told.names in
    is
    ∙ (λ i. map unit_name ps ++ made_flagged (told.adjointed i) (told.paired i) (named.adjoints i) (named.forths i) (named.backs i))
    ∙ ap (λ z. map unit_name ps ++ z) (emitted_names m ps h ps)
