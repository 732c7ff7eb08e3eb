-- The units that calls reach from the head take part, and call no others.
use Rattle.std.proofs.Common.{◌≡◌, ℕ, zero, suc, List, [], ◌∷◌, ◌++◌, Bool, true, false, refl, sym, ap, ◌∙◌}
use Rattle.std.specs.Prelude.{Contains, ◌||◌, Some}
use Rattle.std.proofs.lemmas.List.Elements.{Contains-append_left, Contains-append_right}
use Rattle.adj_tree.specs.Code.{name_eq, Terms, Act, assign, choose, loop, during, call, runtime, Code, stop, step, Procedure}
use Rattle.adj_tree.proofs.Names.{name_same}
use Rattle.law_meaning.specs.Common.{CallsInside}
use Rattle.def_meaning.specs.Written.{find_unit}
use Rattle.def_names.specs.Numbers.{next, behind}
use Rattle.def_names.proofs.Variables.{and_true, or_right}
use Rattle.def_sweep.specs.Program.{calls_act, calls_in, calls_some, reached_after, is_reached}
use Rattle.law_sweep.specs.Source.{CallUnits}
use Rattle.law_sweep.proofs.Rounds.{reached_last}
use Rattle.law_sweep.proofs.EmittedUnits.{counts, inside_in, some_there}
use Rattle.law_emitted.proofs.Lists.{Each}
use Rattle.law_emitted.proofs.Callings.{Found, Caller, caller_of}
use Rattle.adj_reach.specs.Reached.{begins, leads}
use Rattle.def_flow.specs.Parts.{Part, parts, find_part}
use Rattle.def_names.specs.StatementsIn.{statements_in}
use Rattle.def_flow.specs.Standing.{Place, outermost, part_of, body_of, Standing, held_in, standing}
use Rattle.def_flow.specs.Problem.{Problem, CallsUnit, IsHead, TakesPart}
use Rattle.adj_reach.proofs.Members.{is_first, is_later}
use Rattle.law_analysed.proofs.Numbers.{placed, has_part}
use Rattle.law_analysed.proofs.Meets.{some_same}

-- one of two tests holds
whichever : {T : Type 0} (a b : Bool) → (a || b) ≡ true → (a ≡ true → T) → (b ≡ true → T) → T
whichever true b h f g = f refl
whichever false b h f g = g h

-- ---- a call stands in a statement

-- among some statements there is a call of the name
pub record CallStands (n : List ℕ) (ss : List Standing) : Type 0 where
  pub at : Standing
  pub args : Terms
  pub stands : Contains ss at
  pub is : at.act ≡ call n args

more_stand : (n : List ℕ) (ss ts : List Standing) → ((s : Standing) → Contains ss s → Contains ts s) → CallStands n ss → CallStands n ts
more_stand n ss ts f c = record { at = c.at; args = c.args; stands = f c.at c.stands; is = c.is }

mutual
  stands_act : (f : ℕ → Bool) (n : List ℕ) (at : Place) (i j : ℕ) (a : Act) → calls_act f n i a ≡ true → CallStands n (record { number = j; place = at; act = a } ∷ held_in j a)
  stands_act f n at i j (assign x subs e) h = absurd cc
  stands_act f n at i j (choose c a b) h =
      let self : Standing = record { number = j; place = at; act = choose c a b } in
      let first = standing (part_of j) (suc j) a in
      let other = standing (part_of j) (behind (suc j) a) b in
      whichever (calls_in f n (suc i) a) (calls_in f n (behind (suc i) a) b) h
      (λ e. more_stand n first (self ∷ (first ++ other)) (λ s m. is_later s self (first ++ other) (Contains-append_left first other s m)) (stands_in f n (part_of j) (suc i) (suc j) a e))
      (λ e. more_stand n other (self ∷ (first ++ other)) (λ s m. is_later s self (first ++ other) (Contains-append_right first other s m)) (stands_in f n (part_of j) (behind (suc i) a) (behind (suc j) a) b e))
  stands_act f n at i j (loop x first last by body m) h =
      let self : Standing = record { number = j; place = at; act = loop x first last by body m } in
      let inside = standing (body_of j x m) (suc j) body in
      more_stand n inside (self ∷ inside) (λ s c. is_later s self inside c) (stands_in f n (body_of j x m) (suc i) (suc j) body h)
  stands_act f n at i j (during c body) h =
      let self : Standing = record { number = j; place = at; act = during c body } in
      let inside = standing (part_of j) (suc j) body in
      more_stand n inside (self ∷ inside) (λ s m. is_later s self inside m) (stands_in f n (part_of j) (suc i) (suc j) body h)
  stands_act f n at i j (call other args) h =
      let self : Standing = record { number = j; place = at; act = call other args } in
      record { at = self; args = args; stands = is_first self self [] refl; is = ap (λ z. call z args) (sym (name_same n other (and_true (f i) (name_eq n other) h).1)) }
  stands_act f n at i j (runtime r) h = absurd cc

  stands_in : (f : ℕ → Bool) (n : List ℕ) (at : Place) (i j : ℕ) (c : Code) → calls_in f n i c ≡ true → CallStands n (standing at j c)
  stands_in f n at i j stop h = absurd cc
  stands_in f n at i j (step line a rest) h =
      let self : Standing = record { number = j; place = at; act = a } in
      let inside = held_in j a in
      let later = standing at (next j a) rest in
      whichever (calls_act f n i a) (calls_in f n (next i a) rest) h
      (λ e. more_stand n (self ∷ inside) (self ∷ (inside ++ later)) (λ s m. Contains-append_left (self ∷ inside) later s m) (stands_act f n at i j a e))
      (λ e. more_stand n later (self ∷ (inside ++ later)) (λ s m. is_later s self (inside ++ later) (Contains-append_right inside later s m)) (stands_in f n at (next i a) (next j a) rest e))

-- ---- what is reached takes part

-- a part that is found under a name and takes part
pub record Taking (k : Problem) (name : List ℕ) : Type 0 where
  pub part : Part
  pub finds : find_part (parts k.units) name ≡ Some part
  pub takes : TakesPart k part

module _ (k : Problem) (all : Each (Found k.units) k.units) (g : Part) (is : IsHead k g) (finds : find_part (parts k.units) g.unit.name ≡ Some g) where
  abbrev roots : List ℕ → Bool
  roots = name_eq g.unit.name

  abbrev any : ℕ → Bool
  any i = true

  pub taking : (j : ℕ) (n : List ℕ) (v : Procedure) → find_unit k.units n ≡ Some v → reached_after roots any k.units j n ≡ true → Taking k n
  taking zero n v f h = absurd cc
  taking (suc j) n v f h =
      whichever (roots n) (calls_some (reached_after roots any k.units j) any n 0 k.units) h
      (λ e. record { part = g; finds = ap (find_part (parts k.units)) (sym (name_same g.unit.name n e)) ∙ finds; takes = begins is })
      (λ e. called (caller_of k.units (reached_after roots any k.units j) any n 0 k.units all e) (λ u o c. taking j u.name u o c))
    where
      called : Caller k.units (reached_after roots any k.units j) any n → ((u : Procedure) → find_unit k.units u.name ≡ Some u → reached_after roots any k.units j u.name ≡ true → Taking k u.name) → Taking k n
      called c ih =
          let t = ih c.unit c.found c.inside in
          let there = placed k.units c.unit.name t.part t.finds in
          let same : c.unit ≡ t.part.unit = some_same c.unit t.part.unit (sym c.found ∙ there.found) in
          let p = has_part (statements_in 0 k.units) 0 0 k.units n v f in
          let s = stands_in any n outermost c.number t.part.first t.part.unit.body (ap (λ u. calls_in any n c.number u.body) (sym same) ∙ c.calling) in
          let calls : CallsUnit k t.part p.0 s.at s.args = record { name = n; stands = s.stands; act = s.is; finds = p.1 } in
          record { part = p.0; finds = p.1; takes = leads t.takes (s.at, s.args, calls) }

-- ---- and calls no others

pub reached_closed : (roots : List ℕ → Bool) (ps : List Procedure) → CallUnits ps ps → (name : List ℕ) (u : Procedure) → find_unit ps name ≡ Some u → is_reached roots (λ i. true) ps name ≡ true → CallsInside (is_reached roots (λ i. true) ps) u.body
reached_closed roots ps known name u f h =
    let c = counts (is_reached roots (λ i. true) ps) (λ i. true) 0 ps name u f h in
    inside_in (is_reached roots (λ i. true) ps) c.at u.body (λ n e.
    let some : calls_some (is_reached roots (λ i. true) ps) (λ i. true) n 0 ps ≡ true = c.by n e in
    reached_last roots (λ i. true) ps n (some_there ps ps known (is_reached roots (λ i. true) ps) (λ i. true) n 0 some) (or_right (roots n) (calls_some (is_reached roots (λ i. true) ps) (λ i. true) n 0 ps) some))
