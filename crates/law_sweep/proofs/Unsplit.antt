-- Marks that split no call: no unit has a forward and a backward unit, and what is emitted is as if no call could be split.
use Rattle.std.proofs.Common.{◌≡◌, ℕ, suc, Bool, true, false, List, ◌∷◌, ◌++◌, length, refl, sym, ap, ◌∙◌, append_assoc, if◌then◌else◌}
use Rattle.std.specs.Prelude.{not, ◌&&◌, ◌||◌, []}
use Rattle.adj_tree.specs.Code.{name_eq, Act, assign, choose, loop, during, call, runtime, Code, stop, step, Procedure}
use Rattle.def_names.specs.Numbers.{next, behind}
use Rattle.def_names.proofs.Variables.{and_true, not_true}
use Rattle.def_sweep.specs.Names.{adjoint_name, forth_name, back_name}
use Rattle.def_sweep.specs.Marking.{ProgramMarks, SplitsNothing}
use Rattle.def_sweep.specs.Program.{calls_act, calls_in, calls_some, reached_after, takes_part, answers, has_adjoint, has_pair, turns_some, kept_calls, is_kept_with, made_names, all_units, emitted_adjoint_with, is_carried_with, forth_unit, back_unit, emitted_group, emitted_units_with, schedules_in}
use Rattle.law_sweep.specs.Source.{is_unit}
use Rattle.law_sweep.proofs.Rounds.{rises, reached_last}

-- ---- sets of calls

all_but_none : (a b : Bool) → b ≡ false → (a && not b) ≡ a
all_but_none false b h = refl
all_but_none true true h = absurd cc
all_but_none true false h = refl

none_of : (a b : Bool) → b ≡ false → (a && b) ≡ false
none_of false b h = refl
none_of true b h = h

same_truth : (a b : Bool) → (a ≡ true → b ≡ true) → (b ≡ true → a ≡ true) → a ≡ b
same_truth true b f g = sym (f refl)
same_truth false true f g = g refl
same_truth false false f g = refl

neither : (a b : Bool) → a ≡ false → b ≡ false → (a || b) ≡ false
neither true b h k = absurd cc
neither false b h k = k

or_none : (a b : Bool) → b ≡ false → (a || b) ≡ a
or_none true b h = refl
or_none false b h = h

append_none : (l : List Procedure) → l ++ [] ≡ l
append_none [] = refl
append_none (u ∷ us) = ap (λ l. u ∷ l) (append_none us)

-- no call is in no statement
mutual
  nowhere' : (n : List ℕ) (i : ℕ) (a : Act) → calls_act (λ j. false) n i a ≡ false
  nowhere' n i (assign x subs e) = refl
  nowhere' n i (choose c a b) = neither (calls_in (λ j. false) n (suc i) a) (calls_in (λ j. false) n (behind (suc i) a) b) (nowhere n (suc i) a) (nowhere n (behind (suc i) a) b)
  nowhere' n i (loop x first last by body m) = nowhere n (suc i) body
  nowhere' n i (during c body) = nowhere n (suc i) body
  nowhere' n i (call other args) = refl
  nowhere' n i (runtime r) = refl

  nowhere : (n : List ℕ) (i : ℕ) (c : Code) → calls_in (λ j. false) n i c ≡ false
  nowhere n i stop = refl
  nowhere n i (step line a rest) = neither (calls_act (λ j. false) n i a) (calls_in (λ j. false) n (next i a) rest) (nowhere' n i a) (nowhere n (next i a) rest)

pub nowhere_some : (among : List ℕ → Bool) (n : List ℕ) (i : ℕ) (us : List Procedure) → calls_some among (λ j. false) n i us ≡ false
nowhere_some among n i [] = refl
nowhere_some among n i (u ∷ us) =
    neither (among u.name && calls_in (λ j. false) n i u.body) (calls_some among (λ j. false) n (behind i u.body) us)
    (not_true (among u.name && calls_in (λ j. false) n i u.body) (λ e. let p : true ≡ false = sym (and_true (among u.name) (calls_in (λ j. false) n i u.body) e).1 ∙ nowhere n i u.body in cc)) (nowhere_some among n (behind i u.body) us)

-- nor do units of the empty set call any
no_caller : (s : ℕ → Bool) (n : List ℕ) (i : ℕ) (us : List Procedure) → calls_some (λ n. false) s n i us ≡ false
no_caller s n i [] = refl
no_caller s n i (u ∷ us) = no_caller s n (behind i u.body) us

-- the units that adjoints call as they are: by a kept call, or in the turns of a loop that is reversed by a schedule
abbrev pub kept_by_adjoints : Bool → ProgramMarks → List Procedure → Procedure → List ℕ → Bool
kept_by_adjoints false m ps head name = calls_some (has_adjoint m ps head) m.kept name 0 ps
kept_by_adjoints true m ps head name = calls_some (has_adjoint m ps head) m.kept name 0 ps || turns_some (schedules_in true ps) (has_adjoint m ps head) m.adjointed name 0 ps

module _ (m : ProgramMarks) (none : SplitsNothing m) where
  -- a set of calls without those that are split
  pub unsplit_calls : (s : ℕ → Bool) → (λ i. s i && not (m.split i)) ≡ s
  unsplit_calls s = λ k i. all_but_none (s i) (m.split i) (none i) k

  -- those of it that are split
  split_calls : (s : ℕ → Bool) → ◌≡◌ {A = ℕ → Bool} (λ i. s i && m.split i) (λ i. false)
  split_calls s = λ k i. none_of (s i) (m.split i) (none i) k

  module _ (ps : List Procedure) (head : Procedure) where
    -- no unit has a forward and a backward unit
    pub no_pair : (name : List ℕ) → has_pair m ps head name ≡ false
    no_pair name = ap (λ s. calls_some (takes_part m ps head) s name 0 ps) (split_calls m.adjointed) ∙ nowhere_some (takes_part m ps head) name 0 ps

    -- the units whose adjoint is called are those that an adjointed call names
    pub unsplit_answers : (name : List ℕ) → answers m ps head name ≡ calls_some (takes_part m ps head) m.adjointed name 0 ps
    unsplit_answers name = ap (λ s. calls_some (takes_part m ps head) s name 0 ps) (unsplit_calls m.adjointed)

    -- the units that have an adjoint are those that take part
    pub unsplit_adjoint : (name : List ℕ) → is_unit ps name ≡ true → has_adjoint m ps head name ≡ takes_part m ps head name
    unsplit_adjoint name there =
        ap (λ b. name_eq head.name name || b) (unsplit_answers name)
        ∙ same_truth (reached_after (name_eq head.name) m.adjointed ps (suc (length ps)) name) (takes_part m ps head name) (reached_last (name_eq head.name) m.adjointed ps name there) (rises (name_eq head.name) m.adjointed ps (length ps) name)

    -- what is called as it is, is so by the kept calls of adjoints
    pub unsplit_kept_calls : (name : List ℕ) → kept_calls m ps head name ≡ calls_some (has_adjoint m ps head) m.kept name 0 ps
    unsplit_kept_calls name =
        ap (λ s. calls_some (has_adjoint m ps head) s name 0 ps || calls_some (has_pair m ps head) (λ i. not (m.split i)) name 0 ps) (unsplit_calls m.kept)
        ∙ or_none (calls_some (has_adjoint m ps head) m.kept name 0 ps) (calls_some (has_pair m ps head) (λ i. not (m.split i)) name 0 ps)
        (ap (λ among. calls_some among (λ i. not (m.split i)) name 0 ps) (λ k n. no_pair n k) ∙ no_caller (λ i. not (m.split i)) name 0 ps)

    -- the units with an adjoint or a forward and a backward unit have an adjoint
    adjoint_alone : (λ n. has_adjoint m ps head n || has_pair m ps head n) ≡ has_adjoint m ps head
    adjoint_alone = λ k n. or_none (has_adjoint m ps head n) (has_pair m ps head n) (no_pair n) k

    -- the calls in marked loops, and both kinds together
    pub unsplit_kept : (b : Bool) (name : List ℕ) → is_kept_with b m ps head name ≡ kept_by_adjoints b m ps head name
    unsplit_kept true name =
        ap (λ c. c || turns_some (schedules_in true ps) (λ n. has_adjoint m ps head n || has_pair m ps head n) m.adjointed name 0 ps) (unsplit_kept_calls name)
        ∙ ap (λ among. calls_some (has_adjoint m ps head) m.kept name 0 ps || turns_some (schedules_in true ps) among m.adjointed name 0 ps) adjoint_alone
    unsplit_kept false name = unsplit_kept_calls name

    -- the names of all that is made are those of the adjoints
    pub unsplit_names : (u : Procedure) (us : List Procedure) → made_names m ps head (u ∷ us) ≡ (if has_adjoint m ps head u.name then adjoint_name ps u ∷ made_names m ps head us else made_names m ps head us)
    unsplit_names u us =
        ap (λ c. (if has_adjoint m ps head u.name then adjoint_name ps u ∷ [] else []) ++ ((if c then forth_name ps u ∷ back_name ps u ∷ [] else []) ++ made_names m ps head us)) (no_pair u.name)
        ∙ go (has_adjoint m ps head u.name) (adjoint_name ps u) (made_names m ps head us)
      where
        go : (c : Bool) (x : List ℕ) (rest : List (List ℕ)) → (if c then x ∷ [] else []) ++ rest ≡ (if c then x ∷ rest else rest)
        go true x rest = refl
        go false x rest = refl

-- ---- what is emitted

-- the units that are carried, and the adjoints of those that have one
abbrev pub adjoint_units : Bool → ProgramMarks → List Procedure → Procedure → List Bool → List Bool → List Procedure → List Procedure
adjoint_units b m ps head vars outvars [] = []
adjoint_units b m ps head vars outvars (u ∷ us) =
    (if is_carried_with b m ps head u.name then u ∷ [] else [])
    ++ ((if has_adjoint m ps head u.name then emitted_adjoint_with b m ps head vars outvars u ∷ [] else []) ++ adjoint_units b m ps head vars outvars us)

module _ (b : Bool) (m : ProgramMarks) (none : SplitsNothing m) (ps : List Procedure) (head : Procedure) (vars outvars : List Bool) where
  abbrev carried : Procedure → List Procedure
  carried u = if is_carried_with b m ps head u.name then u ∷ [] else []

  abbrev made : Procedure → List Procedure
  made u = if has_adjoint m ps head u.name then emitted_adjoint_with b m ps head vars outvars u ∷ [] else []

  -- for a unit it and its adjoint are emitted
  pub unsplit_group : (u : Procedure) → emitted_group b m ps head vars outvars u ≡ (if is_carried_with b m ps head u.name then u ∷ [] else []) ++ (if has_adjoint m ps head u.name then emitted_adjoint_with b m ps head vars outvars u ∷ [] else [])
  unsplit_group u =
      ap (λ c. carried u ++ (made u ++ (if c then forth_unit b m ps (all_units m ps head) u ∷ back_unit b m ps (all_units m ps head) u ∷ [] else []))) (no_pair m none ps head u.name)
      ∙ ap (λ l. carried u ++ l) (append_none (made u))

  -- so for all
  pub unsplit_units : (us : List Procedure) → emitted_units_with b m ps head vars outvars us ≡ adjoint_units b m ps head vars outvars us
  unsplit_units [] = refl
  unsplit_units (u ∷ us) =
      ap (λ l. l ++ emitted_units_with b m ps head vars outvars us) (unsplit_group u)
      ∙ append_assoc (carried u) (made u) (emitted_units_with b m ps head vars outvars us)
      ∙ ap (λ l. carried u ++ (made u ++ l)) (unsplit_units us)

-- ---- the rows of a call
