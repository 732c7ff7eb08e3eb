-- Facts about variables at points, and the laws that join them with marks, for statements of every kind. With marks that have
-- such facts the sweeps are right. (docs/THEOREMS.md, "Adjoints")
use Rattle.std.specs.Prelude.{◌≡◌, ℕ, suc, ◌+◌, ◌*◌, Bool, true, false, ◌&&◌, ◌||◌, List, Option, Some, None}
use Rattle.adj_tree.specs.Code.{Var, plain, name_eq, var_eq, Term, Terms, Test, Mark, Act, assign, choose, loop, during, call, runtime, Code, stop, step}
use Rattle.def_meaning.specs.Append.{one}
use Rattle.def_meaning.specs.Read.{reads_test, reads_mark}
use Rattle.def_names.specs.Numbers.{Vars, next, behind}
use Rattle.def_sweep.specs.Marks.{Marks}
use Rattle.def_names.specs.Numbering.{point_before, point_after}
use Rattle.def_sweep.specs.Facts.{In, Within, without, joined, vars_if, in_term, in_terms, whole, Facts, is_adjointed}
use Rattle.def_meaning.specs.Apart.{has_name}
use Rattle.def_sweep.specs.Occurrences.{occurring, reads_at}
use Rattle.def_sweep.specs.Plan.{beside, IsActual, actuals_named, Schedules, Step, reversed_by, ByStep}
use Rattle.def_sweep.specs.Callees.{CalleeFacts, nothing}

-- the point inside the i-th statement, a loop
abbrev pub point_inside : ℕ → ℕ
point_inside i = 3 * i + 2

-- one variable
abbrev pub just : Var → Vars
just x = λ v. var_eq v x

-- ---- ways from a point to the next

-- the values of variables: what is needed at q is needed at p, and what is held at p is held at q, but for the variables that are
-- assigned whole on the way; `cut` by the program, `dropped` by the forward sweep
pub record ValueLaws (w : Facts) (cut dropped : Vars) (p q : ℕ) : Type 0 where
  pub needs : Within (without (w.needed q) cut) (w.needed p)
  pub holds : Within (without (w.held p) dropped) (w.held q)

-- their tangents: varied forward, useful backward; what is varied and useful has a shadow
pub record TangentLaws (m : Marks) (cut : Vars) (p q : ℕ) : Type 0 where
  pub varies : Within (without (m.varied p) cut) (m.varied q)
  pub serves : Within (without (m.useful q) cut) (m.useful p)
  pub shadows : (v : Var) → In v (m.varied q) → In v (m.useful q) → In v m.shadowed

-- a way on which nothing is assigned
pub record WayLaws (w : Facts) (p q : ℕ) : Type 0 where
  pub values : ValueLaws w nothing nothing p q
  pub tangents : TangentLaws w.marks nothing p q

-- ---- assignments

pub record AssignmentLaws (w : Facts) (i : ℕ) (x : Var) (subs : Terms) (e : Term) : Type 0 where
  pub values : ValueLaws w (whole x subs) (vars_if (w.marks.kept i) (whole x subs)) (point_before i) (point_after i)
  pub tangents : TangentLaws w.marks (whole x subs) (point_before i) (point_after i)
  -- needed: what its adjoint reads, and what it uses where it is kept
  pub needs_reads : Within (reads_at w.marks i subs e) (w.needed (point_before i))
  pub needs_uses : w.marks.kept i ≡ true → Within (joined (in_term e) (in_terms subs)) (w.needed (point_before i))
  -- it is kept where its target is needed
  pub keeps : In x (w.needed (point_after i)) → w.marks.kept i ≡ true
  -- held: what its adjoint reads, where it doesn't assign that whole and is kept
  pub holds_reads : Within (without (reads_at w.marks i subs e) (vars_if (w.marks.kept i) (whole x subs))) (w.held (point_after i))
  -- where it is kept, its target is saved if that is held before it or among the reads
  pub saves : w.marks.kept i ≡ true → In x (joined (w.held (point_before i)) (reads_at w.marks i subs e)) → In x (w.marks.saved i)
  -- the target is varied by each occurrence, and each is useful by the target
  pub varies_target : (v : Var) → In v (occurring e) → In v (w.marks.varied (point_before i)) → In x (w.marks.varied (point_after i))
  pub serves_target : (v : Var) → In v (occurring e) → In x (w.marks.useful (point_after i)) → In v (w.marks.useful (point_before i))
  pub adjoints : w.marks.adjointed i ≡ is_adjointed w.marks i x subs
  -- what is varied and useful before it has a shadow
  pub shadows : (v : Var) → In v (w.marks.varied (point_before i)) → In v (w.marks.useful (point_before i)) → In v w.marks.shadowed

-- ---- statements with bodies

abbrev mutual
  -- no statement of the list, at any depth, is kept or adjointed
  pub IsIdle' : Marks → ℕ → Act → Type 0
  IsIdle' m i (assign x subs e) = (m.kept i ≡ false) × (m.adjointed i ≡ false)
  IsIdle' m i (choose c a b) = ((m.kept i ≡ false) × (m.adjointed i ≡ false)) × (IsIdle m (suc i) a × IsIdle m (behind (suc i) a) b)
  IsIdle' m i (loop x a b c body n) = ((m.kept i ≡ false) × (m.adjointed i ≡ false)) × IsIdle m (suc i) body
  IsIdle' m i (during c body) = ((m.kept i ≡ false) × (m.adjointed i ≡ false)) × IsIdle m (suc i) body
  IsIdle' m i (call name args) = (m.kept i ≡ false) × (m.adjointed i ≡ false)
  IsIdle' m i (runtime r) = (m.kept i ≡ false) × (m.adjointed i ≡ false)

  pub IsIdle : Marks → ℕ → Code → Type 0
  IsIdle m i stop = Unit {0}
  IsIdle m i (step line a rest) = IsIdle' m i a × IsIdle m (next i a) rest

-- the last point of a list whose first statement has the number i and to whose begin p leads
abbrev pub last_point : ℕ → ℕ → Code → ℕ
last_point p i stop = p
last_point p i (step line a rest) = last_point (point_after i) (next i a) rest

-- the laws of an IF, beside those of its parts
pub record ChoiceLaws (w : Facts) (i : ℕ) (c : Test) (a b : Code) : Type 0 where
  -- an IF is kept where it is adjointed, and where a part has a statement that is kept or adjointed
  pub keeps_adjointed : w.marks.adjointed i ≡ true → w.marks.kept i ≡ true
  pub keeps : w.marks.kept i ≡ false → IsIdle w.marks (suc i) a × IsIdle w.marks (behind (suc i) a) b
  pub needs_uses : w.marks.kept i ≡ true → Within (λ v. reads_test v c) (w.needed (point_before i))
  -- the ways from the ends of its parts
  pub first_end : WayLaws w (last_point (point_before i) (suc i) a) (point_after i)
  pub other_end : WayLaws w (last_point (point_before i) (behind (suc i) a) b) (point_after i)

-- the laws of a DO with variable x, beside those of its body
pub record LoopLaws (w : Facts) (i : ℕ) (x : Var) (a b c : Term) (body : Code) : Type 0 where
  pub keeps_adjointed : w.marks.adjointed i ≡ true → w.marks.kept i ≡ true
  pub keeps : w.marks.kept i ≡ false → IsIdle w.marks (suc i) body
  pub keeps_reset : (w.marks.shadowed x && w.marks.varied (point_before i) x) ≡ true → w.marks.kept i ≡ true
  pub keeps_variable : In x (w.needed (point_inside i)) → w.marks.kept i ≡ true
  pub needs_uses : w.marks.kept i ≡ true → Within (joined (in_term a) (joined (in_term b) (in_term c))) (w.needed (point_before i))
  pub saves : w.marks.kept i ≡ true → In x (w.held (point_before i)) → In x (w.marks.saved i)
  -- the entry and the step after a turn assign the variable whole, and its tangent becomes 0
  pub entry_values : ValueLaws w (just x) (vars_if (w.marks.kept i) (just x)) (point_before i) (point_inside i)
  pub entry_tangents : TangentLaws w.marks (just x) (point_before i) (point_inside i)
  pub step_values : ValueLaws w (just x) (vars_if (w.marks.kept i) (just x)) (last_point (point_inside i) (suc i) body) (point_inside i)
  pub step_tangents : TangentLaws w.marks (just x) (last_point (point_inside i) (suc i) body) (point_inside i)
  pub exit : WayLaws w (point_inside i) (point_after i)
  -- it is adjointed where it resets the shadow of its variable
  pub adjoints_reset : (w.marks.shadowed x && w.marks.varied (point_before i) x) ≡ true → w.marks.adjointed i ≡ true

-- the laws of a DO WHILE, beside those of its body; the point inside it is that of the test, which leads to the body and behind the loop
pub record WhileLaws (w : Facts) (i : ℕ) (c : Test) (body : Code) : Type 0 where
  pub keeps_adjointed : w.marks.adjointed i ≡ true → w.marks.kept i ≡ true
  pub keeps : w.marks.kept i ≡ false → IsIdle w.marks (suc i) body
  -- its condition is used at each test
  pub needs_uses : w.marks.kept i ≡ true → Within (λ v. reads_test v c) (w.needed (point_inside i))
  pub entry : WayLaws w (point_before i) (point_inside i)
  pub again : WayLaws w (last_point (point_inside i) (suc i) body) (point_inside i)
  pub exit : WayLaws w (point_inside i) (point_after i)

-- ---- calls

abbrev pub is_found : Option (List ℕ) → Bool
is_found None = false
is_found (Some d) = true

-- the variable is the actual of a dummy
abbrev pub among : List (List ℕ) → List (List ℕ) → Vars
among ds given (plain x) = is_found (beside given ds x)
among ds given v = false

pub record CallLaws (w : Facts) (i : ℕ) (g : CalleeFacts) (given : List (List ℕ)) : Type 0 where
  -- a call assigns no variable whole
  pub values : ValueLaws w nothing nothing (point_before i) (point_after i)
  -- the tangents of its actuals go through the unit
  pub tangents : TangentLaws w.marks (among g.callee.dummies given) (point_before i) (point_after i)
  -- needed: the members of its snapshot and its adjoint reads, where it is adjointed; what the unit reads, where it is kept
  pub needs_members : w.marks.adjointed i ≡ true → (d a : List ℕ) → IsActual g.callee.dummies given d a → In (plain d) g.callee.members → In (plain a) (w.needed (point_before i))
  pub needs_uses : w.marks.kept i ≡ true → (d a : List ℕ) → IsActual g.callee.dummies given d a → In (plain d) g.read → In (plain a) (w.needed (point_before i))
  -- it is kept where an actual that it writes is needed
  pub keeps : (d a : List ℕ) → IsActual g.callee.dummies given d a → In (plain d) g.callee.written → In (plain a) (w.needed (point_after i)) → w.marks.kept i ≡ true
  -- held: its adjoint reads, the members that it doesn't write
  pub holds_reads : w.marks.adjointed i ≡ true → (d a : List ℕ) → IsActual g.callee.dummies given d a → In (plain d) g.callee.members → g.callee.written (plain d) ≡ false → In (plain a) (w.held (point_after i))
  -- it saves what it writes and what is held before it
  pub saves : (w.marks.kept i || w.marks.adjointed i) ≡ true → (d a : List ℕ) → IsActual g.callee.dummies given d a → In (plain d) g.callee.written → In (plain a) (w.held (point_before i)) → In (plain a) (w.marks.saved i)
  -- varied and useful go from actuals to dummies at the entry, and back at the end
  pub varies_in : (d a : List ℕ) → IsActual g.callee.dummies given d a → In (plain a) (w.marks.varied (point_before i)) → In (plain d) (g.facts.marks.varied g.entry)
  pub serves_in : (d a : List ℕ) → IsActual g.callee.dummies given d a → In (plain d) (g.facts.marks.useful g.entry) → In (plain a) (w.marks.useful (point_before i))
  pub varies_out : (d a : List ℕ) → IsActual g.callee.dummies given d a → In (plain d) (g.facts.marks.varied g.end) → In (plain a) (w.marks.varied (point_after i))
  pub serves_out : (d a : List ℕ) → IsActual g.callee.dummies given d a → In (plain a) (w.marks.useful (point_after i)) → In (plain d) (g.facts.marks.useful g.end)
  -- the actual of a dummy with a shadow has one; so has a dummy that is varied at the entry, where its actual has one
  pub shadows_actual : (d a : List ℕ) → IsActual g.callee.dummies given d a → In (plain d) g.callee.shadowed → In (plain a) w.marks.shadowed
  pub shadows_dummy : (d a : List ℕ) → IsActual g.callee.dummies given d a → In (plain d) (g.facts.marks.varied g.entry) → In (plain a) w.marks.shadowed → In (plain d) g.callee.shadowed
  -- the call of a unit with an adjointed statement is adjointed
  pub adjoints : w.marks.adjointed i ≡ false → g.plain_unit ≡ true

-- ---- marked loops that are reversed by a schedule

-- the laws of a call that are the same whether it is adjointed by its own or as the step of a reversed loop
pub record PassingLaws (w : Facts) (i : ℕ) (g : CalleeFacts) (given : List (List ℕ)) : Type 0 where
  -- a call assigns no variable whole, and the tangents of its actuals go through the unit
  pub values : ValueLaws w nothing nothing (point_before i) (point_after i)
  pub tangents : TangentLaws w.marks (among g.callee.dummies given) (point_before i) (point_after i)
  -- needed: what the unit reads, where the call is kept
  pub needs_uses : w.marks.kept i ≡ true → (d a : List ℕ) → IsActual g.callee.dummies given d a → In (plain d) g.read → In (plain a) (w.needed (point_before i))
  -- varied and useful go from actuals to dummies at the entry, and back at the end
  pub varies_in : (d a : List ℕ) → IsActual g.callee.dummies given d a → In (plain a) (w.marks.varied (point_before i)) → In (plain d) (g.facts.marks.varied g.entry)
  pub serves_in : (d a : List ℕ) → IsActual g.callee.dummies given d a → In (plain d) (g.facts.marks.useful g.entry) → In (plain a) (w.marks.useful (point_before i))
  pub varies_out : (d a : List ℕ) → IsActual g.callee.dummies given d a → In (plain d) (g.facts.marks.varied g.end) → In (plain a) (w.marks.varied (point_after i))
  pub serves_out : (d a : List ℕ) → IsActual g.callee.dummies given d a → In (plain a) (w.marks.useful (point_after i)) → In (plain d) (g.facts.marks.useful g.end)
  -- the actual of a dummy with a shadow has one; so has a dummy that is varied at the entry, where its actual has one
  pub shadows_actual : (d a : List ℕ) → IsActual g.callee.dummies given d a → In (plain d) g.callee.shadowed → In (plain a) w.marks.shadowed
  pub shadows_dummy : (d a : List ℕ) → IsActual g.callee.dummies given d a → In (plain d) (g.facts.marks.varied g.entry) → In (plain a) w.marks.shadowed → In (plain d) g.callee.shadowed

-- The laws of the i-th statement, a split call. It is kept and adjointed. It has no members, and saves nothing.
pub record SplitLaws (w : Facts) (i : ℕ) (g : CalleeFacts) (given : List (List ℕ)) : Type 0 where
  pub kept : w.marks.kept i ≡ true
  pub adjointed : w.marks.adjointed i ≡ true
  -- held: what the unit reads and doesn't write
  pub holds_reads : (d a : List ℕ) → IsActual g.callee.dummies given d a → In (plain d) g.read → g.callee.written (plain d) ≡ false → In (plain a) (w.held (point_after i))
  -- the laws of each call
  pub call : PassingLaws w i g given

-- the laws of a call, by whether it is split
abbrev pub CallLawsBy : Bool → Facts → ℕ → CalleeFacts → List (List ℕ) → Type 0
CallLawsBy true w i g given = SplitLaws w i g given
CallLawsBy false w i g given = CallLaws w i g given

-- The laws of the i-th statement, a marked loop with variable x whose step call is adjointed. The loop has the adjoint reads, the members
-- of the snapshot and what is saved; the call has none of its own.
pub record ReversedLaws (w : Facts) (i : ℕ) (x : List ℕ) (a b c : Term) (mark : Mark) (g : CalleeFacts) (given : List (List ℕ)) : Type 0 where
  pub kept : w.marks.kept i ≡ true
  pub adjointed : w.marks.adjointed i ≡ true
  -- its step call isn't split
  pub unsplit : w.marks.split (suc i) ≡ false
  -- needed: what its bounds use, and its directive
  pub needs_uses : Within (joined (in_term a) (joined (in_term b) (in_term c))) (w.needed (point_before i))
  pub needs_slots : Within (λ v. reads_mark v mark) (w.needed (point_before i))
  -- what the adjoint of the step unit needs at its entry, and what the step unit reads, besides the loop's variable
  pub needs_members : (d y : List ℕ) → IsActual g.callee.dummies given d y → In (plain d) (joined g.callee.members g.read) → name_eq y x ≡ false → In (plain y) (w.needed (point_before i))
  -- held: what of it isn't written
  pub holds_reads : (d y : List ℕ) → IsActual g.callee.dummies given d y → In (plain d) (joined g.callee.members g.read) → g.callee.written (plain d) ≡ false → name_eq y x ≡ false → In (plain y) (w.held (point_after i))
  -- saved: what is written and held before it, and its variable
  pub saves : (d y : List ℕ) → IsActual g.callee.dummies given d y → In (plain d) g.callee.written → In (plain y) (w.held (point_before i)) → In (plain y) (w.marks.saved i)
  pub saves_variable : In (plain x) (w.held (point_before i)) → In (plain x) (w.marks.saved i)
  -- the step call is kept where an actual that it writes is needed after the loop
  pub keeps : (d y : List ℕ) → IsActual g.callee.dummies given d y → In (plain d) g.callee.written → In (plain y) (w.needed (point_after i)) → w.marks.kept (suc i) ≡ true
  -- the ways of a DO
  pub entry_values : ValueLaws w (just (plain x)) (just (plain x)) (point_before i) (point_inside i)
  pub entry_tangents : TangentLaws w.marks (just (plain x)) (point_before i) (point_inside i)
  pub step_values : ValueLaws w (just (plain x)) (just (plain x)) (point_after (suc i)) (point_inside i)
  pub step_tangents : TangentLaws w.marks (just (plain x)) (point_after (suc i)) (point_inside i)
  pub exit : WayLaws w (point_inside i) (point_after i)
  -- and the step call
  pub inside : WayLaws w (point_inside i) (point_before (suc i))
  pub call : PassingLaws w (suc i) g given

-- the same of the loop in a list: its body is its step call, of names
abbrev pub StepLaws : (List ℕ → CalleeFacts) → Facts → ℕ → Var → Term → Term → Term → Code → Step → Type 0
StepLaws g w i (plain x) a b c body s = (line : ℕ) × ((body ≡ one line (call s.name (actuals_named s.given))) × ReversedLaws w i x a b c s.mark (g s.name) s.given)
StepLaws g w i v a b c body s = ⊥

-- ---- statements and lists

-- the laws of the i-th statement of a unit with these facts, where the units called have theirs, and marked loops are reversed so
abbrev mutual
  pub ActLawsBy : Schedules → (List ℕ → CalleeFacts) → Facts → ℕ → Act → Type 0
  ActLawsBy r g w i (assign x subs e) = AssignmentLaws w i x subs e
  ActLawsBy r g w i (choose c a b) = ChoiceLaws w i c a b × (ListLawsBy r g w (point_before i) (suc i) a × ListLawsBy r g w (point_before i) (behind (suc i) a) b)
  ActLawsBy r g w i (loop x a b c body m) = ByStep (reversed_by r w.marks.adjointed i body m) (LoopLaws w i x a b c body × ListLawsBy r g w (point_inside i) (suc i) body) (StepLaws g w i x a b c body)
  ActLawsBy r g w i (during c body) = WhileLaws w i c body × ListLawsBy r g w (point_inside i) (suc i) body
  ActLawsBy r g w i (call name args) = (given : List (List ℕ)) × ((args ≡ actuals_named given) × CallLawsBy (w.marks.split i) w i (g name) given)
  ActLawsBy r g w i (runtime c) = ⊥

  -- the laws of a list whose first statement has the number i, and to whose begin p leads
  pub ListLawsBy : Schedules → (List ℕ → CalleeFacts) → Facts → ℕ → ℕ → Code → Type 0
  ListLawsBy r g w p i stop = Unit {0}
  ListLawsBy r g w p i (step line a rest) = WayLaws w p (point_before i) × (ActLawsBy r g w i a × ListLawsBy r g w (point_after i) (next i a) rest)

-- where no loop is reversed by a schedule
abbrev pub ActLaws : (List ℕ → CalleeFacts) → Facts → ℕ → Act → Type 0
ActLaws g w i a = ActLawsBy None g w i a

abbrev pub ListLaws : (List ℕ → CalleeFacts) → Facts → ℕ → ℕ → Code → Type 0
ListLaws g w p i c = ListLawsBy None g w p i c

-- the laws of a unit whose first statement has the number i; its dummies that are needed at its entry are members of snapshots
pub record UnitLawsBy (r : Schedules) (g : List ℕ → CalleeFacts) (own : CalleeFacts) (i : ℕ) (body : Code) : Type 0 where
  pub laws : ListLawsBy r g own.facts own.entry i body
  pub ends : WayLaws own.facts (last_point own.entry i body) own.end
  pub shadows : (v : Var) → In v (own.facts.marks.varied own.entry) → In v (own.facts.marks.useful own.entry) → In v own.facts.marks.shadowed
  pub members : (d : List ℕ) → has_name d own.callee.dummies ≡ true → In (plain d) (own.facts.needed own.entry) → In (plain d) own.callee.members

abbrev pub UnitLaws : (List ℕ → CalleeFacts) → CalleeFacts → ℕ → Code → Type 0
UnitLaws g own i body = UnitLawsBy None g own i body
