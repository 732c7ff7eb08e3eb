-- The rules of the analyses as lists: what begins, and each step, over the units that take part and the variables of each.
-- By them the sets of a program are computed; that they are the sets is proved in proofs/.
use Rattle.std.specs.Prelude.{◌↔◌, Contains, ℕ, List, [], ◌∷◌, ◌++◌, map, flat_map, filter, slice_get, Bool, true, false, not, ◌&&◌, ◌||◌, ◌==◌, Option, Some, None}
use Rattle.adj_tree.specs.Code.{Var, plain, var_eq, Terms, Act, assign, choose, loop, during, call, runtime}
use Rattle.def_meaning.specs.Read.{is_extent, is_read}
use Rattle.def_meaning.specs.Written.{is_written}
use Rattle.def_names.specs.Numbers.{Vars, everything}
use Rattle.def_names.specs.Numbering.{point_before, point_after, point_inside}
use Rattle.def_sweep.specs.Marks.{active_at}
use Rattle.def_sweep.specs.Facts.{is_adjointed}
use Rattle.def_flow.specs.Parts.{Part, parts, find_part}
use Rattle.def_flow.specs.Ways.{Way, assigned_on, passed_on}
use Rattle.def_flow.specs.Standing.{Place, outermost, part_of, turn_of, Standing}
use Rattle.def_names.specs.VariableLists.{list_if, vars_in_terms, occurring_in, used_in, handed_in, standing_in}
use Rattle.def_flow.specs.AdjointReads.{adjoint_reads_in}
use Rattle.def_flow.specs.Problem.{Problem, TakesPart, statements_of, ways_of, flagged, bound}
use Rattle.def_flow.specs.Flow.{Node}
use Rattle.def_flow.specs.Activity.{Activity, activity_marks, resets, Adjoint, statement, unit, split_at}
use Rattle.def_flow.specs.Uses.{use_point, site, turned_by, is_turn}
use Rattle.def_flow.specs.Live.{Fact, needed, kept, wanted, Liveness}
use Rattle.def_flow.specs.Held.{marks_of, replaced_on}

-- the units that take part, and the variables of each
pub record Scope : Type 0 where
  pub parts : List Part
  pub variables : Part → List Var

-- these are just the units that take part; the variables of each hold its dummies and what stands in its statements
pub record Covers (k : Problem) (o : Scope) : Type 0 where
  pub parts : (g : Part) → Contains o.parts g ↔ TakesPart k g
  pub dummies : (g : Part) → TakesPart k g → (d : List ℕ) → Contains g.unit.dummies d → Contains (o.variables g) (plain d)
  pub standing : (g : Part) → TakesPart k g → (s : Standing) → Contains (statements_of g) s → (v : Var) → Contains (standing_in s.act) v → Contains (o.variables g) v

abbrev pub list_of : {X : Type 0} → Option X → List X
list_of None = []
list_of (Some x) = x ∷ []

-- the unit that a statement calls, with the actuals
abbrev pub with_args : Terms → Option Part → List (Part × Terms)
with_args args None = []
with_args args (Some g) = (g, args) ∷ []

abbrev pub called : List Part → Act → List (Part × Terms)
called ps (assign x subs e) = []
called ps (choose c a b) = []
called ps (loop x first last by body m) = []
called ps (during c body) = []
called ps (call name args) = with_args args (find_part ps name)
called ps (runtime r) = []

-- steps the other way
abbrev pub against : {A : Type 0} → List (A × A) → List (A × A)
against steps = map (λ e. (e.1, e.0)) steps

-- something for each dummy with its actual
abbrev pub at_actuals : {X : Type 0} → (Part → List ℕ → Var → List X) → Part × Terms → List X
at_actuals f c = flat_map (λ b. f c.0 b.0 b.1) (bound c.0.unit.dummies c.1)

-- the statement that holds what stands at a place
abbrev pub holders : Place → List ℕ
holders outermost = []
holders (part_of i) = i ∷ []
holders (turn_of i x) = i ∷ []

-- the head
abbrev pub head_parts : Problem → List Part
head_parts k = list_of (slice_get (parts k.units) k.head)

-- ---- the units that take part, by their numbers

abbrev pub part_steps : Problem → List (ℕ × ℕ)
part_steps k = flat_map (λ f. flat_map (λ s. map (λ c. (f.number, c.0.number)) (called (parts k.units) s.act)) (statements_of f)) (parts k.units)

-- ---- flow

abbrev pub flow_stays : List Var → Way → List (Node × Node)
flow_stays vs w = flat_map (λ v. list_if (not (assigned_on w.deed v) && not (passed_on w.deed v)) (((w.from, v), (w.to, v)) ∷ [])) vs

abbrev pub flow_assigned : ℕ → Act → List (Node × Node)
flow_assigned i (assign x subs e) = map (λ v. ((point_before i, v), (point_after i, x))) (occurring_in e)
flow_assigned i (choose c a b) = []
flow_assigned i (loop x first last by body m) = []
flow_assigned i (during c body) = []
flow_assigned i (call name args) = []
flow_assigned i (runtime r) = []

abbrev pub flow_called : ℕ → Part → List ℕ → Var → List (Node × Node)
flow_called i g d a = ((point_before i, a), (g.entry, plain d)) ∷ ((g.end, plain d), (point_after i, a)) ∷ []

abbrev pub flow_at : Problem → Standing → List (Node × Node)
flow_at k s = flow_assigned s.number s.act ++ flat_map (at_actuals (flow_called s.number)) (called (parts k.units) s.act)

abbrev pub flow_steps : Problem → Scope → List (Node × Node)
flow_steps k o = flat_map (λ g. flat_map (flow_stays (o.variables g)) (ways_of g) ++ flat_map (flow_at k) (statements_of g)) o.parts

abbrev pub varied_starts : Problem → List Node
varied_starts k = flat_map (λ g. map (λ d. (g.entry, plain d)) (flagged k.vars g.unit.dummies)) (head_parts k)

abbrev pub useful_starts : Problem → List Node
useful_starts k = flat_map (λ g. map (λ d. (g.end, plain d)) (flagged k.outvars g.unit.dummies)) (head_parts k)

-- ---- shadows

-- at a point of these ways
abbrev pub somewhere : List Way → (ℕ → Bool) → Bool
somewhere [] f = false
somewhere (w ∷ ws) f = f w.from || (f w.to || somewhere ws f)

abbrev pub shadow_starts : Problem → Scope → (ℕ → Vars) → (ℕ → Vars) → List (ℕ × Var)
shadow_starts k o varied useful =
    flat_map (λ g. map (λ d. (g.number, plain d)) (flagged k.vars g.unit.dummies) ++ map (λ d. (g.number, plain d)) (flagged k.outvars g.unit.dummies)) (head_parts k)
    ++ flat_map (λ g. flat_map (λ v. list_if (somewhere (ways_of g) (λ p. varied p v) && somewhere (ways_of g) (λ p. useful p v)) ((g.number, v) ∷ [])) (o.variables g)) o.parts

abbrev pub shadow_called : ℕ → (ℕ → Vars) → Part → List ℕ → Var → List ((ℕ × Var) × (ℕ × Var))
shadow_called u varied g d a = ((g.number, plain d), (u, a)) ∷ list_if (varied g.entry (plain d)) (((u, a), (g.number, plain d)) ∷ [])

abbrev pub shadow_steps : Problem → Scope → (ℕ → Vars) → List ((ℕ × Var) × (ℕ × Var))
shadow_steps k o varied = flat_map (λ f. flat_map (λ s. flat_map (at_actuals (shadow_called f.number varied)) (called (parts k.units) s.act)) (statements_of f)) o.parts

-- ---- adjoints

abbrev pub adjoint_starts_at : Activity → ℕ → ℕ → Act → List Adjoint
adjoint_starts_at a u i (assign x subs e) = list_if (is_adjointed (activity_marks a u) i x subs) (statement i ∷ [])
adjoint_starts_at a u i (choose c b d) = []
adjoint_starts_at a u i (loop x first last by body m) = list_if (resets a u i x) (statement i ∷ [])
adjoint_starts_at a u i (during c body) = []
adjoint_starts_at a u i (call name args) = []
adjoint_starts_at a u i (runtime r) = []

abbrev pub adjoint_starts : Activity → Scope → List Adjoint
adjoint_starts a o = flat_map (λ g. flat_map (λ s. adjoint_starts_at a g.number s.number s.act) (statements_of g)) o.parts

abbrev pub adjoint_steps_at : Problem → ℕ → Standing → List (Adjoint × Adjoint)
adjoint_steps_at k u s =
    map (λ i. (statement s.number, statement i)) (holders s.place) ++ ((statement s.number, unit u) ∷ map (λ c. (unit c.0.number, statement s.number)) (called (parts k.units) s.act))

abbrev pub adjoint_steps : Problem → Scope → List (Adjoint × Adjoint)
adjoint_steps k o = flat_map (λ g. flat_map (adjoint_steps_at k g.number) (statements_of g)) o.parts

-- ---- needed, kept, wanted

-- what begins by what a statement does itself
abbrev pub live_starts_by : Activity → ℕ → ℕ → Act → List Fact
live_starts_by a u i (assign x subs e) = list_if (a.adjointed i) (map (λ v. needed (point_before i) v) (adjoint_reads_in (active_at (activity_marks a u) i) e ++ vars_in_terms subs))
live_starts_by a u i (choose c b d) = []
live_starts_by a u i (loop x first last by body m) = list_if (resets a u i x) (kept i ∷ [])
live_starts_by a u i (during c body) = []
live_starts_by a u i (call name args) = []
live_starts_by a u i (runtime r) = []

abbrev pub live_turned : Problem → Place → Part → List ℕ → Var → List Fact
live_turned k outermost g d v = []
live_turned k (part_of i) g d v = []
live_turned k (turn_of i x) g d v = list_if (is_read k.units g.unit d && not (var_eq v x)) (needed (point_before i) v ∷ [])

abbrev pub live_starts_at : Problem → Activity → ℕ → Standing → List Fact
live_starts_at k a u s =
    live_starts_by a u s.number s.act
    ++ list_if (a.adjointed s.number) (list_if (k.split s.number) (kept s.number ∷ []) ++ (map kept (holders s.place) ++ flat_map (at_actuals (live_turned k s.place)) (called (parts k.units) s.act)))

abbrev pub live_starts : Problem → Activity → Scope → List Fact
live_starts k a o = flat_map (λ g. map (wanted g.number) (filter (λ d. is_extent d g.unit.declarations) g.unit.dummies) ++ flat_map (live_starts_at k a g.number) (statements_of g)) o.parts

abbrev pub live_stays : List Var → Way → List (Fact × Fact)
live_stays vs w = flat_map (λ v. list_if (not (assigned_on w.deed v)) ((needed w.to v, needed w.from v) ∷ [])) vs

-- where a statement is kept for what it assigns
abbrev pub live_assigned : ℕ → Act → List (Fact × Fact)
live_assigned i (assign x subs e) = (needed (point_after i) x, kept i) ∷ []
live_assigned i (choose c b d) = []
live_assigned i (loop x first last by body m) = (needed (point_inside i) x, kept i) ∷ []
live_assigned i (during c body) = []
live_assigned i (call name args) = []
live_assigned i (runtime r) = []

abbrev pub live_member : Activity → Standing → Part → List ℕ → Var → List (Fact × Fact)
live_member a s g d v = list_if (a.adjointed s.number && not (turned_by s.place v)) ((wanted g.number d, needed (point_before (site true s.number s.place)) v) ∷ [])

abbrev pub live_called : Problem → Activity → Standing → Part × Terms → List (Fact × Fact)
live_called k a s c = map (λ v. (needed (point_after (site (a.adjointed s.number) s.number s.place)) v, kept s.number)) (handed_in k.units s.act) ++ at_actuals (live_member a s) c

abbrev pub live_steps_at : Problem → Activity → Standing → List (Fact × Fact)
live_steps_at k a s =
    map (λ v. (kept s.number, needed (use_point s.number s.act) v)) (used_in k.units s.act)
    ++ (live_assigned s.number s.act ++ (map (λ n. (kept s.number, kept n)) (holders s.place) ++ flat_map (live_called k a s) (called (parts k.units) s.act)))

abbrev pub live_steps : Problem → Activity → Scope → List (Fact × Fact)
live_steps k a o =
    flat_map (λ g. map (λ d. (needed g.entry (plain d), wanted g.number d)) g.unit.dummies ++ (flat_map (live_stays (o.variables g)) (ways_of g) ++ flat_map (live_steps_at k a) (statements_of g))) o.parts

-- ---- adjoint reads, held, saved

abbrev pub reads_by : Activity → Liveness → ℕ → ℕ → Act → List (ℕ × Var)
reads_by a l u i (assign x subs e) =
    map (λ v. (i, v)) (list_if (a.adjointed i) (adjoint_reads_in (active_at (marks_of a l (λ j. everything) u) i) e) ++ list_if (l.kept i || a.adjointed i) (vars_in_terms subs))
reads_by a l u i (choose c b d) = []
reads_by a l u i (loop x first last by body m) = []
reads_by a l u i (during c body) = []
reads_by a l u i (call name args) = []
reads_by a l u i (runtime r) = []

abbrev pub reads_called : Problem → Activity → Liveness → Standing → Part → List ℕ → Var → List (ℕ × Var)
reads_called k a l s g d v =
    list_if (a.adjointed s.number && (not (turned_by s.place v) && ((l.wanted g.number d || ((k.split s.number || is_turn s.place) && is_read k.units g.unit d)) && not (is_written k.units g.unit d)))) ((site true s.number s.place, v) ∷ [])

abbrev pub reads_list : Problem → Activity → Liveness → Scope → List (ℕ × Var)
reads_list k a l o = flat_map (λ g. flat_map (λ s. reads_by a l g.number s.number s.act ++ flat_map (at_actuals (reads_called k a l s)) (called (parts k.units) s.act)) (statements_of g)) o.parts

abbrev pub held_starts : Problem → Activity → Liveness → Scope → List Node
held_starts k a l o =
    flat_map (λ g. flat_map (λ w. flat_map (λ r. list_if ((w.from == point_before r.0) && not (replaced_on l.kept w.deed r.1)) ((w.to, r.1) ∷ [])) (reads_list k a l o)) (ways_of g)) o.parts

abbrev pub held_stays : Liveness → List Var → Way → List (Node × Node)
held_stays l vs w = flat_map (λ v. list_if (not (replaced_on l.kept w.deed v)) (((w.from, v), (w.to, v)) ∷ [])) vs

abbrev pub held_steps : Liveness → Scope → List (Node × Node)
held_steps l o = flat_map (λ g. flat_map (held_stays l (o.variables g)) (ways_of g)) o.parts

abbrev pub may_save_by : Liveness → ℕ → Act → List (ℕ × Var)
may_save_by l i (assign x subs e) = list_if (l.kept i) ((i, x) ∷ [])
may_save_by l i (choose c b d) = []
may_save_by l i (loop x first last by body m) = list_if (l.kept i) ((i, x) ∷ [])
may_save_by l i (during c body) = []
may_save_by l i (call name args) = []
may_save_by l i (runtime r) = []

abbrev pub may_save_called : Problem → Activity → Liveness → Standing → Part × Terms → List (ℕ × Var)
may_save_called k a l s c = list_if (not (split_at k a s.number) && (l.kept s.number || a.adjointed s.number)) (map (λ v. (site (a.adjointed s.number) s.number s.place, v)) (handed_in k.units s.act))

abbrev pub may_save_list : Problem → Activity → Liveness → Scope → List (ℕ × Var)
may_save_list k a l o = flat_map (λ g. flat_map (λ s. may_save_by l s.number s.act ++ flat_map (may_save_called k a l s) (called (parts k.units) s.act)) (statements_of g)) o.parts
