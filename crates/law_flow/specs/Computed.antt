-- The analyses of a program, computed: each set in some passes over its steps.
use Rattle.std.specs.Prelude.{◌≡◌, ℕ, List, [], ◌∷◌, map, flat_map, filter, Bool, false, ◌&&◌, ◌||◌, ◌==◌, true, not}
use Rattle.adj_tree.specs.Code.{Var, var_eq, name_eq}
use Rattle.def_names.specs.Numbers.{Vars}
use Rattle.def_names.specs.Numbering.{point_before}
use Rattle.def_flow.specs.Parts.{Part, parts}
use Rattle.def_flow.specs.Standing.{Standing}
use Rattle.def_flow.specs.Problem.{Problem, statements_of}
use Rattle.def_flow.specs.Flow.{Node}
use Rattle.def_flow.specs.Activity.{Activity, Adjoint, statement, unit}
use Rattle.def_flow.specs.Live.{Fact, needed, kept, wanted, Liveness}
use Rattle.def_flow.specs.Rules.{Scope, against, head_parts, part_steps, flow_steps, varied_starts, useful_starts, shadow_starts, shadow_steps, adjoint_starts, adjoint_steps, live_starts, live_steps, reads_list, held_starts, held_steps, may_save_list}
use Rattle.def_flow.specs.Closure.{is_in, closure, is_closed}
use Rattle.def_flow.specs.Analysed.{Analysed}
use Rattle.def_flow.specs.Scopes.{same_number, scope_of, variables_of}

-- ---- sameness

abbrev pub same_node : Node → Node → Bool
same_node m n = (m.0 == n.0) && var_eq m.1 n.1

abbrev pub same_adjoint : Adjoint → Adjoint → Bool
same_adjoint (statement i) (statement j) = i == j
same_adjoint (statement i) (unit u) = false
same_adjoint (unit u) (statement i) = false
same_adjoint (unit u) (unit w) = u == w

abbrev pub same_fact : Fact → Fact → Bool
same_fact (needed p v) (needed q w) = (p == q) && var_eq v w
same_fact (needed p v) (kept i) = false
same_fact (needed p v) (wanted u d) = false
same_fact (kept i) (needed p v) = false
same_fact (kept i) (kept j) = i == j
same_fact (kept i) (wanted u d) = false
same_fact (wanted u d) (needed p v) = false
same_fact (wanted u d) (kept i) = false
same_fact (wanted u d) (wanted w e) = (u == w) && name_eq d e

-- ---- lists as sets

abbrev pub by_point : List Node → ℕ → Vars
by_point set p v = is_in same_node set (p, v)

abbrev pub activity_of : List Node → List Node → List Node → List Adjoint → Activity
activity_of varied useful shadowed adjointed = record { varied = by_point varied; useful = by_point useful; adjointed = λ i. is_in same_adjoint adjointed (statement i); shadowed = by_point shadowed }

abbrev pub liveness_of : List Fact → Liveness
liveness_of facts = record { needed = λ p v. is_in same_fact facts (needed p v); kept = λ i. is_in same_fact facts (kept i); wanted = λ u d. is_in same_fact facts (wanted u d) }

abbrev pub saved_by : List Node → List Node → List Node → ℕ → Vars
saved_by may reads held i v = is_in same_node may (i, v) && (is_in same_node held (point_before i, v) || is_in same_node reads (i, v))

-- ---- marks

pub record Row : Type 0 where
  pub adjointed : Bool
  pub kept : Bool
  pub saved : List Var

pub record Table : Type 0 where
  -- of the statements in order
  pub rows : List Row
  -- of the units in order: the variables with a shadow, and the entry set
  pub shadows : List (List Var)
  pub entries : List (List (List ℕ))

abbrev pub row_of : Activity → Liveness → (ℕ → Vars) → Part → Standing → Row
row_of a l saved g s = record { adjointed = a.adjointed s.number; kept = l.kept s.number; saved = filter (saved s.number) (variables_of g) }

abbrev pub table_of : Problem → Activity → Liveness → (ℕ → Vars) → Table
table_of k a l saved = record {
  rows = flat_map (λ g. map (row_of a l saved g) (statements_of g)) (parts k.units);
  shadows = map (λ g. filter (a.shadowed g.number) (variables_of g)) (parts k.units);
  entries = map (λ g. filter (l.wanted g.number) g.unit.dummies) (parts k.units);
}

abbrev pub same_lists : {A : Type 0} → (A → A → Bool) → List A → List A → Bool
same_lists same [] [] = true
same_lists same [] (y ∷ ys) = false
same_lists same (x ∷ xs) [] = false
same_lists same (x ∷ xs) (y ∷ ys) = same x y && same_lists same xs ys

abbrev pub same_truths : Bool → Bool → Bool
same_truths true b = b
same_truths false b = not b

abbrev pub same_rows : Row → Row → Bool
same_rows r s = same_truths r.adjointed s.adjointed && (same_truths r.kept s.kept && same_lists var_eq r.saved s.saved)

abbrev pub same_tables : Table → Table → Bool
same_tables t u = same_lists same_rows t.rows u.rows && (same_lists (same_lists var_eq) t.shadows u.shadows && same_lists (same_lists name_eq) t.entries u.entries)

-- exact analyses of the program say this
pub record HasTable (k : Problem) (t : Table) : Type 0 where
  pub activity : Activity
  pub live : Liveness
  pub saved : ℕ → Vars
  pub held : ℕ → Vars
  pub analysed : Analysed k activity live saved held
  pub table : table_of k activity live saved ≡ t

-- ---- computed: each list is made before what needs it

-- whether all sets are closed, and the marks by them
pub record Outcome : Type 0 where
  pub is_closed : Bool
  pub table : Table

abbrev pub closed_and : Bool → Outcome → Outcome
closed_and b r = record { is_closed = b && r.is_closed; table = r.table }

abbrev pub with_saved : Problem → Activity → Liveness → List Node → List Node → List Node → Table
with_saved k a l held may reads = table_of k a l (saved_by may reads held)

abbrev pub with_held : Problem → Scope → Activity → Liveness → List Node → Outcome
with_held k o a l held = record { is_closed = is_closed same_node (held_steps l o) held; table = with_saved k a l held (may_save_list k a l o) (reads_list k a l o) }

abbrev pub with_live : Problem → ℕ → Scope → Activity → Liveness → Outcome
with_live k n o a l = with_held k o a l (closure same_node (held_steps l o) n (held_starts k a l o))

abbrev pub with_facts : Problem → ℕ → Scope → Activity → List Fact → Outcome
with_facts k n o a facts = closed_and (is_closed same_fact (live_steps k a o) facts) (with_live k n o a (liveness_of facts))

abbrev pub with_activity : Problem → ℕ → Scope → Activity → Outcome
with_activity k n o a = with_facts k n o a (closure same_fact (live_steps k a o) n (live_starts k a o))

abbrev pub with_adjoints : Problem → ℕ → Scope → List Node → List Node → List Node → List Adjoint → Outcome
with_adjoints k n o varied useful shadowed adjointed = closed_and (is_closed same_adjoint (adjoint_steps k o) adjointed) (with_activity k n o (activity_of varied useful shadowed adjointed))

abbrev pub with_shadows : Problem → ℕ → Scope → List Node → List Node → List Node → Outcome
with_shadows k n o varied useful shadowed =
    closed_and (is_closed same_node (shadow_steps k o (by_point varied)) shadowed)
    (with_adjoints k n o varied useful shadowed (closure same_adjoint (adjoint_steps k o) n (adjoint_starts (activity_of varied useful shadowed []) o)))

abbrev pub with_useful : Problem → ℕ → Scope → List Node → List Node → Outcome
with_useful k n o varied useful = with_shadows k n o varied useful (closure same_node (shadow_steps k o (by_point varied)) n (shadow_starts k o (by_point varied) (by_point useful)))

abbrev pub with_flow : Problem → ℕ → Scope → List (Node × Node) → List Node → List Node → Outcome
with_flow k n o steps varied useful = closed_and (is_closed same_node steps varied && is_closed same_node (against steps) useful) (with_useful k n o varied useful)

abbrev pub with_steps : Problem → ℕ → Scope → List (Node × Node) → Outcome
with_steps k n o steps = with_flow k n o steps (closure same_node steps n (varied_starts k)) (closure same_node (against steps) n (useful_starts k))

abbrev pub with_scope : Problem → ℕ → Scope → Outcome
with_scope k n o = with_steps k n o (flow_steps k o)

abbrev pub with_parts : Problem → ℕ → List ℕ → Outcome
with_parts k n numbers = closed_and (is_closed same_number (part_steps k) numbers) (with_scope k n (scope_of k numbers))

-- in so many passes
abbrev pub computed : Problem → ℕ → Outcome
computed k n = with_parts k n (closure same_number (part_steps k) n (map (λ g. g.number) (head_parts k)))
