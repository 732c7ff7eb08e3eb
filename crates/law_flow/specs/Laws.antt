-- The laws that join facts at neighbouring points of a program, as far as its central theorem uses them. That the analyses meet them is proved in proofs/.
use Rattle.std.specs.Prelude.{◌≡◌, ◌⊎◌, ℕ, List, Bool, true, false, ◌||◌, ◌&&◌, Contains}
use Rattle.adj_tree.specs.Code.{Var, plain, Terms, Term, Act, assign, choose, loop, during, call, runtime, Procedure}
use Rattle.def_meaning.specs.Read.{is_read, is_extent}
use Rattle.def_meaning.specs.Written.{act_writes, handed_back, is_written}
use Rattle.def_names.specs.Numbers.{Vars}
use Rattle.def_names.specs.Numbering.{point_before, point_after, point_inside}
use Rattle.def_sweep.specs.Facts.{In, Within, without, joined, vars_if, whole, is_adjointed, Facts}
use Rattle.def_flow.specs.Parts.{Part}
use Rattle.def_flow.specs.Ways.{Way, assigned_on, passed_on}
use Rattle.def_flow.specs.Standing.{Standing}
use Rattle.def_sweep.specs.Occurrences.{occurring, reads_at}
use Rattle.def_flow.specs.Problem.{Problem, statements_of, ways_of, CallsUnit, TakesPart, bound}
use Rattle.def_flow.specs.Activity.{Activity, IsPoint, Holds, split_at}
use Rattle.def_names.specs.Uses.{uses}
use Rattle.def_flow.specs.Uses.{use_point, site, turned_by, is_turn}
use Rattle.def_flow.specs.Live.{Liveness}
use Rattle.def_flow.specs.Held.{marks_of, replaced_on}
use Rattle.def_flow.specs.Analysed.{Analysed}

-- the facts of the u-th unit
abbrev pub facts_of : Problem → Activity → Liveness → (ℕ → Vars) → (ℕ → Vars) → ℕ → Facts
facts_of k a l saved held u = record { marks = record (marks_of a l saved u) { split = split_at k a }; needed = l.needed; held = held }

-- ---- on a way

pub record OnWay (w : Facts) (x : Way) : Type 0 where
  pub needs : Within (without (w.needed x.to) (assigned_on x.deed)) (w.needed x.from)
  pub holds : Within (without (w.held x.from) (replaced_on w.marks.kept x.deed)) (w.held x.to)
  pub varies : Within (without (without (w.marks.varied x.from) (assigned_on x.deed)) (passed_on x.deed)) (w.marks.varied x.to)
  pub serves : Within (without (without (w.marks.useful x.to) (assigned_on x.deed)) (passed_on x.deed)) (w.marks.useful x.from)

-- ---- at a statement

-- what holds a statement is kept where the statement is kept or adjointed, and adjointed where it is adjointed
pub record AtHolder (w : Facts) (s : Standing) : Type 0 where
  pub keeps : (i : ℕ) → Holds i s.place → (w.marks.kept s.number ≡ true) ⊎ (w.marks.adjointed s.number ≡ true) → w.marks.kept i ≡ true
  pub adjoints : (i : ℕ) → Holds i s.place → w.marks.adjointed s.number ≡ true → w.marks.adjointed i ≡ true

-- what a kept statement uses is needed where it uses it
abbrev pub AtKept : List Procedure → Facts → Standing → Type 0
AtKept units w s = w.marks.kept s.number ≡ true → Within (uses units s.act) (w.needed (use_point s.number s.act))

-- an assignment of e to x(subs)
pub record AtAssignment (w : Facts) (i : ℕ) (x : Var) (subs : Terms) (e : Term) : Type 0 where
  -- its adjoint reads are needed before it, and held after it unless it replaces them
  pub needs : Within (reads_at w.marks i subs e) (w.needed (point_before i))
  pub holds : Within (without (reads_at w.marks i subs e) (vars_if (w.marks.kept i) (whole x subs))) (w.held (point_after i))
  -- it is kept where its target is needed, and then saves it where that is held before it or among its adjoint reads
  pub keeps : In x (w.needed (point_after i)) → w.marks.kept i ≡ true
  pub saves : w.marks.kept i ≡ true → In x (joined (w.held (point_before i)) (reads_at w.marks i subs e)) → In x (w.marks.saved i)
  -- derivatives go from each differentiable occurrence to the target
  pub varies : (v : Var) → In v (occurring e) → In v (w.marks.varied (point_before i)) → In x (w.marks.varied (point_after i))
  pub serves : (v : Var) → In v (occurring e) → In x (w.marks.useful (point_after i)) → In v (w.marks.useful (point_before i))
  pub adjoints : w.marks.adjointed i ≡ is_adjointed w.marks i x subs

-- an IF or a DO WHILE
pub record AtBranch (w : Facts) (i : ℕ) : Type 0 where
  pub keeps : w.marks.adjointed i ≡ true → w.marks.kept i ≡ true

pub record AtLoop (w : Facts) (i : ℕ) (x : Var) : Type 0 where
  -- it is kept where its variable is needed after its entry, where it resets a shadow, and where it is adjointed
  pub keeps : In x (w.needed (point_inside i)) → w.marks.kept i ≡ true
  pub resets : In x w.marks.shadowed → In x (w.marks.varied (point_before i)) → (w.marks.adjointed i ≡ true) × (w.marks.kept i ≡ true)
  pub branch : AtBranch w i
  pub saves : w.marks.kept i ≡ true → In x (w.held (point_before i)) → In x (w.marks.saved i)

-- the laws of a statement by what it does; those of a call join two units, and are said apart
abbrev pub ActAt : Facts → ℕ → Act → Type 0
ActAt w i (assign x subs e) = AtAssignment w i x subs e
ActAt w i (choose c a b) = AtBranch w i
ActAt w i (loop x first last by body m) = AtLoop w i x
ActAt w i (during c body) = AtBranch w i
ActAt w i (call name args) = Unit {0}
ActAt w i (runtime r) = Unit {0}

pub record AtStatement (units : List Procedure) (w : Facts) (s : Standing) : Type 0 where
  pub act : ActAt w s.number s.act
  pub kept : AtKept units w s
  pub holder : AtHolder w s

-- at a call of the unit g; `wanted` is its entry set
pub record AtCall (k : Problem) (wanted : List ℕ → Bool) (shadowed : Vars) (w : Facts) (g : Part) (s : Standing) (args : Terms) : Type 0 where
  -- it is kept where something that it may write is needed after it
  pub keeps : (v : Var) → act_writes (handed_back k.units) v s.act ≡ true → In v (w.needed (point_after (site (w.marks.adjointed s.number) s.number s.place))) → w.marks.kept s.number ≡ true
  -- where it is adjointed, the actuals of its unit's entry set are needed before it; for the turns of a marked loop those that the unit reads, too
  pub members : w.marks.adjointed s.number ≡ true → (d : List ℕ) (v : Var) → Contains (bound g.unit.dummies args) (d, v) → turned_by s.place v ≡ false →
      (wanted d ≡ true) ⊎ ((is_turn s.place ≡ true) × (is_read k.units g.unit d ≡ true)) → In v (w.needed (point_before (site true s.number s.place)))
  -- derivatives go into the unit and back
  pub enters : (d : List ℕ) (v : Var) → Contains (bound g.unit.dummies args) (d, v) → In v (w.marks.varied (point_before s.number)) → In (plain d) (w.marks.varied g.entry)
  pub leaves : (d : List ℕ) (v : Var) → Contains (bound g.unit.dummies args) (d, v) → In (plain d) (w.marks.varied g.end) → In v (w.marks.varied (point_after s.number))
  pub asks : (d : List ℕ) (v : Var) → Contains (bound g.unit.dummies args) (d, v) → In v (w.marks.useful (point_after s.number)) → In (plain d) (w.marks.useful g.end)
  pub serves : (d : List ℕ) (v : Var) → Contains (bound g.unit.dummies args) (d, v) → In (plain d) (w.marks.useful g.entry) → In v (w.marks.useful (point_before s.number))
  -- and so do shadows
  pub lends : (d : List ℕ) (v : Var) → Contains (bound g.unit.dummies args) (d, v) → In (plain d) shadowed → In v w.marks.shadowed
  pub borrows : (d : List ℕ) (v : Var) → Contains (bound g.unit.dummies args) (d, v) → In v w.marks.shadowed → In (plain d) (w.marks.varied g.entry) → In (plain d) shadowed
  pub adjoints : (t : Standing) → Contains (statements_of g) t → w.marks.adjointed t.number ≡ true → w.marks.adjointed s.number ≡ true
  -- the actuals that its adjoint reads are held on each way from it, unless it replaces them
  pub holds : w.marks.adjointed s.number ≡ true → (d : List ℕ) (v : Var) → Contains (bound g.unit.dummies args) (d, v) → turned_by s.place v ≡ false →
      (wanted d || ((k.split s.number || is_turn s.place) && is_read k.units g.unit d)) ≡ true → is_written k.units g.unit d ≡ false →
      (f : Part) → TakesPart k f → (x : Way) → Contains (ways_of f) x → x.from ≡ point_before (site true s.number s.place) → replaced_on w.marks.kept x.deed v ≡ false → In v (w.held x.to)
  -- a split call is kept
  pub splits : w.marks.split s.number ≡ true → w.marks.kept s.number ≡ true
  -- what a call that isn't split may write is saved where that is held before it
  pub saves : (w.marks.kept s.number || w.marks.adjointed s.number) ≡ true → w.marks.split s.number ≡ false → (v : Var) → act_writes (handed_back k.units) v s.act ≡ true →
      In v (w.held (point_before (site (w.marks.adjointed s.number) s.number s.place))) → In v (w.marks.saved (site (w.marks.adjointed s.number) s.number s.place))

-- ---- in a unit

pub record InUnit (w : Facts) (g : Part) : Type 0 where
  -- what is varied at a point of the unit and useful at one has a shadow
  pub shadows : (p q : ℕ) (v : Var) → IsPoint g p → IsPoint g q → In v (w.marks.varied p) → In v (w.marks.useful q) → In v w.marks.shadowed
  pub ways : (x : Way) → Contains (ways_of g) x → OnWay w x
  pub holders : (s : Standing) → Contains (statements_of g) s → AtHolder w s

-- what is needed at the unit's entry is in its entry set, and the extents of its dummy arrays are
pub record OnEntry (wanted : List ℕ → Bool) (w : Facts) (g : Part) : Type 0 where
  pub enters : (d : List ℕ) → Contains g.unit.dummies d → In (plain d) (w.needed g.entry) → wanted d ≡ true
  pub extents : (d : List ℕ) → Contains g.unit.dummies d → is_extent d g.unit.declarations ≡ true → wanted d ≡ true

-- ---- what is proved of them

-- it meets the laws of each way and holder, of each assignment, branch and loop, and of each call
abbrev pub AnalysedIsClosed : Type 0
AnalysedIsClosed = (k : Problem) (a : Activity) (l : Liveness) (saved held : ℕ → Vars) → Analysed k a l saved held → (g : Part) → TakesPart k g → InUnit (facts_of k a l saved held g.number) g

abbrev pub EntriesAreClosed : Type 0
EntriesAreClosed = (k : Problem) (a : Activity) (l : Liveness) (saved held : ℕ → Vars) → Analysed k a l saved held → (g : Part) → TakesPart k g → OnEntry (l.wanted g.number) (facts_of k a l saved held g.number) g

abbrev pub StatementsAreClosed : Type 0
StatementsAreClosed = (k : Problem) (a : Activity) (l : Liveness) (saved held : ℕ → Vars) → Analysed k a l saved held → (g : Part) → TakesPart k g → (s : Standing) → Contains (statements_of g) s →
    AtStatement k.units (facts_of k a l saved held g.number) s

abbrev pub CallsAreClosed : Type 0
CallsAreClosed = (k : Problem) (a : Activity) (l : Liveness) (saved held : ℕ → Vars) → Analysed k a l saved held → (f g : Part) → TakesPart k f → (s : Standing) (args : Terms) → CallsUnit k f g s args →
    AtCall k (l.wanted g.number) (a.shadowed g.number) (facts_of k a l saved held f.number) g s args
