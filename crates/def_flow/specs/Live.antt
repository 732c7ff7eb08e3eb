-- Which values the sweeps need, which statements the forward sweep keeps, and which dummies an adjoint unit needs when it begins.
-- Each rule has one premise at most, so the three together are one set that is reached. (docs/ANALYSES.md, "Adjoint liveness")
use Rattle.std.specs.Prelude.{◌≡◌, ◌↔◌, ℕ, List, Bool, true, false, Contains}
use Rattle.adj_tree.specs.Code.{Var, plain, Terms, Term, Code, Mark, assign, loop}
use Rattle.def_meaning.specs.Read.{is_extent, is_read}
use Rattle.def_meaning.specs.Written.{act_writes, handed_back}
use Rattle.def_names.specs.Numbers.{Vars}
use Rattle.def_names.specs.Numbering.{point_before, point_after, point_inside}
use Rattle.def_sweep.specs.Marks.{active_at}
use Rattle.def_sweep.specs.Facts.{In, joined, in_terms}
use Rattle.adj_reach.specs.Reached.{Reached}
use Rattle.def_flow.specs.Parts.{Part}
use Rattle.def_flow.specs.Ways.{Way, assigned_on}
use Rattle.def_flow.specs.Standing.{Standing, turn_of}
use Rattle.def_sweep.specs.Occurrences.{adjoint_reads}
use Rattle.def_flow.specs.Problem.{Problem, statements_of, ways_of, CallsUnit, TakesPart, bound}
use Rattle.def_flow.specs.Activity.{Activity, activity_marks, Holds, resets, split_at}
use Rattle.def_names.specs.Uses.{uses}
use Rattle.def_flow.specs.Uses.{use_point, site, turned_by}

pub data Fact : Type 0 where
  -- the variable is needed at the point
  needed : ℕ → Var → Fact
  -- the statement is kept
  kept : ℕ → Fact
  -- the dummy is in the entry set of the unit of this number
  wanted : ℕ → List ℕ → Fact

-- what holds by the activity alone
pub data LiveBegins (k : Problem) (a : Activity) : Fact → Type 0 where
  -- before an adjointed assignment the values that its adjoint reads, and those in its target's subscripts
  reads : {g : Part} {s : Standing} {x : Var} {subs : Terms} {e : Term} {v : Var} → TakesPart k g → Contains (statements_of g) s → s.act ≡ assign x subs e → a.adjointed s.number ≡ true →
      In v (joined (adjoint_reads (active_at (activity_marks a g.number) s.number) e) (in_terms subs)) → LiveBegins k a (needed (point_before s.number) v)
  -- before an adjointed marked loop what its step unit reads, without the loop's variable
  turns : {f g : Part} {s : Standing} {args : Terms} {i : ℕ} {x : Var} {d : List ℕ} {v : Var} → TakesPart k f → CallsUnit k f g s args → a.adjointed s.number ≡ true → s.place ≡ turn_of i x →
      Contains (bound g.unit.dummies args) (d, v) → is_read k.units g.unit d ≡ true → turned_by s.place v ≡ false → LiveBegins k a (needed (point_before i) v)
  -- an IF or a loop is kept that holds an adjointed statement
  holds : {g : Part} {s : Standing} {i : ℕ} → TakesPart k g → Contains (statements_of g) s → a.adjointed s.number ≡ true → Holds i s.place → LiveBegins k a (kept i)
  -- and a DO that resets its variable's shadow
  counts : {g : Part} {s : Standing} {x : Var} {first last by : Term} {body : Code} {m : Mark} → TakesPart k g → Contains (statements_of g) s → s.act ≡ loop x first last by body m →
      resets a g.number s.number x ≡ true → LiveBegins k a (kept s.number)
  -- a split call
  split : {g : Part} {s : Standing} → TakesPart k g → Contains (statements_of g) s → split_at k a s.number ≡ true → LiveBegins k a (kept s.number)
  -- the extents of dummy arrays
  extents : {g : Part} {d : List ℕ} → TakesPart k g → Contains g.unit.dummies d → is_extent d g.unit.declarations ≡ true → LiveBegins k a (wanted g.number d)

pub data LiveLeads (k : Problem) (a : Activity) : Fact → Fact → Type 0 where
  -- what is needed at a point is needed before each way there that doesn't assign it whole
  stays : {g : Part} {w : Way} {v : Var} → TakesPart k g → Contains (ways_of g) w → assigned_on w.deed v ≡ false → LiveLeads k a (needed w.to v) (needed w.from v)
  -- what a kept statement uses is needed before it, what a DO WHILE uses at its test
  used : {g : Part} {s : Standing} {v : Var} → TakesPart k g → Contains (statements_of g) s → In v (uses k.units s.act) → LiveLeads k a (kept s.number) (needed (use_point s.number s.act) v)
  -- an assignment is kept where its target is needed after it
  assigned : {g : Part} {s : Standing} {x : Var} {subs : Terms} {e : Term} → TakesPart k g → Contains (statements_of g) s → s.act ≡ assign x subs e → LiveLeads k a (needed (point_after s.number) x) (kept s.number)
  -- a call is kept where something that it may write is needed after it, or after the marked loop whose turns it makes
  handed : {f g : Part} {s : Standing} {args : Terms} {v : Var} → TakesPart k f → CallsUnit k f g s args → act_writes (handed_back k.units) v s.act ≡ true →
      LiveLeads k a (needed (point_after (site (a.adjointed s.number) s.number s.place)) v) (kept s.number)
  -- a DO is kept where its variable is needed after its entry
  indexed : {g : Part} {s : Standing} {x : Var} {first last by : Term} {body : Code} {m : Mark} → TakesPart k g → Contains (statements_of g) s → s.act ≡ loop x first last by body m → LiveLeads k a (needed (point_inside s.number) x) (kept s.number)
  -- an IF or DO is kept that holds a kept statement
  held : {g : Part} {s : Standing} {i : ℕ} → TakesPart k g → Contains (statements_of g) s → Holds i s.place → LiveLeads k a (kept s.number) (kept i)
  -- a dummy that is needed at its unit's entry is in its entry set
  entered : {g : Part} {d : List ℕ} → TakesPart k g → Contains g.unit.dummies d → LiveLeads k a (needed g.entry (plain d)) (wanted g.number d)
  -- before an adjointed call, or an adjointed marked loop, the actuals of its unit's entry set are needed: they are members of its snapshot, or adjoint reads
  member : {f g : Part} {s : Standing} {args : Terms} {d : List ℕ} {v : Var} → TakesPart k f → CallsUnit k f g s args → a.adjointed s.number ≡ true → Contains (bound g.unit.dummies args) (d, v) → turned_by s.place v ≡ false →
      LiveLeads k a (wanted g.number d) (needed (point_before (site true s.number s.place)) v)

abbrev pub Live : Problem → Activity → Fact → Type 0
Live k a = Reached (LiveBegins k a) (LiveLeads k a)

-- what the analysis says
pub record Liveness : Type 0 where
  pub needed : ℕ → Vars
  pub kept : ℕ → Bool
  pub wanted : ℕ → List ℕ → Bool

abbrev pub says : Liveness → Fact → Bool
says l (needed p v) = l.needed p v
says l (kept i) = l.kept i
says l (wanted u d) = l.wanted u d

-- the analysis says just that
pub record IsLive (k : Problem) (a : Activity) (l : Liveness) : Type 0 where
  pub exact : (f : Fact) → says l f ≡ true ↔ Live k a f
