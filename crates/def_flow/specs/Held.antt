-- Which values the backward sweep still needs as the forward sweep had them, and where they are saved. (docs/ANALYSES.md, "To be recorded"; Hascoët, Naumann and Pascual 2005)
use Rattle.std.specs.Prelude.{◌≡◌, ◌↔◌, ◌⊎◌, ℕ, List, Bool, true, false, ◌&&◌, ◌||◌, Contains}
use Rattle.adj_tree.specs.Code.{Var, var_eq, Terms, Term, Code, Mark, assign, loop}
use Rattle.def_meaning.specs.Read.{is_read}
use Rattle.def_meaning.specs.Written.{act_writes, handed_back, is_written}
use Rattle.def_names.specs.Numbers.{Vars, everything}
use Rattle.def_sweep.specs.Marks.{Marks}
use Rattle.def_names.specs.Numbering.{point_before}
use Rattle.def_sweep.specs.Facts.{In}
use Rattle.adj_reach.specs.Reached.{Reached}
use Rattle.def_flow.specs.Parts.{Part}
use Rattle.def_flow.specs.Ways.{Deed, passing, assigning, calling, Way}
use Rattle.def_flow.specs.Standing.{Standing}
use Rattle.def_sweep.specs.Occurrences.{reads_at}
use Rattle.def_flow.specs.Problem.{Problem, statements_of, ways_of, CallsUnit, TakesPart, bound}
use Rattle.def_flow.specs.Flow.{Node}
use Rattle.def_flow.specs.Activity.{Activity, split_at}
use Rattle.def_flow.specs.Live.{Liveness}
use Rattle.def_flow.specs.Uses.{site, turned_by, is_turn}

-- the marks of the u-th unit by both analyses, with these values saved
abbrev pub marks_of : Activity → Liveness → (ℕ → Vars) → ℕ → Marks
marks_of a l saved u = record {
  kept = l.kept;
  adjointed = a.adjointed;
  split = λ i. false;
  saved = saved;
  varied = a.varied;
  useful = a.useful;
  shadowed = a.shadowed u;
}

-- the adjoint reads of the i-th statement
pub data AdjointReads (k : Problem) (a : Activity) (l : Liveness) : ℕ → Var → Type 0 where
  assignment : {g : Part} {s : Standing} {x : Var} {subs : Terms} {e : Term} {v : Var} → TakesPart k g → Contains (statements_of g) s → s.act ≡ assign x subs e →
      In v (reads_at (marks_of a l (λ i. everything) g.number) s.number subs e) → AdjointReads k a l s.number v
  -- of an adjointed call the actuals of the dummies in its unit's entry set that aren't written; of a marked loop and of a split call besides those of the dummies that are read, without the loop's variable
  call : {f g : Part} {s : Standing} {args : Terms} {d : List ℕ} {v : Var} → TakesPart k f → CallsUnit k f g s args → a.adjointed s.number ≡ true → Contains (bound g.unit.dummies args) (d, v) → turned_by s.place v ≡ false →
      (l.wanted g.number d || ((k.split s.number || is_turn s.place) && is_read k.units g.unit d)) ≡ true → is_written k.units g.unit d ≡ false → AdjointReads k a l (site true s.number s.place) v

-- a kept statement assigns the whole variable
abbrev pub replaced_on : (ℕ → Bool) → Deed → Vars
replaced_on kept passing v = false
replaced_on kept (assigning i x) v = kept i && var_eq v x
replaced_on kept (calling args) v = false

-- on a way from a statement its adjoint reads are held, unless it replaces them
pub data HeldBegins (k : Problem) (a : Activity) (l : Liveness) : Node → Type 0 where
  read : {g : Part} {w : Way} {i : ℕ} {v : Var} → TakesPart k g → Contains (ways_of g) w → w.from ≡ point_before i → AdjointReads k a l i v → replaced_on l.kept w.deed v ≡ false → HeldBegins k a l (w.to, v)

pub data HeldLeads (k : Problem) (l : Liveness) : Node → Node → Type 0 where
  stays : {g : Part} {w : Way} {v : Var} → TakesPart k g → Contains (ways_of g) w → replaced_on l.kept w.deed v ≡ false → HeldLeads k l (w.from, v) (w.to, v)

abbrev pub Held : Problem → Activity → Liveness → Node → Type 0
Held k a l = Reached (HeldBegins k a l) (HeldLeads k l)

-- the i-th statement replaces the value of v in a way that a saved value undoes
pub data MaySave (k : Problem) (a : Activity) (l : Liveness) : ℕ → Var → Type 0 where
  assignment : {g : Part} {s : Standing} {x : Var} {subs : Terms} {e : Term} → TakesPart k g → Contains (statements_of g) s → s.act ≡ assign x subs e → l.kept s.number ≡ true → MaySave k a l s.number x
  -- a DO, at its entry
  counter : {g : Part} {s : Standing} {x : Var} {first last by : Term} {body : Code} {m : Mark} → TakesPart k g → Contains (statements_of g) s → s.act ≡ loop x first last by body m → l.kept s.number ≡ true → MaySave k a l s.number x
  -- a call that isn't split, or the marked loop whose turns it makes, if it is adjointed
  call : {f g : Part} {s : Standing} {args : Terms} {v : Var} → TakesPart k f → CallsUnit k f g s args → (l.kept s.number || a.adjointed s.number) ≡ true → split_at k a s.number ≡ false → act_writes (handed_back k.units) v s.act ≡ true →
      MaySave k a l (site (a.adjointed s.number) s.number s.place) v

pub record Saves (k : Problem) (a : Activity) (l : Liveness) (i : ℕ) (v : Var) : Type 0 where
  pub may : MaySave k a l i v
  pub held : Held k a l (point_before i, v) ⊎ AdjointReads k a l i v

-- the analysis says just that
pub record IsSaved (k : Problem) (a : Activity) (l : Liveness) (saved : ℕ → Vars) : Type 0 where
  pub exact : (i : ℕ) (v : Var) → In v (saved i) ↔ Saves k a l i v
