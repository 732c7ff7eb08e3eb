-- Runs of sweeps and of the program are put together.
use Rattle.std.proofs.Common.{◌≡◌, ℕ, List, [], ◌++◌, refl, ◌∙◌, subst}
use Rattle.std.specs.Prelude.{ℤ}
use Rattle.std.proofs.lemmas.List.{append-nil}
use Rattle.adj_tree.specs.Code.{Var, plain, Act, Code, stop, step}
use Rattle.def_meaning.specs.Append.{◌+++◌, one}
use Rattle.def_meaning.specs.Store.{Shape, Store}
use Rattle.def_meaning.specs.Value.{Setting}
use Rattle.def_meaning.specs.Scene.{Outcome, Done}
use Rattle.def_meaning.specs.Run.{Calls}
use Rattle.law_meaning.specs.Leads.{Leads}
use Rattle.law_meaning.proofs.Leadings.{leads_stop, leads_append, leads_act}
use Rattle.def_names.specs.Numbers.{Vars}
use Rattle.def_sweep.specs.Facts.{Within}
use Rattle.law_sweep.specs.Scenes.{Course, scene}
use Rattle.def_sweep.specs.Reversals.{Reversal, LoopRun, ReversedLines}
use Rattle.law_sweep.specs.Runs.{Comes, ActComes, Passes, ActPasses, SameOn}
use Rattle.law_sweep.proofs.Told.{tells_nothing, tells_then, marks_nothing, marks_then, tells_of_marks}

-- one outcome has one number of statements left
pub left_same : {B : Type 0} (b c : B) (j k : ℕ) → (let o : Outcome B = Done b j in o ≡ Done c k) → j ≡ k
left_same b c j k h = cc

module _ {C : Type 0} (q : Calls C) (n : Setting C) where
  pub comes_stop : (b : Course) (s : Store C) (t : List C) → Comes q n stop b s s t t []
  comes_stop b s t = record { later = b; tells = tells_nothing n.level b; runs = leads_stop q n (scene b s t) }

  -- a run that tells nothing
  pub comes_leads : (c : Code) (b : Course) (s s' : Store C) (t t' : List C) → Leads q n c (scene b s t) (scene b s' t') → Comes q n c b s s' t t' []
  comes_leads c b s s' t t' l = record { later = b; tells = tells_nothing n.level b; runs = l }

  -- one list after another
  pub comes_append : {ra rb : List Reversal} (c d : Code) (b : Course) (s s1 s2 : Store C) (t t1 t2 : List C) (f : Comes q n c b s s1 t t1 ra) → Comes q n d f.later s1 s2 t1 t2 rb → Comes q n (c +++ d) b s s2 t t2 (ra ++ rb)
  comes_append {ra} {rb} c d b s s1 s2 t t1 t2 f h =
      record {
        later = h.later;
        tells = tells_then n.level b f.later h.later ra rb f.tells h.tells;
        runs = leads_append q n c d (scene b s t) (scene f.later s1 t1) (scene h.later s2 t2) f.runs h.runs;
      }

  -- before code that tells nothing
  pub comes_before : {rs : List Reversal} (c d : Code) (b : Course) (s s1 s2 : Store C) (t t1 t2 : List C) (f : Comes q n c b s s1 t t1 rs) → Comes q n d f.later s1 s2 t1 t2 [] → Comes q n (c +++ d) b s s2 t t2 rs
  comes_before {rs} c d b s s1 s2 t t1 t2 f h = subst (λ z. Comes q n (c +++ d) b s s2 t t2 z) (append-nil rs) (comes_append c d b s s1 s2 t t1 t2 f h)

  -- one statement
  pub comes_one : {rs : List Reversal} (line : ℕ) (a : Act) (b : Course) (s s1 : Store C) (t t1 : List C) → ActComes q n a line b s s1 t t1 rs → Comes q n (one line a) b s s1 t t1 rs
  comes_one line a b s s1 t t1 f = record {
    later = f.later;
    tells = f.tells;
    runs = leads_act q n line a stop (scene b s t) (scene f.later s1 t1) (scene f.later s1 t1) f.runs (leads_stop q n (scene f.later s1 t1));
  }

  -- one statement, and those after it
  pub comes_act : {ra rb : List Reversal} (line : ℕ) (a : Act) (c : Code) (b : Course) (s s1 s2 : Store C) (t t1 t2 : List C) (f : ActComes q n a line b s s1 t t1 ra) → Comes q n c f.later s1 s2 t1 t2 rb → Comes q n (step line a c) b s s2 t t2 (ra ++ rb)
  comes_act {ra} {rb} line a c b s s1 s2 t t1 t2 f h =
      record {
        later = h.later;
        tells = tells_then n.level b f.later h.later ra rb f.tells h.tells;
        runs = leads_act q n line a c (scene b s t) (scene f.later s1 t1) (scene h.later s2 t2) f.runs h.runs;
      }

  -- ---- the program

  module _ (lines : ReversedLines) where
    pub passes_stop : (b : Course) (s : Store C) (t : List C) → Passes lines q n stop b s s t []
    passes_stop b s t = record { later = b; tells = marks_nothing lines n.level b; runs = leads_stop q n (scene b s t) }

    pub passes_leads : (c : Code) (b : Course) (s s' : Store C) (t : List C) → Leads q n c (scene b s t) (scene b s' t) → Passes lines q n c b s s' t []
    passes_leads c b s s' t l = record { later = b; tells = marks_nothing lines n.level b; runs = l }

    pub passes_append : (la lb : List LoopRun) (c d : Code) (b : Course) (s s1 s2 : Store C) (t : List C) (f : Passes lines q n c b s s1 t la) → Passes lines q n d f.later s1 s2 t lb → Passes lines q n (c +++ d) b s s2 t (lb ++ la)
    passes_append la lb c d b s s1 s2 t f h = record {
      later = h.later;
      tells = marks_then lines n.level b f.later h.later la lb f.tells h.tells;
      runs = leads_append q n c d (scene b s t) (scene f.later s1 t) (scene h.later s2 t) f.runs h.runs;
    }

    pub passes_one : (loops : List LoopRun) (line : ℕ) (a : Act) (b : Course) (s s1 : Store C) (t : List C) → ActPasses lines q n a line b s s1 t loops → Passes lines q n (one line a) b s s1 t loops
    passes_one loops line a b s s1 t f = record {
      later = f.later;
      tells = f.tells;
      runs = leads_act q n line a stop (scene b s t) (scene f.later s1 t) (scene f.later s1 t) f.runs (leads_stop q n (scene f.later s1 t));
    }

    -- seen as a run of a sweep
    pub comes_passing : (loops : List LoopRun) (c : Code) (b : Course) (s s1 : Store C) (t : List C) → Passes lines q n c b s s1 t loops → Comes q n c b s s1 t t []
    comes_passing loops c b s s1 t f = record { later = f.later; tells = tells_of_marks lines n.level b f.later loops f.tells; runs = f.runs }

module _ (sh : Var → Shape) where
  pub same_refl : (a : Vars) (s : Store ℤ) → SameOn sh a s s
  same_refl a s = record { at = λ x j l i. refl }

  pub same_within : (a b : Vars) (s s' : Store ℤ) → Within b a → SameOn sh a s s' → SameOn sh b s s'
  same_within a b s s' w h = record { at = λ x j l i. h.at x j l (w (plain x) i) }

  pub same_then : (a : Vars) (s s1 s2 : Store ℤ) → SameOn sh a s s1 → SameOn sh a s1 s2 → SameOn sh a s s2
  same_then a s s1 s2 h g = record { at = λ x j l i. g.at x j l i ∙ h.at x j l i }
