-- Variables that are pushed are popped as they were, by code that comes from one store and tape to others.
use Rattle.std.proofs.Common.{ℕ, List, [], ◌++◌}
use Rattle.std.specs.Prelude.{ℤ}
use Rattle.adj_tree.specs.Code.{Var, Code, stop}
use Rattle.def_meaning.specs.Store.{Shape, Store}
use Rattle.def_meaning.specs.Run.{Calls}
use Rattle.law_sweep.specs.Pairs.{on_words}
use Rattle.law_sweep.specs.Scenes.{Course}
use Rattle.def_sweep.specs.Plan.{Plan}
use Rattle.def_sweep.specs.Rows.{pushes, pops}
use Rattle.law_sweep.specs.Runs.{Comes}
use Rattle.law_sweep.proofs.Runs.{comes_leads}
use Rattle.law_sweep.proofs.Snapshots as snapshots
pub use Rattle.law_sweep.proofs.Snapshots.{KnowsArrays, is_one_of, Restored}

module _ (q : Calls ℤ) (sh : Var → Shape) (level : ℕ) (p : Plan) (line : ℕ) where
  -- what is popped
  pub record Popped (xs : List (List ℕ)) (c : Code) (base : Course) (f g : Store ℤ) (t t' : List ℤ) : Type 0 where
    pub after : Store ℤ
    pub runs : Comes q (on_words sh level) c base g after t t' []
    pub restored : Restored sh xs f g after

  -- these are pushed by one code, and popped by another
  pub record Pushed (xs : List (List ℕ)) (push pop : Code) (f : Store ℤ) : Type 0 where
    pub trail : List ℤ
    pub pushed : (base : Course) (t : List ℤ) → Comes q (on_words sh level) push base f f t (trail ++ t) []
    pub popped : (base : Course) (g : Store ℤ) (t : List ℤ) → Popped xs pop base f g (trail ++ t) t

  -- a group whose pushes and pops tell nothing
  come : (xs : List (List ℕ)) (push pop : Code) (f : Store ℤ) → snapshots.Pushed q sh level p line xs push pop f → Pushed xs push pop f
  come xs push pop f a =
      let n = on_words sh level in
      record {
        trail = a.trail;
        pushed = λ base t. comes_leads q n push base f f t (a.trail ++ t) (a.pushed base t);
        popped = λ base g t.
            let c = a.popped g in
            record { after = c.after; runs = comes_leads q n pop base g c.after (a.trail ++ t) t (c.runs base t); restored = c.restored };
      }

  -- variables in order, popped in the opposite order
  pub group_pushed : KnowsArrays p sh → (xs : List (List ℕ)) (f : Store ℤ) → Pushed xs (pushes p line xs) (pops p line xs) f
  group_pushed known xs f = come xs (pushes p line xs) (pops p line xs) f (snapshots.group_pushed q sh level p line known xs f)

  pub nothing_pushed : (f : Store ℤ) → Pushed [] stop stop f
  nothing_pushed f = come [] stop stop f (snapshots.nothing_pushed q sh level p line f)
