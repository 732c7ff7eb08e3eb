-- Runs that tell of calls and of reversals are put together.
use Rattle.std.proofs.Common.{◌≡◌, ℕ, zero, suc, ◌+◌, List, [], ◌++◌, sym, ap, ◌∙◌, subst, arith}
use Rattle.std.specs.Prelude.{ℤ, Ok, None}
use Rattle.std.proofs.lemmas.List.{append-nil}
use Rattle.adj_tree.specs.Code.{Var, Term, unmarked, loop, Act, Code, stop, step}
use Rattle.adj_word.specs.Word.{wrap}
use Rattle.def_meaning.specs.Append.{◌+++◌, one}
use Rattle.def_meaning.specs.Store.{Store, set}
use Rattle.def_meaning.specs.Value.{Setting, value}
use Rattle.def_meaning.specs.Scene.{Scene, stand, Go, Done, then_do, counted}
use Rattle.def_meaning.specs.Run.{Calls, run, turns, stepped, trips, after_loop}
use Rattle.law_meaning.specs.Leads.{Leads, ActLeads}
use Rattle.law_meaning.proofs.Leadings.{leads_stop, leads_append, leads_act}
use Rattle.law_sweep.specs.Scenes.{Course, scene}
use Rattle.def_sweep.specs.Reversals.{Called, Reversal}
use Rattle.law_sweep.specs.Tells.{TellsCalls}
pub use Rattle.law_sweep.specs.Steps.{ActGoes}
use Rattle.law_sweep.proofs.Told.{tells_none, tells_append}
use Rattle.law_sweep.proofs.Turns.{next_store, then-assoc, counted-then}

-- the code comes from a store and a tape to others, and makes these calls and reversals
pub record Goes {C : Type 0} (q : Calls C) (n : Setting C) (c : Code) (base : Course) (s s' : Store C) (t t' : List C) (calls : List Called) (rs : List Reversal) : Type 0 where
  pub later : Course
  pub tells : TellsCalls n.level base later calls rs
  pub runs : Leads q n c (scene base s t) (scene later s' t')

pub record TurnsGo {C : Type 0} (q : Calls C) (n : Setting C) (m : ℕ) (body : Code) (x : Var) (c : ℤ) (base : Course) (s s' : Store C) (t t' : List C) (calls : List Called) (rs : List Reversal) : Type 0 where
  pub later : Course
  pub tells : TellsCalls n.level base later calls rs
  pub cost : ℕ
  pub by : (k : ℕ) → turns n m (run q n body) (stepped n x c) (scene base s t) (cost + k) ≡ Done (scene later s' t') k

module _ {C : Type 0} (q : Calls C) (n : Setting C) where
  -- a run that tells nothing
  pub goes_leads : (c : Code) (b : Course) (s s' : Store C) (t t' : List C) → Leads q n c (scene b s t) (scene b s' t') → Goes q n c b s s' t t' [] []
  goes_leads c b s s' t t' l = record { later = b; tells = tells_none n.level b; runs = l }

  pub goes_stop : (b : Course) (s : Store C) (t : List C) → Goes q n stop b s s t t [] []
  goes_stop b s t = goes_leads stop b s s t t (leads_stop q n (scene b s t))

  pub goes_append : (c d : Code) (b : Course) (s s1 s2 : Store C) (t t1 t2 : List C) (ca cb : List Called) (ra rb : List Reversal) (f : Goes q n c b s s1 t t1 ca ra) → Goes q n d f.later s1 s2 t1 t2 cb rb → Goes q n (c +++ d) b s s2 t t2 (ca ++ cb) (ra ++ rb)
  goes_append c d b s s1 s2 t t1 t2 ca cb ra rb f h = record {
    later = h.later;
    tells = tells_append n.level b f.later h.later ca cb ra rb f.tells h.tells;
    runs = leads_append q n c d (scene b s t) (scene f.later s1 t1) (scene h.later s2 t2) f.runs h.runs;
  }

  -- before code that tells nothing
  pub goes_before : (c d : Code) (b : Course) (s s1 s2 : Store C) (t t1 t2 : List C) (ca : List Called) (ra : List Reversal) (f : Goes q n c b s s1 t t1 ca ra) → Goes q n d f.later s1 s2 t1 t2 [] [] → Goes q n (c +++ d) b s s2 t t2 ca ra
  goes_before c d b s s1 s2 t t1 t2 ca ra f h =
      subst (λ (z : List Called). Goes q n (c +++ d) b s s2 t t2 z ra) (append-nil ca)
      (subst (λ (z : List Reversal). Goes q n (c +++ d) b s s2 t t2 (ca ++ []) z) (append-nil ra)
      (goes_append c d b s s1 s2 t t1 t2 ca [] ra [] f h))

  pub goes_act : (line : ℕ) (a : Act) (c : Code) (b : Course) (s s1 s2 : Store C) (t t1 t2 : List C) (ca cb : List Called) (ra rb : List Reversal) (f : ActGoes q n a line b s s1 t t1 ca ra) → Goes q n c f.later s1 s2 t1 t2 cb rb → Goes q n (step line a c) b s s2 t t2 (ca ++ cb) (ra ++ rb)
  goes_act line a c b s s1 s2 t t1 t2 ca cb ra rb f h = record {
    later = h.later;
    tells = tells_append n.level b f.later h.later ca cb ra rb f.tells h.tells;
    runs = leads_act q n line a c (scene b s t) (scene f.later s1 t1) (scene h.later s2 t2) f.runs h.runs;
  }

  pub goes_one : (line : ℕ) (a : Act) (b : Course) (s s1 : Store C) (t t1 : List C) (ca : List Called) (ra : List Reversal) → ActGoes q n a line b s s1 t t1 ca ra → Goes q n (one line a) b s s1 t t1 ca ra
  goes_one line a b s s1 t t1 ca ra f = record {
    later = f.later;
    tells = f.tells;
    runs = leads_act q n line a stop (scene b s t) (scene f.later s1 t1) (scene f.later s1 t1) f.runs (leads_stop q n (scene f.later s1 t1));
  }

  -- a statement that takes no other and tells nothing
  pub act_goes : (line : ℕ) (a : Act) (b : Course) (s s1 : Store C) (t t1 : List C) → ActLeads q n a line (scene b s t) (scene b s1 t1) → ActGoes q n a line b s s1 t t1 [] []
  act_goes line a b s s1 t t1 l = record { later = b; tells = tells_none n.level b; runs = l }

  module _ (body : Code) (x : Var) (c : ℤ) where
    pub turns_go-none : (b : Course) (s : Store C) (t : List C) → TurnsGo q n 0 body x c b s s t t [] []
    turns_go-none b s t = record { later = b; tells = tells_none n.level b; cost = 0; by = λ k. let e : 0 + k ≡ k = omega arith in ap (Done (scene b s t)) e }

    pub turns_go-more : (m : ℕ) (b : Course) (s s1 s2 : Store C) (t t1 t2 : List C) (ca cb : List Called) (ra rb : List Reversal) (f : Goes q n body b s s1 t t1 ca ra) → TurnsGo q n m body x c f.later (next_store n x c s1) s2 t1 t2 cb rb → TurnsGo q n (suc m) body x c b s s2 t t2 (ca ++ cb) (ra ++ rb)
    turns_go-more m b s s1 s2 t t1 t2 ca cb ra rb f g = record {
      later = g.later;
      tells = tells_append n.level b f.later g.later ca cb ra rb f.tells g.tells;
      cost = suc (f.runs.cost + g.cost);
      by = λ k.
          let e : suc (f.runs.cost + g.cost) + k ≡ suc (f.runs.cost + (g.cost + k)) = omega arith in
          ap (turns n (suc m) (run q n body) (stepped n x c) (scene b s t)) e ∙ ap (λ o. then_do o (λ s1 i. turns n m (run q n body) (stepped n x c) (stepped n x c s1) i)) (f.runs.by (g.cost + k)) ∙ g.by k;
    }

  -- a loop that isn't marked, whose bounds have these values
  pub loop_goes : (line : ℕ) (x : Var) (ea eb ec : Term) (body : Code) (b : Course) (s s' : Store C) (t t' : List C) (va vb vc : C) (m : ℕ) (calls : List Called) (rs : List Reversal) → value n ea s ≡ Ok va → value n eb s ≡ Ok vb → value n ec s ≡ Ok vc → trips unmarked (n.numbers.shown va) (n.numbers.shown vb) (n.numbers.shown vc) ≡ Ok m → TurnsGo q n m body x (n.numbers.shown vc) b (set s x 0 (n.numbers.of_word (wrap (n.numbers.shown va)))) s' t t' calls rs → ActGoes q n (loop x ea eb ec body unmarked) line b s s' t t' calls rs
  loop_goes line x ea eb ec body b s s' t t' va vb vc m calls rs ha hb hc hm l = record {
    later = l.later;
    tells = l.tells;
    runs = record { cost = l.cost; by = λ k. rw (ha, hb, hc, hm) (ap (λ o. then_do o (λ s1 j. Done (after_loop line m None s1) j)) (l.by k)) };
  }

-- ---- some turns, and then others

turns-append : {C : Type 0} (n : Setting C) (m m' : ℕ) (go : Go C) (after : Scene C → Scene C) (s : Scene C) (k : ℕ) → turns n (m + m') go after s k ≡ then_do (turns n m go after s k) (turns n m' go after)
turns-append n zero m' go after s k = let e : 0 + m' ≡ m' = omega arith in ap (λ z. turns n z go after s k) e
turns-append n (suc m) m' go after s k =
    (let e : suc m + m' ≡ suc (m + m') = omega arith in ap (λ z. turns n z go after s k) e)
    ∙ (λ i. counted (stand n s) k (λ j. then_do (go s j) (λ s1 l. turns-append n m m' go after (after s1) l i)))
    ∙ (λ i. counted (stand n s) k (λ j. sym (then-assoc (go s j) (λ s1 l. turns n m go after (after s1) l) (turns n m' go after)) i))
    ∙ sym (counted-then (stand n s) k (λ j. then_do (go s j) (λ s1 l. turns n m go after (after s1) l)) (turns n m' go after))

pub turns_go-append : {C : Type 0} (q : Calls C) (n : Setting C) (body : Code) (x : Var) (c : ℤ) (m m' : ℕ) (b : Course) (s s1 s2 : Store C) (t t1 t2 : List C) (ca cb : List Called) (ra rb : List Reversal) (f : TurnsGo q n m body x c b s s1 t t1 ca ra) → TurnsGo q n m' body x c f.later s1 s2 t1 t2 cb rb → TurnsGo q n (m + m') body x c b s s2 t t2 (ca ++ cb) (ra ++ rb)
turns_go-append q n body x c m m' b s s1 s2 t t1 t2 ca cb ra rb f g = record {
  later = g.later;
  tells = tells_append n.level b f.later g.later ca cb ra rb f.tells g.tells;
  cost = f.cost + g.cost;
  by = λ k.
      let e : f.cost + g.cost + k ≡ f.cost + (g.cost + k) = omega arith in
      ap (turns n (m + m') (run q n body) (stepped n x c) (scene b s t)) e
      ∙ turns-append n m m' (run q n body) (stepped n x c) (scene b s t) (f.cost + (g.cost + k))
      ∙ ap (λ o. then_do o (turns n m' (run q n body) (stepped n x c))) (f.by (g.cost + k)) ∙ g.by k;
}

-- ---- beside code that tells nothing

pub goes_silent_before : {C : Type 0} (q : Calls C) (n : Setting C) (c d : Code) (b : Course) (s s1 s2 : Store C) (t t1 t2 : List C) (calls : List Called) (rs : List Reversal) → Leads q n c (scene b s t) (scene b s1 t1) → Goes q n d b s1 s2 t1 t2 calls rs → Goes q n (c +++ d) b s s2 t t2 calls rs
goes_silent_before q n c d b s s1 s2 t t1 t2 calls rs l g = record { later = g.later; tells = g.tells; runs = leads_append q n c d (scene b s t) (scene b s1 t1) (scene g.later s2 t2) l g.runs }

pub goes_silent_after : {C : Type 0} (q : Calls C) (n : Setting C) (c d : Code) (b : Course) (s s1 s2 : Store C) (t t1 t2 : List C) (calls : List Called) (rs : List Reversal) → Goes q n c b s s1 t t1 calls rs → ((b : Course) → Leads q n d (scene b s1 t1) (scene b s2 t2)) → Goes q n (c +++ d) b s s2 t t2 calls rs
goes_silent_after q n c d b s s1 s2 t t1 t2 calls rs g l = record { later = g.later; tells = g.tells; runs = leads_append q n c d (scene b s t) (scene g.later s1 t1) (scene g.later s2 t2) g.runs (l g.later) }

pub goes_step_before : {C : Type 0} (q : Calls C) (n : Setting C) (line : ℕ) (a : Act) (d : Code) (b : Course) (s s1 s2 : Store C) (t t1 t2 : List C) (calls : List Called) (rs : List Reversal) → ActLeads q n a line (scene b s t) (scene b s1 t1) → Goes q n d b s1 s2 t1 t2 calls rs → Goes q n (step line a d) b s s2 t t2 calls rs
goes_step_before q n line a d b s s1 s2 t t1 t2 calls rs l g = record { later = g.later; tells = g.tells; runs = leads_act q n line a d (scene b s t) (scene b s1 t1) (scene g.later s2 t2) l g.runs }

-- one turn
pub turns_go-one : {C : Type 0} (q : Calls C) (n : Setting C) (body : Code) (x : Var) (c : ℤ) (b : Course) (s s1 : Store C) (t t1 : List C) (calls : List Called) (rs : List Reversal) → Goes q n body b s s1 t t1 calls rs → TurnsGo q n 1 body x c b s (next_store n x c s1) t t1 calls rs
turns_go-one q n body x c b s s1 t t1 calls rs g =
    subst (λ (z : List Called). TurnsGo q n 1 body x c b s (next_store n x c s1) t t1 z rs) (append-nil calls)
    (subst (λ (z : List Reversal). TurnsGo q n 1 body x c b s (next_store n x c s1) t t1 (calls ++ []) z) (append-nil rs)
    (turns_go-more q n body x c 0 b s s1 (next_store n x c s1) t t1 t1 calls [] rs [] g (turns_go-none q n body x c g.later (next_store n x c s1) t1)))
