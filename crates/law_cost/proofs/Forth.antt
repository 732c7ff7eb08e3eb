-- What the turns of a reversed loop take in the forward sweep.
use Rattle.std.proofs.Common.{◌≡◌, ◌≤◌, ◌<◌, ◌^◌, ℕ, zero, suc, ◌+◌, Bool, true, false, List, [], ◌∷◌, length, refl, ◌∙◌, arith}
use Rattle.std.specs.Prelude.{ℤ, pos}
use Rattle.adj_tree.specs.Code.{Var, plain, helper, count, Mark, plus, var, bin, none, assign, Term, call, Code, stop}
use Rattle.adj_word.specs.Word.{add}
use Rattle.def_meaning.specs.Append.{◌+++◌, one}
use Rattle.def_meaning.specs.Store.{Shape, size_of, Store, set}
use Rattle.def_meaning.specs.Value.{Setting}
use Rattle.def_meaning.specs.Run.{Calls, act, stepped}
use Rattle.def_meaning.specs.Scene.{Scene, Done}
use Rattle.def_names.specs.Numbers.{Vars}
use Rattle.def_sweep.specs.Marked.{code_if}
use Rattle.def_sweep.specs.Facts.{Facts}
use Rattle.def_meaning.specs.Apart.{AreApart}
use Rattle.law_sweep.specs.Pairs.{Key, Words, on_words}
use Rattle.law_sweep.specs.Scenes.{Course, scene}
use Rattle.def_sweep.specs.Plan.{Plan, actuals_named, writes_actual}
use Rattle.def_sweep.specs.Rows.{literal}
use Rattle.law_sweep.specs.Laws.{ReversedLaws}
use Rattle.def_sweep.specs.Callees.{CalleeFacts}
use Rattle.law_sweep.specs.Runs.{SameOn, SameOff}
use Rattle.def_sweep.specs.Reversals.{LoopRun}
use Rattle.law_sweep.proofs.Snapshots.{KnowsArrays}
use Rattle.law_sweep.specs.Steps.{ActualsAgree, Steps}
use Rattle.law_sweep.proofs.Goings.{goes_one}
use Rattle.law_sweep.proofs.ForthStores.{needed_through, needed_call, calls_for, needs_later, Moved, moved_none, TurnsMoved, turns_none, counted, next_turn, turn_next, turns_more}
use Rattle.law_cost.proofs.Runs.{one_done}
use Rattle.law_cost.specs.Sums.{sum_of}
use Rattle.law_cost.proofs.Takes.{Takes, TurnsTake, takes_stop, takes_more, takes_append, takes_step, takes_leads, turns_take_none, turns_take_more, turns_take_as}

module _ (q : Calls ℤ) (sh : Var → Shape) (level : ℕ) (cells : List Key) (d line : ℕ) (p : Plan) (known : KnowsArrays p sh) (x : List ℕ) (one_cell : size_of (sh (plain x)) ≡ 1) (l m : ℕ) (mark : Mark) (a0 c0 : ℤ) (g : CalleeFacts) (given : List (List ℕ)) (apart : AreApart g.callee.dummies) (apart' : AreApart given) (name : List ℕ) (change : ℕ → Words → Words) (loops : ℕ → List LoopRun) (U U' : ℕ → Store ℤ)
    (w : Facts) (i : ℕ) (ea eb ec : Term) (laws : ReversedLaws w i x ea eb ec mark g given) (small : suc l < 2 ^ 63)
    (s : Steps q sh level cells line x g given name l a0 c0 change loops U U') (nexts : (j : ℕ) → j < l → U (suc j) ≡ set (U' j) (plain x) 0 (add (U' j (plain x) 0) c0))
    (P : ℕ → ℕ) (plain_cost : (i : ℕ) (base : Course) (f : Store ℤ) (t : List ℤ) → i < l → ActualsAgree sh g.callee given g.read (U i) f → (e : Scene ℤ) (k left : ℕ) → act q (on_words sh level) (call name (actuals_named given)) line (scene base f t) k ≡ Done e left → k ≤ left + P i) where
  abbrev nw : Setting ℤ
  nw = on_words sh level

  abbrev wr : Vars
  wr = writes_actual g.callee given

  abbrev plain_call : Code
  plain_call = one line (call name (actuals_named given))

  abbrev counting : Code
  counting = one line (assign (helper count (suc d)) none (bin plus (var (helper count (suc d))) (literal 1)))

  -- what the calls keep
  pub offs : (j : ℕ) → j < l → SameOff wr (U j) (U' j)
  offs j less = s.off j less

  -- the step call, where it is kept
  record Mid (k : Bool) (j : ℕ) (base : Course) (f : Store ℤ) (t : List ℤ) : Type 0 where
    to : Store ℤ
    later : Course
    opened : later.opened ≡ base.opened
    takes : Takes q nw (code_if k plain_call) (scene base f t) (scene later to t) (1 + P j)
    moved : Moved x mark g given w i ea eb ec laws sh d one_cell l c0 apart apart' U U' small offs nexts k j f to

  mid : (k : Bool) → w.marks.kept (suc i) ≡ k → (j : ℕ) → j < l → (base : Course) (f : Store ℤ) (t : List ℤ) → SameOn sh (needed_call w i k) (U j) f → Mid k j base f t
  mid true e j less base f t h =
      let agree : ActualsAgree sh g.callee given g.read (U j) f = record { at = λ n a b o c lt. h.at a c lt (laws.call.needs_uses e n a b o) } in
      let c = s.again j base f t less agree in
      let run_of = goes_one q nw line (call name (actuals_named given)) base f c.after t t (record { unit = name; height = length t; shapes = c.shapes } ∷ []) [] c.runs in
      record {
        to = c.after;
        later = run_of.later;
        opened = run_of.tells.opened;
        takes = takes_leads q nw plain_call (scene base f t) (scene run_of.later c.after t) (1 + P j) run_of.runs
            (λ k left r.
            let o = one_done q nw line (call name (actuals_named given)) (scene base f t) (scene run_of.later c.after t) k left r in
            let z = plain_cost j base f t less agree (scene run_of.later c.after t) o.before left o.done in
            let is = o.is in
            omega (arith, is, z));
        moved = record { same = record { at = λ y n lt o. c.same y n (h.at y n lt (needs_later x mark g given w i ea eb ec laws (plain y) o)) }; off = c.off; shades = c.shades; helpers = c.helpers };
      }
  mid false e j less base f t h = record {
    to = f;
    later = base;
    opened = refl;
    takes = takes_more q nw stop (scene base f t) (scene base f t) 0 (1 + P j) (omega arith) (takes_stop q nw (scene base f t));
    moved = moved_none x mark g given w i ea eb ec laws sh d one_cell l c0 apart apart' U U' small offs nexts e j less f h;
  }

  -- the turns from the j-th on
  pub record TurnsForth (n j : ℕ) (base : Course) (f : Store ℤ) (t : List ℤ) : Type 0 where
    pub to : Store ℤ
    pub later : Course
    pub opened : later.opened ≡ base.opened
    pub takes : TurnsTake q nw n (code_if (w.marks.kept (suc i)) plain_call +++ counting) (stepped nw (plain x) c0) (scene base f t) (scene later to t) (sum_of (λ z. P z + 3) j n)
    pub moved : TurnsMoved x mark g given w i ea eb ec laws sh d one_cell l c0 apart apart' U U' small offs nexts n j f to

  pub turns_forth : wr (plain x) ≡ false → (n j : ℕ) (base : Course) (f : Store ℤ) (t : List ℤ) → j + n ≤ l → SameOn sh (needed_through w i (w.marks.kept (suc i))) (U j) f → f (plain x) 0 ≡ U j (plain x) 0 → f (helper count (suc d)) 0 ≡ pos j → TurnsForth n j base f t
  turns_forth x_free zero j base f t fits h v c =
      record {
        to = f;
        later = base;
        opened = refl;
        takes = turns_take_none q nw (code_if (w.marks.kept (suc i)) plain_call +++ counting) (stepped nw (plain x) c0) (scene base f t);
        moved = turns_none x mark g given w i ea eb ec laws sh d one_cell l c0 apart apart' U U' small offs nexts j f h c;
      }
  turns_forth x_free (suc n) j base f t fits h v c =
      let less : j < l = omega arith in
      let k = mid (w.marks.kept (suc i)) refl j less base f t (record { at = λ y o lt a. h.at y o lt (calls_for x mark g given w i ea eb ec laws (w.marks.kept (suc i)) (plain y) a) }) in
      let f2 = counted x mark g given w i ea eb ec laws sh d one_cell l c0 apart apart' U U' small offs nexts k.to in
      let f3 = next_turn x mark g given w i ea eb ec laws sh d one_cell l c0 apart apart' U U' small offs nexts k.to in
      let b = k.later in
      let turn = takes_append q nw (code_if (w.marks.kept (suc i)) plain_call) counting (scene base f t) (scene b k.to t) (scene b f2 t) (1 + P j) (1 + 0) k.takes
      (takes_step q nw line (assign (helper count (suc d)) none (bin plus (var (helper count (suc d))) (literal 1))) stop (scene b k.to t) (scene b f2 t) (scene b f2 t) 0 (λ o. refl) (takes_stop q nw (scene b f2 t))) in
      let at = turn_next x mark g given w i ea eb ec laws sh d one_cell l c0 apart apart' U U' small offs nexts x_free j less f k.to v c k.moved in
      let r = turns_forth x_free n (suc j) b f3 t (omega arith) at.same at.value at.count_is in
      record {
        to = r.to;
        later = r.later;
        opened = r.opened ∙ k.opened;
        takes = turns_take_as q nw (code_if (w.marks.kept (suc i)) plain_call +++ counting) (stepped nw (plain x) c0) (suc n) (suc n) (scene base f t) (scene r.later r.to t) (1 + (1 + P j + (1 + 0)) + sum_of (λ z. P z + 3) (suc j) n) (sum_of (λ z. P z + 3) j (suc n)) refl (omega arith)
            (turns_take_more q nw (code_if (w.marks.kept (suc i)) plain_call +++ counting) (stepped nw (plain x) c0) n (scene base f t) (scene b f2 t) (scene r.later r.to t) (1 + P j + (1 + 0)) (sum_of (λ z. P z + 3) (suc j) n) turn r.takes);
        moved = turns_more x mark g given w i ea eb ec laws sh d one_cell l c0 apart apart' U U' small offs nexts n j f k.to r.to k.moved r.moved;
      }
