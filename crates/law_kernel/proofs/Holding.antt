-- What holds of each statement of a list, at any depth, and of the statements that a statement becomes.
use Rattle.std.proofs.Common.{ℕ, zero, suc, ◌+◌, Bool, true, false, List, [], ◌∷◌}
use Rattle.std.specs.Prelude.{if◌then◌else◌}
use Rattle.adj_tree.specs.Code.{Var, plus, minus, times, quot, modulo, greater, lesser, Term, lit, var, elem, neg, bin, pow, power_of, abs, Terms, none, more, Test, Mark, unmarked, with_count, count_from, Runtime, Act, assign, choose, loop, during, call, runtime, Code, stop, step, Procedure}
use Rattle.def_meaning.specs.Append.{◌+++◌, one}
use Rattle.def_meaning.specs.LeastSet.{Dummies}
use Rattle.def_meaning.specs.Read.{reads_term}
use Rattle.def_names.specs.Statements.{At, inner, statements}
use Rattle.def_kernel.specs.Lowered.{locals_in, locals_in_all, first_flag, other_flags, before, set_local, before_target, reduced_all, before_all, before_held, Passing, stays, put_back, by_value, passing, locals_passing, passed, before_passing, after_passing, all_passed, before_passing_all, after_passing_all, lowered_act, lowered}
use Rattle.def_kernel.specs.Stepped.{marked_in, marked_in_act, step_call, cut_act, cut}
use Rattle.law_kernel.proofs.Faultless.{Each, each_front, each_behind, each_join}

abbrev mutual
  -- it holds of each statement in a statement, which is left aside itself
  pub HoldsIn : (ℕ → Act → Type 0) → Act → Type 0
  HoldsIn Q (assign x subs e) = Unit {0}
  HoldsIn Q (choose c a b) = Holds Q a × Holds Q b
  HoldsIn Q (loop x first last by body m) = Holds Q body
  HoldsIn Q (during c body) = Holds Q body
  HoldsIn Q (call name args) = Unit {0}
  HoldsIn Q (runtime r) = Unit {0}

  -- of each statement of a list
  pub Holds : (ℕ → Act → Type 0) → Code → Type 0
  Holds Q stop = Unit {0}
  Holds Q (step line a rest) = Q line a × (HoldsIn Q a × Holds Q rest)

module _ (Q : ℕ → Act → Type 0) where
  -- the statement as a member of the list of all
  abbrev pub there : At Act → Type 0
  there s = Q s.0 s.1

  mutual
    listed_in : (a : Act) → HoldsIn Q a → Each there (inner a)
    listed_in (assign x subs e) h = tt
    listed_in (choose c a b) h = each_join there (statements a) (statements b) (listed a h.0) (listed b h.1)
    listed_in (loop x first last by body m) h = listed body h
    listed_in (during c body) h = listed body h
    listed_in (call name args) h = tt
    listed_in (runtime r) h = tt

    -- what holds of each statement holds of each in the list of all statements
    pub listed : (c : Code) → Holds Q c → Each there (statements c)
    listed stop h = tt
    listed (step line a rest) h = (h.0, each_join there (inner a) (statements rest) (listed_in a h.1.0) (listed rest h.1.1))

  mutual
    holding_in : (a : Act) → Each there (inner a) → HoldsIn Q a
    holding_in (assign x subs e) h = tt
    holding_in (choose c a b) h = (holding a (each_front there (statements a) (statements b) h), holding b (each_behind there (statements a) (statements b) h))
    holding_in (loop x first last by body m) h = holding body h
    holding_in (during c body) h = holding body h
    holding_in (call name args) h = tt
    holding_in (runtime r) h = tt

    -- and the other way
    pub holding : (c : Code) → Each there (statements c) → Holds Q c
    holding stop h = tt
    holding (step line a rest) h = (h.0, (holding_in a (each_front there (inner a) (statements rest) h.1), holding rest (each_behind there (inner a) (statements rest) h.1)))

  -- of lists one after another
  pub holds_join : (c d : Code) → Holds Q c → Holds Q d → Holds Q (c +++ d)
  holds_join stop d h g = g
  holds_join (step line a c) d h g = (h.0, (h.1.0, holds_join c d h.1.1 g))

module _ (S Q : ℕ → Act → Type 0) where
  mutual
    more_in : ((line : ℕ) (a : Act) → S line a → Q line a) → (a : Act) → HoldsIn S a → HoldsIn Q a
    more_in f (assign x subs e) h = tt
    more_in f (choose c a b) h = (holds_more f a h.0, holds_more f b h.1)
    more_in f (loop x first last by body m) h = holds_more f body h
    more_in f (during c body) h = holds_more f body h
    more_in f (call name args) h = tt
    more_in f (runtime r) h = tt

    -- what follows of each statement
    pub holds_more : ((line : ℕ) (a : Act) → S line a → Q line a) → (c : Code) → Holds S c → Holds Q c
    holds_more f stop h = tt
    holds_more f (step line a rest) h = (f line a h.0, (more_in f a h.1.0, holds_more f rest h.1.1))

  mutual
    both_in : (a : Act) → HoldsIn S a → HoldsIn Q a → HoldsIn (λ line a. S line a × Q line a) a
    both_in (assign x subs e) h g = tt
    both_in (choose c a b) h g = (holds_both a h.0 g.0, holds_both b h.1 g.1)
    both_in (loop x first last by body m) h g = holds_both body h g
    both_in (during c body) h g = holds_both body h g
    both_in (call name args) h g = tt
    both_in (runtime r) h g = tt

    -- two things together
    pub holds_both : (c : Code) → Holds S c → Holds Q c → Holds (λ line a. S line a × Q line a) c
    holds_both stop h g = tt
    holds_both (step line a rest) h g = ((h.0, g.0), (both_in a h.1.0 g.1.0, holds_both rest h.1.1 g.1.1))

-- ---- what a statement becomes, where Q holds of every assignment, IF and DO WHILE

module _ (local : ℕ → Var) (S Q : ℕ → Act → Type 0) (assigned : (line : ℕ) (x : Var) (subs : Terms) (e : Term) → Q line (assign x subs e)) (chosen : (line : ℕ) (c : Test) (a b : Code) → Q line (choose c a b)) where
  -- an assignment
  hold_set : (line : ℕ) (x : Var) (subs : Terms) (e : Term) → Holds Q (one line (assign x subs e))
  hold_set line x subs e = (assigned line x subs e, (tt, tt))

  -- what is set before an expression
  pub hold_before : (line j : ℕ) (e : Term) → Holds Q (before local line j e)
  hold_before line j (lit z) = tt
  hold_before line j (var y) = tt
  hold_before line j (elem y subs) = tt
  hold_before line j (neg a) = hold_before line j a
  hold_before line j (bin plus a b) = holds_join Q (before local line j a) _ (hold_before line j a) (hold_before line (j + locals_in a) b)
  hold_before line j (bin minus a b) = holds_join Q (before local line j a) _ (hold_before line j a) (hold_before line (j + locals_in a) b)
  hold_before line j (bin times a b) = holds_join Q (before local line j a) _ (hold_before line j a) (hold_before line (j + locals_in a) b)
  hold_before line j (bin quot a b) = tt
  hold_before line j (bin modulo a b) = tt
  hold_before line j (bin greater a b) =
      holds_join Q (before local line j a) _ (hold_before line j a) (holds_join Q (before local line (j + locals_in a) b) _ (hold_before line (j + locals_in a) b)
      (assigned line _ _ _, (tt, (assigned line _ _ _, (tt, (chosen line _ _ _, ((hold_set line _ _ _, tt), tt)))))))
  hold_before line j (bin lesser a b) =
      holds_join Q (before local line j a) _ (hold_before line j a) (holds_join Q (before local line (j + locals_in a) b) _ (hold_before line (j + locals_in a) b)
      (assigned line _ _ _, (tt, (assigned line _ _ _, (tt, (chosen line _ _ _, ((hold_set line _ _ _, tt), tt)))))))
  hold_before line j (pow a zero) = tt
  hold_before line j (pow a (suc k)) = hold_before line j a
  hold_before line j (power_of a b) = hold_before line j a
  hold_before line j (abs a) = holds_join Q (before local line j a) _ (hold_before line j a) (assigned line _ _ _, (tt, (chosen line _ _ _, ((hold_set line _ _ _, tt), tt))))

  -- a local that is set
  hold_local : (line j m : ℕ) (e : Term) → Holds Q (set_local local line j m e)
  hold_local line j m e = holds_join Q (before local line m e) _ (hold_before line m e) (hold_set line _ _ _)

  -- what is set before a target
  pub hold_target : (line : ℕ) (y : Var) (j m : ℕ) (es : Terms) → Holds Q (before_target local line y j m es)
  hold_target line y j m none = tt
  hold_target line y j m (more e es) = go (reads_term y e) (hold_target line y (suc j) (m + locals_in e) es) (hold_target line y j m es)
    where
      go : (b : Bool) → Holds Q (before_target local line y (suc j) (m + locals_in e) es) → Holds Q (before_target local line y j m es) → Holds Q (if b then set_local local line j m e +++ before_target local line y (suc j) (m + locals_in e) es else before_target local line y j m es)
      go true h g = holds_join Q (set_local local line j m e) _ (hold_local line j m e) h
      go false h g = g

  -- before actuals
  pub hold_all : (line j : ℕ) (es : Terms) → Holds Q (before_all local line j es)
  hold_all line j none = tt
  hold_all line j (more e es) = holds_join Q (before local line j e) _ (hold_before line j e) (hold_all line (j + locals_in e) es)

  -- subscripts that are held
  hold_held : (line j : ℕ) (es : Terms) → Holds Q (before_held local line j es)
  hold_held line j none = tt
  hold_held line j (more e es) = holds_join Q (set_local local line j (suc j) e) _ (hold_local line j (suc j) e) (hold_held line (suc (j + locals_in e)) es)

  -- what is set for one passing
  hold_passing : (line j : ℕ) (p : Passing) → Holds Q (before_passing local line j p)
  hold_passing line j (stays y) = tt
  hold_passing line j (put_back y subs) = holds_join Q (before_held local line j subs) _ (hold_held line j subs) (hold_set line _ _ _)
  hold_passing line j (by_value e) = hold_set line _ _ _

  -- what is put back
  hold_after : (line j : ℕ) (p : Passing) → Holds Q (after_passing local line j p)
  hold_after line j (stays y) = tt
  hold_after line j (put_back y subs) = hold_set line _ _ _
  hold_after line j (by_value e) = tt

  -- for all actuals
  pub hold_passings : (line j : ℕ) (ws : List Bool) (earlier : List Var) (es : Terms) → Holds Q (before_passing_all local line j ws earlier es)
  hold_passings line j ws earlier none = tt
  hold_passings line j ws earlier (more e es) =
      let p = passing (first_flag ws) earlier e in
      holds_join Q (before_passing local line j p) _ (hold_passing line j p) (hold_passings line (j + locals_passing p) (other_flags ws) (passed local j p ∷ earlier) es)

  -- and put back for all
  pub hold_afters : (line j : ℕ) (ws : List Bool) (earlier : List Var) (es : Terms) → Holds Q (after_passing_all local line j ws earlier es)
  hold_afters line j ws earlier none = tt
  hold_afters line j ws earlier (more e es) =
      let p = passing (first_flag ws) earlier e in
      holds_join Q (after_passing local line j p) _ (hold_after line j p) (hold_afters line (j + locals_passing p) (other_flags ws) (passed local j p ∷ earlier) es)

  module _ (handed : Dummies) (lasting : (line : ℕ) (c : Test) (body : Code) → Q line (during c body)) (looped : (line : ℕ) (x : Var) (first last by : Term) (body : Code) (m : Mark) → S line (loop x first last by body m) → Q line (loop x first last by (lowered local handed body) m))
      (called : (line : ℕ) (name : List ℕ) (args : Terms) → S line (call name args) → Q line (call name (all_passed local (locals_in_all args) (handed name) [] (reduced_all local 0 args)))) (ran : (line : ℕ) (r : Runtime) → S line (runtime r) → Q line (runtime r)) where
    mutual
      lowered_in : (line : ℕ) (a : Act) → S line a → HoldsIn S a → Holds Q (lowered_act local handed line a)
      lowered_in line (assign x subs e) s h = holds_join Q (before_target local line x 0 _ subs) _ (hold_target line x 0 _ subs) (holds_join Q (before local line _ e) _ (hold_before line _ e) (hold_set line _ _ _))
      lowered_in line (choose c a b) s h = (chosen line _ _ _, ((lowered_holds a h.0, lowered_holds b h.1), tt))
      lowered_in line (loop x first last by body m) s h = (looped line x first last by body m s, (lowered_holds body h, tt))
      lowered_in line (during c body) s h = (lasting line _ _, (lowered_holds body h, tt))
      lowered_in line (call name args) s h =
          let es = reduced_all local 0 args in
          let j = locals_in_all args in
          holds_join Q (before_all local line 0 args) _ (hold_all line 0 args)
          (holds_join Q (before_passing_all local line j (handed name) [] es) _ (hold_passings line j (handed name) [] es) (called line name args s, (tt, hold_afters line j (handed name) [] es)))
      lowered_in line (runtime r) s h = (ran line r s, (tt, tt))

      -- it holds of each statement of the lowered list, where it does of the loops and CALLs
      pub lowered_holds : (c : Code) → Holds S c → Holds Q (lowered local handed c)
      lowered_holds stop h = tt
      lowered_holds (step line a rest) h = holds_join Q (lowered_act local handed line a) _ (lowered_in line a h.0 h.1.0) (lowered_holds rest h.1.1)

-- ---- what a list with its marked loops cut holds

module _ (taken : List (List ℕ)) (u : Procedure) (S Q : ℕ → Act → Type 0)
    (plain_head : (k line : ℕ) (a : Act) → S line a → Q line (cut_act taken u k line a))
    (stepped : (k line : ℕ) (x : Var) (first last by : Term) (body : Code) (m : Mark) → S line (loop x first last by body m) → Q line (step_call taken u k x body)) where
  mutual
    cut_in : (k line : ℕ) (a : Act) → S line a → HoldsIn S a → HoldsIn Q (cut_act taken u k line a)
    cut_in k line (assign x subs e) s h = tt
    cut_in k line (choose c a b) s h = (cut_holds k a h.0, cut_holds (k + marked_in a) b h.1)
    cut_in k line (loop x first last by body unmarked) s h = cut_holds k body h
    cut_in k line (loop x first last by body (with_count m)) s h = (stepped k line x first last by body (with_count m) s, (tt, tt))
    cut_in k line (loop x first last by body (count_from y)) s h = (stepped k line x first last by body (count_from y) s, (tt, tt))
    cut_in k line (during c body) s h = cut_holds k body h
    cut_in k line (call name args) s h = tt
    cut_in k line (runtime r) s h = tt

    -- it holds of each statement of the cut list, where it does of the statement that stood there, and of the calls of step units
    pub cut_holds : (k : ℕ) (c : Code) → Holds S c → Holds Q (cut taken u k c)
    cut_holds k stop h = tt
    cut_holds k (step line a rest) h = (plain_head k line a h.0, (cut_in k line a h.0 h.1.0, cut_holds (k + marked_in_act a) rest h.1.1))
