-- A CALL of the runtime has the actuals of which it is read, and a short name.
use Rattle.std.proofs.Common.{◌≡◌, ◌≤◌, ℕ, Bool, true, false, List, Option, Some, None, refl, sym, ap, ◌∙◌, arith}
use Rattle.std.specs.Prelude.{codes, ◌&&◌, if◌then◌else◌}
use Rattle.adj_tree.specs.Code.{Var, Terms, var, elem, none, more, name_eq, Runtime, push_word, pop_word, push_array, pop_array, push_control, pop_control, zero_array, begin_reversal, count_actions, give_action, end_reversal}
use Rattle.def_text.specs.Statement.{as_place, as_name, as_value, as_beginning, as_count, as_action, as_nothing, runtime_call, called, called_as}
use Rattle.law_limits.specs.Rule.{act_keeps}
use Rattle.law_limits.specs.Kept.{actuals_of, is_short, terms_short, short_names, all_shallow, shallow}
use Rattle.law_limits.proofs.Truths.{and_true}
use Rattle.law_limits.proofs.Reserved.{named_short}
use Rattle.law_limits.proofs.FittingTerms.{fits_terms, fitting}

-- what is told of actuals, and is the same of a scalar and of an element with no subscripts
module _ (F : Terms → Bool) (scalars : (x : Var) → F (more (elem x none) none) ≡ F (more (var x) none)) where
  abbrev Same : Terms → Option Runtime → Type 0
  Same es o = (r : Runtime) → o ≡ Some r → F (actuals_of r) ≡ F es

  same_none : (es : Terms) → Same es None
  same_none es r e = absurd cc

  same_some : (es : Terms) (s : Runtime) → F (actuals_of s) ≡ F es → Same es (Some s)
  same_some es s h r e = let q : s ≡ r = cc in ap (λ c. F (actuals_of c)) (sym q) ∙ h

  same_if : (es : Terms) (b : Bool) (o p : Option Runtime) → Same es o → Same es p → Same es (if b then o else p)
  same_if es true o p h g = h
  same_if es false o p h g = g

  same_place : (make : Var → Terms → Runtime) → ((x : Var) (s : Terms) → actuals_of (make x s) ≡ more (elem x s) none) → (es : Terms) → Same es (as_place make es)
  same_place make h (more (var x) none) = same_some (more (var x) none) (make x none) (ap F (h x none) ∙ scalars x)
  same_place make h (more (elem x s) none) = same_some (more (elem x s) none) (make x s) (ap F (h x s))
  same_place make h es = same_none es

  same_name : (make : Var → Runtime) → ((x : Var) → actuals_of (make x) ≡ more (var x) none) → (es : Terms) → Same es (as_name make es)
  same_name make h (more (var x) none) = same_some (more (var x) none) (make x) (ap F (h x))
  same_name make h es = same_none es

  same_value : (es : Terms) → Same es (as_value es)
  same_value (more e none) = same_some (more e none) (push_control e) refl
  same_value es = same_none es

  same_beginning : (es : Terms) → Same es (as_beginning es)
  same_beginning (more l (more s none)) = same_some (more l (more s none)) (begin_reversal l s) refl
  same_beginning es = same_none es

  same_count : (es : Terms) → Same es (as_count es)
  same_count (more l (more s (more (var n) none))) = same_some (more l (more s (more (var n) none))) (count_actions l s n) refl
  same_count es = same_none es

  same_action : (es : Terms) → Same es (as_action es)
  same_action (more l (more s (more k (more (var a) (more (var f) (more (var t) none)))))) = same_some (more l (more s (more k (more (var a) (more (var f) (more (var t) none)))))) (give_action l s k a f t) refl
  same_action es = same_none es

  same_nothing : (es : Terms) → Same es (as_nothing es)
  same_nothing none = same_some none end_reversal refl
  same_nothing es = same_none es

  runtime_same : (x : List ℕ) (es : Terms) → Same es (runtime_call x es)
  runtime_same x es =
      same_if es (name_eq x (codes "PUSHINTEGER8")) _ _ (same_place push_word (λ y s. refl) es)
      (same_if es (name_eq x (codes "POPINTEGER8")) _ _ (same_place pop_word (λ y s. refl) es)
      (same_if es (name_eq x (codes "PUSHINTEGER8ARRAY")) _ _ (same_name push_array (λ y. refl) es)
      (same_if es (name_eq x (codes "POPINTEGER8ARRAY")) _ _ (same_name pop_array (λ y. refl) es)
      (same_if es (name_eq x (codes "PUSHCONTROL1B")) _ _ (same_value es)
      (same_if es (name_eq x (codes "POPCONTROL1B")) _ _ (same_name pop_control (λ y. refl) es)
      (same_if es (name_eq x (codes "ADZERO8")) _ _ (same_name zero_array (λ y. refl) es)
      (same_if es (name_eq x (codes "ADBEG")) _ _ (same_beginning es)
      (same_if es (name_eq x (codes "ADACTN")) _ _ (same_count es)
      (same_if es (name_eq x (codes "ADACT")) _ _ (same_action es)
      (same_if es (name_eq x (codes "ADEND")) _ _ (same_nothing es) (same_none es)))))))))))

-- the name of a CALL of the runtime has at most 17 characters
pick : (b : Bool) (o p : Option Runtime) (r : Runtime) (P : Type 0) → (b ≡ true → P) → (p ≡ Some r → P) → (if b then o else p) ≡ Some r → P
pick true o p r P f g h = f refl
pick false o p r P f g h = g h

runtime_short : (n : ℕ) → 17 ≤ n → (x : List ℕ) (es : Terms) (r : Runtime) → runtime_call x es ≡ Some r → is_short n x ≡ true
runtime_short n wide x es r h =
    pick (name_eq x (codes "PUSHINTEGER8")) _ _ r _ (named_short n wide x (codes "PUSHINTEGER8") (omega arith))
    (pick (name_eq x (codes "POPINTEGER8")) _ _ r _ (named_short n wide x (codes "POPINTEGER8") (omega arith))
    (pick (name_eq x (codes "PUSHINTEGER8ARRAY")) _ _ r _ (named_short n wide x (codes "PUSHINTEGER8ARRAY") (omega arith))
    (pick (name_eq x (codes "POPINTEGER8ARRAY")) _ _ r _ (named_short n wide x (codes "POPINTEGER8ARRAY") (omega arith))
    (pick (name_eq x (codes "PUSHCONTROL1B")) _ _ r _ (named_short n wide x (codes "PUSHCONTROL1B") (omega arith))
    (pick (name_eq x (codes "POPCONTROL1B")) _ _ r _ (named_short n wide x (codes "POPCONTROL1B") (omega arith))
    (pick (name_eq x (codes "ADZERO8")) _ _ r _ (named_short n wide x (codes "ADZERO8") (omega arith))
    (pick (name_eq x (codes "ADBEG")) _ _ r _ (named_short n wide x (codes "ADBEG") (omega arith))
    (pick (name_eq x (codes "ADACTN")) _ _ r _ (named_short n wide x (codes "ADACTN") (omega arith))
    (pick (name_eq x (codes "ADACT")) _ _ r _ (named_short n wide x (codes "ADACT") (omega arith))
    (pick (name_eq x (codes "ADEND")) _ None r _ (named_short n wide x (codes "ADEND") (omega arith)) (λ e. absurd cc)))))))))))
    h

pub called_short : (n : ℕ) → 17 ≤ n → (x : List ℕ) (es : Terms) → act_keeps (short_names n) (called x es) ≡ (is_short n x && terms_short n es)
called_short n wide x es = go (runtime_call x es) refl
  where
    go : (o : Option Runtime) → runtime_call x es ≡ o → act_keeps (short_names n) (called_as x es o) ≡ (is_short n x && terms_short n es)
    go (Some r) e = runtime_same (terms_short n) (λ y. and_true _) x es r e ∙ ap (λ b. b && terms_short n es) (sym (runtime_short n wide x es r e))
    go None e = refl

pub called_shallow : (d : ℕ) (x : List ℕ) (es : Terms) → act_keeps (shallow d) (called x es) ≡ all_shallow d es
called_shallow d x es = go (runtime_call x es) refl
  where
    go : (o : Option Runtime) → runtime_call x es ≡ o → act_keeps (shallow d) (called_as x es o) ≡ all_shallow d es
    go (Some r) e = runtime_same (all_shallow d) (λ y. refl) x es r e
    go None e = refl

pub called_fits : (x : List ℕ) (es : Terms) → act_keeps fitting (called x es) ≡ fits_terms es
called_fits x es = go (runtime_call x es) refl
  where
    go : (o : Option Runtime) → runtime_call x es ≡ o → act_keeps fitting (called_as x es o) ≡ fits_terms es
    go (Some r) e = runtime_same fits_terms (λ y. refl) x es r e
    go None e = refl
