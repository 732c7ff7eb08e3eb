-- Runtime: the actuals of the runtime's calls, by their number and form.
use Rattle.std.proofs.Common.{◌≡◌, ℕ, Bool, true, false, cond, codes, List, [], ◌∷◌, length, map, Option, Some, None, option_map, option_and_then, refl, ap, arith}
use Rattle.std.specs.Option.{option_or}
use Rattle.adj_tree.specs.Code.{Var, Term, Terms, var, elem, none, more, name_eq, Runtime, push_word, pop_word, push_array, pop_array, pop_control, zero_array, count_actions, give_action}
use Rattle.adj_tree.specs.Listed.{terms_listed}
use Rattle.adj_tree.specs.View.{term_of}
use Rattle.adj_tree.specs.declared.expr.Expr.{Expr}
use Rattle.def_text.specs.Statement.{as_place, as_name, as_value, as_beginning, as_count, as_action, as_nothing, runtime_call, called_as, called}
use Rattle.adj_parse_statement.specs.Called.{name_of, names_of, place_of, only_of, lexeme_name, control_name, schedule_name, runtime_name, with_actuals, call_of}
use Rattle.adj_parse_statement.specs.declared.called.RuntimeName.TheVariants.{PushWord, PopWord, PushArray, PopArray, PushControl, PopControl, Zero, Begin, Actions, Action, End}

-- another number of actuals than one
pub not_one : {A : Type 0} (form : Term → Option A) (es : List Expr) → (length es ≡ 1 → ⊥) → only_of form (terms_listed (map term_of es)) ≡ None
not_one form [] h = refl
not_one form (a ∷ []) h = absurd (h (omega arith))
not_one form (a ∷ b ∷ es) h = refl

pub not_value : (es : List Expr) → (length es ≡ 1 → ⊥) → as_value (terms_listed (map term_of es)) ≡ None
not_value [] h = refl
not_value (a ∷ []) h = absurd (h (omega arith))
not_value (a ∷ b ∷ es) h = refl

-- than two
pub not_two : (es : List Expr) → (length es ≡ 2 → ⊥) → as_beginning (terms_listed (map term_of es)) ≡ None
not_two [] h = refl
not_two (a ∷ []) h = refl
not_two (a ∷ b ∷ []) h = absurd (h (omega arith))
not_two (a ∷ b ∷ c ∷ es) h = refl

-- than three
pub not_three : (es : List Expr) → (length es ≡ 3 → ⊥) → as_count (terms_listed (map term_of es)) ≡ None
not_three [] h = refl
not_three (a ∷ []) h = refl
not_three (a ∷ b ∷ []) h = refl
not_three (a ∷ b ∷ c ∷ []) h = absurd (h (omega arith))
not_three (a ∷ b ∷ c ∷ d ∷ es) h = four (term_of a) (term_of b) (term_of c) (term_of d) (terms_listed (map term_of es))
  where
    four : (l s n u : Term) (us : Terms) → as_count (more l (more s (more n (more u us)))) ≡ None
    four l s (var x) u us = refl
    four l s _ u us = refl

-- than six
pub not_six : (es : List Expr) → (length es ≡ 6 → ⊥) → as_action (terms_listed (map term_of es)) ≡ None
not_six [] h = refl
not_six (l ∷ []) h = refl
not_six (l ∷ s ∷ []) h = refl
not_six (l ∷ s ∷ k ∷ []) h = refl
not_six (l ∷ s ∷ k ∷ a ∷ []) h = four (term_of l) (term_of s) (term_of k) (term_of a)
  where
    four : (l s k a : Term) → as_action (more l (more s (more k (more a none)))) ≡ None
    four l s k (var x) = refl
    four l s k _ = refl
not_six (l ∷ s ∷ k ∷ a ∷ f ∷ []) h = five (term_of l) (term_of s) (term_of k) (term_of a) (term_of f)
  where
    five : (l s k a f : Term) → as_action (more l (more s (more k (more a (more f none))))) ≡ None
    five l s k (var x) (var y) = refl
    five l s k (var x) _ = refl
    five l s k _ f = refl
not_six (l ∷ s ∷ k ∷ a ∷ f ∷ t ∷ []) h = absurd (h (omega arith))
not_six (l ∷ s ∷ k ∷ a ∷ f ∷ t ∷ u ∷ es) h = seven (term_of l) (term_of s) (term_of k) (term_of a) (term_of f) (term_of t) (term_of u) (terms_listed (map term_of es))
  where
    seven : (l s k a f t u : Term) (us : Terms) → as_action (more l (more s (more k (more a (more f (more t (more u us))))))) ≡ None
    seven l s k (var x) (var y) (var z) u us = refl
    seven l s k (var x) (var y) _ u us = refl
    seven l s k (var x) _ t u us = refl
    seven l s k _ f t u us = refl

-- the forms by what their actuals are
pub as_place_only : (make : Var → Terms → Runtime) (ts : Terms) → as_place make ts ≡ option_map (λ p. make p.0 p.1) (only_of place_of ts)
as_place_only make none = refl
as_place_only make (more (var x) none) = refl
as_place_only make (more (var x) (more t ts)) = refl
as_place_only make (more (elem x s) none) = refl
as_place_only make (more (elem x s) (more t ts)) = refl
as_place_only make (more _ none) = refl
as_place_only make (more _ (more t ts)) = refl

pub as_name_only : (make : Var → Runtime) (ts : Terms) → as_name make ts ≡ option_map make (only_of name_of ts)
as_name_only make none = refl
as_name_only make (more (var x) none) = refl
as_name_only make (more (var x) (more t ts)) = refl
as_name_only make (more _ none) = refl
as_name_only make (more _ (more t ts)) = refl

pub as_count_three : (l s n : Term) → as_count (more l (more s (more n none))) ≡ option_map (λ x. count_actions l s x) (name_of n)
as_count_three l s (var x) = refl
as_count_three l s _ = refl

pub as_action_six : (l s k a f t : Term) → as_action (more l (more s (more k (more a (more f (more t none)))))) ≡ option_map (λ p. give_action l s k p.0 p.1 p.2) (names_of a f t)
as_action_six l s k (var x) (var y) (var z) = refl
as_action_six l s k (var x) (var y) _ = refl
as_action_six l s k (var x) _ t = refl
as_action_six l s k _ f t = refl

-- a call by its name is the call of that name
by_name : (x : List ℕ) (ts : Terms) → option_and_then (λ n. with_actuals n ts) (runtime_name x) ≡ runtime_call x ts
unfolding lexeme_name control_name schedule_name with_actuals
by_name x ts = go (name_eq x (codes "PUSHINTEGER8")) (name_eq x (codes "POPINTEGER8")) (name_eq x (codes "PUSHINTEGER8ARRAY")) (name_eq x (codes "POPINTEGER8ARRAY")) (name_eq x (codes "PUSHCONTROL1B")) (name_eq x (codes "POPCONTROL1B")) (name_eq x (codes "ADZERO8")) (name_eq x (codes "ADBEG")) (name_eq x (codes "ADACTN")) (name_eq x (codes "ADACT")) (name_eq x (codes "ADEND"))
  where
    go : (a b c d e f g h i j k : Bool) → option_and_then (λ n. with_actuals n ts) (option_or (option_or (cond a (Some PushWord) (cond b (Some PopWord) (cond c (Some PushArray) (cond d (Some PopArray) None)))) (cond e (Some PushControl) (cond f (Some PopControl) (cond g (Some Zero) None)))) (cond h (Some Begin) (cond i (Some Actions) (cond j (Some Action) (cond k (Some End) None))))) ≡ cond a (as_place push_word ts) (cond b (as_place pop_word ts) (cond c (as_name push_array ts) (cond d (as_name pop_array ts) (cond e (as_value ts) (cond f (as_name pop_control ts) (cond g (as_name zero_array ts) (cond h (as_beginning ts) (cond i (as_count ts) (cond j (as_action ts) (cond k (as_nothing ts) None))))))))))
    go true b c d e f g h i j k = refl
    go false true c d e f g h i j k = refl
    go false false true d e f g h i j k = refl
    go false false false true e f g h i j k = refl
    go false false false false true f g h i j k = refl
    go false false false false false true g h i j k = refl
    go false false false false false false true h i j k = refl
    go false false false false false false false true i j k = refl
    go false false false false false false false false true j k = refl
    go false false false false false false false false false true k = refl
    go false false false false false false false false false false true = refl
    go false false false false false false false false false false false = refl

pub call_of-called : (x : List ℕ) (ts : Terms) → call_of x ts ≡ called x ts
unfolding call_of
call_of-called x ts = ap (called_as x ts) (by_name x ts)
