-- A unit writes or reads what it does itself, and the actuals of such dummies of the units that it calls.
use Rattle.std.proofs.Common.{◌≡◌, Bool, false, List, [], ◌∷◌, ◌++◌, refl, sym, ap, ap₂, ◌∙◌}
use Rattle.std.specs.Prelude.{◌||◌}
use Rattle.std.specs.List.{flat_map, list_any}
use Rattle.adj_tree.specs.Code.{Var, plain, var_eq, Act, assign, choose, loop, during, call, runtime, Code, stop, step, Procedure}
use Rattle.def_meaning.specs.LeastSet.{Dummies}
use Rattle.def_meaning.specs.Read.{reads_term, reads_terms, reads_test, reads_mark, reads_actuals, reads_runtime, act_reads, reads}
use Rattle.def_meaning.specs.Written.{is_handed_back, runtime_writes, act_writes, writes}
use Rattle.def_meaning.specs.Apart.{has_name}
use Rattle.def_names.specs.Statements.{At, inner, statements}
use Rattle.def_names.specs.Variables.{Name}
use Rattle.def_names.specs.WriteFaults.{may_write}
use Rattle.def_names.specs.VariableLists.{has}
use Rattle.def_names.proofs.VariableLists.{has_append, has_used}
use Rattle.adj_symbols_writes.specs.Names.{changed_by, looked_in, own_written, own_read, direct, extents_read, rule_of}
use Rattle.adj_symbols_writes.specs.declared.side.Side.{Side}
use Rattle.adj_symbols_writes.specs.declared.side.Side.TheVariants.{Written, Read}
use Rattle.adj_symbols_writes.proofs.Naming.{or_none, or_assoc, or_sorted, any_append, any_has, any_or, has_among, has_one, changed_has, looked_has, actuals_apart, extent_has}

-- whether the variable is an actual of a dummy in the set
abbrev pub hands : Dummies → Var → Act → Bool
hands f x (assign y subs e) = false
hands f x (choose c a b) = false
hands f x (loop y first last by body m) = false
hands f x (during c body) = false
hands f x (call name args) = is_handed_back x (f name) args
hands f x (runtime r) = false

abbrev pub some_hand : Dummies → Var → List (At Act) → Bool
some_hand f x ss = list_any (λ s. hands f x s.1) ss

-- whether a statement reads the variable itself, those in it left aside
abbrev may_read : Dummies → Var → Act → Bool
may_read f x (assign y subs e) = reads_term x e || reads_terms x subs
may_read f x (choose c a b) = reads_test x c
may_read f x (loop y first last by body m) = reads_term x first || (reads_term x last || (reads_term x by || reads_mark x m))
may_read f x (during c body) = reads_test x c
may_read f x (call name args) = reads_actuals x (f name) args
may_read f x (runtime r) = reads_runtime x r

-- ---- statements at any depth

module _ (f : Dummies) (x : Var) where
  mutual
    act_written : (a : Act) → act_writes f x a ≡ (may_write f x a || list_any (λ s. may_write f x s.1) (inner a))
    act_written (assign y subs e) = or_none (var_eq x y)
    act_written (choose c a b) = ap₂ (λ p q. p || q) (code_written a) (code_written b) ∙ sym (any_append (λ s. may_write f x s.1) (statements a) (statements b))
    act_written (loop y first last by body m) = ap (λ b. var_eq x y || b) (code_written body)
    act_written (during c body) = code_written body
    act_written (call name args) = or_none (is_handed_back x (f name) args)
    act_written (runtime r) = or_none (runtime_writes x r)

    code_written : (c : Code) → writes f x c ≡ list_any (λ s. may_write f x s.1) (statements c)
    code_written stop = refl
    code_written (step line a rest) =
        ap₂ (λ p q. p || q) (act_written a) (code_written rest)
        ∙ or_assoc (may_write f x a) (list_any (λ s. may_write f x s.1) (inner a)) (list_any (λ s. may_write f x s.1) (statements rest))
        ∙ ap (λ b. may_write f x a || b) (sym (any_append (λ s. may_write f x s.1) (inner a) (statements rest)))

  mutual
    act_read : (a : Act) → act_reads f x a ≡ (may_read f x a || list_any (λ s. may_read f x s.1) (inner a))
    act_read (assign y subs e) = or_none (reads_term x e || reads_terms x subs)
    act_read (choose c a b) = ap (λ z. reads_test x c || z) (ap₂ (λ p q. p || q) (code_read a) (code_read b) ∙ sym (any_append (λ s. may_read f x s.1) (statements a) (statements b)))
    act_read (loop y first last by body m) = ap (λ b. (reads_term x first || (reads_term x last || (reads_term x by || reads_mark x m))) || b) (code_read body)
    act_read (during c body) = ap (λ b. reads_test x c || b) (code_read body)
    act_read (call name args) = or_none (reads_actuals x (f name) args)
    act_read (runtime r) = or_none (reads_runtime x r)

    code_read : (c : Code) → reads f x c ≡ list_any (λ s. may_read f x s.1) (statements c)
    code_read stop = refl
    code_read (step line a rest) =
        ap₂ (λ p q. p || q) (act_read a) (code_read rest)
        ∙ or_assoc (may_read f x a) (list_any (λ s. may_read f x s.1) (inner a)) (list_any (λ s. may_read f x s.1) (statements rest))
        ∙ ap (λ b. may_read f x a || b) (sym (any_append (λ s. may_read f x s.1) (inner a) (statements rest)))

-- ---- what a statement does itself, and its call

module _ (f : Dummies) (v : Var) where
  may_write_split : (a : Act) → may_write f v a ≡ (has (own_written a) v || hands f v a)
  may_write_split (assign y subs e) = has_one v y ∙ or_none (has (y ∷ []) v)
  may_write_split (choose c a b) = refl
  may_write_split (loop y first last by body m) = has_one v y ∙ or_none (has (y ∷ []) v)
  may_write_split (during c body) = refl
  may_write_split (call name args) = refl
  may_write_split (runtime r) = changed_has v r ∙ or_none (has (changed_by r) v)

  -- (where no unit is known, a statement uses what it reads whatever the dummies of its unit are)
  may_read_split : (a : Act) → may_read f v a ≡ (has (own_read a) v || hands f v a)
  may_read_split (assign y subs e) = sym (has_used [] v (assign y subs e)) ∙ or_none (has (own_read (assign y subs e)) v)
  may_read_split (choose c a b) = sym (has_used [] v (choose c a b)) ∙ or_none (has (own_read (choose c a b)) v)
  may_read_split (loop y first last by body m) = sym (has_used [] v (loop y first last by body m)) ∙ or_none (has (own_read (loop y first last by body m)) v)
  may_read_split (during c body) = sym (has_used [] v (during c body)) ∙ or_none (has (own_read (during c body)) v)
  may_read_split (call name args) = actuals_apart v (f name) args ∙ ap (λ b. b || is_handed_back v (f name) args) (sym (has_used [] v (call name args)))
  may_read_split (runtime r) = looked_has v r ∙ or_none (has (looked_in r) v)

  -- so of a list
  split_all : (own : Act → List Var) (may : Act → Bool) → ((a : Act) → may a ≡ (has (own a) v || hands f v a)) → (ss : List (At Act)) →
      list_any (λ s. may s.1) ss ≡ (has (flat_map (λ s. own s.1) ss) v || some_hand f v ss)
  split_all own may h ss =
      (λ i. list_any (λ s. h s.1 i) ss)
      ∙ any_or (λ s. has (own s.1) v) (λ s. hands f v s.1) ss
      ∙ ap (λ b. b || some_hand f v ss) (any_has v (λ s. own s.1) ss)

-- what the rule puts into the set is what a unit does without its calls, and what is an actual of a dummy in the set
pub split : (side : Side) (f : Dummies) (u : Procedure) (d : Name) → rule_of side f u d ≡ (has_name d (direct side u) || some_hand f (plain d) (statements u.body))
split Written f u d =
    code_written f (plain d) u.body
    ∙ split_all f (plain d) own_written (may_write f (plain d)) (may_write_split f (plain d)) (statements u.body)
    ∙ ap (λ b. b || some_hand f (plain d) (statements u.body)) (or_none (has own (plain d)) ∙ sym (has_append own [] (plain d)) ∙ sym (has_among d (own ++ [])))
  where
    own : List Var
    own = flat_map (λ s. own_written s.1) (statements u.body)
split Read f u d =
    ap₂ (λ p q. p || q)
    (code_read f (plain d) u.body ∙ split_all f (plain d) own_read (may_read f (plain d)) (may_read_split f (plain d)) (statements u.body))
    (extent_has d u.declarations ∙ or_none (has (extents_read u.declarations) (plain d)))
    ∙ or_sorted (has own (plain d)) (some_hand f (plain d) (statements u.body)) (has (extents_read u.declarations) (plain d)) false
    ∙ ap₂ (λ p q. p || q) (sym (has_append own (extents_read u.declarations) (plain d)) ∙ sym (has_among d (own ++ extents_read u.declarations))) (sym (or_none (some_hand f (plain d) (statements u.body))))
  where
    own : List Var
    own = flat_map (λ s. own_read s.1) (statements u.body)
