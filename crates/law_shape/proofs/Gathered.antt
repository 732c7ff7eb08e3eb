-- What a function gives of the statements of a list, one after another, and of those of the text in which they stand under their names, without line numbers.
use Rattle.std.proofs.Common.{◌≡◌, ℕ, suc, List, [], ◌∷◌, ◌++◌, refl, sym, ap, ◌∙◌, append_assoc}
use Rattle.std.specs.Prelude.{flat_map}
use Rattle.std.proofs.lemmas.Grind.{flat_map-append}
use Rattle.adj_tree.specs.Code.{Var, Act, assign, choose, loop, during, call, runtime, Code, stop, step}
use Rattle.adj_tree.specs.Lines.{unlined_act, unlined_code}
use Rattle.def_meaning.specs.Append.{◌+++◌}
use Rattle.def_meaning.specs.Rename.{rename_act, rename}
use Rattle.def_names.specs.Statements.{At, inner, statements}
use Rattle.def_names.specs.Numbers.{next, behind}
use Rattle.def_adjoint.specs.Shape.{gathered, gathered_from}

-- ---- lists one after another

statements_append : (c d : Code) → statements (c +++ d) ≡ statements c ++ statements d
statements_append stop d = refl
statements_append (step line a c) d = ap (λ l. (line, a) ∷ l) (ap (λ l. inner a ++ l) (statements_append c d) ∙ sym (append_assoc (inner a) (statements c) (statements d)))

module _ {X : Type 0} (f : Act → List X) where
  pub gathered_append : (c d : Code) → gathered f (c +++ d) ≡ gathered f c ++ gathered f d
  gathered_append c d = ap (flat_map (λ (s : At Act). f s.1)) (statements_append c d) ∙ flat_map-append (λ (s : At Act). f s.1) (statements c) (statements d)

  -- of the statements in a statement
  abbrev pub inside : Act → List X
  inside a = flat_map (λ (s : At Act). f s.1) (inner a)

  pub gathered_step : (line : ℕ) (a : Act) (rest : Code) → gathered f (step line a rest) ≡ f a ++ (inside a ++ gathered f rest)
  gathered_step line a rest = ap (λ l. f a ++ l) (flat_map-append (λ (s : At Act). f s.1) (inner a) (statements rest))

-- ---- by their numbers

module _ {X : Type 0} (g : ℕ → Act → List X) where
  -- along the tree
  abbrev mutual
    pub due_act : ℕ → Act → List X
    due_act i (assign x subs e) = g i (assign x subs e)
    due_act i (choose c a b) = g i (choose c a b) ++ (due_code (suc i) a ++ due_code (behind (suc i) a) b)
    due_act i (loop x a b c body m) = g i (loop x a b c body m) ++ due_code (suc i) body
    due_act i (during c body) = g i (during c body) ++ due_code (suc i) body
    due_act i (call name args) = g i (call name args)
    due_act i (runtime r) = g i (runtime r)

    pub due_code : ℕ → Code → List X
    due_code i stop = []
    due_code i (step line a rest) = due_act i a ++ due_code (next i a) rest

  mutual
    from_act : (i line : ℕ) (a : Act) (ss : List (At Act)) → gathered_from g i ((line, a) ∷ (inner a ++ ss)) ≡ due_act i a ++ gathered_from g (next i a) ss
    from_act i line (assign x subs e) ss = refl
    from_act i line (choose c a b) ss =
        ap (λ l. g i (choose c a b) ++ l)
        (ap (gathered_from g (suc i)) (append_assoc (statements a) (statements b) ss) ∙ from_code (suc i) a (statements b ++ ss) ∙ ap (λ l. due_code (suc i) a ++ l) (from_code (behind (suc i) a) b ss)
        ∙ sym (append_assoc (due_code (suc i) a) (due_code (behind (suc i) a) b) (gathered_from g (behind (behind (suc i) a) b) ss)))
        ∙ sym (append_assoc (g i (choose c a b)) (due_code (suc i) a ++ due_code (behind (suc i) a) b) (gathered_from g (behind (behind (suc i) a) b) ss))
    from_act i line (loop x a b c body m) ss =
        ap (λ l. g i (loop x a b c body m) ++ l) (from_code (suc i) body ss)
        ∙ sym (append_assoc (g i (loop x a b c body m)) (due_code (suc i) body) (gathered_from g (behind (suc i) body) ss))
    from_act i line (during c body) ss =
        ap (λ l. g i (during c body) ++ l) (from_code (suc i) body ss)
        ∙ sym (append_assoc (g i (during c body)) (due_code (suc i) body) (gathered_from g (behind (suc i) body) ss))
    from_act i line (call name args) ss = refl
    from_act i line (runtime r) ss = refl

    from_code : (i : ℕ) (c : Code) (ss : List (At Act)) → gathered_from g i (statements c ++ ss) ≡ due_code i c ++ gathered_from g (behind i c) ss
    from_code i stop ss = refl
    from_code i (step line a rest) ss =
        ap (λ l. gathered_from g i ((line, a) ∷ l)) (append_assoc (inner a) (statements rest) ss)
        ∙ from_act i line a (statements rest ++ ss)
        ∙ ap (λ l. due_act i a ++ l) (from_code (next i a) rest ss)
        ∙ sym (append_assoc (due_act i a) (due_code (next i a) rest) (gathered_from g (behind (next i a) rest) ss))

  append_none : (xs : List X) → xs ++ [] ≡ xs
  append_none [] = refl
  append_none (x ∷ xs) = ap (λ l. x ∷ l) (append_none xs)

  pub from_statements : (i : ℕ) (c : Code) → gathered_from g i (statements c) ≡ due_code i c
  from_statements i c = ap (gathered_from g i) (sym (all (statements c))) ∙ from_code i c [] ∙ append_none (due_code i c)
    where
      all : (ss : List (At Act)) → ss ++ [] ≡ ss
      all [] = refl
      all (s ∷ ss) = ap (λ l. s ∷ l) (all ss)

-- ---- as they stand in the text

module _ (r : Var → Var) where
  -- a list, and a statement, under other names and without line numbers
  abbrev pub seen : Code → Code
  seen c = unlined_code (rename r c)

  abbrev pub seen_act : Act → Act
  seen_act a = unlined_act (rename_act r a)

  pub seen_append : (c d : Code) → seen (c +++ d) ≡ seen c +++ seen d
  seen_append stop d = refl
  seen_append (step line a c) d = ap (step 0 (seen_act a)) (seen_append c d)

  pub taken_append : {X : Type 0} (f : Act → List X) (c d : Code) → gathered f (seen (c +++ d)) ≡ gathered f (seen c) ++ gathered f (seen d)
  taken_append f c d = ap (gathered f) (seen_append c d) ∙ gathered_append f (seen c) (seen d)
