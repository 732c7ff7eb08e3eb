-- Marked loops and their step units.
use Rattle.std.proofs.Common.{◌≡◌, ◌⊎◌, inl, inr, Bool, true, false, nat_lt, ℕ, zero, suc, ◌+◌, ◌<◌, ◌≤◌, List, [], ◌∷◌, ◌++◌, length, get_or, refl, sym, ap, subst, ◌∙◌, arith, length-append, add-one}
use Rattle.std.proofs.lemmas.Bool.Decides.{nat_tests}
use Rattle.std.proofs.lemmas.List.{get_or_append_left}
use Rattle.std.proofs.Math.Seq.{get_or-append_seam}
use Rattle.adj_tree.specs.Code.{Var, Term, Mark, unmarked, with_count, count_from, loop, Code, Procedure}
use Rattle.def_kernel.specs.Stepped.{marked_in_act, step_names, step_name, cut_act, step_units_in_act}
use Rattle.adj_norm.specs.Source.{Knows, marked_body, cut_body, units_of_loop}
use Rattle.adj_norm.specs.declared.source.Source.{Source}

-- ---- loops

pub marked_loop : (x : Var) (first last by : Term) (body : Code) (m : Mark) → marked_in_act (loop x first last by body m) ≡ marked_body body m
marked_loop x first last by body unmarked = refl
marked_loop x first last by body (with_count m) = refl
marked_loop x first last by body (count_from y) = refl

pub cut_loop : (taken : List (List ℕ)) (u : Procedure) (k line : ℕ) (x : Var) (first last by : Term) (body : Code) (m : Mark) → cut_act taken u k line (loop x first last by body m) ≡ loop x first last by (cut_body taken u k line x body m) m
cut_loop taken u k line x first last by body unmarked = refl
cut_loop taken u k line x first last by body (with_count m) = refl
cut_loop taken u k line x first last by body (count_from y) = refl

pub units_loop : (taken : List (List ℕ)) (u : Procedure) (k line : ℕ) (x : Var) (first last by : Term) (body : Code) (m : Mark) → step_units_in_act taken u k line (loop x first last by body m) ≡ units_of_loop taken u k line x body m
units_loop taken u k line x first last by body unmarked = refl
units_loop taken u k line x first last by body (with_count m) = refl
units_loop taken u k line x first last by body (count_from y) = refl

-- ---- names

pub length-step_names : (taken : List (List ℕ)) (name : List ℕ) (k : ℕ) → length (step_names taken name k) ≡ k
length-step_names taken name zero = refl
length-step_names taken name (suc k) = length-append (step_names taken name k) (step_name taken name k ∷ []) ∙ ap (λ n. n + 1) (length-step_names taken name k) ∙ add-one k

below : (i k : ℕ) → i < suc k → (i < k) ⊎ (i ≡ k)
below i k h = go (nat_lt i k) refl
  where
    go : (b : Bool) → nat_lt i k ≡ b → (i < k) ⊎ (i ≡ k)
    go true e = let l : i < k = grind (arith, nat_tests) in inl l
    go false e = let l : k ≤ i = grind (arith, nat_tests) in let same : i ≡ k = omega arith in inr same

-- the name at a place is that of its number
step_at : (taken : List (List ℕ)) (name : List ℕ) (k i : ℕ) (d : List ℕ) → i < k → get_or (step_names taken name k) i d ≡ step_name taken name i
step_at taken name zero i d h = absurd (omega arith)
step_at taken name (suc k) i d h = go (λ l. step_at taken name k i d l) (below i k h)
  where
    last : List ℕ
    last = step_name taken name k

    go : (i < k → get_or (step_names taken name k) i d ≡ step_name taken name i) → (i < k) ⊎ (i ≡ k) → get_or (step_names taken name k ++ (last ∷ [])) i d ≡ step_name taken name i
    go ih (inl l) = get_or_append_left (step_names taken name k) (last ∷ []) d i (subst (λ n. i < n) (sym (length-step_names taken name k)) l) ∙ ih l
    go ih (inr e) =
        ap (λ n. get_or (step_names taken name k ++ (last ∷ [])) n d) (e ∙ sym (length-step_names taken name k)) ∙ get_or-append_seam (step_names taken name k) last [] d
        ∙ ap (step_name taken name) (sym e)

-- the name that is known for a number
pub known_name : (s : Source) (taken : List (List ℕ)) (u : Procedure) (k : ℕ) (d : List ℕ) → Knows s taken u → k < length s.names.now → get_or s.names.now k d ≡ step_name taken u.name k
known_name s taken u k d known h = ap (λ z. get_or z k d) known.names ∙ step_at taken u.name (length s.names.now) k d h
