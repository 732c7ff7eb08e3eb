-- The faults of statements in the bodies of DOs, found in one walk.
use Rattle.std.proofs.Common.{◌≡◌, ℕ, Bool, true, false, List, ◌++◌, refl, sym, ap, ap₂, ◌∙◌, Option, Some}
use Rattle.std.specs.Prelude.{◌||◌}
use Rattle.std.specs.List.{flat_map}
use Rattle.std.proofs.lemmas.Grind.{flat_map-append}
use Rattle.adj_tree.specs.Code.{Var, Act, assign, choose, loop, during, call, runtime, Code, stop, step}
use Rattle.adj_tree.specs.declared.fault.Refusal.{Refusal}
use Rattle.def_meaning.specs.LeastSet.{Dummies}
use Rattle.def_names.specs.Statements.{At, inner, statements}
use Rattle.def_names.specs.Fault.{fault, faults_if, first_of, sooner}
use Rattle.def_names.specs.WriteFaults.{may_write, writes_of_variable}
use Rattle.def_names.proofs.Order.{sooner_assoc, sooner_comm, sooner_same, first_of-append}
use Rattle.adj_symbols.specs.Opening.{open_inner, open_faults}

-- the first of four, in another order
crossed : (a b c d : Option Refusal) → sooner (sooner a b) (sooner c d) ≡ sooner (sooner a c) (sooner b d)
crossed a b c d =
    sooner_assoc a b (sooner c d)
    ∙ ap (sooner a) (sym (sooner_assoc b c d) ∙ ap (λ z. sooner z d) (sooner_comm b c) ∙ sooner_assoc c b d)
    ∙ sym (sooner_assoc a c (sooner b d))

swapped : (a b c : Option Refusal) → sooner a (sooner b c) ≡ sooner b (sooner a c)
swapped a b c = sym (sooner_assoc a b c) ∙ ap (λ z. sooner z c) (sooner_comm a b) ∙ sooner_assoc b a c

-- a fault for one of two reasons
either : (a b : Bool) (r : Refusal) → first_of (faults_if (a || b) r) ≡ sooner (first_of (faults_if a r)) (first_of (faults_if b r))
either true true r = sym (sooner_same (Some r))
either true false r = refl
either false b r = refl

module _ (handed : Dummies) where
  -- the first fault of statements that may write a variable
  abbrev by_one : Var → List (At Act) → Option Refusal
  by_one x ss = first_of (flat_map (λ s. faults_if (may_write handed x s.1) (fault 11 s.0)) ss)

  by_both : (x : Var) (ss ts : List (At Act)) → by_one x (ss ++ ts) ≡ sooner (by_one x ss) (by_one x ts)
  by_both x ss ts = ap first_of (flat_map-append (λ s. faults_if (may_write handed x s.1) (fault 11 s.0)) ss ts) ∙ first_of-append (flat_map (λ s. faults_if (may_write handed x s.1) (fault 11 s.0)) ss) (flat_map (λ s. faults_if (may_write handed x s.1) (fault 11 s.0)) ts)

  abbrev with_one : Var → (Act → Bool) → Act → Bool
  with_one x hits s = may_write handed x s || hits s

  abbrev inside : (Act → Bool) → Act → Option Refusal
  inside hits a = first_of (open_inner handed hits a)

  abbrev listed : (Act → Bool) → Code → Option Refusal
  listed hits c = first_of (open_faults handed hits c)

  -- a statement, those in it and those behind it
  parts : (hits : Act → Bool) (line : ℕ) (a : Act) (rest : Code) → listed hits (step line a rest) ≡ sooner (first_of (faults_if (hits a) (fault 11 line))) (sooner (inside hits a) (listed hits rest))
  parts hits line a rest =
      first_of-append (faults_if (hits a) (fault 11 line)) (open_inner handed hits a ++ open_faults handed hits rest)
      ∙ ap (sooner (first_of (faults_if (hits a) (fault 11 line)))) (first_of-append (open_inner handed hits a) (open_faults handed hits rest))

  -- one more statement of a list
  pub step_more : (hits : Act → Bool) (line : ℕ) (a : Act) (rest : Code) (before own within : Option Refusal) → own ≡ sooner before (first_of (faults_if (hits a) (fault 11 line))) → within ≡ sooner own (first_of (open_inner handed hits a)) → sooner within (first_of (open_faults handed hits rest)) ≡ sooner before (first_of (open_faults handed hits (step line a rest)))
  step_more hits line a rest before own within e d =
      ap (λ z. sooner z (listed hits rest)) (d ∙ ap (λ z. sooner z (inside hits a)) e)
      ∙ sooner_assoc (sooner before (first_of (faults_if (hits a) (fault 11 line)))) (inside hits a) (listed hits rest)
      ∙ sooner_assoc before (first_of (faults_if (hits a) (fault 11 line))) (sooner (inside hits a) (listed hits rest))
      ∙ ap (sooner before) (sym (parts hits line a rest))

  mutual
    -- one more open variable
    more_inside : (x : Var) (hits : Act → Bool) (a : Act) → inside (with_one x hits) a ≡ sooner (by_one x (inner a)) (inside hits a)
    more_inside x hits (assign y subs e) = refl
    more_inside x hits (choose c a b) =
        first_of-append (open_faults handed (with_one x hits) a) (open_faults handed (with_one x hits) b)
        ∙ ap₂ sooner (more_listed x hits a) (more_listed x hits b)
        ∙ crossed (by_one x (statements a)) (listed hits a) (by_one x (statements b)) (listed hits b)
        ∙ ap₂ sooner (sym (by_both x (statements a) (statements b))) (sym (first_of-append (open_faults handed hits a) (open_faults handed hits b)))
    more_inside x hits (loop y first last by body m) =
        more_listed y (with_one x hits) body
        ∙ ap (sooner (by_one y (statements body))) (more_listed x hits body)
        ∙ swapped (by_one y (statements body)) (by_one x (statements body)) (listed hits body)
        ∙ ap (sooner (by_one x (statements body))) (sym (more_listed y hits body))
    more_inside x hits (during c body) = more_listed x hits body
    more_inside x hits (call name args) = refl
    more_inside x hits (runtime r) = refl

    more_listed : (x : Var) (hits : Act → Bool) (c : Code) → listed (with_one x hits) c ≡ sooner (by_one x (statements c)) (listed hits c)
    more_listed x hits stop = refl
    more_listed x hits (step line a rest) =
        parts (with_one x hits) line a rest
        ∙ ap₂ sooner (either (may_write handed x a) (hits a) (fault 11 line)) (ap₂ sooner (more_inside x hits a) (more_listed x hits rest) ∙ crossed (by_one x (inner a)) (inside hits a) (by_one x (statements rest)) (listed hits rest))
        ∙ crossed (first_of (faults_if (may_write handed x a) (fault 11 line))) (first_of (faults_if (hits a) (fault 11 line))) (sooner (by_one x (inner a)) (by_one x (statements rest))) (sooner (inside hits a) (listed hits rest))
        ∙ ap₂ sooner
        (ap (sooner (first_of (faults_if (may_write handed x a) (fault 11 line)))) (sym (by_both x (inner a) (statements rest)))
        ∙ sym (first_of-append (faults_if (may_write handed x a) (fault 11 line)) (flat_map (λ s. faults_if (may_write handed x s.1) (fault 11 s.0)) (inner a ++ statements rest))))
        (sym (parts hits line a rest))

  abbrev in_all : List (At Act) → Option Refusal
  in_all ss = first_of (flat_map (λ s. writes_of_variable handed s.1) ss)

  in_both : (ss ts : List (At Act)) → in_all (ss ++ ts) ≡ sooner (in_all ss) (in_all ts)
  in_both ss ts = ap first_of (flat_map-append (λ s. writes_of_variable handed s.1) ss ts) ∙ first_of-append (flat_map (λ s. writes_of_variable handed s.1) ss) (flat_map (λ s. writes_of_variable handed s.1) ts)

  module _ (hits : Act → Bool) (never : (a : Act) → hits a ≡ false) where
    mutual
      none_inside : (a : Act) → inside hits a ≡ sooner (first_of (writes_of_variable handed a)) (in_all (inner a))
      none_inside (assign y subs e) = refl
      none_inside (choose c a b) =
          first_of-append (open_faults handed hits a) (open_faults handed hits b)
          ∙ ap₂ sooner (none_listed a) (none_listed b)
          ∙ sym (in_both (statements a) (statements b))
      none_inside (loop y first last by body m) = more_listed y hits body ∙ ap (sooner (by_one y (statements body))) (none_listed body)
      none_inside (during c body) = none_listed body
      none_inside (call name args) = refl
      none_inside (runtime r) = refl

      -- where no variable is open yet
      pub none_listed : (c : Code) → listed hits c ≡ in_all (statements c)
      none_listed stop = refl
      none_listed (step line a rest) =
          parts hits line a rest
          ∙ ap (λ b. sooner (first_of (faults_if b (fault 11 line))) (sooner (inside hits a) (listed hits rest))) (never a)
          ∙ ap₂ sooner (none_inside a) (none_listed rest)
          ∙ sooner_assoc (first_of (writes_of_variable handed a)) (in_all (inner a)) (in_all (statements rest))
          ∙ ap (sooner (first_of (writes_of_variable handed a))) (sym (in_both (inner a) (statements rest)))
          ∙ sym (first_of-append (writes_of_variable handed a) (flat_map (λ s. writes_of_variable handed s.1) (inner a ++ statements rest)))
