-- Tests of the parts of a program, and its nesting, don't depend on line numbers.
use Rattle.std.proofs.Common.{◌≡◌, ◌≤◌, ℕ, max, ◌+◌, List, [], ◌∷◌, refl, sym, ap, ap₂, subst, ◌∙◌}
use Rattle.std.specs.Prelude.{◌&&◌}
use Rattle.std.proofs.lemmas.List.Folds.{list_all-map}
use Rattle.adj_tree.specs.Code.{Act, Code, assign, choose, loop, during, call, runtime, stop, step, Procedure}
use Rattle.adj_tree.specs.Lines.{unlined_act, unlined_code, unlined_declaration, unlined_procedure, unlined}
use Rattle.adj_tree.specs.Size.{act_depth, code_depth, IsNested}
use Rattle.law_limits.specs.Rule.{Rule, act_keeps, code_keeps, declaration_keeps, procedure_keeps, keeps}

module _ (r : Rule) where
  mutual
    act_unlined : (a : Act) → act_keeps r (unlined_act a) ≡ act_keeps r a
    act_unlined (assign x s e) = refl
    act_unlined (choose c a b) = ap₂ (λ p q. r.test c && (p && q)) (code_unlined a) (code_unlined b)
    act_unlined (loop x a b c body m) = ap (λ q. r.range (record { counter = x; from = a; to = b; by = c }) m && q) (code_unlined body)
    act_unlined (during c body) = ap (λ q. r.test c && q) (code_unlined body)
    act_unlined (call x es) = refl
    act_unlined (runtime c) = refl

    code_unlined : (k : Code) → code_keeps r (unlined_code k) ≡ code_keeps r k
    code_unlined stop = refl
    code_unlined (step line a rest) = ap₂ (λ p q. p && q) (act_unlined a) (code_unlined rest)

  procedure_unlined : (p : Procedure) → procedure_keeps r (unlined_procedure p) ≡ procedure_keeps r p
  procedure_unlined p = ap₂ (λ a b. r.heading p.name p.dummies && (a && b)) (list_all-map (declaration_keeps r) unlined_declaration p.declarations) (code_unlined p.body)

  keeps_unlined : (ps : List Procedure) → keeps r (unlined ps) ≡ keeps r ps
  keeps_unlined [] = refl
  keeps_unlined (p ∷ ps) = ap₂ (λ a b. a && b) (procedure_unlined p) (keeps_unlined ps)

  -- programs that differ in line numbers alone pass alike
  pub keeps_alike : (ps qs : List Procedure) → unlined ps ≡ unlined qs → keeps r ps ≡ keeps r qs
  keeps_alike ps qs same = sym (keeps_unlined ps) ∙ ap (keeps r) same ∙ keeps_unlined qs

mutual
  act_level : (a : Act) → act_depth (unlined_act a) ≡ act_depth a
  act_level (assign x s e) = refl
  act_level (choose c a b) = ap₂ (λ p q. max p q + 1) (code_level a) (code_level b)
  act_level (loop x a b c body m) = ap (λ q. q + 1) (code_level body)
  act_level (during c body) = ap (λ q. q + 1) (code_level body)
  act_level (call x es) = refl
  act_level (runtime c) = refl

  code_level : (k : Code) → code_depth (unlined_code k) ≡ code_depth k
  code_level stop = refl
  code_level (step line a rest) = ap₂ max (act_level a) (code_level rest)

nested_unlined : (n : ℕ) (ps : List Procedure) → IsNested n ps → IsNested n (unlined ps)
nested_unlined n [] h = tt
nested_unlined n (p ∷ ps) h = (subst (λ k. k ≤ n) (sym (code_level p.body)) h.0, nested_unlined n ps h.1)

nested_lined : (n : ℕ) (ps : List Procedure) → IsNested n (unlined ps) → IsNested n ps
nested_lined n [] h = tt
nested_lined n (p ∷ ps) h = (subst (λ k. k ≤ n) (code_level p.body) h.0, nested_lined n ps h.1)

-- and are nested alike
pub nested_alike : (n : ℕ) (ps qs : List Procedure) → unlined ps ≡ unlined qs → IsNested n ps → IsNested n qs
nested_alike n ps qs same h = nested_lined n qs (subst (IsNested n) same (nested_unlined n ps h))
