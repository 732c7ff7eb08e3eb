-- CALLs whose actuals are distinct variables hand none to a unit twice, and nothing but names. Those in kernel form are so, under other names too.
use Rattle.std.proofs.Common.{◌≡◌, ℕ, Bool, true, false, List, [], ◌∷◌, ◌++◌, map, refl, sym, ap, ◌∙◌, subst}
use Rattle.std.specs.Prelude.{◌||◌, ◌&&◌}
use Rattle.adj_tree.specs.Code.{Var, plain, var_eq, var, more, Act, assign, choose, loop, during, call, runtime, Code, stop, step, Procedure}
use Rattle.def_meaning.specs.LeastSet.{Dummies}
use Rattle.def_meaning.specs.Rename.{rename_terms, rename_act, rename}
use Rattle.def_names.specs.Statements.{At, statements}
use Rattle.def_names.specs.Calls.{Call, call_in, calls}
use Rattle.def_names.specs.Fault.{fault, faults_if}
use Rattle.def_names.specs.WriteFaults.{clashes, have_clash, shared_variables, hands_back_values, written_values}
use Rattle.def_names.proofs.Variables.{or_false}
use Rattle.law_kernel.proofs.Faultless as kernel
use Rattle.law_kernel.proofs.Holding.{HoldsIn, Holds, listed, holds_more}
use Rattle.law_emitted.proofs.Lists.{Each, each_more}
use Rattle.law_emitted.proofs.MadeFaults.{each_in_flat}
use Rattle.law_emitted.proofs.UnitFaults.{flat_none, if_none}
use Rattle.law_emitted.proofs.Tables.{among}
use Rattle.law_emitted.proofs.Apart.{VarsApart}
use Rattle.law_emitted.proofs.Actuals.{terms_of, plain_terms, plain_apart}
use Rattle.law_emitted.proofs.PlainTexts.{IsText, AreText}

-- ---- distinct variables as actuals

abbrev pub IsDistinct : Act → Type 0
IsDistinct (assign x subs e) = Unit {0}
IsDistinct (choose c a b) = Unit {0}
IsDistinct (loop x a b c body m) = Unit {0}
IsDistinct (during c body) = Unit {0}
IsDistinct (call name args) = (vs : List Var) × ((args ≡ terms_of vs) × VarsApart vs)
IsDistinct (runtime r) = Unit {0}

-- in each CALL of a list
abbrev pub AreDistinct : Code → Type 0
AreDistinct c = Holds (λ line a. IsDistinct a) c

-- a variable that isn't among others clashes with none of them
no_clashes : (u : Procedure) (t : Bool) (v : Var) (ws : List Bool) (vs : List Var) → among v vs ≡ false → clashes u t (var v) ws (terms_of vs) ≡ false
no_clashes u t v [] vs h = refl
no_clashes u t v (w ∷ ws) [] h = refl
no_clashes u t v (w ∷ ws) (y ∷ vs) h = let n = or_false (var_eq v y) (among v vs) h in rw (n.0, no_clashes u t v ws vs n.1) refl

-- variables that are apart clash nowhere
no_clash : (u : Procedure) (ws : List Bool) (vs : List Var) → VarsApart vs → have_clash u ws (terms_of vs) ≡ false
no_clash u [] vs h = refl
no_clash u (w ∷ ws) [] h = refl
no_clash u (w ∷ ws) (v ∷ vs) h = rw (no_clashes u w v ws vs h.0, no_clash u ws vs h.1) refl

-- and variables are places
no_values : (ws : List Bool) (vs : List Var) → hands_back_values ws (terms_of vs) ≡ false
no_values [] vs = refl
no_values (w ∷ ws) [] = refl
no_values (w ∷ ws) (v ∷ vs) = place w (no_values ws vs)
  where
    place : (b : Bool) → hands_back_values ws (terms_of vs) ≡ false → ((b && false) || hands_back_values ws (terms_of vs)) ≡ false
    place true h = h
    place false h = h

module _ (handed : Dummies) (u : Procedure) where
  abbrev IsClean : At Call → Type 0
  IsClean c = (have_clash u (handed (c.1).0) (c.1).1 ≡ false) × (hands_back_values (handed (c.1).0) (c.1).1 ≡ false)

  clean : (s : At Act) → IsDistinct s.1 → Each IsClean (map (λ c. (s.0, c)) (call_in s.1))
  clean s = go s.0 s.1
    where
      go : (line : ℕ) (a : Act) → IsDistinct a → Each IsClean (map (λ c. (line, c)) (call_in a))
      go line (assign x subs e) h = tt
      go line (choose c a b) h = tt
      go line (loop x a b c body m) h = tt
      go line (during c body) h = tt
      go line (call name args) h = (subst (λ es. IsClean (line, (name, es))) (sym h.1.0) (no_clash u (handed name) h.0 h.1.1, no_values (handed name) h.0), tt)
      go line (runtime r) h = tt

  -- so a unit whose statements are so has no fault of actuals, whichever dummies are written
  pub each_clean : Each (λ (s : At Act). IsDistinct s.1) (statements u.body) → shared_variables handed u ++ written_values handed u ≡ []
  each_clean h = λ i. shared i ++ values i
    where
      all : Each IsClean (calls u)
      all = each_in_flat IsClean (λ (s : At Act). map (λ c. (s.0, c)) (call_in s.1)) (statements u.body) (each_more (λ (s : At Act). IsDistinct s.1) (λ s. Each IsClean (map (λ c. (s.0, c)) (call_in s.1))) clean (statements u.body) h)

      shared : shared_variables handed u ≡ []
      shared =
          flat_none (λ (c : At Call). faults_if (have_clash u (handed (c.1).0) (c.1).1) (fault 17 c.0)) (calls u)
          (each_more IsClean (λ c. faults_if (have_clash u (handed (c.1).0) (c.1).1) (fault 17 c.0) ≡ []) (λ c k. if_none (have_clash u (handed (c.1).0) (c.1).1) (fault 17 c.0) k.0) (calls u) all)

      values : written_values handed u ≡ []
      values =
          flat_none (λ (c : At Call). faults_if (hands_back_values (handed (c.1).0) (c.1).1) (fault 24 c.0)) (calls u)
          (each_more IsClean (λ c. faults_if (hands_back_values (handed (c.1).0) (c.1).1) (fault 24 c.0) ≡ []) (λ c k. if_none (hands_back_values (handed (c.1).0) (c.1).1) (fault 24 c.0) k.1) (calls u) all)

  -- the same of its body
  pub body_clean : AreDistinct u.body → shared_variables handed u ++ written_values handed u ≡ []
  body_clean h = each_clean (members (statements u.body) (listed (λ line a. IsDistinct a) u.body h))
    where
      members : (ss : List (At Act)) → kernel.Each (λ (s : At Act). IsDistinct s.1) ss → Each (λ (s : At Act). IsDistinct s.1) ss
      members [] k = tt
      members (s ∷ ss) k = (k.0, members ss k.1)

-- ---- under other names that keep variables apart

module _ (r : Var → Var) (apart : (v w : Var) → var_eq (r v) (r w) ≡ var_eq v w) where
  renamed_among : (v : Var) (vs : List Var) → among (r v) (map r vs) ≡ among v vs
  renamed_among v [] = refl
  renamed_among v (w ∷ vs) = λ i. apart v w i || renamed_among v vs i

  pub renamed_apart : (vs : List Var) → VarsApart vs → VarsApart (map r vs)
  renamed_apart [] h = tt
  renamed_apart (v ∷ vs) h = (renamed_among v vs ∙ h.0, renamed_apart vs h.1)

  pub renamed_terms : (vs : List Var) → rename_terms r (terms_of vs) ≡ terms_of (map r vs)
  renamed_terms [] = refl
  renamed_terms (v ∷ vs) = ap (λ es. more (var (r v)) es) (renamed_terms vs)

  renamed_act : (a : Act) → IsDistinct a → IsDistinct (rename_act r a)
  renamed_act (assign x subs e) h = tt
  renamed_act (choose c a b) h = tt
  renamed_act (loop x a b c body m) h = tt
  renamed_act (during c body) h = tt
  renamed_act (call name args) h = (map r h.0, (ap (rename_terms r) h.1.0 ∙ renamed_terms h.0, renamed_apart h.0 h.1.1))
  renamed_act (runtime c) h = tt

  mutual
    renamed_inner : (a : Act) → HoldsIn (λ line b. IsDistinct b) a → HoldsIn (λ line b. IsDistinct b) (rename_act r a)
    renamed_inner (assign x subs e) h = tt
    renamed_inner (choose c a b) h = (renamed_distinct a h.0, renamed_distinct b h.1)
    renamed_inner (loop x a b c body m) h = renamed_distinct body h
    renamed_inner (during c body) h = renamed_distinct body h
    renamed_inner (call name args) h = tt
    renamed_inner (runtime c) h = tt

    pub renamed_distinct : (c : Code) → AreDistinct c → AreDistinct (rename r c)
    renamed_distinct stop h = tt
    renamed_distinct (step line a rest) h = (renamed_act a h.0, (renamed_inner a h.1.0, renamed_distinct rest h.1.1))

-- ---- in kernel form

pub text_act : (line : ℕ) (a : Act) → IsText a → IsDistinct a
text_act line (assign x subs e) h = tt
text_act line (choose c a b) h = tt
text_act line (loop x a b c body m) h = tt
text_act line (during c body) h = tt
text_act line (call name args) h = (map plain h.0, (h.1.0 ∙ plain_terms h.0, plain_apart h.0 h.1.1))
text_act line (runtime r) h = tt

pub text_distinct : (c : Code) → AreText c → AreDistinct c
text_distinct c h = holds_more (λ line a. IsText a) (λ line a. IsDistinct a) text_act c h
