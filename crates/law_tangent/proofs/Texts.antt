-- The text of a source that fits, as the tangents of its units ask for it.
use Rattle.std.proofs.Common.{◌≡◌, ℕ, suc, Bool, true, List, sym, subst}
use Rattle.std.specs.Prelude.{None}
use Rattle.adj_tree.specs.Code.{plain, shadow, helper, Terms, Act, assign, choose, loop, during, call, runtime, Code, stop, step, Procedure}
use Rattle.def_meaning.specs.LeastSet.{Dummies}
use Rattle.def_names.specs.Numbers.{Vars, next, behind}
use Rattle.def_sweep.specs.Marks.{Marks}
use Rattle.def_names.specs.Numbering.{point_before, point_after}
use Rattle.def_sweep.specs.Facts.{Facts}
use Rattle.def_sweep.specs.Callees.{CalleeFacts}
use Rattle.law_sweep.specs.Laws.{point_inside, ListLawsBy, ActLawsBy}
use Rattle.def_sweep.specs.Reversals.{ReversedLines}
use Rattle.law_sweep.specs.Kernel.{AsMany, FitsBy, FitsListBy}
use Rattle.law_meaning.specs.Common.{CallsInside', CallsInside}
use Rattle.def_sweep.specs.Plan.{IsActual}
use Rattle.law_tangent.specs.Laws.{ActTexts, ListTexts}
use Rattle.law_tangent.specs.Units.{CallTexts}

module _ (lines : ReversedLines) (ps : List Procedure) (g : List ℕ → CalleeFacts) (answers paired carried : List ℕ → Bool) (present : Bool) (m : Marks) (w : Facts) (vars : List (List ℕ)) (arrays : Vars) (handed : Dummies) (dummies : List ℕ → List (List ℕ)) (same : (n : List ℕ) → (g n).callee.dummies ≡ dummies n)
    (inside reached called : List ℕ → Bool) (goes_there : (n : List ℕ) → inside n ≡ true → (reached n ≡ true) × (called n ≡ true)) where
  abbrev Texts : List ℕ → Terms → Type 0
  Texts = CallTexts ps reached called arrays dummies

  mutual
    text_act : (i line : ℕ) (a : Act) → FitsBy None lines ps g answers paired carried present m vars arrays handed i line a → ActLawsBy None g w i a → CallsInside' inside a → ActTexts Texts vars arrays handed a
    text_act i line (assign (plain x) subs e) f l h = f
    text_act i line (assign (shadow x) subs e) f l h = absurd f
    text_act i line (assign (helper r k) subs e) f l h = absurd f
    text_act i line (choose c a b) f l h = (f.0, (text_list (point_before i) (suc i) a f.1.0 l.1.0 h.0, text_list (point_before i) (behind (suc i) a) b f.1.1 l.1.1 h.1))
    text_act i line (loop (plain x) a b c body n) f l h =
        (let o = f.0 in record { scalar = o.scalar; spares = o.spares; text_first = o.text_first; text_last = o.text_last; text_step = o.text_step }, text_list (point_inside i) (suc i) body f.1 l.1 h)
    text_act i line (loop (shadow x) a b c body n) f l h = absurd f
    text_act i line (loop (helper r k) a b c body n) f l h = absurd f
    text_act i line (during c body) f l h = (f.0, text_list (point_inside i) (suc i) body f.1 l.1 h)
    text_act i line (call name args) f l h =
        let c = f.0 l.0 l.1.0 in
        let it = goes_there name h in (
          l.0,
          (
            l.1.0,
            record {
              unit = c.unit;
              found = c.found;
              there = it.0;
              calls = it.1;
              apart = c.apart;
              many = subst (λ ds. AsMany ds l.0) (same name) c.many;
              ranks = λ d x is r. c.ranks d x (subst (λ ds. IsActual ds l.0 d x) (sym (same name)) is) r;
            },
          ),
        )
    text_act i line (runtime r) f l h = absurd f

    pub text_list : (p i : ℕ) (c : Code) → FitsListBy None lines ps g answers paired carried present m vars arrays handed i c → ListLawsBy None g w p i c → CallsInside inside c → ListTexts Texts vars arrays handed c
    text_list p i stop f l h = tt
    text_list p i (step line a rest) f l h = (text_act i line a f.0 l.1.0 h.0, text_list (point_after i) (next i a) rest f.1 l.1.1 h.1)
