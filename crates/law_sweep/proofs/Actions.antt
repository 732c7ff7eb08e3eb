-- The emitted loop over the actions of a schedule does them in order, and what the arms do for each.
use Rattle.std.proofs.Common.{◌≡◌, ℕ, Bool, true, false, List, refl, ap, ◌∙◌, subst, int_eq}
use Rattle.std.specs.Prelude.{ℤ, pos, not, Ok}
use Rattle.adj_tree.specs.Code.{Var, helper, kind, lower, is_same, var, compare, choose, Code, stop}
use Rattle.def_meaning.specs.Append.{◌+++◌, one}
use Rattle.def_meaning.specs.Store.{Shape, Store}
use Rattle.def_meaning.specs.Value.{Setting}
use Rattle.def_meaning.specs.Run.{Calls}
use Rattle.law_meaning.specs.Leads.{Leads}
use Rattle.law_meaning.proofs.Leadings.{leads_stop, leads_append, leads_act, act_then, act_else}
use Rattle.law_sweep.specs.Pairs.{on_words}
use Rattle.law_sweep.specs.Scenes.{Course, scene}
use Rattle.def_sweep.specs.Marked.{code_if}
use Rattle.def_sweep.specs.Rows.{is_empty, literal}
use Rattle.def_sweep.specs.Reversals.{Called, Reversal}
use Rattle.def_sweep.specs.ReversalCode.{at_turn, arm, advance, arms}
use Rattle.law_sweep.proofs.Idle.{empty_is}
use Rattle.law_sweep.proofs.Goings.{Goes, goes_one, goes_silent_before, goes_silent_after}

-- ---- one arm

module _ (q : Calls ℤ) (sh : Var → Shape) (level line d : ℕ) where
  abbrev ns : Setting ℤ
  ns = on_words sh level

  pub arm_taken : (j : ℕ) (c : Code) (b : Course) (f f1 : Store ℤ) (t t1 : List ℤ) (calls : List Called) (rs : List Reversal) → int_eq (pos j) (pos j) ≡ true → f (helper kind d) 0 ≡ pos j → Goes q ns c b f f1 t t1 calls rs → Goes q ns (arm line d j c) b f f1 t t1 calls rs
  arm_taken j c b f f1 t t1 calls rs same is g = go (is_empty c) refl
    where
      go : (e : Bool) → is_empty c ≡ e → Goes q ns (code_if (not e) (one line (choose (compare is_same (var (helper kind d)) (literal j)) c stop))) b f f1 t t1 calls rs
      go true e = subst (λ z. Goes q ns z b f f1 t t1 calls rs) (empty_is c e) g
      go false e = goes_one q ns line (choose (compare is_same (var (helper kind d)) (literal j)) c stop) b f f1 t t1 calls rs
          (record { later = g.later; tells = g.tells; runs = act_then q ns line (compare is_same (var (helper kind d)) (literal j)) c stop (scene b f t) (scene g.later f1 t1) (ap (λ z. Ok (int_eq z (pos j))) is ∙ ap Ok same) g.runs })

  -- an arm of another kind does nothing
  pub arm_skipped : (j v : ℕ) (c : Code) (b : Course) (f : Store ℤ) (t : List ℤ) → int_eq (pos v) (pos j) ≡ false → f (helper kind d) 0 ≡ pos v → Leads q ns (arm line d j c) (scene b f t) (scene b f t)
  arm_skipped j v c b f t other is = go (is_empty c)
    where
      go : (e : Bool) → Leads q ns (code_if (not e) (one line (choose (compare is_same (var (helper kind d)) (literal j)) c stop))) (scene b f t) (scene b f t)
      go true = leads_stop q ns (scene b f t)
      go false = leads_act q ns line (choose (compare is_same (var (helper kind d)) (literal j)) c stop) stop (scene b f t) (scene b f t) (scene b f t)
          (act_else q ns line (compare is_same (var (helper kind d)) (literal j)) c stop (scene b f t) (scene b f t) (ap (λ z. Ok (int_eq z (pos j))) is ∙ ap Ok other) (leads_stop q ns (scene b f t)))
          (leads_stop q ns (scene b f t))

  -- ---- the arms, for each kind of action

  module _ (x : Var) (keep back plain_call adjoint : Code) where
    abbrev a1 : Code
    a1 = arm line d 1 keep

    abbrev a2 : Code
    a2 = arm line d 2 (advance line d x plain_call)

    abbrev a3 : Code
    a3 = arm line d 3 (at_turn line d x lower adjoint)

    abbrev a4 : Code
    a4 = arm line d 4 (back +++ keep)

    abbrev a5 : Code
    a5 = arm line d 5 back

    abbrev these : Code
    these = arms line d x keep back plain_call adjoint

    module _ (v : ℕ) (f : Store ℤ) (t : List ℤ) (is : f (helper kind d) 0 ≡ pos v) where
      skip_1 : int_eq (pos v) (pos 1) ≡ false → (b : Course) → Leads q ns a1 (scene b f t) (scene b f t)
      skip_1 n b = arm_skipped 1 v keep b f t n is

      skip_2 : int_eq (pos v) (pos 2) ≡ false → (b : Course) → Leads q ns a2 (scene b f t) (scene b f t)
      skip_2 n b = arm_skipped 2 v (advance line d x plain_call) b f t n is

      skip_3 : int_eq (pos v) (pos 3) ≡ false → (b : Course) → Leads q ns a3 (scene b f t) (scene b f t)
      skip_3 n b = arm_skipped 3 v (at_turn line d x lower adjoint) b f t n is

      skip_4 : int_eq (pos v) (pos 4) ≡ false → (b : Course) → Leads q ns a4 (scene b f t) (scene b f t)
      skip_4 n b = arm_skipped 4 v (back +++ keep) b f t n is

      skip_5 : int_eq (pos v) (pos 5) ≡ false → (b : Course) → Leads q ns a5 (scene b f t) (scene b f t)
      skip_5 n b = arm_skipped 5 v back b f t n is

      two : (c e : Code) → ((b : Course) → Leads q ns c (scene b f t) (scene b f t)) → ((b : Course) → Leads q ns e (scene b f t) (scene b f t)) → (b : Course) → Leads q ns (c +++ e) (scene b f t) (scene b f t)
      two c e g h b = leads_append q ns c e (scene b f t) (scene b f t) (scene b f t) (g b) (h b)

      from_4 : int_eq (pos v) (pos 4) ≡ false → int_eq (pos v) (pos 5) ≡ false → (b : Course) → Leads q ns (a4 +++ a5) (scene b f t) (scene b f t)
      from_4 n4 n5 = two a4 a5 (skip_4 n4) (skip_5 n5)

      from_3 : int_eq (pos v) (pos 3) ≡ false → int_eq (pos v) (pos 4) ≡ false → int_eq (pos v) (pos 5) ≡ false → (b : Course) → Leads q ns (a3 +++ (a4 +++ a5)) (scene b f t) (scene b f t)
      from_3 n3 n4 n5 = two a3 (a4 +++ a5) (skip_3 n3) (from_4 n4 n5)

      from_2 : int_eq (pos v) (pos 2) ≡ false → int_eq (pos v) (pos 3) ≡ false → int_eq (pos v) (pos 4) ≡ false → int_eq (pos v) (pos 5) ≡ false → (b : Course) → Leads q ns (a2 +++ (a3 +++ (a4 +++ a5))) (scene b f t) (scene b f t)
      from_2 n2 n3 n4 n5 = two a2 (a3 +++ (a4 +++ a5)) (skip_2 n2) (from_3 n3 n4 n5)

    module _ (b : Course) (f f1 : Store ℤ) (t t1 : List ℤ) (calls : List Called) (rs : List Reversal) where
      pub do_1 : f (helper kind d) 0 ≡ pos 1 → f1 (helper kind d) 0 ≡ pos 1 → Goes q ns keep b f f1 t t1 calls rs → Goes q ns these b f f1 t t1 calls rs
      do_1 is is1 g =
          goes_silent_after q ns a1 (a2 +++ (a3 +++ (a4 +++ a5))) b f f1 f1 t t1 t1 calls rs (arm_taken 1 keep b f f1 t t1 calls rs refl is g) (from_2 1 f1 t1 is1 refl refl refl refl)

      pub do_2 : f (helper kind d) 0 ≡ pos 2 → f1 (helper kind d) 0 ≡ pos 2 → Goes q ns (advance line d x plain_call) b f f1 t t1 calls rs → Goes q ns these b f f1 t t1 calls rs
      do_2 is is1 g =
          goes_silent_before q ns a1 (a2 +++ (a3 +++ (a4 +++ a5))) b f f f1 t t t1 calls rs (skip_1 2 f t is refl b)
          (goes_silent_after q ns a2 (a3 +++ (a4 +++ a5)) b f f1 f1 t t1 t1 calls rs (arm_taken 2 (advance line d x plain_call) b f f1 t t1 calls rs refl is g) (from_3 2 f1 t1 is1 refl refl refl))

      pub do_3 : f (helper kind d) 0 ≡ pos 3 → f1 (helper kind d) 0 ≡ pos 3 → Goes q ns (at_turn line d x lower adjoint) b f f1 t t1 calls rs → Goes q ns these b f f1 t t1 calls rs
      do_3 is is1 g =
          goes_silent_before q ns a1 (a2 +++ (a3 +++ (a4 +++ a5))) b f f f1 t t t1 calls rs (skip_1 3 f t is refl b)
          (goes_silent_before q ns a2 (a3 +++ (a4 +++ a5)) b f f f1 t t t1 calls rs (skip_2 3 f t is refl b)
          (goes_silent_after q ns a3 (a4 +++ a5) b f f1 f1 t t1 t1 calls rs (arm_taken 3 (at_turn line d x lower adjoint) b f f1 t t1 calls rs refl is g) (from_4 3 f1 t1 is1 refl refl)))

      pub do_4 : f (helper kind d) 0 ≡ pos 4 → f1 (helper kind d) 0 ≡ pos 4 → Goes q ns (back +++ keep) b f f1 t t1 calls rs → Goes q ns these b f f1 t t1 calls rs
      do_4 is is1 g =
          goes_silent_before q ns a1 (a2 +++ (a3 +++ (a4 +++ a5))) b f f f1 t t t1 calls rs (skip_1 4 f t is refl b)
          (goes_silent_before q ns a2 (a3 +++ (a4 +++ a5)) b f f f1 t t t1 calls rs (skip_2 4 f t is refl b)
          (goes_silent_before q ns a3 (a4 +++ a5) b f f f1 t t t1 calls rs (skip_3 4 f t is refl b)
          (goes_silent_after q ns a4 a5 b f f1 f1 t t1 t1 calls rs (arm_taken 4 (back +++ keep) b f f1 t t1 calls rs refl is g) (skip_5 4 f1 t1 is1 refl))))

      pub do_5 : f (helper kind d) 0 ≡ pos 5 → Goes q ns back b f f1 t t1 calls rs → Goes q ns these b f f1 t t1 calls rs
      do_5 is g =
          goes_silent_before q ns a1 (a2 +++ (a3 +++ (a4 +++ a5))) b f f f1 t t t1 calls rs (skip_1 5 f t is refl b)
          (goes_silent_before q ns a2 (a3 +++ (a4 +++ a5)) b f f f1 t t t1 calls rs (skip_2 5 f t is refl b)
          (goes_silent_before q ns a3 (a4 +++ a5) b f f f1 t t t1 calls rs (skip_3 5 f t is refl b)
          (goes_silent_before q ns a4 a5 b f f f1 t t t1 calls rs (skip_4 5 f t is refl b)
          (arm_taken 5 back b f f1 t t1 calls rs refl is g))))
