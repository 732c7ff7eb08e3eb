-- Front: what the machine of operands reads at the front of some lexemes is what stands there, judged.
use Rattle.std.proofs.Common.{◌≡◌, List, [], ◌∷◌, Bool, true, false, cond, Option, Some, None, refl, sym, ap, ◌∙◌}
use Rattle.std.specs.Prelude.{ℕ, IfSome, Result, option_map}
use Rattle.adj_tree.specs.Code.{Term}
use Rattle.def_text.specs.Grammar.{Syntax, Sum, Derives}
use Rattle.def_text.specs.Machine.{Algebra, State, value, Stops, is_stop, wanting, step, finish, chosen, stopped, read, syntaxes}
use Rattle.def_text.specs.Lexeme.{Lexeme}
use Rattle.def_text.proofs.Complete.{reads}
use Rattle.def_text.proofs.Sound.{is_read}
use Rattle.def_text.proofs.Unique.{reads_itself, itself_derived}
use Rattle.adj_parse_expression.specs.declared.flaw.Flaw.{Flaw}
use Rattle.adj_parse_expression.specs.Front.{front_expression}
use Rattle.adj_parse_expression.specs.Judged.{judged}
use Rattle.adj_parse_expression.specs.Partial.{Partial, algebra}
use Rattle.adj_parse_expression.proofs.Exact.{exactly, exact}

module _ {X : Type 0} (alg : Algebra X) where
  at_end : (o : Option X) → IfSome (option_map (λ x. let r : X × List Lexeme = (x, []) in r) o) (λ r. Stops r.1)
  at_end None = tt
  at_end (Some x) = tt

  at_stop : (w : Lexeme) (ws : List Lexeme) (b : Bool) (o : Option X) → is_stop w ≡ b → IfSome (cond b (option_map (λ x. let r : X × List Lexeme = (x, w ∷ ws) in r) o) None) (λ r. Stops r.1)
  at_stop w ws true None e = tt
  at_stop w ws true (Some x) e = e
  at_stop w ws false o e = tt

  -- what stands behind an expression that is read may stand there
  stops : (ws : List Lexeme) (s : State X) → IfSome (read alg s ws) (λ r. Stops r.1)
  unfolding read
  stops [] s = at_end (finish alg s)
  stops (w ∷ ws) s =
      elim (step alg s w) as (λ o. IfSome (chosen o (λ t. read alg t ws) (stopped w ws (finish alg s))) (λ r. Stops r.1)) [
        | None ↦ at_stop w ws (is_stop w) (finish alg s) refl
        | Some t ↦ stops ws t
      ]

abbrev pub found_in : Partial × List Lexeme → Result Term Flaw × List Lexeme
found_in r = (r.0.found, r.1)

module _ (limit : ℕ) (ws : List Lexeme) where
  abbrev Found : Option (Partial × List Lexeme) → Type 0
  Found p = (read (algebra limit) (wanting []) ws ≡ p) × IfSome p (λ r. (s : Syntax) × Derives Sum ws r.1 s × (r.0 ≡ value (algebra limit) s)) × IfSome p (λ r. Stops r.1)

  abbrev Derived : Option (Syntax × List Lexeme) → Type 0
  Derived o = (read syntaxes (wanting []) ws ≡ o) × IfSome o (λ r. Derives Sum ws r.1 r.0) × IfSome o (λ r. Stops r.1)

  agree : (p : Option (Partial × List Lexeme)) (o : Option (Syntax × List Lexeme)) → Found p → Derived o → p ≡ option_map (λ f. (exactly limit f.0, f.1)) o
  agree p (Some r) f d = sym f.0 ∙ reads Partial (algebra limit) ws r.1 r.0 d.1 d.2 ∙ ap (λ x. Some (x, r.1)) (exact limit d.1)
  agree None None f d = refl
  agree (Some r) None f d = let e = reads_itself ws r.1 f.1.0 f.1.1 f.2 in cc (e, d.0)

  -- the two machines read the same lexemes
  pub reads_exactly : read (algebra limit) (wanting []) ws ≡ option_map (λ f. (exactly limit f.0, f.1)) (read syntaxes (wanting []) ws)
  reads_exactly = agree _ _ (refl, is_read (algebra limit) ws, stops (algebra limit) ws (wanting [])) (refl, itself_derived ws, stops syntaxes ws (wanting []))

  found_judged : (o : Option (Syntax × List Lexeme)) → option_map found_in (option_map (λ f. (exactly limit f.0, f.1)) o) ≡ option_map (λ f. (judged limit f.0, f.1)) o
  found_judged None = refl
  found_judged (Some r) = refl

  -- so what is found is what stands at the front
  pub front_is : option_map found_in (read (algebra limit) (wanting []) ws) ≡ front_expression limit ws
  front_is = ap (option_map found_in) reads_exactly ∙ found_judged (read syntaxes (wanting []) ws)
