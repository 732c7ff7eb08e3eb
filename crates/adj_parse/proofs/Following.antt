-- What the code has of the next statement, and what the definition makes of it.
use Rattle.std.proofs.Common.{◌≡◌, ℕ, ◌-◌, Option, Result, Ok, refl, sym, ap, ◌∙◌}
use Rattle.std.specs.Prelude.{option_map}
use Rattle.adj_tree.specs.declared.fault.Fault.{Fault}
use Rattle.adj_tree.specs.declared.fault.Fault.TheVariants.{Memory, Refused}
use Rattle.adj_tree.specs.Code.{Mark}
use Rattle.adj_tree.specs.View.{mark_of}
use Rattle.adj_parse_expression.specs.View.{seen}
use Rattle.adj_parse_expression.specs.declared.flaw.Flaw.{Flaw}
use Rattle.def_text.specs.Refused.{◌>>=◌, Fails}
use Rattle.def_text.specs.Lexeme.{lexemes_of}
use Rattle.def_text.specs.declared.mode.Mode.{Mode}
use Rattle.def_text.specs.declared.stated.Stated.{Stated}
use Rattle.adj_tree.specs.declared.fault.Refusal.{Refusal}
use Rattle.adj_parse.specs.declared.bounds.Bounds.{Bounds}
use Rattle.adj_parse_statement.specs.Said as says
use Rattle.adj_parse.specs.Trees.{bounds_of, State, checked, behind, follow}
use Rattle.adj_parse.specs.Unit.{Units, followed}
use Rattle.adj_parse_statement.specs.View.{form_of}
use Rattle.adj_parse_statement.specs.declared.content.Said.{Said}
use Rattle.adj_parse.proofs.Seen.{checked_seen}

module _ (mode : Mode) (bounds : Bounds) (bounds_are : bounds ≡ bounds_of mode) (s : State) (t : Stated) (left : ℕ) (found : Option (Result Said Flaw)) (is : option_map (seen (form_of (mark_of t.mark))) found ≡ says.said bounds.depth (mark_of t.mark) t.kind (lexemes_of t.text t.tokens)) where
  within : Bounds → Result State Refusal
  within b = checked b s t left (says.said b.depth (mark_of t.mark) t.kind (lexemes_of t.text t.tokens)) >>= λ f. Ok (behind s t f)

  followed_is : follow mode s t left ≡ ((checked bounds s t left found >>= λ x. Ok (form_of (mark_of t.mark) x)) >>= λ f. Ok (behind s t f))
  unfolding follow within
  followed_is =
      ap within (sym bounds_are) ∙ ap (λ o. checked bounds s t left o >>= λ f. Ok (behind s t f)) (sym is)
      ∙ ap (λ r. r >>= λ f. Ok (behind s t f)) (checked_seen (form_of (mark_of t.mark)) bounds s t left found)

  pub follow_ok : (x : Said) (m : Mark) (units : Units) (room : ℕ) → m ≡ mark_of t.mark → checked bounds s t left found ≡ Ok x → units ≡ followed s.units.done s.units.current t.line t.label (form_of m x) → room ≡ s.room - 1 → follow mode s t left ≡ Ok (record { units = units; room = room })
  follow_ok x m units room copied h e g =
      let same : behind s t (form_of (mark_of t.mark) x) ≡ record { units = units; room = room } = rw (e, copied, g) refl in
      followed_is ∙ ap (λ r. (r >>= λ y. Ok (form_of (mark_of t.mark) y)) >>= λ f. Ok (behind s t f)) h ∙ ap Ok same

  pub follow_fails : (e : Fault) → Fails e (checked bounds s t left found) → Fails e (follow mode s t left)
  follow_fails Memory h = tt
  follow_fails (Refused r) h = followed_is ∙ ap (λ q. (q >>= λ y. Ok (form_of (mark_of t.mark) y)) >>= λ f. Ok (behind s t f)) h
