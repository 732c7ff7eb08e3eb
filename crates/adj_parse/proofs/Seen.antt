-- The chain of faults doesn't look into what a statement says.
use Rattle.std.proofs.Common.{◌≡◌, ℕ, Bool, true, false, cond, Option, Some, None, Result, Ok, Err, refl, sym, ap, ◌∙◌}
use Rattle.std.specs.Prelude.{◌==◌, ◌&&◌, ◌||◌, is_none, nat_le, length, unwrap_or, option_map}
use Rattle.adj_tree.specs.declared.fault.Refusal.{Refusal}
use Rattle.adj_parse_expression.specs.View.{seen}
use Rattle.adj_parse_expression.specs.declared.flaw.Flaw.{Flaw}
use Rattle.adj_parse_expression.specs.declared.flaw.Flaw.TheVariants.{Large, Deep, Exponent}
use Rattle.def_text.specs.Refused.{◌>>=◌, refused}
use Rattle.def_text.specs.declared.stated.Stated.{Stated}
use Rattle.adj_parse.specs.declared.bounds.Bounds.{Bounds}
use Rattle.adj_parse.specs.Order.{breaks_loop, is_heading, opens_block}
use Rattle.adj_parse.specs.Trees.{State, has_stray_mark, is_large, is_deep, is_full, with_form, limited_by, is_astray, checked}
use Rattle.adj_parse.specs.Unit.{open_blocks}

abbrev refusal : ℕ → ℕ → ℕ → Refusal
refusal code line number = record { code = code; line = line; number = number }

module _ {A B : Type 0} (v : A → B) where
  abbrev mapped : Result A Refusal → Result B Refusal
  mapped r = r >>= λ x. Ok (v x)

  -- four tests, and then an answer
  after_four : (b c d e : Bool) (p q r u : Refusal) (x : Result A Refusal) → mapped (cond b (Err p) (cond c (Err q) (cond d (Err r) (cond e (Err u) x)))) ≡ cond b (Err p) (cond c (Err q) (cond d (Err r) (cond e (Err u) (mapped x))))
  after_four true c d e p q r u x = refl
  after_four false true d e p q r u x = refl
  after_four false false true e p q r u x = refl
  after_four false false false true p q r u x = refl
  after_four false false false false p q r u x = refl

  deep_seen : (found : Option (Result A Flaw)) → is_deep (option_map (seen v) found) ≡ is_deep found
  deep_seen None = refl
  deep_seen (Some (Ok x)) = refl
  deep_seen (Some (Err Large)) = refl
  deep_seen (Some (Err Deep)) = refl
  deep_seen (Some (Err Exponent)) = refl

  large_seen : (found : Option (Result A Flaw)) → is_large (option_map (seen v) found) ≡ is_large found
  large_seen None = refl
  large_seen (Some (Ok x)) = refl
  large_seen (Some (Err Large)) = refl
  large_seen (Some (Err Deep)) = refl
  large_seen (Some (Err Exponent)) = refl

  none_seen : (found : Option (Result A Flaw)) → is_none (option_map (seen v) found) ≡ is_none found
  none_seen None = refl
  none_seen (Some x) = refl

  form_seen : (found : Option (Result A Flaw)) (line : ℕ) → with_form (option_map (seen v) found) line ≡ mapped (with_form found line)
  form_seen None line = refl
  form_seen (Some (Ok x)) line = refl
  form_seen (Some (Err e)) line = refl

  limited_seen : (bounds : Bounds) (s : State) (t : Stated) (found : Option (Result A Flaw)) → limited_by bounds s t (option_map (seen v) found) ≡ mapped (limited_by bounds s t found)
  limited_seen bounds s t found =
      let many = is_heading t.kind && is_full bounds.units (length s.units.done) in
      let nested = opens_block t.kind && nat_le bounds.nesting (length (open_blocks s.units.current)) in
      rw (deep_seen found, form_seen found t.line) (sym (after_four many (s.room == 0) (is_deep found) nested (refusal 21 t.line (unwrap_or bounds.units 0)) (refusal 21 t.line bounds.statements) (refusal 21 t.line bounds.depth) (refusal 21 t.line bounds.nesting) (with_form found t.line)))

  pub checked_seen : (bounds : Bounds) (s : State) (t : Stated) (left : ℕ) (found : Option (Result A Flaw)) → checked bounds s t left (option_map (seen v) found) ≡ mapped (checked bounds s t left found)
  checked_seen bounds s t left found =
      let misplaced = is_none found || is_astray t left s.units.current in
      let broken = breaks_loop t.kind t.label (open_blocks s.units.current) in
      rw (none_seen found, large_seen found) (ap (λ r. cond (has_stray_mark t) (refused 20 t.mark_line) (cond misplaced (refused 4 t.line) (cond (is_large found) (refused 5 t.line) (cond broken (refused 10 t.line) r)))) (limited_seen bounds s t found)
      ∙ sym (after_four (has_stray_mark t) misplaced (is_large found) broken (refusal 20 t.mark_line 0) (refusal 4 t.line 0) (refusal 5 t.line 0) (refusal 10 t.line 0) (limited_by bounds s t found)))
