-- What a call hands back: where a dummy was written or not, its actual holds what the dummy holds at the end.
use Rattle.std.proofs.Common.{◌≡◌, ℕ, Bool, true, false, List, refl, sym, ap, ◌∙◌, if◌then◌else◌}
use Rattle.std.specs.Prelude.{pos, ◌&&◌, Option, Some, None}
use Rattle.adj_tree.specs.Code.{Role, Var, plain, shadow, helper, Procedure}
use Rattle.def_meaning.specs.Store.{Store}
use Rattle.def_meaning.specs.Value.{Setting}
use Rattle.def_meaning.specs.Written.{find_unit, handed_back, is_written}
use Rattle.def_meaning.specs.Seen.{Separates, pulled}
use Rattle.def_meaning.specs.Units.{entry_store, copied_out}
use Rattle.law_meaning.proofs.WriteSets.{handed_written}
use Rattle.def_names.specs.Numbers.{Vars}
use Rattle.def_meaning.specs.Apart.{AreApart}
use Rattle.def_sweep.specs.Plan.{beside, found_or}
use Rattle.def_sweep.specs.Bindings.{Bindings, bindings}
use Rattle.law_sweep.specs.Passing.{passed_in, passed_out}
use Rattle.law_sweep.specs.Emitted.{AreNamed, name_of}
use Rattle.law_sweep.proofs.Passing.{beside_back, in_plain, in_shadow, out_plain, out_shadow, out_helper}
use Rattle.law_sweep.proofs.Entering.{actuals_at, entry_pulled, writes_as, copied_pulled}

module _ {C : Type 0} (n : Setting C) (units : List Procedure) (name : List ℕ) (unit : Procedure) (found : find_unit units name ≡ Some unit) (r : Var → Var) (sep : Separates r) (carried : Vars) (ds given : List (List ℕ)) (apart : AreApart ds) (apart' : AreApart given) (named : AreNamed r unit.dummies (bindings carried ds given)) (s t : Store C) where
  abbrev bs : Bindings
  bs = bindings carried ds given

  -- the unit's store at its entry
  abbrev pub entry_of : Store C
  entry_of = entry_store n.numbers unit.dummies (actuals_at n s bs)

  -- the caller's store after the call, where t is the unit's at its end
  abbrev pub handed : Store C
  handed = copied_out unit.dummies (handed_back units name) (actuals_at n s bs) t s

  abbrev z : C
  z = n.numbers.of_word (pos 0)

  handed_is : handed ≡ passed_out (writes_as units unit r) bs (pulled r t) s
  handed_is = ap (λ ws. copied_out unit.dummies ws (actuals_at n s bs) t s) (handed_written units name unit found) ∙ copied_pulled n units unit r unit.dummies bs s t s named

  -- where nothing carries a tangent, what is beside the text is as it was
  pub handed_none : ((d : List ℕ) → carried (plain d) ≡ false) → (x : List ℕ) (j : ℕ) → handed (shadow x) j ≡ s (shadow x) j
  handed_none h x j = ap (λ (f : Store C). f (shadow x) j) handed_is ∙ out_shadow (writes_as units unit r) carried (pulled r t) x j ds given apart' s ∙ go (beside given ds x)
    where
      go : (o : Option (List ℕ)) → found_or o (s (shadow x) j) (λ d. if carried (plain d) && writes_as units unit r (shadow d) then pulled r t (shadow d) j else s (shadow x) j) ≡ s (shadow x) j
      go None = refl
      go (Some d) = ap (λ c. if c && writes_as units unit r (shadow d) then pulled r t (shadow d) j else s (shadow x) j) (h d)

  pub handed_helper : (o : Role) (k j : ℕ) → handed (helper o k) j ≡ s (helper o k) j
  handed_helper o k j = ap (λ (f : Store C). f (helper o k) j) handed_is ∙ out_helper (writes_as units unit r) carried (pulled r t) o k j ds given s

  module _ (keeps : (x : List ℕ) (i : ℕ) → is_written units unit x ≡ false → t (plain x) i ≡ entry_of (plain x) i) where
    -- what isn't written is as it was handed in
    kept : (v : Var) (j : ℕ) → r v ≡ plain (name_of (r v)) → writes_as units unit r v ≡ false → pulled r t v j ≡ passed_in z bs s v j
    kept v j p h =
        ap (λ x. t x j) p ∙ keeps (name_of (r v)) j h ∙ ap (λ x. entry_of x j) (sym p) ∙ ap (λ (f : Store C). f v j) (entry_pulled n r sep unit.dummies bs s named)

    pub handed_plain : (x : List ℕ) (j : ℕ) → ((d : List ℕ) → r (plain d) ≡ plain (name_of (r (plain d)))) → handed (plain x) j ≡ found_or (beside given ds x) (s (plain x) j) (λ d. pulled r t (plain d) j)
    handed_plain x j p = ap (λ (f : Store C). f (plain x) j) handed_is ∙ out_plain (writes_as units unit r) carried (pulled r t) x j ds given apart' s ∙ go (beside given ds x) refl
      where
        one : (d : List ℕ) (b : Bool) → writes_as units unit r (plain d) ≡ b → beside given ds x ≡ Some d → (if b then pulled r t (plain d) j else s (plain x) j) ≡ pulled r t (plain d) j
        one d true h e = refl
        one d false h e = sym (kept (plain d) j (p d) h ∙ in_plain z carried s ds given d j ∙ ap (λ o. found_or o z (λ a. s (plain a) j)) (beside_back given ds apart' apart x d e))

        go : (o : Option (List ℕ)) → beside given ds x ≡ o → found_or o (s (plain x) j) (λ d. if writes_as units unit r (plain d) then pulled r t (plain d) j else s (plain x) j) ≡ found_or o (s (plain x) j) (λ d. pulled r t (plain d) j)
        go None e = refl
        go (Some d) e = one d (writes_as units unit r (plain d)) refl e

    pub handed_shadow : (x : List ℕ) (j : ℕ) → ((d : List ℕ) → r (shadow d) ≡ plain (name_of (r (shadow d)))) → handed (shadow x) j ≡ found_or (beside given ds x) (s (shadow x) j) (λ d. if carried (plain d) then pulled r t (shadow d) j else s (shadow x) j)
    handed_shadow x j p = ap (λ (f : Store C). f (shadow x) j) handed_is ∙ out_shadow (writes_as units unit r) carried (pulled r t) x j ds given apart' s ∙ go (beside given ds x) refl
      where
        one : (d : List ℕ) (c b : Bool) → carried (plain d) ≡ c → writes_as units unit r (shadow d) ≡ b → beside given ds x ≡ Some d → (if c && b then pulled r t (shadow d) j else s (shadow x) j) ≡ (if c then pulled r t (shadow d) j else s (shadow x) j)
        one d false b k h e = refl
        one d true true k h e = refl
        one d true false k h e =
            sym (kept (shadow d) j (p d) h ∙ in_shadow z carried s ds given d j ∙ ap (λ c. if c then found_or (beside ds given d) z (λ a. s (shadow a) j) else z) k ∙ ap (λ o. found_or o z (λ a. s (shadow a) j)) (beside_back given ds apart' apart x d e))

        go : (o : Option (List ℕ)) → beside given ds x ≡ o → found_or o (s (shadow x) j) (λ d. if carried (plain d) && writes_as units unit r (shadow d) then pulled r t (shadow d) j else s (shadow x) j) ≡ found_or o (s (shadow x) j) (λ d. if carried (plain d) then pulled r t (shadow d) j else s (shadow x) j)
        go None e = refl
        go (Some d) e = one d (carried (plain d)) (writes_as units unit r (shadow d)) refl refl e
