-- What the scene at a unit's entry holds of the dual run's, and the caller's scene after the call.
use Rattle.std.proofs.Common.{◌≡◌, ◌<◌, ◌≤◌, ℕ, ◌⊎◌, inl, inr, Bool, true, false, List, refl, sym, ap, ◌∙◌, arith, if◌then◌else◌}
use Rattle.std.proofs.lemmas.Bool.{cases_lt}
use Rattle.std.specs.Prelude.{ℤ, pos, Option, Some, None}
use Rattle.adj_tree.specs.Code.{Role, Var, plain, shadow, helper}
use Rattle.adj_word.specs.Word.{wrap}
use Rattle.adj_word.proofs.Residues.{wrap-zero}
use Rattle.def_meaning.specs.Store.{Shape, size_of, Store}
use Rattle.def_names.specs.Numbers.{Vars}
use Rattle.def_names.specs.Numbering.{point_before, point_after}
use Rattle.def_sweep.specs.Facts.{In}
use Rattle.def_meaning.specs.Apart.{AreApart}
use Rattle.law_sweep.specs.Pairs.{Key, Words, with_tangents}
use Rattle.def_names.proofs.Variables.{not_true}
use Rattle.def_sweep.specs.Plan.{beside, IsActual, found_or}
use Rattle.def_sweep.specs.Callees.{nothing}
use Rattle.def_sweep.specs.Bindings.{bindings}
use Rattle.law_sweep.specs.Passing.{passed_in}
use Rattle.law_sweep.proofs.Passing.{beside_back, in_plain, in_shadow}
use Rattle.law_sweep.proofs.CallTangents.{tangents_in}
use Rattle.law_tangent.specs.Bears.{Bears}
use Rattle.law_tangent.specs.Laws.{CalleeFlow, CallFlows}

-- a cell of a variable that has no tangent, within its size or beyond
pub no_tangent : (sh : Var → Shape) (on v : Vars) (u : Store ℤ) (y : Words) (s : Store ℤ) → Bears sh on v u y s → (k : Key) → v (plain k.0) ≡ false → y k ≡ pos 0
no_tangent sh on v u y s b k n = go (cases_lt k.1 (size_of (sh (plain k.0))))
  where
    go : (k.1 < size_of (sh (plain k.0))) ⊎ (size_of (sh (plain k.0)) ≤ k.1) → y k ≡ pos 0
    go (inl lt) = b.others k lt n
    go (inr le) = b.outside k le

module _ (sh shG : Var → Shape) (on : Vars) (f : ℕ → Vars) (i : ℕ) (g : CalleeFlow) (given : List (List ℕ)) (flows : CallFlows f on i g given) (apart : AreApart g.callee.dummies) (apart' : AreApart given) (sizes : (d a : List ℕ) → IsActual g.callee.dummies given d a → size_of (sh (plain a)) ≡ size_of (shG (plain d))) (u : Store ℤ) (y : Words) (s : Store ℤ) (b : Bears sh on (f (point_before i)) u y s) where
  abbrev ds : List (List ℕ)
  ds = g.callee.dummies

  abbrev yi : Words
  yi = tangents_in nothing ds given y

  -- a dummy that has no tangent at the entry was given none
  none_given : (d a : List ℕ) → IsActual ds given d a → g.entry (plain d) ≡ false → (j : ℕ) → y (a, j) ≡ pos 0
  none_given d a is n j = no_tangent sh on (f (point_before i)) u y s b (a, j) (not_true (f (point_before i) (plain a)) (λ t. let z : true ≡ false = sym (flows.enters d a is t) ∙ n in cc))

  -- ---- at the entry

  pub entry_bears : (v : Vars) → ((x : Var) → In x g.entry → In x v) → Bears shG g.callee.carried v (passed_in (pos 0) (bindings nothing ds given) u) yi (passed_in (pos 0) (bindings g.callee.carried ds given) s)
  entry_bears v enters = record {
    plains = record { at = λ x j. in_plain (pos 0) g.callee.carried s ds given x j ∙ plain_same x j (beside ds given x) ∙ sym (in_plain (pos 0) nothing u ds given x j) };
    tangents = λ x j n. in_shadow (pos 0) g.callee.carried s ds given x j ∙ ap (λ t. if t then found_or (beside ds given x) (pos 0) (λ a. s (shadow a) j) else pos 0) n ∙ tangent_same x j n (beside ds given x) refl;
    words = λ k. are_words k (beside ds given k.0);
    others = λ k lt n. none_there k n (beside ds given k.0) refl;
    outside = λ k le. none_beyond k le (beside ds given k.0) refl;
  }
    where
      plain_same : (x : List ℕ) (j : ℕ) (o : Option (List ℕ)) → found_or o (pos 0) (λ a. s (plain a) j) ≡ found_or o (pos 0) (λ a. u (plain a) j)
      plain_same x j None = refl
      plain_same x j (Some a) = b.plains.at a j

      tangent_same : (x : List ℕ) (j : ℕ) → g.callee.carried (plain x) ≡ true → (o : Option (List ℕ)) → beside ds given x ≡ o → found_or o (pos 0) (λ a. s (shadow a) j) ≡ found_or o (pos 0) (λ a. y (a, j))
      tangent_same x j n None e = refl
      tangent_same x j n (Some a) e = b.tangents a j (flows.carries x a e n)

      are_words : (k : Key) (o : Option (List ℕ)) → wrap (found_or o (pos 0) (λ a. y (a, k.1))) ≡ found_or o (pos 0) (λ a. y (a, k.1))
      are_words k None = wrap-zero
      are_words k (Some a) = b.words (a, k.1)

      none_there : (k : Key) → v (plain k.0) ≡ false → (o : Option (List ℕ)) → beside ds given k.0 ≡ o → found_or o (pos 0) (λ a. y (a, k.1)) ≡ pos 0
      none_there k n None e = refl
      none_there k n (Some a) e = none_given k.0 a e (not_true (g.entry (plain k.0)) (λ t. let z : true ≡ false = sym (enters (plain k.0) t) ∙ n in cc)) k.1

      none_beyond : (k : Key) → size_of (shG (plain k.0)) ≤ k.1 → (o : Option (List ℕ)) → beside ds given k.0 ≡ o → found_or o (pos 0) (λ a. y (a, k.1)) ≡ pos 0
      none_beyond k le None e = refl
      none_beyond k le (Some a) e = b.outside (a, k.1) (let z = sizes k.0 a e in omega (arith, z, le))

  -- ---- after the call

  -- the dual run's store D and the tangent's store W, where the unit ended with the values e, the tangents ye and the store te
  module _ (e : Store ℤ) (ye : Words) (te : Store ℤ) (v : Vars) (ends : (x : Var) → In x v → In x g.end) (ended : Bears shG g.callee.carried v e ye te) (carries_end : (d : List ℕ) → In (plain d) g.end → In (plain d) g.callee.carried) (D : Store (ℤ × ℤ)) (W : Store ℤ)
      (plainD : (x : List ℕ) (j : ℕ) → D (plain x) j ≡ found_or (beside given ds x) (with_tangents u y (plain x) j) (λ d. with_tangents e ye (plain d) j)) (shadowD : (x : List ℕ) (j : ℕ) → (D (shadow x) j).1 ≡ pos 0) (helperD : (r : Role) (k j : ℕ) → (D (helper r k) j).1 ≡ pos 0)
      (plainW : (x : List ℕ) (j : ℕ) → W (plain x) j ≡ found_or (beside given ds x) (s (plain x) j) (λ d. te (plain d) j)) (shadowW : (x : List ℕ) (j : ℕ) → W (shadow x) j ≡ found_or (beside given ds x) (s (shadow x) j) (λ d. if g.callee.carried (plain d) then te (shadow d) j else s (shadow x) j)) where
    abbrev pub values : Store ℤ
    values x j = (D x j).0

    abbrev pub later : Words
    later k = (D (plain k.0) k.1).1

    later_is : (k : Key) → later k ≡ found_or (beside given ds k.0) (y k) (λ d. ye (d, k.1))
    later_is k = ap (λ a. a.1) (plainD k.0 k.1) ∙ go (beside given ds k.0)
      where
        go : (o : Option (List ℕ)) → (found_or o (with_tangents u y (plain k.0) k.1) (λ d. with_tangents e ye (plain d) k.1)).1 ≡ found_or o (y k) (λ d. ye (d, k.1))
        go None = refl
        go (Some d) = refl

    pub store_is : D ≡ with_tangents values later
    store_is = λ i x j. at x j i
      where
        at : (x : Var) (j : ℕ) → D x j ≡ with_tangents values later x j
        at (plain x) j = refl
        at (shadow x) j = λ i. ((D (shadow x) j).0, shadowD x j i)
        at (helper r k) j = λ i. ((D (helper r k) j).0, helperD r k j i)

    back : (x d : List ℕ) → beside given ds x ≡ Some d → IsActual ds given d x
    back x d h = beside_back given ds apart' apart x d h

    pub after_bears : Bears sh on (f (point_after i)) values later W
    after_bears = record {
      plains = record { at = λ x j. plainW x j ∙ plain_same x j (beside given ds x) ∙ sym (ap (λ a. a.0) (plainD x j)) };
      tangents = λ x j n. shadowW x j ∙ tangent_same x j n (beside given ds x) refl ∙ sym (later_is (x, j));
      words = λ k. ap wrap (later_is k) ∙ are_words k (beside given ds k.0) ∙ sym (later_is k);
      others = λ k lt n. later_is k ∙ none_there k lt n (beside given ds k.0) refl;
      outside = λ k le. later_is k ∙ none_beyond k le (beside given ds k.0) refl;
    }
      where
        plain_same : (x : List ℕ) (j : ℕ) (o : Option (List ℕ)) → found_or o (s (plain x) j) (λ d. te (plain d) j) ≡ (found_or o (with_tangents u y (plain x) j) (λ d. with_tangents e ye (plain d) j)).0
        plain_same x j None = b.plains.at x j
        plain_same x j (Some d) = ended.plains.at d j

        -- a dummy that carries no tangent has none at either end
        not_carried : (x d : List ℕ) (j : ℕ) → on (plain x) ≡ true → beside given ds x ≡ Some d → g.callee.carried (plain d) ≡ false → s (shadow x) j ≡ ye (d, j)
        not_carried x d j n h c =
            b.tangents x j n
            ∙ none_given d x (back x d h) (not_true (g.entry (plain d)) (λ t. let z : true ≡ false = sym (flows.entered d t) ∙ c in cc)) j
            ∙ sym (no_tangent shG g.callee.carried v e ye te ended (d, j) (not_true (v (plain d)) (λ t. let z : true ≡ false = sym (carries_end d (ends (plain d) t)) ∙ c in cc)))

        tangent_same : (x : List ℕ) (j : ℕ) → on (plain x) ≡ true → (o : Option (List ℕ)) → beside given ds x ≡ o → found_or o (s (shadow x) j) (λ d. if g.callee.carried (plain d) then te (shadow d) j else s (shadow x) j) ≡ found_or o (y (x, j)) (λ d. ye (d, j))
        tangent_same x j n None h = b.tangents x j n
        tangent_same x j n (Some d) h = go (g.callee.carried (plain d)) refl
          where
            go : (t : Bool) → g.callee.carried (plain d) ≡ t → (if t then te (shadow d) j else s (shadow x) j) ≡ ye (d, j)
            go true c = ended.tangents d j c
            go false c = not_carried x d j n h c

        are_words : (k : Key) (o : Option (List ℕ)) → wrap (found_or o (y k) (λ d. ye (d, k.1))) ≡ found_or o (y k) (λ d. ye (d, k.1))
        are_words k None = b.words k
        are_words k (Some d) = ended.words (d, k.1)

        none_there : (k : Key) → k.1 < size_of (sh (plain k.0)) → f (point_after i) (plain k.0) ≡ false → (o : Option (List ℕ)) → beside given ds k.0 ≡ o → found_or o (y k) (λ d. ye (d, k.1)) ≡ pos 0
        none_there k lt n None h =
            b.others k lt (not_true (f (point_before i) (plain k.0)) (λ t. let z : true ≡ false = sym (flows.stays k.0 (λ d is. other d is) t) ∙ n in cc))
          where
            other : (d : List ℕ) → IsActual ds given d k.0 → ⊥
            other d is = let z = sym h ∙ beside_back ds given apart apart' d k.0 is in cc
        none_there k lt n (Some d) h = no_tangent shG g.callee.carried v e ye te ended (d, k.1) (not_true (v (plain d)) (λ t. let z : true ≡ false = sym (flows.leaves d k.0 (back k.0 d h) (ends (plain d) t)) ∙ n in cc))

        none_beyond : (k : Key) → size_of (sh (plain k.0)) ≤ k.1 → (o : Option (List ℕ)) → beside given ds k.0 ≡ o → found_or o (y k) (λ d. ye (d, k.1)) ≡ pos 0
        none_beyond k le None h = b.outside k le
        none_beyond k le (Some d) h = ended.outside (d, k.1) (let z = sizes d k.0 (back k.0 d h) in omega (arith, z, le))
