-- What searches along calls find.
use Rattle.std.proofs.Common.{◌≡◌, ◌<◌, ℕ, List, Bool, length, map, ap, sym, ◌∙◌, subst}
use Rattle.std.specs.Prelude.{◌↔◌, IsTrue, Result, Ok, Err, IfOk}
use Rattle.std.specs.List.{All}
use Rattle.std.proofs.lemmas.List.{length-map}
use Rattle.adj_tree.specs.Code.{Procedure}
use Rattle.adj_tree.specs.View.{procedure_of}
use Rattle.adj_tree.specs.declared.unit.Unit.{Unit}
use Rattle.def_meaning.specs.Apart.{AreApart}
use Rattle.def_sweep.specs.Declared.{unit_name}
use Rattle.adj_reach.specs.Edges.{Edges, AreBelow, ReachedFrom, flag}
use Rattle.adj_weave_units.specs.Calls.{listed_from, edges_of, ends_of}
use Rattle.adj_weave_units.proofs.Reached.{edges_below, ends_below}
use Rattle.adj_weave.specs.declared.found.Search.{Search}
use Rattle.adj_weave.specs.Searched.{IsSearched}

-- what holds by two facts of a value, if there is one
pub both_ok : {X Y : Type 0} (r : Result X Y) (P Q R : X → Type 0) → ((x : X) → P x → Q x → R x) → IfOk r P → IfOk r Q → IfOk r R
both_ok (Ok x) P Q R f p q = f x p q
both_ok (Err e) P Q R f p q = tt

-- the same nodes are met along the same edges
pub same_paths : (es fs : Edges) (start begun : List ℕ) (flags : List Bool) → es ≡ fs → start ≡ begun → ((x : ℕ) → IsTrue (flag flags x) ↔ ReachedFrom es start x) → (x : ℕ) → IsTrue (flag flags x) ↔ ReachedFrom fs begun x
same_paths es fs start begun flags e s h x =
    let r = h x in
    (λ t. subst (λ z. ReachedFrom z begun x) e (subst (λ z. ReachedFrom es z x) s (r.0 t)), λ t. r.1 (subst (λ z. ReachedFrom es z x) (sym s) (subst (λ z. ReachedFrom z begun x) (sym e) t)))

module _ (s : Search) (ps : List Procedure) (is : IsSearched s ps) (f : ℕ → Bool → Bool) (es : Edges) (h : es ≡ edges_of f s.calls.now) where
  -- the edges are those of the calls of the units
  pub edges_listed : es ≡ edges_of f (listed_from (map unit_name ps) 0 0 ps)
  edges_listed = h ∙ ap (edges_of f) is.calls

  -- each is between units, and so are their ends
  pub edges_within : AreBelow s.count es
  edges_within = subst (λ xs. AreBelow s.count xs) (sym edges_listed) (subst (λ k. AreBelow k (edges_of f (listed_from (map unit_name ps) 0 0 ps))) (sym is.count) (edges_below ps is.apart f))

  pub ends_within : (flags : List Bool) (xs : List ℕ) → xs ≡ ends_of flags es → All (λ x. x < s.count) xs
  ends_within flags xs e = subst (All (λ x. x < s.count)) (sym e) (ends_below s.count flags es edges_within)

-- the calls of the units of a program are those that are searched
pub searched_units : (s : Search) (us : List Unit) (names : List (List ℕ)) → s.calls.now ≡ listed_from names 0 0 (map procedure_of us) → s.count ≡ length us → names ≡ map unit_name (map procedure_of us) → AreApart names → IsSearched s (map procedure_of us)
searched_units s us names calls count named apart = record {
  apart = subst AreApart named apart;
  calls = calls ∙ ap (λ ns. listed_from ns 0 0 (map procedure_of us)) named;
  count = count ∙ sym (length-map us procedure_of);
}
