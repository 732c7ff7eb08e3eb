-- Names that are made one after another.
use Rattle.std.proofs.Common.{◌≡◌, ℕ, List, [], ◌∷◌, ◌++◌, ◌+◌, ◌<◌, map, length, drop, get_or, refl, sym, ap, ◌∙◌, arith, append_assoc, append-nil}
use Rattle.std.specs.Prelude.{◌||◌}
use Rattle.adj_tree.specs.Code.{Var}
use Rattle.def_meaning.specs.Apart.{has_name}
use Rattle.def_names.specs.Fresh.{fresh}
use Rattle.def_names.specs.Reserved.{reserved}
use Rattle.def_sweep.specs.Naming.{Derived, Named, own, named_for, wanted_for, unit_names_for}
use Rattle.adj_sets.specs.Sets.{all_added}
use Rattle.adj_naming.specs.Table.{paired}
use Rattle.adj_naming.proofs.Places.{from_here}
use Rattle.adj_sets.proofs.NameSets.{has-behind}
use Rattle.adj_naming.proofs.Added.{SameNames, named_alike, has-all_added, or_comm}

pub paired-empty : (vs : List Var) → paired vs [] ≡ []
paired-empty [] = refl
paired-empty (v ∷ vs) = refl

-- one name more stands at the end of the table
paired-push : (vs : List Var) (ns : List (List ℕ)) (name : List ℕ) (v : Var) → length ns < length vs → v ≡ get_or vs (length ns) v → paired vs (ns ++ (name ∷ [])) ≡ paired vs ns ++ (record { variable = v; name = name } ∷ [])
paired-push [] ns name v lt at = absurd (omega arith)
paired-push (w ∷ vs) [] name v lt at = λ i. record { variable = sym at i; name = name } ∷ paired-empty vs i
paired-push (w ∷ vs) (n ∷ ns) name v lt at = ap (λ z. record { variable = w; name = n } ∷ z) (paired-push vs ns name v (omega arith) at)

-- the next variable gets its name, which is taken from then on
pub named_step : (o : Derived) (vs : List Var) (made taken : List (List ℕ)) (name : List ℕ) (v : Var) (i : ℕ) (rest : List Var) → length made ≡ i → i < length vs → v ≡ get_or vs i v → name ≡ fresh (wanted_for o v) taken → paired vs (made ++ (name ∷ [])) ++ named_for o (taken ++ (name ∷ [])) (drop (i + 1) vs ++ rest) ≡ paired vs made ++ named_for o taken (drop i vs ++ rest)
named_step o vs made taken name v i rest len lt at is =
    let others = drop (i + 1) vs ++ rest in
    ap (λ z. z ++ named_for o (taken ++ (name ∷ [])) others) (paired-push vs made name v (omega arith) (at ∙ ap (λ k. get_or vs k v) (sym len)))
    ∙ append_assoc (paired vs made) (record { variable = v; name = name } ∷ []) (named_for o (taken ++ (name ∷ [])) others)
    ∙ ap (λ z. paired vs made ++ (record { variable = v; name = z } ∷ named_for o (taken ++ (z ∷ [])) others)) is
    ∙ ap (λ ws. paired vs made ++ named_for o taken (ws ++ rest)) (sym (from_here vs i v lt at))

-- variables that were named one after another, in two lists, have the names of the unit
pub names_table : (o : Derived) (vs units : List (List ℕ)) (first second : List Var) (ps qs : List Named) (shared t0 t1 t2 : List (List ℕ)) → shared ≡ all_added [] (units ++ reserved) → t0 ≡ shared ++ all_added [] vs → ((rest : List Var) → ps ++ named_for o t1 rest ≡ named_for o t0 (first ++ rest)) → ((rest : List Var) → qs ++ named_for o t2 rest ≡ named_for o t1 (second ++ rest)) → map own vs ++ (ps ++ qs) ≡ unit_names_for o vs units (first ++ second)
names_table o vs units first second ps qs shared t0 t1 t2 hs h0 hp hq =
    let taken = vs ++ (units ++ reserved) in
    let same : SameNames t0 taken = record {
      at = λ x. ap (has_name x) h0 ∙ has-behind x shared (all_added [] vs) ∙ (λ i. (ap (has_name x) hs ∙ has-all_added x [] (units ++ reserved)) i || has-all_added x [] vs i)
          ∙ or_comm (has_name x (units ++ reserved)) (has_name x vs) ∙ sym (has-behind x vs (units ++ reserved));
    } in
    ap (λ z. map own vs ++ z)
    (ap (λ z. ps ++ z) (sym (append-nil qs) ∙ hq [] ∙ ap (named_for o t1) (append-nil second)) ∙ hp second ∙ named_alike o t0 taken (first ++ second) same)
