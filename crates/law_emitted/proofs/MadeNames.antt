-- The names of made units: they are written, and have an underscore, so that nothing that is reserved has them.
use Rattle.std.proofs.Common.{◌≡◌, ℕ, zero, suc, Bool, true, false, List, [], ◌∷◌, ◌++◌, length, refl, sym, ap, ◌∙◌, codes, if◌then◌else◌}
use Rattle.std.specs.Prelude.{◌||◌, ◌==◌}
use Rattle.std.specs.List.{list_all}
use Rattle.adj_tree.specs.Code.{name_eq, Procedure}
use Rattle.adj_tree.proofs.Names.{name_same}
use Rattle.def_text.specs.Char.{is_name_char}
use Rattle.def_text.specs.Written.{IsName}
use Rattle.def_names.specs.Reserved.{is_runtime, reserved}
use Rattle.def_meaning.specs.Apart.{has_name}
use Rattle.def_names.specs.Fresh.{digits, candidate, first_free, fresh}
use Rattle.def_names.proofs.Variables.{or_left, or_right}
use Rattle.law_kernel.proofs.FreshWritten.{name-append, fresh-name}
use Rattle.def_sweep.specs.Names.{named_after, adjoint_after}
use Rattle.law_sweep.specs.Source.{is_unit}
use Rattle.law_sweep.proofs.Rounds.{either}
use Rattle.law_emitted.proofs.Lists.{Each}

-- ---- underscores

abbrev pub underscored : List ℕ → Bool
underscored [] = false
underscored (c ∷ cs) = (c == 95) || underscored cs

underscored_behind : (x y : List ℕ) → underscored y ≡ true → underscored (x ++ y) ≡ true
underscored_behind [] y h = h
underscored_behind (c ∷ x) y h = or_right (c == 95) (underscored (x ++ y)) (underscored_behind x y h)

underscored_front : (x y : List ℕ) → underscored x ≡ true → underscored (x ++ y) ≡ true
underscored_front [] y h = absurd cc
underscored_front (c ∷ x) y h = either (c == 95) (underscored x) ((c == 95) || underscored (x ++ y)) h (or_left (c == 95) (underscored (x ++ y))) (λ e. or_right (c == 95) (underscored (x ++ y)) (underscored_front x y e))

underscored_candidate : (b : List ℕ) (i : ℕ) → underscored b ≡ true → underscored (candidate b i) ≡ true
underscored_candidate b zero h = h
underscored_candidate b (suc i) h = underscored_front b (codes "_" ++ digits (suc i)) h

underscored_free : (tries i : ℕ) (b : List ℕ) (taken : List (List ℕ)) → underscored b ≡ true → underscored (first_free tries i b taken) ≡ true
underscored_free zero i b taken h = underscored_candidate b i h
underscored_free (suc tries) i b taken h = go (has_name (candidate b i) taken) (underscored_free tries (suc i) b taken h)
  where
    go : (t : Bool) → underscored (first_free tries (suc i) b taken) ≡ true → underscored (if t then first_free tries (suc i) b taken else candidate b i) ≡ true
    go true ih = ih
    go false ih = underscored_candidate b i h

-- names without an underscore aren't such a name
not_among : (x : List ℕ) (ys : List (List ℕ)) → underscored x ≡ true → Each (λ y. underscored y ≡ false) ys → has_name x ys ≡ false
not_among x [] h n = refl
not_among x (y ∷ ys) h n = go (name_eq x y) refl (not_among x ys h n.1)
  where
    go : (b : Bool) → name_eq x y ≡ b → has_name x ys ≡ false → (b || has_name x ys) ≡ false
    go true e ih = absurd (let p : true ≡ false = sym h ∙ ap underscored (name_same x y e) ∙ n.0 in cc)
    go false e ih = ih

-- ---- the names of made units

-- a written name with an underscore
abbrev pub IsMadeName : List ℕ → Type 0
IsMadeName x = IsName x × (underscored x ≡ true)

pub made_unreserved : (x : List ℕ) → IsMadeName x → has_name x reserved ≡ false
made_unreserved x h = not_among x reserved h.1 (refl, (refl, (refl, (refl, (refl, (refl, (refl, (refl, (refl, (refl, (refl, (refl, (refl, (refl, (refl, (refl, (refl, (refl, tt))))))))))))))))))

pub made_no_runtime : (x : List ℕ) → IsMadeName x → is_runtime x ≡ false
made_no_runtime x h = after7 (name_eq x (codes "ABS")) (name_eq x (codes "IABS")) (name_eq x (codes "MAX")) (name_eq x (codes "MAX0")) (name_eq x (codes "MIN")) (name_eq x (codes "MIN0")) (name_eq x (codes "MOD")) (is_runtime x) (made_unreserved x h)
  where
    after7 : (a b c d e f g r : Bool) → (a || (b || (c || (d || (e || (f || (g || r))))))) ≡ false → r ≡ false
    after7 true b c d e f g r h = absurd cc
    after7 false true c d e f g r h = absurd cc
    after7 false false true d e f g r h = absurd cc
    after7 false false false true e f g r h = absurd cc
    after7 false false false false true f g r h = absurd cc
    after7 false false false false false true g r h = absurd cc
    after7 false false false false false false true r h = absurd cc
    after7 false false false false false false false r h = h

-- a fresh name with an ending that has an underscore is one
pub made_named : (ending : List ℕ) → list_all is_name_char ending ≡ true → underscored ending ≡ true → (taken : List (List ℕ)) (us : List Procedure) (name : List ℕ) → Each (λ u. IsName u.name) us → is_unit us name ≡ true → IsMadeName (named_after ending taken us name)
made_named ending chars under taken [] name w h = absurd cc
made_named ending chars under taken (u ∷ us) name w h = go (name_eq u.name name) h (λ g. made_named ending chars under (taken ++ (made ∷ [])) us name w.1 g)
  where
    made : List ℕ
    made = fresh (u.name ++ ending) taken

    here : IsMadeName (fresh (u.name ++ ending) taken)
    here = (fresh-name (u.name ++ ending) taken (name-append u.name ending w.0 chars), underscored_free (length taken) 0 (u.name ++ ending) taken (underscored_behind u.name ending under))

    go : (b : Bool) → (b || is_unit us name) ≡ true → (is_unit us name ≡ true → IsMadeName (named_after ending (taken ++ (fresh (u.name ++ ending) taken ∷ [])) us name)) → IsMadeName (if b then fresh (u.name ++ ending) taken else named_after ending (taken ++ (fresh (u.name ++ ending) taken ∷ [])) us name)
    go true h ih = here
    go false h ih = ih h

pub adjoint_named : (taken : List (List ℕ)) (us : List Procedure) (name : List ℕ) → Each (λ u. IsName u.name) us → is_unit us name ≡ true → IsMadeName (adjoint_after taken us name)
adjoint_named = made_named (codes "_B") refl refl
