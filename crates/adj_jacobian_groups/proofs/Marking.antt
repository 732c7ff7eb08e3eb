-- The groups of some columns are stamped.
use Rattle.std.proofs.Common.{◌≡◌, ℕ, zero, suc, ◌+◌, ◌<◌, ◌≤◌, ◌⊎◌, inl, inr, Bool, true, false, List, [], ◌∷◌, ◌++◌, length, slice_set, get_or, take, refl, sym, ap, ◌∙◌, eq-eqb, arith}
use Rattle.std.specs.Prelude.{◌==◌, ◌||◌, if◌then◌else◌}
use Rattle.std.proofs.lemmas.Bool.{cases_eq, ne_eqb}
use Rattle.std.proofs.lemmas.List.{take_more, get_or-set_same, get_or-set_other}
use Rattle.def_jacobian.specs.Groups.{in_group}
use Rattle.adj_jacobian_groups.specs.Listed.{list_at, any_in, any_row_in}
use Rattle.adj_jacobian_groups.proofs.Listing.{or_assoc, or_none}

-- a column of the list is in its group alone
pub in_group_at : (gs : List ℕ) (g c : ℕ) → c < length gs → in_group gs g c ≡ (get_or gs c 0 == g)
in_group_at [] g c h = absurd (omega (arith, h))
in_group_at (k ∷ ks) g zero h = refl
in_group_at (k ∷ ks) g (suc c) h = in_group_at ks g c (omega (arith, h))

-- a column behind the list is in no group
pub in_group_past : (gs : List ℕ) (g c : ℕ) → length gs ≤ c → in_group gs g c ≡ false
in_group_past [] g c h = refl
in_group_past (k ∷ ks) g zero h = absurd (omega (arith, h))
in_group_past (k ∷ ks) g (suc c) h = in_group_past ks g c (omega (arith, h))

-- one column more, and one row more
any_more : (gs cs : List ℕ) (c g : ℕ) → any_in gs (cs ++ c ∷ []) g ≡ (any_in gs cs g || in_group gs g c)
any_more gs [] c g = or_none (in_group gs g c)
any_more gs (d ∷ ds) c g = ap (λ z. in_group gs g d || z) (any_more gs ds c g) ∙ sym (or_assoc (in_group gs g d) (any_in gs ds g) (in_group gs g c))

any_row_more : (gs : List ℕ) (rows : List (List ℕ)) (rs : List ℕ) (r g : ℕ) → any_row_in gs rows (rs ++ r ∷ []) g ≡ (any_row_in gs rows rs g || any_in gs (list_at rows r) g)
any_row_more gs rows [] r g = or_none (any_in gs (list_at rows r) g)
any_row_more gs rows (q ∷ rs) r g =
    ap (λ z. any_in gs (list_at rows q) g || z) (any_row_more gs rows rs r g) ∙ sym (or_assoc (any_in gs (list_at rows q) g) (any_row_in gs rows rs g) (any_in gs (list_at rows r) g))

-- the stamps of the groups of a set are k, and the others as before
abbrev pub Stamped : (ℕ → Bool) → ℕ → List ℕ → List ℕ → Type 0
Stamped set k old now = (g : ℕ) → g < length old → get_or now g 0 ≡ (if set g then k else get_or old g 0)

-- what is set where b holds and before where a holds is set where one of them holds
twice : (a b : Bool) (k x : ℕ) → (if b then k else (if a then k else x)) ≡ (if a || b then k else x)
twice true true k x = refl
twice true false k x = refl
twice false true k x = refl
twice false false k x = refl

module _ (gs cs : List ℕ) (i c k : ℕ) (old was now : List ℕ) (within : i < length cs) (is : c ≡ get_or cs i 0) (before : Stamped (any_in gs (take i cs)) k old was) where
  next : (g : ℕ) → any_in gs (take (i + 1) cs) g ≡ (any_in gs (take i cs) g || in_group gs g c)
  next g = ap (λ z. any_in gs z g) (take_more cs i 0 within ∙ ap (λ x. take i cs ++ x ∷ []) (sym is)) ∙ any_more gs (take i cs) c g

  -- one column more, which has no group yet
  pub stamped_none : length gs ≤ c → now ≡ was → Stamped (any_in gs (take (i + 1) cs)) k old now
  stamped_none h e g l =
      ap (λ z. get_or z g 0) e
      ∙ before g l
      ∙ ap (λ b. if b then k else get_or old g 0) (sym (next g ∙ ap (λ b. any_in gs (take i cs) g || b) (in_group_past gs g c h) ∙ or_none (any_in gs (take i cs) g)))

  -- one column more with a group
  pub stamped_one : c < length gs → length was ≡ length old → now ≡ slice_set was (get_or gs c 0) k → Stamped (any_in gs (take (i + 1) cs)) k old now
  stamped_one h same e g l = by (cases_eq (get_or gs c 0) g)
    where
      set : (b : Bool) → (get_or gs c 0 == g) ≡ b → any_in gs (take (i + 1) cs) g ≡ (any_in gs (take i cs) g || b)
      set b q = next g ∙ ap (λ z. any_in gs (take i cs) g || z) (in_group_at gs g c h ∙ q)

      by : (get_or gs c 0 ≡ g) ⊎ (get_or gs c 0 ≡ g → ⊥) → get_or now g 0 ≡ (if any_in gs (take (i + 1) cs) g then k else get_or old g 0)
      by (inl q) =
          ap (λ z. get_or z g 0) (e ∙ ap (λ z. slice_set was z k) q)
          ∙ get_or-set_same was g k 0 (omega (arith, l, same))
          ∙ twice (any_in gs (take i cs) g) (true) k (get_or old g 0)
          ∙ ap (λ b. if b then k else get_or old g 0) (sym (set true (eq-eqb (get_or gs c 0) g q)))
      by (inr n) =
          ap (λ z. get_or z g 0) e
          ∙ get_or-set_other was (get_or gs c 0) g k 0 (λ q. n (sym q))
          ∙ before g l
          ∙ ap (λ b. if b then k else get_or old g 0) (sym (set false (ne_eqb (get_or gs c 0) g n) ∙ or_none (any_in gs (take i cs) g)))

-- the columns of one row more
pub stamped_row : (gs : List ℕ) (rows : List (List ℕ)) (rs : List ℕ) (i r k : ℕ) (old was now : List ℕ) → i < length rs → r ≡ get_or rs i 0 → length was ≡ length old →
    Stamped (any_row_in gs rows (take i rs)) k old was → Stamped (any_in gs (list_at rows r)) k was now → Stamped (any_row_in gs rows (take (i + 1) rs)) k old now
stamped_row gs rows rs i r k old was now h e same before after g l =
    after g (omega (arith, l, same))
    ∙ ap (λ x. if any_in gs (list_at rows r) g then k else x) (before g l)
    ∙ twice (any_row_in gs rows (take i rs) g) (any_in gs (list_at rows r) g) k (get_or old g 0)
    ∙ ap (λ b. if b then k else get_or old g 0) (sym (ap (λ z. any_row_in gs rows z g) (take_more rs i 0 h ∙ ap (λ x. take i rs ++ x ∷ []) (sym e)) ∙ any_row_more gs rows (take i rs) r g))
