-- The data of `check`, part by part: items, inputs, tangents and adjoints.
use Rattle.std.proofs.Common.{◌≡◌, ℕ, Bool, true, List, [], map, sym, ap, subst, ◌∙◌, Option, None}
use Rattle.std.specs.Prelude.{ℤ}
use Rattle.adj_tree.specs.Code.{Procedure}
use Rattle.def_meaning.specs.Units.{Slot}
use Rattle.adj_data.specs.declared.data_error.DataError.{DataError}
use Rattle.adj_data.specs.Items.{Item}
use Rattle.adj_data.specs.Entries.{Entry, entries_of, with_items}
use Rattle.def_meaning.specs.Apart.{has_name}
use Rattle.adj_data.specs.Faults.{Fault, or_else, data_items, items_fault, entries_fault, dummies_fault}
use Rattle.adj_data.specs.Given.{IsFirstFault, slot_given}
use Rattle.adj_data.specs.Marked.{wanted, titles_of, tangent_mark, adjoint_mark, marks_fault, marked_slots, slots_of, entries_check, check_fault, inputs_given, tangents_given, adjoints_given}
use Rattle.adj_data.proofs.Entering.{entries_made, fault_made, faults_same, fault_first}

module _ (line : ℕ) (bytes : List ℕ) (u : Procedure) (vars outvars : List Bool) (names : List (List ℕ)) (same : (x : List ℕ) → has_name x names ≡ has_name x (titles_of u vars outvars)) where
  abbrev ws : List Item
  ws = data_items true line bytes

  abbrev whole : Option Fault
  whole = check_fault line bytes u vars outvars

  items_same : entries_fault names [] ws ≡ items_fault (titles_of u vars outvars) [] ws
  items_same = faults_same names (titles_of u vars outvars) same [] ws ∙ fault_made (titles_of u vars outvars) ws

  -- a fault of items is the first
  pub at_items : (e : DataError) → IsFirstFault e (entries_fault names [] ws) → IsFirstFault e whole
  at_items e h = fault_first e (items_fault (titles_of u vars outvars) [] ws) (entries_check (entries_of ws) u vars outvars) (subst (IsFirstFault e) items_same h)

  module _ (es : List Entry) (made : es ≡ with_items [] ws) (none : entries_fault names [] ws ≡ None) where
    made_of : es ≡ entries_of ws
    made_of = made ∙ entries_made ws

    abbrev tangents : List (Slot ℤ) → Option Fault
    tangents inputs = marks_fault es tangent_mark (wanted u.dummies vars inputs)

    abbrev adjoints : List (Slot ℤ) → Option Fault
    adjoints inputs = marks_fault es adjoint_mark (wanted u.dummies outvars inputs)

    -- without one the others are left
    left : whole ≡ or_else (dummies_fault es u u.dummies) (or_else (tangents (slots_of es u)) (adjoints (slots_of es u)))
    left = ap (λ o. or_else o (entries_check (entries_of ws) u vars outvars)) (sym items_same ∙ none) ∙ ap (λ z. entries_check z u vars outvars) (sym made_of)

    pub at_dummies : (e : DataError) → IsFirstFault e (dummies_fault es u u.dummies) → IsFirstFault e whole
    at_dummies e h = subst (IsFirstFault e) (sym left) (fault_first e (dummies_fault es u u.dummies) (or_else (tangents (slots_of es u)) (adjoints (slots_of es u))) h)

    module _ (sound : dummies_fault es u u.dummies ≡ None) (inputs : List (Slot ℤ)) (are : inputs ≡ map (slot_given es u) u.dummies) where
      marks_left : whole ≡ or_else (tangents inputs) (adjoints inputs)
      marks_left = left ∙ ap (λ o. or_else o (or_else (tangents (slots_of es u)) (adjoints (slots_of es u)))) sound ∙ ap (λ vs. or_else (tangents vs) (adjoints vs)) (sym are)

      pub inputs_are : inputs ≡ inputs_given line bytes u
      inputs_are = are ∙ ap (λ z. map (slot_given z u) u.dummies) made_of

      pub tangents_are : (ts : List (Slot ℤ)) → ts ≡ marked_slots es tangent_mark (wanted u.dummies vars inputs) → ts ≡ tangents_given line bytes u vars
      tangents_are ts h = h ∙ (λ i. marked_slots (made_of i) tangent_mark (wanted u.dummies vars (inputs_are i)))

      pub adjoints_are : (ts : List (Slot ℤ)) → ts ≡ marked_slots es adjoint_mark (wanted u.dummies outvars inputs) → ts ≡ adjoints_given line bytes u outvars
      adjoints_are ts h = h ∙ (λ i. marked_slots (made_of i) adjoint_mark (wanted u.dummies outvars (inputs_are i)))

      pub at_tangents : (e : DataError) → IsFirstFault e (tangents inputs) → IsFirstFault e whole
      at_tangents e h = subst (IsFirstFault e) (sym marks_left) (fault_first e (tangents inputs) (adjoints inputs) h)

      module _ (untold : tangents inputs ≡ None) where
        adjoints_left : whole ≡ adjoints inputs
        adjoints_left = marks_left ∙ ap (λ o. or_else o (adjoints inputs)) untold

        pub at_adjoints : (e : DataError) → IsFirstFault e (adjoints inputs) → IsFirstFault e whole
        at_adjoints e h = subst (IsFirstFault e) (sym adjoints_left) h

        pub all_given : adjoints inputs ≡ None → whole ≡ None
        all_given h = adjoints_left ∙ h
