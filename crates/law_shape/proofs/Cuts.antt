-- The ways to cut a list in two, looked through one by one.
use Rattle.std.proofs.Common.{◌≡◌, Bool, true, false, refl, sym, ap, ◌∙◌}
use Rattle.std.specs.Prelude.{◌&&◌, not}
use Rattle.adj_tree.specs.Code.{Code, stop, step}
use Rattle.def_meaning.specs.Append.{◌+++◌, one}
use Rattle.def_meaning.proofs.Appends.{append_assoc, append-stop}
use Rattle.def_names.proofs.Variables.{and_true}

-- none of them has a property, where the first part begins with a front
abbrev pub none_cut : (Code → Code → Bool) → Code → Code → Bool
none_cut p front stop = not (p front stop)
none_cut p front (step line a rest) = not (p front (step line a rest)) && none_cut p (front +++ one line a) rest

pub cut_not : (p : Code → Code → Bool) (front c d : Code) → none_cut p front (c +++ d) ≡ true → p (front +++ c) d ≡ false
cut_not p front stop d h = ap (λ z. p z d) (append-stop front) ∙ at d h
  where
    not_so : (b : Bool) → not b ≡ true → b ≡ false
    not_so true h = absurd cc
    not_so false h = refl

    at : (d : Code) → none_cut p front d ≡ true → p front d ≡ false
    at stop h = not_so (p front stop) h
    at (step line a rest) h = not_so (p front (step line a rest)) (and_true (not (p front (step line a rest))) (none_cut p (front +++ one line a) rest) h).0
cut_not p front (step line a c) d h =
    ap (λ z. p z d) (sym (append_assoc front (one line a) c)) ∙ cut_not p (front +++ one line a) c d (and_true (not (p front (step line a (c +++ d)))) (none_cut p (front +++ one line a) (c +++ d)) h).1
