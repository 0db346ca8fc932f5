use Rattle.std.proofs.Common.{◌≡◌, true, false, [], refl, ap}
use Rattle.trees.specs.Trees.{Var}
use Rattle.conditions.specs.Formulas.{i1, neg, max, one_name}
use Rattle.conditions.specs.Sides.{SameIn}
use Rattle.conditions.proofs.laws.laws_of_sides.Goals as goal

different : SameIn one_name (max (Var 0) (neg (Var 0))) i1 → ⊥
different same =
    let e = same.agree [] tt [] (λ name. tt) in
    let f : false ≡ true = ap (λ v. v.holds) e in
    cc

pub returns : goal.returns
returns c = record {
  no_middle = different;
  no_ends = λ h. let e : false ≡ true = (h [] tt).1 in cc;
  all_names = λ x. refl;
  faces_hold = λ G x p s h. (h x s).0;
}
