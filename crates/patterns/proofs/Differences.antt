-- The pairs that the test refuses mean different things at the parts beside them.
use Rattle.std.proofs.Common.{◌≡◌, ◌≢◌, ℕ, false, ◌==◌, List, [], ◌∷◌, refl, ap}
use Rattle.std.specs.List.{All}
use Rattle.std.proofs.lemmas.Bool.{eqb-false}
use Rattle.std.proofs.lemmas.List.Elements.{All-cons, All-nil}
use Rattle.trees.specs.Language.{Ty, Sb}
use Rattle.trees.specs.Trees.{Var, Make, More}
use Rattle.trees.specs.Judgements.{Judgement}
use Rattle.patterns.specs.Refusals.{Refusal, Differ, one_index_off}

-- a number in which two judgements of the list differ: an index of the type or of its second kids, or a shift
abbrev number_in : Judgement → ℕ
number_in (Ty G (Var k)) = k
number_in (Ty G (Make op (More t (More (Var k) rest)))) = k
number_in (Ty G (Make op (More t (More (Make p (More u (More (Var k) more))) rest)))) = k
number_in (Sb G d H) = d.shift
number_in _ = 0

apart : (i j : Judgement) → (number_in i == number_in j) ≡ false → i ≢ j
apart i j e h = eqb-false (number_in i) (number_in j) e (ap number_in h)

abbrev Each : List Refusal → Type 0
Each [] = Unit {0}
Each (r ∷ rs) = Differ r × Each rs

all : (rs : List Refusal) → Each rs → All Differ rs
all [] e = All-nil Differ
all (r ∷ rs) e = All-cons Differ r rs e.0 (all rs e.1)

each : Each one_index_off
each = (apart _ _ refl, (apart _ _ refl, (apart _ _ refl, (apart _ _ refl, (apart _ _ refl, (apart _ _ refl, (apart _ _ refl, (apart _ _ refl, (apart _ _ refl, (apart _ _ refl, (apart _ _ refl, (apart _ _ refl, (apart _ _ refl, (apart _ _ refl, tt))))))))))))))

pub one_index_off-differ : All Differ one_index_off
one_index_off-differ = all one_index_off each
