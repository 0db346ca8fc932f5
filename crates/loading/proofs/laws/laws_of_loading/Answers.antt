use Rattle.std.specs.Prelude.{[], ◌∷◌}
use Rattle.loading.proofs.LoadLaws.{loads_one, refuses_one, not_both}
use Rattle.loading.proofs.laws.laws_of_loading.Goals as goal

pub returns-clause-texts : goal.returns-clause-texts
returns-clause-texts c = λ held name xs ys a b. loads_one held [] [] (name ∷ []) xs ys a b

pub returns-clause-fault : goal.returns-clause-fault
returns-clause-fault c = λ held name f g a b k l. refuses_one held [] [] (name ∷ []) f g a b k l

pub returns-clause-either : goal.returns-clause-either
returns-clause-either c = λ held name xs f a b k. not_both held [] [] (name ∷ []) xs f a b k
